-- Each part of soundness is kept where those that it uses hold.
use Rattle.std.proofs.Common.{Bool, subst}
use Rattle.pair_machine.specs.Acknowledged.{IsAckedAtMostReported}
use Rattle.pair_machine.specs.Counts.{flow_of}
use Rattle.pair_machine.specs.Flow.{Flow}
use Rattle.pair_machine.specs.Lengths.{IsWithinLengths}
use Rattle.pair_machine.specs.Links.{AreBetweenNodes, AreOnTheirLinks}
use Rattle.pair_machine.specs.Machine.{State}
use Rattle.pair_machine.specs.Numbers.{Partition}
use Rattle.pair_machine.specs.Pairs.{AreCatchingCovered, AreCountedCovered, AreIncarnationsInOrder, AreReportsTrue, IsOneMove, Side}
use Rattle.pair_machine.specs.Sound.{IsSound}
use Rattle.pair_machine.proofs.AcknowledgedKept.{acked_kept}
use Rattle.pair_machine.proofs.CatchingKept.{keep_catching_there}
use Rattle.pair_machine.proofs.CountedKept.{keep_counted, keep_counted_there}
use Rattle.pair_machine.proofs.LengthsKept.{bound_kept}
use Rattle.pair_machine.proofs.LinksKept.{carried_kept}
use Rattle.pair_machine.proofs.MovesKept.{keep_mover, keep_received}
use Rattle.pair_machine.proofs.NodesKept.{between_nodes_kept}
use Rattle.pair_machine.proofs.PlanFlow.{plan_is_flow}
use Rattle.pair_machine.proofs.ReportsKept.{keep_reports, keep_reports_there}
use Rattle.pair_machine.proofs.StepTurns.{HoldsOnOk}
use Rattle.pair_machine.proofs.Turns.{Turn}
use Rattle.machine_parts.specs.Parts.{AcknowledgingIsKept, BothWays, CatchingIsKept, CountingIsKept, HasAllParts, IncarnationsAreKept, LengthsAreKept, LinksAreKept, MovesAreKept, NodesAreKept, ReportsAreKept, SoundIsItsParts}
use Rattle.machine_parts.proofs.CatchingTurns.{catching_turn}
use Rattle.machine_parts.proofs.Turned.{gone_anyhow, incarnations_turn, turned, turns_keep}

-- ---- the parts that speak of one node or message at a time

pub nodes_kept : NodesAreKept
nodes_kept plan inputs h s t e there uses part done =
    let f = flow_of plan inputs in subst (HoldsOnOk (AreBetweenNodes f)) done (between_nodes_kept f (plan_is_flow plan inputs h) s e there part)

pub links_kept : LinksAreKept
links_kept plan inputs h s t e there uses part done =
    let f = flow_of plan inputs in subst (HoldsOnOk (AreOnTheirLinks f)) done (carried_kept f (plan_is_flow plan inputs h) s e there part)

pub lengths_kept : LengthsAreKept
lengths_kept plan inputs h s t e there uses part done =
    let f = flow_of plan inputs in subst (HoldsOnOk (IsWithinLengths f)) done (bound_kept f (plan_is_flow plan inputs h) s e there uses part)

pub acknowledging_kept : AcknowledgingIsKept
acknowledging_kept plan inputs h s t e there uses part done =
    let f = flow_of plan inputs in subst (HoldsOnOk (IsAckedAtMostReported f)) done (acked_kept f s e there uses part)

-- ---- the parts that speak of pairs

pub incarnations_kept : IncarnationsAreKept
incarnations_kept plan inputs h s t e there uses part done = λ p l.
    turns_keep (BothWays AreIncarnationsInOrder) (λ kill stop a b x y turn k. incarnations_turn turn k) (turned AreIncarnationsInOrder) (gone_anyhow (flow_of plan inputs) s t e there uses done p) (part p l)

-- with the incarnations
abbrev WithReports : Side → Side → Type 0
WithReports a b = BothWays AreIncarnationsInOrder a b × BothWays AreReportsTrue a b

reports_turn : {f : Flow} {p : Partition} {kill stop : Bool} {a b x y : Side} → Turn f p kill stop a b x y → WithReports a b → WithReports x y
reports_turn t h = (incarnations_turn t h.0, (keep_reports t h.0.0 h.1.0, keep_reports_there t h.1.1))

pub reports_kept : ReportsAreKept
reports_kept plan inputs h s t e there uses part done = λ p l.
    (turns_keep WithReports (λ kill stop a b x y turn k. reports_turn turn k) (λ a b k. (turned AreIncarnationsInOrder a b k.0, turned AreReportsTrue a b k.1)) (gone_anyhow (flow_of plan inputs) s t e there uses.0 done p) (uses.1 p l, part p l)).1

abbrev WithMoves : Flow → Partition → Side → Side → Type 0
WithMoves f p a b = BothWays AreIncarnationsInOrder a b × BothWays (IsOneMove f p) a b

moves_turn : {f : Flow} {p : Partition} {kill stop : Bool} {a b x y : Side} → Turn f p kill stop a b x y → WithMoves f p a b → WithMoves f p x y
moves_turn t h = (incarnations_turn t h.0, (keep_mover t h.1.0, keep_received t h.0.1 h.1.1))

pub moves_kept : MovesAreKept
moves_kept plan inputs h s t e there uses part done = λ p l.
    (turns_keep (WithMoves (flow_of plan inputs) p) (λ kill stop a b x y turn k. moves_turn turn k) (λ a b k. (turned AreIncarnationsInOrder a b k.0, turned (IsOneMove (flow_of plan inputs) p) a b k.1)) (gone_anyhow (flow_of plan inputs) s t e there uses.0 done p) (uses.1 p l, part p l)).1

-- with the incarnations and the reports
abbrev WithCovered : Side → Side → Type 0
WithCovered a b = WithReports a b × BothWays AreCountedCovered a b × BothWays AreCatchingCovered a b

covered_turn : {f : Flow} {p : Partition} {kill stop : Bool} {a b x y : Side} → Turn f p kill stop a b x y → WithCovered a b → WithCovered x y
covered_turn t h =
    let n = h.0.0 in
    (reports_turn t h.0, (keep_counted t n.0 h.0.1.0 h.2.1 h.1.0, keep_counted_there t h.1.1), (keep_catching_there t n.0 h.2.0, catching_turn t n.0 n.1 h.1.1 h.2.1))

covered_round : (a b : Side) → WithCovered a b → WithCovered b a
covered_round a b k = ((turned AreIncarnationsInOrder a b k.0.0, turned AreReportsTrue a b k.0.1), turned AreCountedCovered a b k.1, turned AreCatchingCovered a b k.2)

pub counting_kept : CountingIsKept
counting_kept plan inputs h s t e there uses part done = λ p l.
    (turns_keep WithCovered (λ kill stop a b x y turn k. covered_turn turn k) covered_round (gone_anyhow (flow_of plan inputs) s t e there uses.0 done p) ((uses.1 p l, uses.2 p l), part p l, uses.3 p l)).1

pub catching_kept : CatchingIsKept
catching_kept plan inputs h s t e there uses part done = λ p l.
    (turns_keep WithCovered (λ kill stop a b x y turn k. covered_turn turn k) covered_round (gone_anyhow (flow_of plan inputs) s t e there uses.0 done p) ((uses.1 p l, uses.2 p l), uses.3 p l, part p l)).2

-- ---- all parts

pub parts_of : (f : Flow) (s : State) → IsSound f s → HasAllParts f s
parts_of f s h = record {
  nodes = h.ends;
  links = h.carried;
  lengths = h.bound;
  incarnations = λ p l. ((h.pairs p l).first.incarnations, (h.pairs p l).second.incarnations);
  reports = λ p l. ((h.pairs p l).first.reports, (h.pairs p l).second.reports);
  acknowledged = h.acked;
  counted = λ p l. ((h.pairs p l).first.counted, (h.pairs p l).second.counted);
  catching = λ p l. ((h.pairs p l).first.catching, (h.pairs p l).second.catching);
  moves = λ p l. ((h.pairs p l).first.moves, (h.pairs p l).second.moves);
}

sound_of : (f : Flow) (s : State) → HasAllParts f s → IsSound f s
sound_of f s h = record {
  ends = h.nodes;
  carried = h.links;
  bound = h.lengths;
  acked = h.acknowledged;
  pairs = λ p l. record {
    first = record { incarnations = (h.incarnations p l).0; reports = (h.reports p l).0; counted = (h.counted p l).0; moves = (h.moves p l).0; catching = (h.catching p l).0 };
    second = record { incarnations = (h.incarnations p l).1; reports = (h.reports p l).1; counted = (h.counted p l).1; moves = (h.moves p l).1; catching = (h.catching p l).1 };
  };
}

pub sound_is_parts : SoundIsItsParts
sound_is_parts f s = (parts_of f s, sound_of f s)
