-- Each turn keeps all that holds within a pair.
use Rattle.std.proofs.Common.{Bool}
use Rattle.pair_machine.specs.Flow.{Flow}
use Rattle.pair_machine.specs.Numbers.{Partition}
use Rattle.pair_machine.specs.Pairs.{IsPairSound, Side}
use Rattle.pair_machine.proofs.Turns.{Turn}
use Rattle.pair_machine.proofs.IncarnationsKept.{keep_incarnations, keep_incarnations_there}
use Rattle.pair_machine.proofs.ReportsKept.{keep_reports, keep_reports_there}
use Rattle.pair_machine.proofs.CountedKept.{keep_counted, keep_counted_there}
use Rattle.pair_machine.proofs.MovesKept.{keep_received, keep_mover}
use Rattle.pair_machine.proofs.CatchingKept.{keep_catching, keep_catching_there}

pub keep_pair : {f : Flow} {p : Partition} {kill stop : Bool} {a b a_after b_after : Side} → Turn f p kill stop a b a_after b_after → IsPairSound f p a b → IsPairSound f p a_after b_after
keep_pair t s = record {
  first = record {
    incarnations = keep_incarnations t s.first.incarnations s.second.incarnations;
    reports = keep_reports t s.first.incarnations s.first.reports;
    counted = keep_counted t s.first.incarnations s.first.reports s.second.catching s.first.counted;
    moves = keep_mover t s.first.moves;
    catching = keep_catching_there t s.first.incarnations s.first.catching;
  };
  second = record {
    incarnations = keep_incarnations_there t s.first.incarnations s.second.incarnations;
    reports = keep_reports_there t s.second.reports;
    counted = keep_counted_there t s.second.counted;
    moves = keep_received t s.second.incarnations s.second.moves;
    catching = keep_catching t s.first.incarnations s.second.incarnations s.second.moves s.second.counted s.second.catching;
  };
}

pub turned_round : {f : Flow} {p : Partition} {a b : Side} → IsPairSound f p a b → IsPairSound f p b a
turned_round s = record { first = s.second; second = s.first }

-- some turns of either side
pub data Turns (f : Flow) (p : Partition) (ka sa kb sb : Bool) : Side → Side → Side → Side → Type 0 where
  none : (a b : Side) → Turns f p ka sa kb sb a b a b
  then_first : (a b c d x y : Side) → Turns f p ka sa kb sb a b c d → Turn f p ka sa c d x y → Turns f p ka sa kb sb a b x y
  then_second : (a b c d x y : Side) → Turns f p ka sa kb sb a b c d → Turn f p kb sb d c y x → Turns f p ka sa kb sb a b x y

pub keep_turns : {f : Flow} {p : Partition} {ka sa kb sb : Bool} {a b a_after b_after : Side} → Turns f p ka sa kb sb a b a_after b_after → IsPairSound f p a b → IsPairSound f p a_after b_after
keep_turns (none a b) s = s
keep_turns (then_first a b c d x y ts t) s = keep_pair t (keep_turns ts s)
keep_turns (then_second a b c d x y ts t) s = turned_round (keep_pair t (turned_round (keep_turns ts s)))

pub joined : {f : Flow} {p : Partition} {ka sa kb sb : Bool} {a b x y u v : Side} → Turns f p ka sa kb sb a b x y → Turns f p ka sa kb sb x y u v → Turns f p ka sa kb sb a b u v
joined s (none a b) = s
joined s (then_first a b c d x y ts t) = then_first _ _ c d x y (joined s ts) t
joined s (then_second a b c d x y ts t) = then_second _ _ c d x y (joined s ts) t

pub swapped : {f : Flow} {p : Partition} {ka sa kb sb : Bool} {a b x y : Side} → Turns f p ka sa kb sb a b x y → Turns f p kb sb ka sa b a y x
swapped (none a b) = none b a
swapped (then_first a b c d x y ts t) = then_second _ _ d c y x (swapped ts) t
swapped (then_second a b c d x y ts t) = then_first _ _ d c y x (swapped ts) t
