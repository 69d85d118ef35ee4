-- Every step keeps Sound, the opening has it, and it gives what takeover owes.
use Rattle.std.proofs.Common.{◌≡◌, ◌≤◌, ℕ, true, false, List, [], ◌∷◌, Result, Ok, Err, ◌+◌, ◌-◌, refl, subst, arith}
use Rattle.std.specs.Prelude.{◌==◌}
use Rattle.tuple_edge.specs.declared.node.NodeId.TheVariants as node
use Rattle.pair_machine.specs.Acknowledged.{IsAckedAtMostReported, NodeLows, ReplicaLows, acked_of}
use Rattle.pair_machine.specs.Controllers.{is_down}
use Rattle.pair_machine.specs.Flow.{Flow, IsFlow}
use Rattle.pair_machine.specs.Lengths.{ConsumerBound, IsWithinLengths, NodeBound}
use Rattle.pair_machine.specs.Links.{AreBetweenNodes, AreOnTheirLinks, IsThere}
use Rattle.pair_machine.specs.Lists.{Each}
use Rattle.pair_machine.specs.Machine.{Leads, State, controller_in, follow, new_consumer, opening, replica_in, step}
use Rattle.pair_machine.specs.Messages.{Refusal}
use Rattle.pair_machine.specs.Numbers.{Gathering, Gone, MoveNumbers, Partition, Replica, Running, Watched, control_at, in_edge, out_edge, replica_at}
use Rattle.pair_machine.specs.Pairs.{AreCatchingCovered, AreCountedCovered, AreIncarnationsInOrder, CountedReach, IsOneMove, IsPairSound, IsSideSound, Stands, in_chunk, in_end, in_gatherer, in_mover, side_of}
use Rattle.pair_machine.specs.Sound.{IsOwed, IsSound, LowAtMost, MarkAtLeast}
use Rattle.tuple_edge.specs.declared.event.Event.{Event}
use Rattle.tuple_edge.specs.declared.node.NodeId.{NodeId}
use Rattle.tuple_edge.specs.declared.node.Which.{Which}
use Rattle.tuple_edge.specs.declared.node.Which.TheVariants.{A, B}
use Rattle.pair_machine.proofs.StepTurns.{HoldsOnOk}
use Rattle.pair_machine.proofs.StepKept.{pairs_kept}
use Rattle.pair_machine.proofs.AcknowledgedKept.{acked_kept}
use Rattle.pair_machine.proofs.LinksKept.{carried_kept}
use Rattle.pair_machine.proofs.NodesKept.{between_nodes_kept}
use Rattle.pair_machine.proofs.LengthsKept.{bound_kept}
use Rattle.pair_machine.proofs.ControllerTurns.{counts_both}
use Rattle.pair_machine.proofs.Tests.{nat_not, nat_self}

pub sound_kept : (f : Flow) → IsFlow f → (s : State) (e : Event) → IsThere f e → IsSound f s → HoldsOnOk (IsSound f) (step f s e)
sound_kept f ok s e there old =
    go (step f s e) (between_nodes_kept f ok s e there old.ends) (carried_kept f ok s e there old.carried) (bound_kept f ok s e there old.carried old.bound) (acked_kept f s e there old.carried old.acked)
    (λ p l. pairs_kept f s e there old.carried old.pairs p l)
  where
    go : (r : Result State Refusal) → HoldsOnOk (AreBetweenNodes f) r → HoldsOnOk (AreOnTheirLinks f) r → HoldsOnOk (IsWithinLengths f) r → HoldsOnOk (IsAckedAtMostReported f) r →
        ((p : Partition) → 1 ≤ p.stage → HoldsOnOk (λ t. IsPairSound f p (side_of t p A) (side_of t p B)) r) → HoldsOnOk (IsSound f) r
    go (Ok t) n a b c d = record { ends = n; carried = a; bound = b; acked = c; pairs = d }
    go (Err x) n a b c d = tt

-- the opening
opening_acked : (f : Flow) → IsAckedAtMostReported f opening
opening_acked f = record { nodes = nodes; sent = λ l. tt }
  where
    nodes : (n : NodeId) → NodeLows (acked_of f opening) n (opening.nodes n)
    nodes node.Ingress = λ q t. omega arith
    nodes (node.Replica s p w) = ((λ t. omega arith), tt)
    nodes (node.Control s p) = λ q w e. omega arith
    nodes node.Egress = tt

opening_bound : (f : Flow) → IsFlow f → IsWithinLengths f opening
opening_bound f ok = record { nodes = nodes; sent = λ l. tt }
  where
    consumer : (p : Partition) → ConsumerBound f p new_consumer
    consumer p = record { used = λ q l. let z = ok.used_none p q in omega arith; most = λ q. omega arith; told = λ q. omega arith; count = omega arith }

    nodes : (n : NodeId) → NodeBound f n (opening.nodes n)
    nodes node.Ingress = (omega arith, λ q. record { above = λ t c. omega arith })
    nodes (node.Replica s p w) = (consumer (record { stage = s; part = p }), record { above = λ t c. omega arith }, tt)
    nodes (node.Control s p) = tt
    nodes node.Egress = consumer (record { stage = f.stages + 1; part = 0 })

nothing_stands : (p : Partition) (w v : Which) (i : ℕ) (m : MoveNumbers) → Stands (side_of opening p w) (side_of opening p v) i m → ⊥
nothing_stands p w v i m (in_mover g) = g
nothing_stands p w v i m (in_chunk n g) = g
nothing_stands p w v i m (in_end n g) = g
nothing_stands p w v i m (in_gatherer g) = g

opening_incarnations : (p : Partition) (w v : Which) → AreIncarnationsInOrder (side_of opening p w) (side_of opening p v)
opening_incarnations p w v = record {
  below = omega arith;
  to_replica = tt;
  to_partner = tt;
  targets = tt;
  served = (omega arith, tt);
  to_control = tt;
  serves = tt;
  free_up = tt;
  free_down = tt;
  agrees = λ e. (refl, tt);
}

opening_counted : (p : Partition) (w v : Which) → AreCountedCovered (side_of opening p w) (side_of opening p v)
opening_counted p w v = record { reach = λ e q. omega arith }

opening_moves : (f : Flow) (p : Partition) (w v : Which) → IsOneMove f p (side_of opening p w) (side_of opening p v)
opening_moves f p w v = record { one_serve = λ i j k g h. absurd g; served = λ i m g. absurd (nothing_stands p w v i m g); same = λ i m n g h. absurd (nothing_stands p w v i m g); whole = λ i k m g. absurd g }

opening_catching : (p : Partition) (w v : Which) → AreCatchingCovered (side_of opening p w) (side_of opening p v)
opening_catching p w v = record { moves = λ e g m h. absurd (nothing_stands p w v _ m h); partner = λ e g j h. absurd h }

opening_side : (f : Flow) (p : Partition) (w v : Which) → IsSideSound f p (side_of opening p w) (side_of opening p v)
opening_side f p w v = record {
  incarnations = opening_incarnations p w v;
  reports = record { fits = tt };
  counted = opening_counted p w v;
  moves = opening_moves f p w v;
  catching = opening_catching p w v;
}

pub opening_sound : (f : Flow) → IsFlow f → IsSound f opening
opening_sound f ok = record {
  ends = λ l. tt;
  carried = λ l. tt;
  bound = opening_bound f ok;
  acked = opening_acked f;
  pairs = λ p l. record { first = opening_side f p A B; second = opening_side f p B A };
}

-- runs
pub sound_run : (f : Flow) → IsFlow f → (es : List Event) (r : Result State Refusal) → Each (IsThere f) es → HoldsOnOk (IsSound f) r → HoldsOnOk (IsSound f) (follow f es r)
sound_run f ok [] r h old = old
sound_run f ok (e ∷ es) (Ok s) h old = sound_run f ok es (step f s e) h.1 (sound_kept f ok s e h.0 old)
sound_run f ok (e ∷ es) (Err x) h old = tt

-- what takeover owes
replica_low : (t : ℕ) (k : ℕ → ℕ) (r : Replica) → ReplicaLows k r → LowAtMost t (k t) r
replica_low t k (Gone i) c = tt
replica_low t k (Running x) c = c.0 t
replica_low t k (Gathering g) c = tt

replica_mark : (q k : ℕ) (h : Watched) (r : Replica) → (is_down h.status ≡ false → k ≤ h.reports q) → CountedReach h r → MarkAtLeast q k h r
replica_mark q k h (Gone i) a c = tt
replica_mark q k h (Gathering g) a c = tt
replica_mark q k h (Running x) a c = λ e. let l = a (counts_both h x.inc e).0 in let m = c e q in omega arith

reached : (f : Flow) (s : State) (p : Partition) → 1 ≤ p.stage → IsSound f s → (w : Which) → CountedReach ((controller_in (s.nodes (control_at p))).watched w) (replica_in (s.nodes (replica_at p w)))
reached f s p l sound A = (sound.pairs p l).first.counted.reach
reached f s p l sound B = (sound.pairs p l).second.counted.reach

in_edge_acked : (f : Flow) (s : State) (p : Partition) (q : ℕ) → 1 ≤ p.stage → p.stage ≤ f.stages → acked_of f s (in_edge p q) ≡ (controller_in (s.nodes (control_at p))).acked q
in_edge_acked f s p q l l_high =
    let z : ((p.stage - 1) == f.stages) ≡ false = nat_not (p.stage - 1) f.stages (omega arith) in
    let y : p.stage - 1 + 1 ≡ p.stage = omega arith in
    simp (z, y)

pub sound_owed : (f : Flow) (s : State) → IsSound f s → IsOwed f s
sound_owed f s sound = record {
  ingress = sound.acked.nodes node.Ingress;
  producers = λ p w t l l_high. replica_low t (λ t. acked_of f s (out_edge p t)) (replica_in (s.nodes (replica_at p w))) (sound.acked.nodes (replica_at p w));
  consumers = λ p w q l l_high. rw (in_edge_acked f s p q l l_high) (replica_mark q ((controller_in (s.nodes (control_at p))).acked q) ((controller_in (s.nodes (control_at p))).watched w) (replica_in (s.nodes (replica_at p w)))
      (sound.acked.nodes (control_at p) q w) (reached f s p l sound w));
  egress = λ q. let z : (f.stages == f.stages) ≡ true = nat_self f.stages in let t = (sound.bound.nodes node.Egress).told q in simp z t;
}

-- in every state that a list of events reaches, the buffers hold what takeover owes
pub owed_always : (f : Flow) → IsFlow f → (es : List Event) (t : State) → Each (IsThere f) es → Leads f opening es t → IsOwed f t
owed_always f ok es t there e = sound_owed f t (subst (HoldsOnOk (IsSound f)) e (sound_run f ok es (Ok opening) there (opening_sound f ok)))
