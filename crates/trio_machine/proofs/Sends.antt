-- What a producer sends and what is told to producers is sound.
use Rattle.std.proofs.Common.{◌≡◌, ◌≢◌, ◌<◌, ◌≤◌, ℕ, false, [], ◌∷◌, Some, ◌+◌, ◌-◌, refl, ap, subst, arith}
use Rattle.std.specs.Prelude.{◌==◌}
use Rattle.std.proofs.lemmas.Bool.{eqb-true, eq-eqb}
use Rattle.tuple_edge.specs.declared.node.EdgeId.{EdgeId}
use Rattle.pair_machine.specs.CountLaws.{IsOfStage}
use Rattle.pair_machine.specs.Drain.{partition}
use Rattle.pair_machine.specs.Flow.{Flow}
use Rattle.pair_machine.specs.Numbers.{Partition, Producer, in_edge, out_edge}
use Rattle.pair_machine.specs.Producers.{Due, due}
use Rattle.pair_machine.proofs.Found.{IsDue, due_there, is_due}
use Rattle.pair_machine.proofs.Tests.{if_elim}
use Rattle.trio_machine.specs.Flow.{IsTrioFlow}
use Rattle.trio_machine.specs.Links.{Acknowledges, HasNode, IsProducer}
use Rattle.trio_machine.specs.Messages.{Ack, Tuple, envelope}
use Rattle.trio_machine.specs.Numbers.{Replica, group_size}
use Rattle.trio_machine.specs.Replicas.{sends_due, to_group, to_producers}
use Rattle.trio_machine.specs.Sound.{IsSoundMessage}
use Rattle.trio_machine.specs.declared.node.TrioNode.{TrioNode}
use Rattle.trio_machine.specs.declared.node.TrioNode.TheVariants as node
use Rattle.trio_machine.proofs.Frame.{AreSound}

pub due_is : (f : Flow) (p : Partition) (made : ℕ → ℕ) (x : Producer) (d : Due) → due f p made x ≡ Some d → IsDue made x (f.targets p.stage) (Some d)
due_is f p made x d e = subst (IsDue made x (f.targets p.stage)) e (is_due f p made x)

module _ (f : Flow) (ok : IsTrioFlow f) (k : EdgeId → ℕ) (r : Partition → ℕ → Replica) where
  -- a tuple that is due goes to a node of the plan
  pub due_sound : (p : Partition) (from : TrioNode) (made : ℕ → ℕ) (x : Producer) (d : Due) → p.stage ≤ f.stages → HasNode f from → IsProducer f (out_edge p d.to) from → due f p made x ≡ Some d
      → (1 ≤ d.number) × (d.number ≤ f.length (out_edge p d.to)) → AreSound f k r from (sends_due f p d)
  due_sound p from made x d within at producer e bound = if_elim (λ n. AreSound f k r from (envelope n (Tuple (out_edge p d.to) d.number) ∷ [])) (p.stage == f.stages) _ _
      (λ z. let last = eqb-true p.stage f.stages z in let few = ap f.targets last in let only = ok.flow.last_targets in let l = (due_is f p made x d e).0 in
      (record { carried = record { sender = at; receiver = tt; carries = (producer, (last, omega arith)) }; bound = bound; lows = tt; reports = tt }, tt))
      (λ z. (record { carried = record { sender = at; receiver = next z; carries = (producer, (refl, refl)) }; bound = bound; lows = tt; reports = tt }, tt))
    where
      next : (p.stage == f.stages) ≡ false → IsOfStage f (partition (p.stage + 1) d.to) × (d.copy < group_size)
      next z =
          let far : p.stage ≢ f.stages = λ y. (let w = eq-eqb p.stage f.stages y in cc) in
          let next_stage : p.stage + 2 ≡ p.stage + 1 + 1 = omega arith in
          let copy : d.copy < f.replicas = simp z at (due_there f p made x d e) in
          let three = ok.three in (
            record { first = omega arith; last = omega arith; part = subst (λ s. d.to < f.sources s) next_stage (subst (λ n. d.to < n) (ok.flow.next_parts p.stage (omega arith)) (due_is f p made x d e).0) },
            omega arith,
          )

  -- an acknowledgement of an in-edge goes to its producers
  pub ack_sound : (p : Partition) (from : TrioNode) (q upto : ℕ) → 1 ≤ p.stage → p.stage ≤ f.stages + 1 → q < f.sources p.stage → HasNode f from → Acknowledges f (in_edge p q) from
      → upto ≤ k (in_edge p q) → AreSound f k r from (to_producers p q (Ack (in_edge p q) upto))
  ack_sound p from q upto some within few at acks top = if_elim (AreSound f k r from) (p.stage == 1) (envelope node.Ingress (Ack (in_edge p q) upto) ∷ []) (to_group (p.stage - 1) q (Ack (in_edge p q) upto))
      (λ z. let one = eqb-true p.stage 1 z in let sources = ap f.sources one in let only = ok.one_source in
      (record { carried = record { sender = at; receiver = tt; carries = (acks, (omega arith, omega arith)) }; bound = tt; lows = top; reports = tt }, tt))
      (λ z. (to_copy z 0 (omega arith), (to_copy z 1 (omega arith), (to_copy z 2 (omega arith), tt))))
    where
      before : (p.stage == 1) ≡ false → IsOfStage f (partition (p.stage - 1) q)
      before z =
          let far : p.stage ≢ 1 = λ y. (let w = eq-eqb p.stage 1 y in cc) in
          let back : p.stage ≡ p.stage - 1 + 1 = omega arith in
          record { first = omega arith; last = omega arith; part = subst (λ s. q < f.sources s) back few }

      to_copy : (p.stage == 1) ≡ false → (c : ℕ) → c < group_size → IsSoundMessage f k r from (node.Replica (p.stage - 1) q c) (Ack (in_edge p q) upto)
      to_copy z c l = record { carried = record { sender = at; receiver = (before z, l); carries = (acks, ((before z).first, refl, refl)) }; bound = tt; lows = top; reports = tt }
