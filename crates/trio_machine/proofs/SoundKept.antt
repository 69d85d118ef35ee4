-- Every step keeps Sound, the opening has it, and it gives what takeover owes.
use Rattle.std.proofs.Common.{◌≡◌, ◌≤◌, ◌<◌, ℕ, true, false, List, [], ◌∷◌, Result, Ok, Err, ◌+◌, ◌-◌, ap, subst, arith, refl, sym}
use Rattle.std.specs.Prelude.{◌==◌, if◌then◌else◌}
use Rattle.std.proofs.lemmas.Bool.{eq-eqb}
use Rattle.tuple_edge.specs.declared.node.EdgeId.{EdgeId}
use Rattle.pair_machine.specs.Boundary.{egress_partition}
use Rattle.pair_machine.specs.CountLaws.{IsOfStage}
use Rattle.pair_machine.specs.Drain.{partition}
use Rattle.pair_machine.specs.Flow.{Flow}
use Rattle.pair_machine.specs.Lengths.{ConsumerBound}
use Rattle.pair_machine.specs.Lists.{Each}
use Rattle.pair_machine.specs.Machine.{new_consumer}
use Rattle.pair_machine.specs.Numbers.{Consumer, Partition, in_edge, out_edge}
use Rattle.pair_machine.proofs.Lists.{each_at}
use Rattle.pair_machine.proofs.Tests.{nat_not, nat_self}
use Rattle.trio_machine.specs.Acknowledged.{ReplicaLows, acked_of}
use Rattle.trio_machine.specs.Reports.{IsRunning, MarkAtLeast, replicas_of}
use Rattle.trio_machine.specs.Asked.{ActAsks, Asks}
use Rattle.trio_machine.specs.Boundary.{egress_does, ingress_does}
use Rattle.trio_machine.specs.Controllers.{controller_takes}
use Rattle.trio_machine.specs.Flow.{IsTrioFlow}
use Rattle.trio_machine.specs.Links.{HasNode, IsThere}
use Rattle.trio_machine.specs.Machine.{Leads, State, after, as_egress, as_ingress, as_replica, at_node, controller_does, controller_in, does, egress_in, follow, ingress_in, opening, put, replica_in, step}
use Rattle.trio_machine.specs.Messages.{Act, Envelope, Pulls, Refusal, Takes}
use Rattle.trio_machine.specs.Numbers.{Controller, ControllerNode, EgressNode, Gone, Ingress, IngressNode, Node, Replica, ReplicaNode, Running, control_at, copy_of, group_size, replica_at}
use Rattle.trio_machine.specs.Replicas.{replica_does}
use Rattle.trio_machine.specs.Sound.{IsLost, IsOwed, IsSound, IsSoundMessage, IsSoundNode, LowAtMost}
use Rattle.trio_machine.specs.declared.event.TrioEvent.{TrioEvent}
use Rattle.trio_machine.specs.declared.node.TrioNode.{TrioNode}
use Rattle.trio_machine.specs.declared.node.TrioNode.TheVariants as node
use Rattle.trio_machine.proofs.BoundaryKept.{EgressOk, IngressOk, TakesSound, ToldRises, egress_rises, egress_sound, ingress_sound}
use Rattle.trio_machine.proofs.ControllerKept.{controller_sound}
use Rattle.trio_machine.proofs.Frame.{Ahead, ahead, message_wider, node_wider, put_sound}
use Rattle.trio_machine.proofs.Names.{node_self}
use Rattle.trio_machine.proofs.Pulled.{egress_pulled, replica_pulled}
use Rattle.trio_machine.proofs.ReplicaKept.{PullFits, ReplicaOk, RisesOk, replica_rises, replica_sound}
use Rattle.trio_machine.proofs.Steps.{HoldsOnOk, IsPulled, WasSent, step_by}

pub put_there : (n : TrioNode) (s : State) (x : Node) (out : List Envelope) → (put n s x out).nodes n ≡ x
put_there n s x out = ap (λ b. if b then x else s.nodes n) (node_self n)

module _ (f : Flow) (ok : IsTrioFlow f) (s : State) (old : IsSound f s) where
  abbrev Wider : (EdgeId → ℕ) → (Partition → ℕ → Replica) → Type 0
  Wider k r = Ahead (acked_of f s) k (replicas_of s) r

  taken : (n : TrioNode) (a : Act) → WasSent f s n a → (k : EdgeId → ℕ) (r : Partition → ℕ → Replica) → Wider k r → TakesSound f k r n a
  taken n (Takes from m) c k r up = message_wider f (acked_of f s) k (replicas_of s) r up from n m (each_at (IsSoundMessage f (acked_of f s) (replicas_of s) from n) m (s.sent from n) c (old.sent from n))
  taken n a c k r up = tt

  at_node_wider : (n : TrioNode) (k : EdgeId → ℕ) (r : Partition → ℕ → Replica) → Wider k r → IsSoundNode f k r n (s.nodes n)
  at_node_wider n k r up = node_wider f (acked_of f s) k (replicas_of s) r up n (s.nodes n) (old.nodes n)

  -- ---- ingress

  ingress_kept : (a : Act) → WasSent f s node.Ingress a → HoldsOnOk (IsSound f) (after node.Ingress s (as_ingress (ingress_does f a (ingress_in (s.nodes node.Ingress)))))
  ingress_kept a c = go (ingress_does f a x) (λ k r up. ingress_sound f ok k r a x (taken node.Ingress a c k r up) (let h = at_node_wider node.Ingress k r up in record { bound = h.bound; lows = h.lows; reports = h.reports }))
    where
      x : Ingress
      x = ingress_in (s.nodes node.Ingress)

      go : (d : Result (Ingress × List Envelope) Refusal) → ((k : EdgeId → ℕ) (r : Partition → ℕ → Replica) → Wider k r → IngressOk f ok k r d) → HoldsOnOk (IsSound f) (after node.Ingress s (as_ingress d))
      go (Err e) g = tt
      go (Ok d) g =
          let t = put node.Ingress s (IngressNode d.0) d.1 in
          let up = ahead f s node.Ingress (IngressNode d.0) d.1 tt in
          let z = g (acked_of f t) (replicas_of t) up in
          put_sound f s node.Ingress (IngressNode d.0) d.1 up old z.0 z.1

  -- ---- replicas

  replica_pulls : (t q c : ℕ) (at : IsOfStage f (partition t q)) (there : c < group_size) (k : EdgeId → ℕ) (r : Partition → ℕ → Replica) (a : Act) → WasSent f s (node.Replica t q c) a
      → PullFits f ok k r t q c at there a (replica_in (s.nodes (node.Replica t q c)))
  replica_pulls t q c at there k r (Pulls j) g = replica_pulled f ok s t q c j (replica_in (s.nodes (node.Replica t q c))) g g.marks
  replica_pulls t q c at there k r a g = tt

  replica_kept : (t q c : ℕ) (a : Act) → HasNode f (node.Replica t q c) → WasSent f s (node.Replica t q c) a
      → HoldsOnOk (IsSound f) (after (node.Replica t q c) s (as_replica (replica_does f (partition t q) a (replica_in (s.nodes (node.Replica t q c))))))
  replica_kept t q c a h sent = go (replica_does f (partition t q) a x)
      (λ k r up. replica_sound f ok k r t q c h.0 h.1 a x (taken me a sent k r up) (replica_pulls t q c h.0 h.1 k r a sent) (let b = at_node_wider me k r up in record { bound = b.bound; lows = b.lows; reports = b.reports }))
      (replica_rises f (partition t q) a x)
    where
      me : TrioNode
      me = node.Replica t q c

      x : Replica
      x = replica_in (s.nodes (node.Replica t q c))

      go : (d : Result (Replica × List Envelope) Refusal) → ((k : EdgeId → ℕ) (r : Partition → ℕ → Replica) → Wider k r → ReplicaOk f ok k r t q c h.0 h.1 d) → RisesOk x d
          → HoldsOnOk (IsSound f) (after (node.Replica t q c) s (as_replica d))
      go (Err e) g rises = tt
      go (Ok d) g rises =
          let now = put me s (ReplicaNode d.0) d.1 in
          let up = ahead f s me (ReplicaNode d.0) d.1 rises in
          let z = g (acked_of f now) (replicas_of now) up in
          put_sound f s me (ReplicaNode d.0) d.1 up old z.0 (z.1 (ap replica_in (put_there me s (ReplicaNode d.0) d.1)))

  -- ---- controllers

  controller_top : (t q : ℕ) (x : Controller) (out : List Envelope) → IsOfStage f (partition t q) → (i : ℕ) → x.acked i ≤ acked_of f (put (node.Control t q) s (ControllerNode x) out) (in_edge (partition t q) i)
  controller_top t q x out at i =
      let first = at.first in let last = at.last in
      let z : ((t - 1) == f.stages) ≡ false = nat_not (t - 1) f.stages (omega arith) in
      let y : t - 1 + 1 ≡ t = omega arith in
      simp (z, y, nat_self) (omega arith)

  controller_kept : (t q : ℕ) (a : Act) → IsOfStage f (partition t q) → WasSent f s (node.Control t q) a
      → HoldsOnOk (IsSound f) (after (node.Control t q) s (controller_does f (partition t q) a (controller_in (s.nodes (node.Control t q)))))
  controller_kept t q (Takes from m) at sent =
      let me = node.Control t q in
      let x = controller_in (s.nodes me) in
      let d = controller_takes (f.sources t) (partition t q) (copy_of from) m x in
      let now = put me s (ControllerNode d.0) d.1 in
      -- what it acknowledged rises, whatever is acknowledged elsewhere
      let first = controller_sound f ok (acked_of f s) (replicas_of s) t q at from m x (each_at (IsSoundMessage f (acked_of f s) (replicas_of s) from me) m (s.sent from me) sent (old.sent from me)) (old.nodes me).lows (old.nodes me).reports in
      let up = ahead f s me (ControllerNode d.0) d.1 first.rises in
      let b = at_node_wider me (acked_of f now) (replicas_of now) up in
      let z = controller_sound f ok (acked_of f now) (replicas_of now) t q at from m x (taken me (Takes from m) sent (acked_of f now) (replicas_of now) up) b.lows b.reports in
      put_sound f s me (ControllerNode d.0) d.1 up old (record { bound = tt; lows = z.acks; reports = record { reports = z.knows.reports; up = z.knows.up } }) (z.sends (controller_top t q d.0 d.1 at))
  controller_kept t q a at sent = tt

  -- ---- egress

  egress_top : (x : Consumer) (out : List Envelope) (q : ℕ) → x.told q ≤ acked_of f (put node.Egress s (EgressNode x) out) (in_edge (egress_partition f) q)
  egress_top x out q = let z : ((f.stages + 1 - 1) == f.stages) ≡ true = eq-eqb (f.stages + 1 - 1) f.stages (omega arith) in simp z (omega arith)

  egress_fits : (a : Act) → WasSent f s node.Egress a → (q : ℕ) → a ≡ Pulls q → (egress_in (s.nodes node.Egress)).marks q + 1 ≤ f.length (in_edge (egress_partition f) q)
  egress_fits a sent q e = let g : IsPulled f s node.Egress q = subst (WasSent f s node.Egress) e sent in egress_pulled f ok s q (egress_in (s.nodes node.Egress)) g g.marks

  egress_kept : (a : Act) → WasSent f s node.Egress a → HoldsOnOk (IsSound f) (after node.Egress s (as_egress (egress_does f a (egress_in (s.nodes node.Egress)))))
  egress_kept a sent = go (egress_does f a x)
      (λ k r up. egress_sound f ok k r a x (taken node.Egress a sent k r up) (egress_fits a sent) (let b = at_node_wider node.Egress k r up in record { bound = b.bound; lows = b.lows; reports = b.reports }))
      (egress_rises f ok (acked_of f s) (replicas_of s) a x (old.nodes node.Egress).bound.told)
    where
      x : Consumer
      x = egress_in (s.nodes node.Egress)

      go : (d : Result (Consumer × List Envelope) Refusal) → ((k : EdgeId → ℕ) (r : Partition → ℕ → Replica) → Wider k r → EgressOk f ok k r d) → ToldRises f ok (acked_of f s) (replicas_of s) x d
          → HoldsOnOk (IsSound f) (after node.Egress s (as_egress d))
      go (Err e) g rises = tt
      go (Ok d) g rises =
          let t = put node.Egress s (EgressNode d.0) d.1 in
          let up = ahead f s node.Egress (EgressNode d.0) d.1 rises in
          let z = g (acked_of f t) (replicas_of t) up in
          put_sound f s node.Egress (EgressNode d.0) d.1 up old z.0 (z.1 (egress_top d.0 d.1))

  -- ---- a step

  node_kept : (n : TrioNode) (a : Act) → HasNode f n → WasSent f s n a → HoldsOnOk (IsSound f) (after n s (does f n a (s.nodes n)))
  node_kept node.Ingress a h sent = ingress_kept a sent
  node_kept (node.Replica t q c) a h sent = replica_kept t q c a h sent
  node_kept (node.Control t q) a h sent = controller_kept t q a h sent
  node_kept node.Egress a h sent = egress_kept a sent

  pub sound_kept : (e : TrioEvent) → IsThere f e → HoldsOnOk (IsSound f) (step f s e)
  sound_kept e there = step_by f s e (IsSound f) there (λ a h c. node_kept (at_node e) a h c)

-- ---- the opening

pub opening_sound : (f : Flow) → IsTrioFlow f → IsSound f opening
opening_sound f ok = record { nodes = nodes; sent = λ from to. tt }
  where
    consumer : (p : Partition) → ConsumerBound f p new_consumer
    consumer p = record { used = λ q l. let z = ok.flow.used_none p q in omega arith; most = λ q. omega arith; told = λ q. omega arith; count = omega arith }

    nodes : (n : TrioNode) → IsSoundNode f (acked_of f opening) (replicas_of opening) n (opening.nodes n)
    nodes node.Ingress = record { bound = (omega arith, record { above = λ t c. omega arith }); lows = λ t. omega arith; reports = tt }
    nodes (node.Replica s p c) = record { bound = (consumer (partition s p), record { above = λ t d. omega arith }); lows = λ t. omega arith; reports = tt }
    nodes (node.Control s p) = record { bound = tt; lows = λ q c l up. omega arith; reports = record { reports = λ c q. omega arith; up = λ c run. refl } }
    nodes node.Egress = record { bound = consumer (egress_partition f); lows = tt; reports = tt }

-- ---- lists

pub sound_run : (f : Flow) → IsTrioFlow f → (es : List TrioEvent) (r : Result State Refusal) → Each (IsThere f) es → HoldsOnOk (IsSound f) r → HoldsOnOk (IsSound f) (follow f es r)
sound_run f ok [] r h old = old
sound_run f ok (e ∷ es) (Ok s) h old = sound_run f ok es (step f s e) h.1 (sound_kept f ok s old e h.0)
sound_run f ok (e ∷ es) (Err x) h old = tt

pub sound_always : (f : Flow) → IsTrioFlow f → (es : List TrioEvent) (t : State) → Each (IsThere f) es → Leads f opening es t → IsSound f t
sound_always f ok es t there e = subst (HoldsOnOk (IsSound f)) e (sound_run f ok es (Ok opening) there (opening_sound f ok))

-- ---- what takeover owes

low_of : (t : ℕ) (k : ℕ → ℕ) (r : Replica) → ReplicaLows k r → LowAtMost t (k t) r
low_of t k Gone h = tt
low_of t k (Running x) h = h t

mark_less : (q a b : ℕ) (r : Replica) → a ≤ b → MarkAtLeast q b r → MarkAtLeast q a r
mark_less q a b Gone l h = tt
mark_less q a b (Running x) l h = omega arith

pub in_edge_acked : (f : Flow) (s : State) (p : Partition) (q : ℕ) → 1 ≤ p.stage → p.stage ≤ f.stages → acked_of f s (in_edge p q) ≡ (controller_in (s.nodes (control_at p))).acked q
in_edge_acked f s p q first last =
    let z : ((p.stage - 1) == f.stages) ≡ false = nat_not (p.stage - 1) f.stages (omega arith) in
    let y : p.stage - 1 + 1 ≡ p.stage = omega arith in
    simp (z, y)

pub sound_owed : (f : Flow) (s : State) → IsSound f s → IsOwed f s
sound_owed f s sound = record {
  ingress = (sound.nodes node.Ingress).lows;
  producers = λ p c t at. low_of t (λ t. acked_of f s (out_edge p t)) (replicas_of s p c) (sound.nodes (replica_at p c)).lows;
  consumers = λ p c q at there counted. rw (in_edge_acked f s p q at.first at.last)
      (mark_less q ((controller_in (s.nodes (control_at p))).acked q) ((controller_in (s.nodes (control_at p))).reports c q) (replicas_of s p c)
      ((sound.nodes (control_at p)).lows q c there counted) ((sound.nodes (control_at p)).reports.reports c q));
  egress = λ q. let z : (f.stages == f.stages) ≡ true = nat_self f.stages in let t = (sound.nodes node.Egress).bound.told q in simp z t;
}

-- ---- who is gone

-- a group is lost only where all its replicas are gone
pub lost_are_gone : (f : Flow) (s : State) → IsSound f s → (p : Partition) → IsLost s p → (c : ℕ) → c < group_size → replicas_of s p c ≡ Gone
lost_are_gone f s sound p lost c there = go (replicas_of s p c) refl
  where
    go : (r : Replica) → replicas_of s p c ≡ r → r ≡ Gone
    go Gone e = refl
    go (Running x) e =
        let run : IsRunning (replicas_of s p c) = subst IsRunning (sym e) tt in
        absurd (lost (c, record { there = there; running = run; counted = (sound.nodes (control_at p)).reports.up c run }))

-- ---- what a step may ask

pub sound_asks : (f : Flow) (s : State) (n : TrioNode) (a : Act) → IsSound f s → WasSent f s n a → Asks f n (s.nodes n) a
sound_asks f s n a sound sent = ((sound.nodes n).bound, of_act a sent)
  where
    of_act : (a : Act) → WasSent f s n a → ActAsks f n a
    of_act (Takes from m) among =
        let h = each_at (IsSoundMessage f (acked_of f s) (replicas_of s) from n) m (s.sent from n) among (sound.sent from n) in
        record { carried = h.carried; bound = h.bound }
    of_act a among = tt
