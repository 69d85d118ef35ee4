-- What ingress and egress do keeps them sound, and what they send is sound.
use Rattle.std.proofs.Common.{◌≡◌, ◌≤◌, ℕ, List, Option, None, Some, Result, Ok, Err, ◌+◌, ◌-◌, refl, ap, arith}
use Rattle.std.specs.Prelude.{nat_lt}
use Rattle.std.proofs.lemmas.Bool.{ltb-true}
use Rattle.tuple_edge.specs.declared.node.EdgeId.{EdgeId}
use Rattle.pair_machine.specs.Boundary.{egress_partition, ingress_source}
use Rattle.pair_machine.specs.Consumers.{is_ready, merged_one, offered, pulled, telling, untold}
use Rattle.pair_machine.specs.Flow.{Flow}
use Rattle.pair_machine.specs.Lengths.{ConsumerBound}
use Rattle.pair_machine.specs.Numbers.{Consumer, Partition, in_edge, ingress_edge}
use Rattle.pair_machine.specs.Producers.{Due, due}
use Rattle.pair_machine.proofs.Found.{FoundIn, first_found}
use Rattle.pair_machine.proofs.Tests.{if_elim, nat_self}
use Rattle.trio_machine.specs.Boundary.{egress_does, egress_takes, egress_tells, ingress_does, ingress_sends, ingress_takes, source_made}
use Rattle.trio_machine.specs.Flow.{IsTrioFlow}
use Rattle.trio_machine.specs.Messages.{Ack, Act, Dies, Envelope, Makes, Message, Pulls, Refusal, Takes, Tuple, Works}
use Rattle.trio_machine.specs.Numbers.{EgressNode, Ingress, IngressNode, Replica}
use Rattle.trio_machine.specs.Sound.{IsSoundMessage, IsSoundNode}
use Rattle.trio_machine.specs.declared.node.TrioNode.{TrioNode}
use Rattle.trio_machine.specs.declared.node.TrioNode.TheVariants as node
use Rattle.trio_machine.proofs.Bounds.{acked_bound, acked_lows, merged_bound, offered_bound, offered_told, pulled_bound, sent_bound, telling_bound, telling_told}
use Rattle.trio_machine.proofs.Frame.{AreSound}
use Rattle.trio_machine.proofs.Sends.{ack_sound, due_is, due_sound}

-- an edge by its three numbers
abbrev pub edge_as : (e : EdgeId) (s p t : ℕ) → e.stage ≡ s → e.from ≡ p → e.to ≡ t → e ≡ record { stage = s; from = p; to = t }
edge_as e s p t a b c = λ i. record { stage = a i; from = b i; to = c i }

-- what a node takes is sound
abbrev pub TakesSound : Flow → (EdgeId → ℕ) → (Partition → ℕ → Replica) → TrioNode → Act → Type 0
TakesSound f k r n (Takes from m) = IsSoundMessage f k r from n m
TakesSound f k r n a = Unit {0}

module _ (f : Flow) (ok : IsTrioFlow f) (k : EdgeId → ℕ) (r : Partition → ℕ → Replica) where
  -- ---- ingress

  abbrev SoundIngress : Ingress → Type 0
  SoundIngress x = IsSoundNode f k r node.Ingress (IngressNode x)

  abbrev pub IngressOk : Result (Ingress × List Envelope) Refusal → Type 0
  IngressOk (Ok d) = SoundIngress d.0 × AreSound f k r node.Ingress d.1
  IngressOk (Err e) = Unit {0}

  ingress_took : (from : TrioNode) (m : Message) (x : Ingress) → IsSoundMessage f k r from node.Ingress m → SoundIngress x → SoundIngress (ingress_takes m x)
  ingress_took from (Ack e u) x h c =
      let same = ap k (edge_as e 0 0 e.to h.carried.carries.1.0 h.carried.carries.1.1 refl) in
      let low = h.lows in
      record { bound = (c.bound.0, acked_bound x.producer e.to u c.bound.1); lows = acked_lows (λ t. k (ingress_edge 0 t)) x.producer e.to u (omega arith) c.lows; reports = tt }
  ingress_took from message x h c = c

  ingress_sent : (x : Ingress) (o : Option Due) → due f (ingress_source 0) (source_made f x) x.producer ≡ o → SoundIngress x → IngressOk (ingress_sends f x o)
  ingress_sent x None e c = tt
  ingress_sent x (Some d) e c =
      let is = due_is f (ingress_source 0) (source_made f x) x.producer d e in
      let l = c.bound.1.above d.to d.copy in let most = ok.flow.makes_most 0 d.to x.makes in (
        record { bound = (c.bound.0, sent_bound x.producer d is.1 c.bound.1); lows = c.lows; reports = tt },
        due_sound f ok k r (ingress_source 0) node.Ingress (source_made f x) x.producer d (omega arith) tt (refl, refl) e (omega (arith, is.1), omega (arith, is.2)),
      )

  pub ingress_sound : (a : Act) (x : Ingress) → TakesSound f k r node.Ingress a → SoundIngress x → IngressOk (ingress_does f a x)
  ingress_sound (Takes from m) x h c = (ingress_took from m x h c, tt)
  ingress_sound Works x h c = ingress_sent x (due f (ingress_source 0) (source_made f x) x.producer) refl c
  ingress_sound Makes x h c = if_elim IngressOk (nat_lt x.makes f.makes) _ _ (λ e. let l = ltb-true x.makes f.makes e in (record { bound = (omega arith, c.bound.1); lows = c.lows; reports = tt }, tt)) (λ e. tt)
  ingress_sound Dies x h c = tt
  ingress_sound (Pulls q) x h c = tt

  -- ---- egress

  abbrev here : Partition
  here = egress_partition f

  abbrev SoundEgress : Consumer → Type 0
  SoundEgress x = IsSoundNode f k r node.Egress (EgressNode x)

  -- what it tells is sound where what it told is acknowledged
  abbrev pub EgressOk : Result (Consumer × List Envelope) Refusal → Type 0
  EgressOk (Ok d) = SoundEgress d.0 × (((q : ℕ) → d.0.told q ≤ k (in_edge here q)) → AreSound f k r node.Egress d.1)
  EgressOk (Err e) = Unit {0}

  of_bound : (x : Consumer) → ConsumerBound f here x → SoundEgress x
  of_bound x b = record { bound = b; lows = tt; reports = tt }

  egress_took : (from : TrioNode) (m : Message) (x : Consumer) → IsSoundMessage f k r from node.Egress m → SoundEgress x → SoundEgress (egress_takes m x)
  egress_took from (Tuple e n) x h c =
      let stage : e.stage ≡ f.stages + 1 - 1 = omega (arith, h.carried.carries.1.0) in
      let same = ap f.length (edge_as e (f.stages + 1 - 1) e.from 0 stage refl h.carried.carries.1.1) in
      let l = h.bound.1 in
      of_bound (offered x e.from n) (offered_bound f ok.flow here (omega arith) (omega arith) x e.from n (omega arith) c.bound)
  egress_took from message x h c = c

  egress_told : (x : Consumer) (o : Option ℕ) → FoundIn (λ q. nat_lt (x.told q) (x.marks q)) (f.sources (f.stages + 1)) o → SoundEgress x → EgressOk (egress_tells f x o)
  egress_told x None h c = tt
  egress_told x (Some q) h c = (
    of_bound (telling x q) (telling_bound f ok.flow here (omega arith) (omega arith) x q c.bound),
    λ top. let at : x.marks q ≤ k (in_edge here q) = simp nat_self at (top q) in
        ack_sound f ok k r here node.Egress q (x.marks q) (omega arith) (omega arith) h.1 tt (omega arith, refl) at,
  )

  pub egress_sound : (a : Act) (x : Consumer) → TakesSound f k r node.Egress a → ((q : ℕ) → a ≡ Pulls q → x.marks q + 1 ≤ f.length (in_edge here q)) → SoundEgress x → EgressOk (egress_does f a x)
  egress_sound (Takes from m) x h g c = (egress_took from m x h c, λ top. tt)
  egress_sound Works x h g c = if_elim EgressOk (is_ready f here x) _ _ (λ e. (of_bound (merged_one x) (merged_bound f ok.flow here (omega arith) (omega arith) x e c.bound), λ top. tt))
      (λ e. egress_told x (untold f here x) (first_found (f.sources (f.stages + 1)) (λ q. nat_lt (x.told q) (x.marks q))) c)
  egress_sound Makes x h g c = tt
  egress_sound Dies x h g c = tt
  egress_sound (Pulls q) x h g c = (of_bound (pulled x q) (pulled_bound f ok.flow here (omega arith) (omega arith) x q (g q refl) c.bound), λ top. tt)

  -- what egress told never falls
  abbrev pub ToldRises : Consumer → Result (Consumer × List Envelope) Refusal → Type 0
  ToldRises x (Ok d) = (q : ℕ) → x.told q ≤ d.0.told q
  ToldRises x (Err e) = Unit {0}

  same_told : (x y : Consumer) → x.told ≡ y.told → (q : ℕ) → x.told q ≤ y.told q
  same_told x y e q = let same = ap (λ (g : ℕ → ℕ). g q) e in omega arith

  took_rises : (m : Message) (x : Consumer) → (q : ℕ) → x.told q ≤ (egress_takes m x).told q
  took_rises (Tuple e n) x = same_told x (offered x e.from n) (offered_told x e.from n)
  took_rises message x = λ q. omega arith

  tells_rises : (x : Consumer) (o : Option ℕ) → ((q : ℕ) → x.told q ≤ x.marks q) → ToldRises x (egress_tells f x o)
  tells_rises x None b = tt
  tells_rises x (Some q) b = λ j. telling_told x q j b

  pub egress_rises : (a : Act) (x : Consumer) → ((q : ℕ) → x.told q ≤ x.marks q) → ToldRises x (egress_does f a x)
  egress_rises (Takes from m) x b = took_rises m x
  egress_rises Works x b = if_elim (ToldRises x) (is_ready f here x) _ _ (λ e. λ q. omega arith) (λ e. tells_rises x (untold f here x) b)
  egress_rises Makes x b = tt
  egress_rises Dies x b = tt
  egress_rises (Pulls q) x b = λ j. omega arith
