-- What a controller does keeps it sound, what it sends is sound, and what it acknowledged doesn't fall.
use Rattle.std.proofs.Common.{◌≡◌, ◌⊎◌, ◌<◌, ◌≤◌, inl, inr, ℕ, zero, suc, Bool, true, false, List, [], Option, None, Some, ◌+◌, ◌==◌, refl, ap, sym, subst, subst₂, ◌∙◌, arith}
use Rattle.std.specs.Prelude.{if◌then◌else◌, max, nat_lt, unwrap_or}
use Rattle.std.proofs.lemmas.Bool.{cases_lt, eqb-true, true≢false}
use Rattle.tuple_edge.specs.declared.node.EdgeId.{EdgeId}
use Rattle.pair_machine.specs.Consumers.{first_below, with_at}
use Rattle.pair_machine.specs.CountLaws.{IsOfStage}
use Rattle.pair_machine.specs.Drain.{partition}
use Rattle.pair_machine.specs.Flow.{Flow}
use Rattle.pair_machine.specs.Numbers.{Partition, in_edge}
use Rattle.pair_machine.proofs.Found.{FoundIn, first_found}
use Rattle.pair_machine.proofs.Lists.{each_append}
use Rattle.pair_machine.proofs.Tests.{if_elim}
use Rattle.trio_machine.specs.Acknowledged.{ControllerAcks}
use Rattle.trio_machine.specs.Reports.{IsRunning, KnowsItsReplicas, MarkAtLeast, OfReplica}
use Rattle.trio_machine.specs.Controllers.{acks, acks_from, controller_hears, controller_takes, downed, goes_down, leads_now, least, least_below, least_with, named, reported}
use Rattle.trio_machine.specs.Flow.{IsTrioFlow}
use Rattle.trio_machine.specs.Links.{IsUp}
use Rattle.trio_machine.specs.Messages.{Ack, Down, Envelope, Message, Report}
use Rattle.trio_machine.specs.Numbers.{Controller, Gone, Replica, Running, copy_of, group_size}
use Rattle.trio_machine.specs.Replicas.{to_producers}
use Rattle.trio_machine.specs.Sound.{IsSoundMessage}
use Rattle.trio_machine.specs.declared.node.TrioNode.{TrioNode}
use Rattle.trio_machine.specs.declared.node.TrioNode.TheVariants as node
use Rattle.trio_machine.proofs.Frame.{AreSound}
use Rattle.trio_machine.proofs.Sends.{ack_sound}

-- ---- the least report

abbrev AtMost : Option ℕ → ℕ → Type 0
AtMost None j = ⊥
AtMost (Some v) j = v ≤ j

least_with_left : (o : Option ℕ) (b j : ℕ) → AtMost o j → least_with o b ≤ j
least_with_left None b j h = absurd h
least_with_left (Some v) b j h = omega arith

least_with_right : (o : Option ℕ) (b : ℕ) → least_with o b ≤ b
least_with_right None b = omega arith
least_with_right (Some v) b = omega arith

least_known : (x : Controller) (q n c : ℕ) → c < n → x.up c ≡ true → AtMost (least_below x q n) (x.reports c q)
least_known x q zero c l up = absurd (omega arith)
least_known x q (suc n) c l up = go (x.up n) refl (λ before. least_known x q n c before up) (cases_lt c n)
  where
    go : (b : Bool) → x.up n ≡ b → (c < n → AtMost (least_below x q n) (x.reports c q)) → (c < n) ⊎ (n ≤ c)
        → AtMost (if b then Some (least_with (least_below x q n) (x.reports n q)) else least_below x q n) (x.reports c q)
    go true e known (inl less) = least_with_left (least_below x q n) (x.reports n q) (x.reports c q) (known less)
    go true e known (inr after) =
        let is : n ≡ c = omega arith in let same = ap (λ i. x.reports i q) is in
        let r = least_with_right (least_below x q n) (x.reports n q) in omega arith
    go false e known (inl less) = known less
    go false e known (inr after) = let is : c ≡ n = omega arith in absurd (true≢false (sym up ∙ (ap x.up is ∙ e)))

or_else : (o : Option ℕ) (j v : ℕ) → AtMost o j → unwrap_or o v ≤ j
or_else None j v h = absurd h
or_else (Some w) j v h = h

pub least_at_most : (x : Controller) (q c : ℕ) → c < group_size → x.up c ≡ true → least x q ≤ x.reports c q
least_at_most x q c l up = or_else (least_below x q group_size) (x.reports c q) (x.acked q) (least_known x q group_size c l up)

-- ---- reports

mark_max : (q a b : ℕ) (x : Replica) → MarkAtLeast q a x → MarkAtLeast q b x → MarkAtLeast q (max a b) x
mark_max q a b Gone h g = tt
mark_max q a b (Running x) h g = omega arith

module _ (f : Flow) (ok : IsTrioFlow f) (k : EdgeId → ℕ) (r : Partition → ℕ → Replica) (s q : ℕ) (at : IsOfStage f (partition s q)) where
  abbrev p : Partition
  p = partition s q

  abbrev me : TrioNode
  me = node.Control s q

  -- what the controller knows is true
  abbrev pub Knows : Controller → Type 0
  Knows x = KnowsItsReplicas (r p) x

  reported_true : (c j u : ℕ) (x : Controller) → MarkAtLeast j u (r p c) → ((d i : ℕ) → MarkAtLeast i (x.reports d i) (r p d)) → (d i : ℕ) → MarkAtLeast i ((reported c j u x).reports d i) (r p d)
  reported_true c j u x h old d i = if_elim (λ (g : ℕ → ℕ). MarkAtLeast i (g i) (r p d)) (d == c) (with_at (x.reports c) j (max (x.reports c j) u)) (x.reports d)
      (λ e. subst (λ w. MarkAtLeast i (with_at (x.reports c) j (max (x.reports c j) u) i) (r p w)) (sym (eqb-true d c e))
      (if_elim (λ v. MarkAtLeast i v (r p c)) (i == j) (max (x.reports c j) u) (x.reports c i)
      (λ z. subst (λ w. MarkAtLeast w (max (x.reports c j) u) (r p c)) (sym (eqb-true i j z)) (mark_max j (x.reports c j) u (r p c) (old c j) h)) (λ z. old c i)))
      (λ e. old d i)

  reported_acks : (c j u : ℕ) (x : Controller) → ControllerAcks x → ControllerAcks (reported c j u x)
  reported_acks c j u x old i d l up = if_elim (λ (g : ℕ → ℕ). x.acked i ≤ g i) (d == c) (with_at (x.reports c) j (max (x.reports c j) u)) (x.reports d)
      (λ e. let had : x.acked i ≤ x.reports c i = subst (λ w. x.acked i ≤ x.reports w i) (eqb-true d c e) (old i d l up) in
      if_elim (λ v. x.acked i ≤ v) (i == j) (max (x.reports c j) u) (x.reports c i) (λ z. let same = ap (x.reports c) (eqb-true i j z) in omega arith) (λ z. had))
      (λ e. old i d l up)

  downed_acks : (c : ℕ) (x : Controller) → ControllerAcks x → ControllerAcks (downed c x)
  downed_acks c x old i d l up = old i d l (was (d == c) up)
    where
      was : (b : Bool) → (if b then false else x.up d) ≡ true → x.up d ≡ true
      was true e = let z : ⊥ = cc e in absurd z
      was false e = e

  -- a part of the controller's step that acknowledges nothing
  record Heard (x : Controller) (d : Controller × List Envelope) : Type 0 where
    same : d.0.acked ≡ x.acked
    acks : ControllerAcks d.0
    knows : Knows d.0
    sends : AreSound f k r me d.1

  nothing : (x : Controller) → ControllerAcks x → Knows x → Heard x (x, [])
  nothing x a b = record { same = refl; acks = a; knows = b; sends = tt }

  names : (x y : Controller) (o : Option ℕ) → FoundIn y.up group_size o → y.acked ≡ x.acked → ControllerAcks y → Knows y → Heard x (named p y o)
  names x y None h e a b = record { same = e; acks = a; knows = record { reports = b.reports; up = b.up }; sends = tt }
  names x y (Some c) h e a b = record {
    same = e;
    acks = a;
    knows = record { reports = b.reports; up = b.up };
    sends = (record { carried = record { sender = at; receiver = (at, h.1); carries = (refl, refl) }; bound = tt; lows = tt; reports = tt }, tt);
  }

  -- a replica that is gone may be held down
  downed_knows : (c : ℕ) (x : Controller) → (IsRunning (r p c) → ⊥) → Knows x → Knows (downed c x)
  downed_knows c x gone b = record { reports = b.reports; up = λ d run. if_elim (λ u. u ≡ true) (d == c) false (x.up d) (λ e. absurd (gone (subst (λ i. IsRunning (r p i)) (eqb-true d c e) run))) (λ e. b.up d run) }

  downs : (c : ℕ) (x : Controller) → (IsRunning (r p c) → ⊥) → ControllerAcks x → Knows x → Heard x (goes_down p c x)
  downs c x gone a b = if_elim (Heard x) (leads_now x.leader c) _ _
      (λ e. names x (downed c x) (first_below (downed c x).up group_size) (first_found group_size (downed c x).up) refl (downed_acks c x a) (downed_knows c x gone b))
      (λ e. record { same = refl; acks = downed_acks c x a; knows = downed_knows c x gone b; sends = tt })

  -- what a replica tells its controller is of the group's own
  of_sender : (P : Replica → Type 0) (from : TrioNode) → IsUp from me → OfReplica r P from → P (r p (copy_of from))
  of_sender P node.Ingress h t = absurd h
  of_sender P (node.Replica a b c) h t = subst₂ (λ v w. P (r (partition v w) c)) h.0 h.1 t
  of_sender P (node.Control a b) h t = absurd h
  of_sender P node.Egress h t = absurd h

  hears : (from : TrioNode) (m : Message) (x : Controller) → IsSoundMessage f k r from me m → ControllerAcks x → Knows x → Heard x (controller_hears p (copy_of from) m x)
  hears from (Report e u) x h a b = if_elim (Heard x) (x.up (copy_of from)) _ _
      (λ z. record {
        same = refl;
        acks = reported_acks (copy_of from) e.from u x a;
        knows = record { reports = reported_true (copy_of from) e.from u x (of_sender (MarkAtLeast e.from u) from h.carried.carries.0 h.reports) b.reports; up = b.up };
        sends = tt;
      })
      (λ z. nothing x a b)
  hears from Down x h a b = if_elim (Heard x) (x.up (copy_of from)) _ _ (λ z. downs (copy_of from) x (of_sender (λ y. IsRunning y → ⊥) from h.carried.carries h.reports) a b) (λ z. nothing x a b)
  hears from message x h a b = nothing x a b

  -- ---- acknowledgements

  acks_sound : (n i : ℕ) (x : Controller) → i + n ≤ f.sources s → ((j : ℕ) → least x j ≤ k (in_edge p j)) → AreSound f k r me (acks_from n i p x)
  acks_sound zero i x l top = tt
  acks_sound (suc n) i x l top = each_append (λ (z : Envelope). IsSoundMessage f k r me z.to z.message) _ (acks_from n (i + 1) p x)
      (let last = at.last in let first = at.first in
      if_elim (AreSound f k r me) (nat_lt (x.acked i) (least x i)) (to_producers p i (Ack (in_edge p i) (least x i))) []
      (λ e. ack_sound f ok k r p me i (least x i) at.first (omega arith) (omega arith) at (omega arith, refl) (top i)) (λ e. tt))
      (acks_sound n (i + 1) x (omega arith) top)

  after_acks : (x : Controller) → ControllerAcks x → ControllerAcks (acks (f.sources s) p x).0
  after_acks x old i c l up = let had = old i c l up in let most = least_at_most x i c l up in omega arith

  -- the whole step: what was acknowledged rises, and what is sent is sound where what it acknowledges then is acknowledged
  pub record Took (x : Controller) (d : Controller × List Envelope) : Type 0 where
    pub rises : (i : ℕ) → x.acked i ≤ d.0.acked i
    pub acks : ControllerAcks d.0
    pub knows : Knows d.0
    pub sends : ((i : ℕ) → d.0.acked i ≤ k (in_edge p i)) → AreSound f k r me d.1

  pub controller_sound : (from : TrioNode) (m : Message) (x : Controller) → IsSoundMessage f k r from me m → ControllerAcks x → Knows x → Took x (controller_takes (f.sources s) p (copy_of from) m x)
  controller_sound from m x h a b =
      let heard = controller_hears p (copy_of from) m x in
      let g = hears from m x h a b in
      record {
        rises = λ i. let same = ap (λ (z : ℕ → ℕ). z i) g.same in omega arith;
        acks = after_acks heard.0 g.acks;
        knows = record { reports = g.knows.reports; up = g.knows.up };
        sends = λ top. each_append (λ (z : Envelope). IsSoundMessage f k r me z.to z.message) heard.1 (acks_from (f.sources s) 0 p heard.0) g.sends
            (acks_sound (f.sources s) 0 heard.0 (omega arith) (λ j. let l = top j in omega arith));
      }
