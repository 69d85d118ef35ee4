-- Which in-edges may be due: only of those that a controller holds to be due more may be reported than is acknowledged.
use Rattle.std.proofs.Common.{◌≡◌, ◌≢◌, ◌<◌, ◌≤◌, ◌+◌, ◌-◌, ◌++◌, ◌∙◌, ◌⊎◌, inl, inr, ℕ, zero, suc, List, [], ◌∷◌, length, slice_index, max, min, refl, ap, subst, sym, arith}
use Rattle.std.specs.Prelude.{◌==◌, if◌then◌else◌, false, nat_lt}
use Rattle.std.proofs.lemmas.Bool.{eqb-true, ltb-true}
use Rattle.tuple_edge.specs.declared.status.Status.{Status}
use Rattle.tuple_edge.specs.declared.status.Status.TheVariants as status
use Rattle.pair_machine.specs.Controllers.{acks_from, counts, least, least_of}
use Rattle.pair_machine.specs.Machine.{new_watched}
use Rattle.pair_machine.specs.Numbers.{Controller, Partition, Watched}
use Rattle.pair_machine.proofs.Tests.{if_elim}
use Rattle.pair_control.specs.ControllerView.{AreAcknowledgedBut, ControllerView, IsAcknowledged, WatchedView, numbers_of, reported, watched_numbers}
use Rattle.pair_control.specs.Packets.{ack_due}
use Rattle.pair_control.proofs.Acknowledging.{past_end}

-- ---- nothing is reported, or all may be due

least_low : (k : ℕ) (s t : Status) → least_of k s 0 t 0 ≤ k
least_low k status.Down status.Down = omega arith
least_low k status.Down status.Up = omega arith
least_low k status.Down status.Catching = omega arith
least_low k status.Up status.Down = omega arith
least_low k status.Up status.Up = omega arith
least_low k status.Up status.Catching = omega arith
least_low k status.Catching status.Down = omega arith
least_low k status.Catching status.Up = omega arith
least_low k status.Catching status.Catching = omega arith

none_reported : (a b : WatchedView) (acked : List ℕ) (q : ℕ) → slice_index a.reports q ≡ 0 → slice_index b.reports q ≡ 0 → IsAcknowledged a b acked q
none_reported a b acked q ea eb =
    subst (λ n. least_of (slice_index acked q) a.status n b.status (slice_index b.reports q) ≤ slice_index acked q) (sym ea)
    (subst (λ n. least_of (slice_index acked q) a.status 0 b.status n ≤ slice_index acked q) (sym eb) (least_low (slice_index acked q) a.status b.status))

pub nothing_yet : (a b : WatchedView) (acked : List ℕ) (first end : ℕ) → watched_numbers a ≡ new_watched → watched_numbers b ≡ new_watched → AreAcknowledgedBut a b acked first end
nothing_yet a b acked first end ea eb = record {
  others = λ q out. none_reported a b acked q (ap (λ (h : Watched). h.reports q) ea) (ap (λ (h : Watched). h.reports q) eb);
}

pub all_due : (a b : WatchedView) (acked : List ℕ) (end : ℕ) → length a.reports ≡ length acked → length b.reports ≡ length acked → end ≡ length acked → AreAcknowledgedBut a b acked 0 end
all_due a b acked end ea eb e = record { others = others }
  where
    others : (q : ℕ) → (q < 0) ⊎ (end ≤ q) → IsAcknowledged a b acked q
    others q (inl h) = absurd (omega arith)
    others q (inr h) = none_reported a b acked q (past_end a.reports q (omega arith)) (past_end b.reports q (omega arith))

-- ---- after the acknowledgement none is due

least_raised : (k x y : ℕ) (s t : Status) → least_of (max k (least_of k s x t y)) s x t y ≤ max k (least_of k s x t y)
least_raised k x y status.Down status.Down = omega arith
least_raised k x y status.Down status.Up = omega arith
least_raised k x y status.Down status.Catching = omega arith
least_raised k x y status.Up status.Down = omega arith
least_raised k x y status.Up status.Up = omega arith
least_raised k x y status.Up status.Catching = omega arith
least_raised k x y status.Catching status.Down = omega arith
least_raised k x y status.Catching status.Up = omega arith
least_raised k x y status.Catching status.Catching = omega arith

pub none_is_due : (c : ControllerView) (a b : WatchedView) (acked : List ℕ) (first end : ℕ) → a ≡ c.a → b ≡ c.b →
    ((q : ℕ) → slice_index acked q ≡ max (slice_index c.acked q) (least (numbers_of c) q)) → AreAcknowledgedBut a b acked first end
none_is_due c a b acked first end ea eb done = record {
  others = λ q out.
      subst (λ (h : WatchedView). IsAcknowledged h b acked q) (sym ea)
      (subst (λ (h : WatchedView). IsAcknowledged c.a h acked q) (sym eb)
      (subst (λ n. least_of n c.a.status (slice_index c.a.reports q) c.b.status (slice_index c.b.reports q) ≤ n) (sym (done q))
      (least_raised (slice_index c.acked q) (slice_index c.a.reports q) (slice_index c.b.reports q) c.a.status c.b.status)));
}

-- ---- what a replica's rising changes: nothing of what is due

-- a replica that is catching up is counted as one that is up
pub up_a : (old new b : WatchedView) (acked : List ℕ) (first end : ℕ) → AreAcknowledgedBut old b acked first end → old.status ≡ status.Catching →
    new ≡ record old { status = status.Up } → AreAcknowledgedBut new b acked first end
up_a old new b acked first end h catching e = record {
  others = λ q out. subst (λ (w : WatchedView). IsAcknowledged w b acked q) (sym e)
      (subst (λ s. least_of (slice_index acked q) s (slice_index old.reports q) b.status (slice_index b.reports q) ≤ slice_index acked q) catching (h.others q out));
}

pub up_b : (old new a : WatchedView) (acked : List ℕ) (first end : ℕ) → AreAcknowledgedBut a old acked first end → old.status ≡ status.Catching →
    new ≡ record old { status = status.Up } → AreAcknowledgedBut a new acked first end
up_b old new a acked first end h catching e = record {
  others = λ q out. subst (λ (w : WatchedView). IsAcknowledged a w acked q) (sym e)
      (subst (λ s. least_of (slice_index acked q) a.status (slice_index a.reports q) s (slice_index old.reports q) ≤ slice_index acked q) catching (h.others q out));
}

-- one that begins to catch up has its partner's reports
begun : (k s t : ℕ) (a b : Status) → a ≡ status.Down → b ≡ status.Up → least_of k a s b t ≤ k → least_of k status.Catching t b t ≤ k
begun k s t a b ea eb h =
    let l : t ≤ k = subst (λ z. least_of k status.Down s z t ≤ k) eb (subst (λ z. least_of k z s b t ≤ k) ea h) in
    subst (λ z. least_of k status.Catching t z t ≤ k) (sym eb) (omega arith)

begun_after : (k s t : ℕ) (a b : Status) → a ≡ status.Up → b ≡ status.Down → least_of k a s b t ≤ k → least_of k a s status.Catching s ≤ k
begun_after k s t a b ea eb h =
    let l : s ≤ k = subst (λ z. least_of k status.Up s z t ≤ k) eb (subst (λ z. least_of k z s b t ≤ k) ea h) in
    subst (λ z. least_of k z s status.Catching s ≤ k) (sym ea) (omega arith)

pub begun_a : (old new b : WatchedView) (acked : List ℕ) (first end inc : ℕ) → AreAcknowledgedBut old b acked first end → old.status ≡ status.Down → b.status ≡ status.Up →
    new ≡ record old { status = status.Catching; inc = inc; reports = b.reports; back = false } → AreAcknowledgedBut new b acked first end
begun_a old new b acked first end inc h down up e = record {
  others = λ q out. subst (λ (w : WatchedView). IsAcknowledged w b acked q) (sym e)
      (begun (slice_index acked q) (slice_index old.reports q) (slice_index b.reports q) old.status b.status down up (h.others q out));
}

pub begun_b : (old new a : WatchedView) (acked : List ℕ) (first end inc : ℕ) → AreAcknowledgedBut a old acked first end → old.status ≡ status.Down → a.status ≡ status.Up →
    new ≡ record old { status = status.Catching; inc = inc; reports = a.reports; back = false } → AreAcknowledgedBut a new acked first end
begun_b old new a acked first end inc h down up e = record {
  others = λ q out. subst (λ (w : WatchedView). IsAcknowledged a w acked q) (sym e)
      (begun_after (slice_index acked q) (slice_index a.reports q) (slice_index old.reports q) a.status old.status up down (h.others q out));
}

-- ---- a report

-- of each in-edge but the reported one the replica stands as before
module _ (old new : WatchedView) (inc edge upto : ℕ)
    (heard : watched_numbers new ≡ (if counts (watched_numbers old) inc then reported (watched_numbers old) edge upto else watched_numbers old)) where
  abbrev IsStatus : Watched → Type 0
  IsStatus w = w.status ≡ old.status

  abbrev HasReport : ℕ → Watched → Type 0
  HasReport q w = w.reports q ≡ slice_index old.reports q

  pub same_status : new.status ≡ old.status
  same_status = subst IsStatus (sym heard) (if_elim IsStatus (counts (watched_numbers old) inc) (reported (watched_numbers old) edge upto) (watched_numbers old) (λ t. refl) (λ f. refl))

  same_report : (q : ℕ) → q ≢ edge → slice_index new.reports q ≡ slice_index old.reports q
  same_report q ne =
      subst (HasReport q) (sym heard)
      (if_elim (HasReport q) (counts (watched_numbers old) inc) (reported (watched_numbers old) edge upto) (watched_numbers old)
      (λ t. if_elim (λ n. n ≡ slice_index old.reports q) (q == edge) (max (slice_index old.reports edge) upto) (slice_index old.reports q) (λ z. absurd (ne (eqb-true q edge z))) (λ f. refl))
      (λ f. refl))

  -- one that isn't among those that may be due now wasn't before, and isn't the reported one
  outside : (first end q : ℕ) → (q < min first edge) ⊎ (max end (edge + 1) ≤ q) → ((q < first) ⊎ (end ≤ q)) × (q ≢ edge)
  outside first end q (inl h) = (inl (omega arith), λ e. absurd (omega arith))
  outside first end q (inr h) = (inr (omega arith), λ e. absurd (omega arith))

  pub heard_a : (b : WatchedView) (acked : List ℕ) (first end : ℕ) → AreAcknowledgedBut old b acked first end → AreAcknowledgedBut new b acked (min first edge) (max end (edge + 1))
  heard_a b acked first end h = record {
    others = λ q out.
        let o = outside first end q out in
        let r = same_report q o.1 in
        let P : ℕ → Type 0 = λ n. n ≤ slice_index acked q in
        subst P (λ i. least_of (slice_index acked q) (sym same_status i) (sym r i) b.status (slice_index b.reports q)) (h.others q o.0);
  }

  pub heard_b : (a : WatchedView) (acked : List ℕ) (first end : ℕ) → AreAcknowledgedBut a old acked first end → AreAcknowledgedBut a new acked (min first edge) (max end (edge + 1))
  heard_b a acked first end h = record {
    others = λ q out.
        let o = outside first end q out in
        let r = same_report q o.1 in
        let P : ℕ → Type 0 = λ n. n ≤ slice_index acked q in
        subst P (λ i. least_of (slice_index acked q) a.status (slice_index a.reports q) (sym same_status i) (sym r i)) (h.others q o.0);
  }

-- ---- the packets

module _ (p : Partition) (c : Controller) where
  none_due : (q : ℕ) → least c q ≤ c.acked q → ack_due p q (c.acked q) (least c q) ≡ []
  none_due q h =
      if_elim (λ es. es ≡ []) (nat_lt (c.acked q) (least c q)) _ [] (λ t. let l = ltb-true (c.acked q) (least c q) t in absurd (omega arith)) (λ f. refl)

  -- from an in-edge on, where none is due from there on
  pub none_behind : (n q : ℕ) → ((r : ℕ) → q ≤ r → least c r ≤ c.acked r) → acks_from n q p c ≡ []
  none_behind zero q h = refl
  none_behind (suc n) q h = (λ i. none_due q (h q (omega arith)) i ++ none_behind n (q + 1) (λ r le. h r (omega arith)) i)

  -- those of all in-edges are those from an in-edge on, where none is due before it
  pub none_before : (edges k : ℕ) → k ≤ edges → ((q : ℕ) → q < k → least c q ≤ c.acked q) → acks_from (edges - k) k p c ≡ acks_from edges 0 p c
  none_before edges zero le h = let all : edges - 0 ≡ edges = omega arith in ap (λ n. acks_from n 0 p c) all
  none_before edges (suc k) le h =
      let more : edges - k ≡ suc (edges - suc k) = omega arith in
      let next : k + 1 ≡ suc k = omega arith in
      let step : acks_from (edges - k) k p c ≡ acks_from (edges - suc k) (suc k) p c =
      ap (λ n. acks_from n k p c) more ∙ (λ i. none_due k (h k (omega arith)) i ++ acks_from (edges - suc k) (next i) p c) in
      sym step ∙ none_before edges k (omega arith) (λ q lt. h q (omega arith))
