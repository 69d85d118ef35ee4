-- What a consumer and a producer do keeps their numbers within the lengths.
use Rattle.std.proofs.Common.{◌≡◌, ◌≢◌, ◌<◌, ◌≤◌, ℕ, zero, suc, Bool, true, false, ◌+◌, ◌&&◌, refl, ap, ◌∙◌, arith}
use Rattle.std.specs.Prelude.{max, ◌==◌, if◌then◌else◌, nat_lt}
use Rattle.std.proofs.lemmas.Bool.{eqb-true, eq-eqb, ltb-true}
use Rattle.pair_machine.specs.Consumers.{all_below, is_ready, merged_one, offered, pulled, telling, with_at}
use Rattle.pair_machine.specs.Flow.{Flow, IsFlow}
use Rattle.pair_machine.specs.Lengths.{ConsumerBound, ProducerBound}
use Rattle.pair_machine.specs.Numbers.{Consumer, Partition, Producer, in_edge}
use Rattle.pair_machine.specs.Producers.{Due, acked_to, leading, sent_on}
use Rattle.pair_machine.proofs.Tests.{both, if_elim}

-- a test that holds of all numbers below n holds of each
pub all_holds : (n : ℕ) (p : ℕ → Bool) → all_below n p ≡ true → (q : ℕ) → q < n → p q ≡ true
all_holds zero p e q l = absurd (omega arith)
all_holds (suc n) p e q l = go (q == n) (eqb-true q n) (eq-eqb q n) (λ h. all_holds n p (both (all_below n p) (p n) e).0 q h)
  where
    go : (c : Bool) → (c ≡ true → q ≡ n) → (q ≡ n → c ≡ true) → (q < n → p q ≡ true) → p q ≡ true
    go true is isn old = ap p (is refl) ∙ (both (all_below n p) (p n) e).1
    go false is isn old = old (let ne : q ≢ n = λ z. (let y = isn z in cc) in omega arith)

-- ---- consumers

module _ (f : Flow) (ok : IsFlow f) (p : Partition) (some : 1 ≤ p.stage) (within : p.stage ≤ f.stages + 1) where
  used_below : (c : Consumer) → is_ready f p c ≡ true → (q : ℕ) → q < f.sources p.stage → f.used p q c.count < c.marks q
  used_below c r q l = ltb-true (f.used p q c.count) (c.marks q) (all_holds (f.sources p.stage) (λ i. nat_lt (f.used p i c.count) (c.marks i)) r q l)

  pub merged_bound : (c : Consumer) → is_ready f p c ≡ true → ConsumerBound f p c → ConsumerBound f p (merged_one c)
  merged_bound c r b = record {
    used = λ q l. let z = used_below c r q l in let n = ok.used_next p q c.count in omega arith;
    most = b.most;
    told = b.told;
    count = let more = ok.more_left p c.count some within (λ q l. let z = used_below c r q l in let m = b.most q in omega arith) in omega arith;
  }

  -- a mark rises by one
  mark_bound : (c : Consumer) (q n : ℕ) → n ≡ c.marks q + 1 → n ≤ f.length (in_edge p q) → ConsumerBound f p c → ConsumerBound f p (record c { marks = with_at c.marks q n })
  mark_bound c q n e l b = record {
    used = λ j h. let u = b.used j h in if_elim (λ v. f.used p j c.count ≤ v) (j == q) n (c.marks j) (λ z. let same = ap c.marks (eqb-true j q z) in omega arith) (λ z. u);
    most = λ j. if_elim (λ v. v ≤ f.length (in_edge p j)) (j == q) n (c.marks j) (λ z. let same = ap (λ i. f.length (in_edge p i)) (eqb-true j q z) in omega arith) (λ z. b.most j);
    told = λ j. let u = b.told j in if_elim (λ v. c.told j ≤ v) (j == q) n (c.marks j) (λ z. let same = ap c.marks (eqb-true j q z) in omega arith) (λ z. u);
    count = b.count;
  }

  pub pulled_bound : (c : Consumer) (q : ℕ) → c.marks q + 1 ≤ f.length (in_edge p q) → ConsumerBound f p c → ConsumerBound f p (pulled c q)
  pulled_bound c q l b = mark_bound c q (c.marks q + 1) refl l b

  pub offered_bound : (c : Consumer) (q n : ℕ) → n ≤ f.length (in_edge p q) → ConsumerBound f p c → ConsumerBound f p (offered c q n)
  offered_bound c q n l b = if_elim (ConsumerBound f p) (n == c.marks q + 1) _ c (λ e. mark_bound c q n (eqb-true n (c.marks q + 1) e) l b) (λ e. b)

  pub telling_bound : (c : Consumer) (q : ℕ) → ConsumerBound f p c → ConsumerBound f p (telling c q)
  telling_bound c q b = record {
    used = b.used;
    most = b.most;
    told = λ j. if_elim (λ v. v ≤ c.marks j) (j == q) (c.marks q) (c.told j) (λ z. let same = ap c.marks (eqb-true j q z) in omega arith) (λ z. b.told j);
    count = b.count;
  }

-- marks don't fall

pub offered_marks : (c : Consumer) (q n j : ℕ) → c.marks j ≤ (offered c q n).marks j
offered_marks c q n j = if_elim (λ (d : Consumer). c.marks j ≤ d.marks j) (n == c.marks q + 1) _ c
    (λ e. let is = eqb-true n (c.marks q + 1) e in if_elim (λ v. c.marks j ≤ v) (j == q) n (c.marks j) (λ z. let same = ap c.marks (eqb-true j q z) in omega arith) (λ z. omega arith))
    (λ e. omega arith)

pub pulled_marks : (c : Consumer) (q j : ℕ) → c.marks j ≤ (pulled c q).marks j
pulled_marks c q j = if_elim (λ v. c.marks j ≤ v) (j == q) (c.marks q + 1) (c.marks j) (λ z. let same = ap c.marks (eqb-true j q z) in omega arith) (λ z. omega arith)

-- and neither does what is told, at most the marks

pub offered_told : (c : Consumer) (q n : ℕ) → c.told ≡ (offered c q n).told
offered_told c q n = if_elim (λ (d : Consumer). c.told ≡ d.told) (n == c.marks q + 1) _ c (λ e. refl) (λ e. refl)

pub telling_told : (c : Consumer) (q j : ℕ) → ((i : ℕ) → c.told i ≤ c.marks i) → c.told j ≤ (telling c q).told j
telling_told c q j b = if_elim (λ v. c.told j ≤ v) (j == q) (c.marks q) (c.told j) (λ z. let same = ap c.marks (eqb-true j q z) in let l = b j in omega arith) (λ z. omega arith)

-- ---- producers

pub acked_bound : (x : Producer) (t u : ℕ) → ProducerBound x → ProducerBound (acked_to x t u)
acked_bound x t u b = record { above = λ j c. go j c (j == t) (eqb-true j t) }
  where
    go : (j c : ℕ) (e : Bool) → (e ≡ true → j ≡ t) → (if e then max (x.lows t) u else x.lows j) < (if e then max (x.cursors t c) (max (x.lows t) u + 1) else x.cursors j c)
    go j c true z = omega arith
    go j c false z = b.above j c

pub leading_bound : (x : Producer) (term : ℕ) → ProducerBound x → ProducerBound (leading x term)
leading_bound x term b = if_elim ProducerBound (nat_lt x.term term) _ x (λ e. record { above = λ j c. omega arith }) (λ e. b)

pub sent_bound : (x : Producer) (d : Due) → d.number ≡ x.cursors d.to d.copy → ProducerBound x → ProducerBound (sent_on x d)
sent_bound x d e b = record {
  above = λ j c. let old = b.above j c in if_elim (λ v. x.lows j < v) ((j == d.to) && (c == d.copy)) (d.number + 1) (x.cursors j c)
      (λ z. let is = eqb-true j d.to (both (j == d.to) (c == d.copy) z).0 in let same = ap x.lows is in let at = b.above d.to d.copy in omega arith) (λ z. old);
}

-- lows stay at most what is acknowledged

pub acked_lows : (j : ℕ → ℕ) (x : Producer) (t u : ℕ) → u ≤ j t → ((i : ℕ) → x.lows i ≤ j i) → (i : ℕ) → (acked_to x t u).lows i ≤ j i
acked_lows j x t u h old i = if_elim (λ v. v ≤ j i) (i == t) (max (x.lows t) u) (x.lows i)
    (λ e. let same = eqb-true i t e in let at = ap j same in let low = old t in omega arith) (λ e. old i)

pub leading_lows : (j : ℕ → ℕ) (x : Producer) (term : ℕ) → ((i : ℕ) → x.lows i ≤ j i) → (i : ℕ) → (leading x term).lows i ≤ j i
leading_lows j x term old = if_elim (λ (y : Producer). (i : ℕ) → y.lows i ≤ j i) (nat_lt x.term term) _ x (λ e. old) (λ e. old)
