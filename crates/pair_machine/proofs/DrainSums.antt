-- Sums of what is left on some edges, as one item of one edge is taken.
use Rattle.std.proofs.Common.{◌≡◌, ◌<◌, ◌≤◌, ◌⊎◌, inl, inr, ℕ, zero, suc, true, false, refl, subst, arith}
use Rattle.std.specs.Prelude.{◌==◌, ◌-◌, ◌+◌}
use Rattle.std.proofs.lemmas.Bool.{cases_lt}
use Rattle.pair_machine.specs.Consumers.{pulled}
use Rattle.pair_machine.specs.Numbers.{Consumer}
use Rattle.pair_machine.specs.Replicas.{sum_below}
use Rattle.pair_machine.proofs.Tests.{nat_not, nat_self}

pub sum_same : (n : ℕ) (g h : ℕ → ℕ) → ((j : ℕ) → j < n → g j ≡ h j) → sum_below n g ≡ sum_below n h
sum_same zero g h e = refl
sum_same (suc n) g h e = λ i. sum_same n g h (λ j l. e j (omega arith)) i + e n (omega arith) i

pub sum_some : (n : ℕ) (g : ℕ → ℕ) (m : ℕ) → sum_below n g ≡ suc m → (q : ℕ) × (q < n) × (1 ≤ g q)
sum_some zero g m e = absurd (omega arith)
sum_some (suc n) g m e = go (sum_below n g) refl (λ k z. sum_some n g k z)
  where
    go : (k : ℕ) → sum_below n g ≡ k → ((j : ℕ) → sum_below n g ≡ suc j → (q : ℕ) × (q < n) × (1 ≤ g q)) → (q : ℕ) × (q < suc n) × (1 ≤ g q)
    go zero z before = (n, omega arith, let y = e in omega arith)
    go (suc k) z before = let r = before k z in (r.0, omega (arith, r.1), r.2)

pub sum_none : (n : ℕ) (g : ℕ → ℕ) → sum_below n g ≡ 0 → (q : ℕ) → q < n → g q ≡ 0
sum_none zero g e q l = absurd (omega arith)
sum_none (suc n) g e q l = go (cases_lt q n) (sum_none n g (omega arith) q)
  where
    go : (q < n) ⊎ (n ≤ q) → (q < n → g q ≡ 0) → g q ≡ 0
    go (inl h) before = before h
    go (inr h) before = let same : n ≡ q = omega arith in subst (λ k. g k ≡ 0) same (omega arith)

pub marks_other : (c : Consumer) (q j : ℕ) → (j ≡ q → ⊥) → (pulled c q).marks j ≡ c.marks j
marks_other c q j h = let z : (j == q) ≡ false = nat_not j q h in simp z

pub marks_self : (c : Consumer) (q : ℕ) → (pulled c q).marks q ≡ c.marks q + 1
marks_self c q = let z : (q == q) ≡ true = nat_self q in simp z

-- taking one item of an edge with something left leaves one less of all
pub sum_pulled : (n : ℕ) (len : ℕ → ℕ) (c : Consumer) (q : ℕ) → q < n → c.marks q < len q → sum_below n (λ j. len j - c.marks j) ≡ suc (sum_below n (λ j. len j - (pulled c q).marks j))
sum_pulled zero len c q l h = absurd (omega arith)
sum_pulled (suc n) len c q l h = go (cases_lt q n) (λ z. sum_pulled n len c q z h)
  where
    go : (q < n) ⊎ (n ≤ q) → (q < n → sum_below n (λ j. len j - c.marks j) ≡ suc (sum_below n (λ j. len j - (pulled c q).marks j))) →
        sum_below n (λ j. len j - c.marks j) + (len n - c.marks n) ≡ suc (sum_below n (λ j. len j - (pulled c q).marks j) + (len n - (pulled c q).marks n))
    go (inl z) before = let a = before z in let b = marks_other c q n (λ e. omega arith) in omega arith
    go (inr z) before =
        let same : q ≡ n = omega arith in
        let a = sum_same n (λ j. len j - c.marks j) (λ j. len j - (pulled c q).marks j) (λ j k. let b = marks_other c q j (λ e. omega arith) in omega arith) in
        let own : (pulled c q).marks n ≡ c.marks n + 1 = subst (λ k. (pulled c q).marks k ≡ c.marks k + 1) same (marks_self c q) in
        let few : c.marks n < len n = subst (λ k. c.marks k < len k) same h in
        omega arith
