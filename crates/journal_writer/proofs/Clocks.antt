-- The least clock of logs: none begins before it, and where there is none, nothing is left of them.
use Rattle.std.proofs.Common.{◌≡◌, ◌∙◌, ◌<◌, ◌≤◌, ◌+◌, ◌-◌, ◌^◌, ℕ, List, [], ◌∷◌, Some, None, Option, min, refl, sym, ap, subst, arith}
use Rattle.tuple_edge.specs.declared.event.Stamped.{Stamped}
use Rattle.pair_machine.specs.Joint.{put_history}
use Rattle.pair_machine.specs.Lists.{Each}
use Rattle.pair_machine.proofs.Lists.{each_map}
use Rattle.journal_writer.specs.Merged.{AllBeginFrom, BeginsFrom, Named, earlier, first_clock, least_from, merged}

-- how many clocks there are from this one on
abbrev pub left_from : Option ℕ → ℕ
left_from None = 0
left_from (Some clock) = 2 ^ 64 - clock

-- no later than the other, where that is one
abbrev Under : Option ℕ → Option ℕ → Type 0
Under a None = Unit {0}
Under None (Some n) = ⊥
Under (Some m) (Some n) = m ≤ n

under_self : (a : Option ℕ) → Under a a
under_self None = tt
under_self (Some m) = omega arith

under_on : (a b c : Option ℕ) → Under a b → Under b c → Under a c
under_on a b None one other = tt
under_on a None (Some n) one other = absurd other
under_on None (Some m) (Some n) one other = absurd one
under_on (Some k) (Some m) (Some n) one other = omega (arith, one, other)

earlier_one : (a b : Option ℕ) → Under (earlier a b) a
earlier_one None b = tt
earlier_one (Some m) None = omega arith
earlier_one (Some m) (Some n) = omega arith

earlier_other : (a b : Option ℕ) → Under (earlier a b) b
earlier_other None b = under_self b
earlier_other (Some m) None = tt
earlier_other (Some m) (Some n) = omega arith

least_one : (a : Option ℕ) (logs : List Named) → Under (least_from a logs) a
least_one a [] = under_self a
least_one a (l ∷ logs) = under_on (least_from (earlier a (first_clock l.1)) logs) (earlier a (first_clock l.1)) a (least_one (earlier a (first_clock l.1)) logs) (earlier_one a (first_clock l.1))

least_others : (a : Option ℕ) (logs : List Named) → Each (λ (l : Named). Under (least_from a logs) (first_clock l.1)) logs
least_others a [] = tt
least_others a (l ∷ logs) = (
  under_on (least_from (earlier a (first_clock l.1)) logs) (earlier a (first_clock l.1)) (first_clock l.1) (least_one (earlier a (first_clock l.1)) logs) (earlier_other a (first_clock l.1)),
  least_others (earlier a (first_clock l.1)) logs,
)

begins : (clock : ℕ) (es : List Stamped) → Under (Some clock) (first_clock es) → BeginsFrom clock es
begins clock [] u = tt
begins clock (s ∷ ss) u = u

-- none begins before the least clock
pub none_before : (clock : ℕ) (logs : List Named) → least_from None logs ≡ Some clock → AllBeginFrom clock logs
none_before clock logs is =
    each_map (λ (l : Named). Under (least_from None logs) (first_clock l.1)) (λ (l : Named). BeginsFrom clock l.1)
    (λ l u. begins clock l.1 (subst (λ a. Under a (first_clock l.1)) is u)) logs (least_others None logs)

none_put : (es : List Stamped) (logs : List Named) (l : Named) → l.1 ≡ es → Under None (first_clock es) → merged logs ≡ [] → merged (l ∷ logs) ≡ []
none_put [] logs l is u rest = ap (λ hs. put_history l.0 hs (merged logs)) is ∙ rest
none_put (s ∷ ss) logs l is u rest = absurd u

all_none : (logs : List Named) → Each (λ (l : Named). Under None (first_clock l.1)) logs → merged logs ≡ []
all_none [] all = refl
all_none (l ∷ logs) all = none_put l.1 logs l refl all.0 (all_none logs all.1)

-- where there is no least clock, nothing is left
pub none_left : (logs : List Named) → least_from None logs ≡ None → merged logs ≡ []
none_left logs is = all_none logs (each_map (λ (l : Named). Under (least_from None logs) (first_clock l.1)) (λ (l : Named). Under None (first_clock l.1))
    (λ l u. subst (λ a. Under a (first_clock l.1)) is u) logs (least_others None logs))

-- ---- what is left is less

-- this clock or a later one, where there is one
abbrev IsFrom : ℕ → Option ℕ → Type 0
IsFrom clock None = Unit {0}
IsFrom clock (Some n) = clock ≤ n

earlier_from : (clock : ℕ) (a b : Option ℕ) → IsFrom clock a → IsFrom clock b → IsFrom clock (earlier a b)
earlier_from clock None b one other = other
earlier_from clock (Some m) None one other = one
earlier_from clock (Some m) (Some n) one other = omega (arith, one, other)

first_from : (clock : ℕ) (es : List Stamped) → BeginsFrom clock es → IsFrom clock (first_clock es)
first_from clock [] from = tt
first_from clock (s ∷ ss) from = from

least_is_from : (clock : ℕ) (a : Option ℕ) (logs : List Named) → IsFrom clock a → AllBeginFrom clock logs → IsFrom clock (least_from a logs)
least_is_from clock a [] one all = one
least_is_from clock a (l ∷ logs) one all = least_is_from clock (earlier a (first_clock l.1)) logs (earlier_from clock a (first_clock l.1) one (first_from clock l.1 all.0)) all.1

fewer : (clock : ℕ) (a : Option ℕ) → clock < 2 ^ 64 → IsFrom (clock + 1) a → left_from a < 2 ^ 64 - clock
fewer clock None limit from = omega (arith, limit)
fewer clock (Some n) limit from = omega (arith, limit, from)

-- where all begin later than the clock that was the least, fewer are left
pub less_left : (clock : ℕ) (old : Option ℕ) (logs : List Named) → old ≡ Some clock → clock < 2 ^ 64 → AllBeginFrom (clock + 1) logs → left_from (least_from None logs) < left_from old
less_left clock old logs is limit from = subst (λ a. left_from (least_from None logs) < left_from a) (sym is) (fewer clock (least_from None logs) limit (least_is_from (clock + 1) None logs tt from))
