-- Rows among which a row is, and rows of which some have a mark.
use Rattle.std.proofs.Common.{ℕ, ◌≡◌, ◌+◌, ◌<◌, ◌≤◌, ◌∙◌, Bool, true, false, List, [], ◌∷◌, Option, None, Some, ap, arith, cond, get_or, length, refl, subst, sym}
use Rattle.std.specs.Prelude.{All, is_some, nat_lt, option_map, slice_index_or}
use Rattle.std.specs.Bool.{Decides}
use Rattle.std.specs.List.{Contains, position, position_or_len}
use Rattle.std.proofs.lemmas.Bool.Decides.{Decides-and, Decides-int_eq, nat_tests}
use Rattle.std.proofs.lemmas.List.Elements.{All-cons, All-head, All-nil, All-tail}
use Rattle.std.proofs.lemmas.List.Quantifiers.{position-Some}
use Rattle.std.proofs.lemmas.List.Sums.{fails_before_first}
use Rattle.tuple_edge.specs.declared.row.Row.{Row}
use Rattle.origin_text.specs.Alone.{is_same, marked_from, number_among}

abbrev Alike : Row → Row → Type 0
Alike a b = ((((a.time ≡ b.time) × (a.account ≡ b.account)) × (a.symbol ≡ b.symbol)) × (a.qty ≡ b.qty)) × (a.value ≡ b.value)

alike_decides : (a b : Row) → Decides (is_same a b) (Alike a b)
alike_decides a b =
    Decides-and _ _ (Decides-and _ _ (Decides-and _ _ (Decides-and _ _ (Decides-int_eq a.time b.time) (Decides-int_eq a.account b.account)) (Decides-int_eq a.symbol b.symbol)) (Decides-int_eq a.qty b.qty)) (Decides-int_eq a.value b.value)

alike_is : (a b : Row) → Alike a b → b ≡ a
alike_is a b alike = λ i. record { time = sym alike.0.0.0.0 i; account = sym alike.0.0.0.1 i; symbol = sym alike.0.0.1 i; qty = sym alike.0.1 i; value = sym alike.1 i }

-- rows that are alike in each column are one
same_is : (a b : Row) → is_same a b ≡ true → b ≡ a
same_is a b e = alike_is a b ((alike_decides a b).0 e)

same_self : (a : Row) → is_same a a ≡ true
same_self a = (alike_decides a a).1 ((((refl, refl), refl), refl), refl)

-- with one more row, or without it
kept_all : (P : Row → Type 0) (t : Bool) (r : Row) (rows : List Row) → P r → All P rows → All P (cond t (r ∷ rows) rows)
kept_all P true r rows one all = All-cons P r rows one all
kept_all P false r rows one all = all

some_of : {X : Type 0} (o : Option X) → is_some o ≡ true → (x : X) × (o ≡ Some x)
some_of (Some x) e = (x, refl)
some_of None e = absurd cc

first_within : (r : Row) (rows : List Row) (k : ℕ) → get_or rows k r ≡ r → position_or_len (is_same r) rows ≤ k
first_within r rows k e =
    let p = is_same r in
    let passes : p (get_or rows k r) ≡ true = ap p e ∙ same_self r in
    let not_before : k < position_or_len p rows → ⊥ = λ h. let fails = fails_before_first p rows k r h in cc in
    omega (arith, not_before)

-- whether there is one doesn't change where one is added
one_more : (o : Option ℕ) → is_some (option_map (λ (n : ℕ). n + 1) o) ≡ is_some o
one_more (Some n) = refl
one_more None = refl

place_decides : (r : Row) (rows : List Row) → Decides (is_some (position (is_same r) rows)) (Contains rows r)
place_decides r rows =
    let p = is_same r in
    let n = position_or_len p rows in (
      λ e. let found = some_of (position p rows) e in
          let at = position-Some p rows found.0 r found.1 in
          (found.0, at.0, same_is r (get_or rows found.0 r) at.1),
      λ among. let few = first_within r rows among.0 among.2 in
          let lt : nat_lt n (length rows) ≡ true = grind (arith, nat_tests, few, among.1) in
          ap (λ (t : Bool). is_some (cond t (Some n) None)) lt,
    )

-- a number is found exactly where the row is among them
pub number_decides : (r : Row) (rows : List Row) → Decides (is_some (number_among r rows)) (Contains rows r)
number_decides r rows = subst (λ (t : Bool). Decides t (Contains rows r)) (sym (one_more (position (is_same r) rows))) (place_decides r rows)

-- what holds of all rows holds of those that have a mark
pub marked_all : (P : Row → Type 0) (place : ℕ) (rows : List Row) (marks : List Bool) → All P rows → All P (marked_from place rows marks)
marked_all P place [] marks all = All-nil P
marked_all P place (r ∷ rows) marks all = kept_all P (slice_index_or marks place false) r (marked_from (place + 1) rows marks) (All-head P r rows all) (marked_all P (place + 1) rows marks (All-tail P r rows all))
