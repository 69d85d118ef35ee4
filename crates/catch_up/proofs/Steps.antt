-- How a step goes over the parts of a move's list.
use Rattle.std.proofs.Common.{◌≡◌, ◌≢◌, ℕ, zero, suc, ◌+◌, ◌<◌, ◌≤◌, Bool, true, false, nat_eq, nat_lt, if◌then◌else◌, List, [], ◌∷◌, ◌++◌, fold, length, refl, sym, ap, ◌∙◌, slice_index_or, slice_set, arith}
use Rattle.std.proofs.lemmas.Bool.Decides.{nat_tests}
use Rattle.std.proofs.lemmas.List.{length-set, get_or-set_same, get_or-set_other}
use Rattle.std.proofs.lemmas.List.Sums.{fold-append}
use Rattle.tuple_edge.specs.declared.item.Item.{Item}
use Rattle.tuple_edge.specs.declared.packet.Entry.{Entry}
use Rattle.stream_ops.specs.Entries.{IsKeyed}
use Rattle.tuple_edge.specs.Entries.{each_below, numbered}

-- each is an operator's entry
abbrev pub AllKeyed : List Entry → Type 0
AllKeyed [] = Unit {0}
AllKeyed (e ∷ es) = IsKeyed e × AllKeyed es

-- the last of two writes stays
pub set_set : {X : Type 0} (xs : List X) (i : ℕ) (x y : X) → slice_set (slice_set xs i x) i y ≡ slice_set xs i y
set_set [] i x y = refl
set_set (z ∷ xs) zero x y = refl
set_set (z ∷ xs) (suc i) x y = ap (λ ys. z ∷ ys) (set_set xs i x y)

-- six lists, one after another
pub fold_six : {B : Type 0} (f : B → Entry → B) (z : B) (us bs cs ds es fs : List Entry)
    → fold f z (us ++ bs ++ cs ++ ds ++ es ++ fs) ≡ fold f (fold f (fold f (fold f (fold f (fold f z us) bs) cs) ds) es) fs
fold_six f z us bs cs ds es fs =
    fold-append f z (us ++ bs ++ cs ++ ds ++ es) fs
    ∙ ap (λ y. fold f y fs) (fold-append f z (us ++ bs ++ cs ++ ds) es
    ∙ ap (λ y. fold f y es) (fold-append f z (us ++ bs ++ cs) ds
    ∙ ap (λ y. fold f y ds) (fold-append f z (us ++ bs) cs
    ∙ ap (λ y. fold f y cs) (fold-append f z us bs))))

-- entries that a step passes over
pub skip_numbered : {B : Type 0} (step : B → Entry → B) (z : B) (f : ℕ → Item → Entry) → ((n : ℕ) (x : Item) → step z (f n x) ≡ z) → (n : ℕ) (xs : List Item) → fold step z (numbered f n xs) ≡ z
skip_numbered step z f skips n [] = refl
skip_numbered step z f skips n (x ∷ xs) = ap (λ y. fold step y (numbered f (n + 1) xs)) (skips (n + 1) x) ∙ skip_numbered step z f skips (n + 1) xs

pub skip_below : {B : Type 0} (step : B → Entry → B) (z : B) (es : ℕ → List Entry) → ((q : ℕ) → fold step z (es q) ≡ z) → (n : ℕ) → fold step z (each_below n es) ≡ z
skip_below step z es skips zero = refl
skip_below step z es skips (suc n) = fold-append step z (each_below n es) (es n) ∙ ap (λ y. fold step y (es n)) (skip_below step z es skips n) ∙ skips n

pub skip_keyed : {B : Type 0} (step : B → Entry → B) (z : B) → ((e : Entry) → IsKeyed e → step z e ≡ z) → (es : List Entry) → AllKeyed es → fold step z es ≡ z
skip_keyed step z skips [] keyed = refl
skip_keyed step z skips (e ∷ es) keyed = ap (λ y. fold step y es) (skips e keyed.0) ∙ skip_keyed step z skips es keyed.1

-- entries of each edge that write at its place
module _ {X : Type 0} (d : X) (step : List X → Entry → List X) (es : ℕ → List Entry) (g : ℕ → X → X)
    (each : (q : ℕ) (xs : List X) → q < length xs → fold step xs (es q) ≡ slice_set xs q (g q (slice_index_or xs q d))) where
  pub length_below : (k : ℕ) (xs : List X) → k ≤ length xs → length (fold step xs (each_below k es)) ≡ length xs
  length_below zero xs within = refl
  length_below (suc k) xs within =
      let before : length (fold step xs (each_below k es)) ≡ length xs = length_below k xs (omega (arith, within)) in
      ap length (fold-append step xs (each_below k es) (es k) ∙ each k (fold step xs (each_below k es)) (omega (arith, within, before)))
      ∙ length-set (fold step xs (each_below k es)) k _
      ∙ before

  -- up to an edge
  pub at_below : (k : ℕ) (xs : List X) (q : ℕ) → k ≤ length xs → q < length xs
      → slice_index_or (fold step xs (each_below k es)) q d ≡ (if nat_lt q k then g q (slice_index_or xs q d) else slice_index_or xs q d)
  at_below zero xs q within inside = let none : nat_lt q 0 ≡ false = grind (arith, nat_tests) in rw none refl
  at_below (suc k) xs q within inside =
      ap (λ ys. slice_index_or ys q d) (fold-append step xs (each_below k es) (es k) ∙ each k (fold step xs (each_below k es)) here)
      ∙ by_same (nat_eq q k) refl (at_below k xs q (omega (arith, within)) inside)
    where
      before : length (fold step xs (each_below k es)) ≡ length xs
      before = length_below k xs (omega (arith, within))

      here : k < length (fold step xs (each_below k es))
      here = omega (arith, within, before)

      by_same : (t : Bool) → nat_eq q k ≡ t
          → slice_index_or (fold step xs (each_below k es)) q d ≡ (if nat_lt q k then g q (slice_index_or xs q d) else slice_index_or xs q d)
          → slice_index_or (slice_set (fold step xs (each_below k es)) k (g k (slice_index_or (fold step xs (each_below k es)) k d))) q d
          ≡ (if nat_lt q (suc k) then g q (slice_index_or xs q d) else slice_index_or xs q d)
      by_same true is at =
          let same : q ≡ k = grind (arith, nat_tests, is) in
          let past : nat_lt q k ≡ false = grind (arith, nat_tests, same) in
          let within_it : nat_lt q (suc k) ≡ true = grind (arith, nat_tests, same) in
          let value : slice_index_or (fold step xs (each_below k es)) q d ≡ slice_index_or xs q d = at ∙ rw past refl in
          ap (λ j. slice_index_or (slice_set (fold step xs (each_below k es)) j (g j (slice_index_or (fold step xs (each_below k es)) j d))) q d) (sym same)
          ∙ get_or-set_same (fold step xs (each_below k es)) q _ d (omega (arith, inside, before))
          ∙ ap (g q) value
          ∙ rw within_it refl
      by_same false is at =
          let other : q ≢ k = λ same. no_more (ap (λ j. nat_eq q j) same) in
          let same_test : nat_lt q k ≡ nat_lt q (suc k) = grind (arith, nat_tests, is) in
          get_or-set_other (fold step xs (each_below k es)) k q _ d other
          ∙ at
          ∙ ap (λ t. if t then g q (slice_index_or xs q d) else slice_index_or xs q d) same_test
        where
          no_more : nat_eq q q ≡ nat_eq q k → ⊥
          no_more e = grind (arith, nat_tests, is, e)
