-- Lists of a move, one entry after another.
use Rattle.std.proofs.Common.{◌≡◌, ℕ, zero, suc, ◌+◌, ◌-◌, ◌<◌, ◌≤◌, List, [], ◌∷◌, ◌++◌, length, take, refl, sym, ap, subst, ◌∙◌, append_assoc, Some, None, slice_get, arith}
use Rattle.std.specs.Prelude.{Bool, true, false, nat_eq, nat_le, if◌then◌else◌}
use Rattle.std.proofs.lemmas.Bool.Decides.{nat_tests}
use Rattle.tuple_edge.specs.declared.item.Item.{Item}
use Rattle.tuple_edge.specs.declared.packet.Entry.{Entry}
use Rattle.ack_buffer.specs.Buffer.{BufferView, item_at}
use Rattle.flux_producer.specs.ProducerView.{ProducerView, buffer_at}
use Rattle.move_list.specs.Pieces.{FilledBelow, IsFilled}
use Rattle.tuple_edge.specs.Entries.{each_below, numbered}

-- one more item
pub numbered_next : (f : ℕ → Item → Entry) (n k : ℕ) (x : Item) (xs : List Item) → slice_get xs k ≡ Some x → numbered f n (take (k + 1) xs) ≡ numbered f n (take k xs) ++ f (n + k + 1) x ∷ []
numbered_next f n zero x [] is = cc
numbered_next f n zero x (y ∷ ys) is =
    let same : y ≡ x = cc in
    let here : n + 1 ≡ n + 0 + 1 = omega arith in
    ap (λ z. f (n + 1) z ∷ []) same ∙ ap (λ m. f m x ∷ []) here
numbered_next f n (suc k) x [] is = cc
numbered_next f n (suc k) x (y ∷ ys) is =
    let moved : n + 1 + k + 1 ≡ n + suc k + 1 = omega arith in
    let count : suc k + 1 ≡ suc (k + 1) = omega arith in
    ap (λ j. numbered f n (take j (y ∷ ys))) count
    ∙ ap (λ es. f (n + 1) y ∷ es) (numbered_next f (n + 1) k x ys is ∙ ap (λ m. numbered f (n + 1) (take k ys) ++ f m x ∷ []) moved)

-- the same after other entries
pub push_numbered : (f : ℕ → Item → Entry) (n k : ℕ) (x : Item) (xs : List Item) (before out : List Entry)
    → out ≡ before ++ numbered f n (take k xs) → slice_get xs k ≡ Some x → out ++ f (n + k + 1) x ∷ [] ≡ before ++ numbered f n (take (k + 1) xs)
push_numbered f n k x xs before out is there =
    ap (λ es. es ++ f (n + k + 1) x ∷ []) is
    ∙ append_assoc before (numbered f n (take k xs)) (f (n + k + 1) x ∷ [])
    ∙ ap (λ es. before ++ es) (sym (numbered_next f n k x xs there))

pub push_at : (f : ℕ → Item → Entry) (number n k : ℕ) (x : Item) (xs : List Item) (before out : List Entry)
    → number ≡ n + k + 1 → out ≡ before ++ numbered f n (take k xs) → slice_get xs k ≡ Some x → out ++ f number x ∷ [] ≡ before ++ numbered f n (take (k + 1) xs)
push_at f number n k x xs before out same is there = ap (λ j. out ++ f j x ∷ []) same ∙ push_numbered f n k x xs before out is there

-- the item kept under a number
pub kept_got : (b : BufferView) (number k : ℕ) (x : Item) → number ≡ b.low + k + 1 → item_at b number ≡ Some x → slice_get b.items k ≡ Some x
kept_got b number k x same got = by_test (nat_le number b.low) refl got
  where
    by_test : (t : Bool) → nat_le number b.low ≡ t → (if t then None else slice_get b.items (number - b.low - 1)) ≡ Some x → slice_get b.items k ≡ Some x
    by_test true is got = cc
    by_test false is got =
        let here : k ≡ number - b.low - 1 = omega (arith, same) in
        ap (slice_get b.items) here ∙ got

-- an item stands at each place of a list
pub some_there : {X : Type 0} (xs : List X) (k : ℕ) → k < length xs → slice_get xs k ≡ None → ⊥
some_there [] k within none = omega arith
some_there (x ∷ xs) zero within none = cc
some_there (x ∷ xs) (suc k) within none = some_there xs k (omega arith) none

-- what stands at a place of two lists, one after the other
pub get_left : {X : Type 0} (xs ys : List X) (k : ℕ) → k < length xs → slice_get (xs ++ ys) k ≡ slice_get xs k
get_left [] ys k within = absurd (omega arith)
get_left (x ∷ xs) ys zero within = refl
get_left (x ∷ xs) ys (suc k) within = get_left xs ys k (omega arith)

pub get_right : {X : Type 0} (xs ys : List X) (k d : ℕ) → k ≡ length xs + d → slice_get (xs ++ ys) k ≡ slice_get ys d
get_right [] ys k d is =
    let same : k ≡ d = omega arith in
    ap (slice_get ys) same
get_right (x ∷ xs) ys zero d is = absurd (omega arith)
get_right (x ∷ xs) ys (suc k) d is = get_right xs ys k d (omega arith)

pub none_past : {X : Type 0} (xs : List X) (k : ℕ) → slice_get xs k ≡ None → length xs ≤ k
none_past [] k none = omega arith
none_past (x ∷ xs) zero none = cc
none_past (x ∷ xs) (suc k) none = let later : length xs ≤ k = none_past xs k none in omega (arith, later)

-- one more buffer is filled
pub filled_next : (p : ProducerView) (n : ℕ) → FilledBelow p n → IsFilled (buffer_at p n) → FilledBelow p (n + 1)
filled_next p n before here t below = by_same (nat_eq t n) refl
  where
    by_same : (s : Bool) → nat_eq t n ≡ s → IsFilled (buffer_at p t)
    by_same true is =
        let same : n ≡ t = grind (arith, nat_tests, is) in
        subst (λ j. IsFilled (buffer_at p j)) same here
    by_same false is = before t (grind (arith, nat_tests, is, below))

-- the entries of one more edge
pub below_next : (f : ℕ → List Entry) (n : ℕ) (out new before : List Entry) → out ≡ before ++ each_below n f → new ≡ out ++ f n → new ≡ before ++ each_below (n + 1) f
below_next f n out new before is more =
    let next : suc n ≡ n + 1 = omega arith in
    more ∙ ap (λ es. es ++ f n) is ∙ append_assoc before (each_below n f) (f n) ∙ ap (λ k. before ++ each_below k f) next
