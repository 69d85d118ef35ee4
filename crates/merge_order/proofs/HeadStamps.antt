-- The stamps of the heads and the count of the edges where nothing waits, as an item comes to an edge or goes from it.
use Rattle.std.proofs.Common.{◌≡◌, ◌<◌, ◌≤◌, ℕ, zero, suc, true, false, List, [], ◌∷◌, ◌++◌, ◌+◌, refl, sym, ap, ◌∙◌, arith, drop, take, get_or, length, map, replicate, set}
use Rattle.std.specs.Prelude.{◌==◌, if◌then◌else◌}
use Rattle.std.proofs.lemmas.List.{length-set, map-set}
use Rattle.std.proofs.lemmas.List.Folds.{sum_by-replicate}
use Rattle.std.proofs.lemmas.List.Sums.{sum_by-cons, sum_by-set}
use Rattle.std.proofs.Math.Seq.{map-set_same}
use Rattle.tuple_edge.specs.declared.item.Item.{Item}
use Rattle.tuple_edge.specs.Item.{stamp_of}
use Rattle.merge_order.specs.HeadStamps.{empty_count, head_stamp, starts_with}
use Rattle.merge_order.specs.MergeView.{all_wait, has_item, without}
use Rattle.merge_order.proofs.Choices.{nat_not}

-- what a queue adds to the count of the empty ones
abbrev empty_one : List Item → ℕ
empty_one w = if has_item w then 0 else 1

one_none : (w : List Item) → length w ≡ 0 → empty_one w ≡ 1
one_none [] e = refl
one_none (i ∷ w) e = absurd (omega arith)

one_some : (w : List Item) → 1 ≤ length w → empty_one w ≡ 0
one_some [] l = absurd (omega arith)
one_some (i ∷ w) l = refl

one_pushed : (w : List Item) (i : Item) → empty_one (w ++ i ∷ []) ≡ 0
one_pushed [] i = refl
one_pushed (j ∷ w) i = refl

count_cons : (w : List Item) (ws : List (List Item)) → empty_count (w ∷ ws) ≡ empty_one w + empty_count ws
count_cons w ws = sum_by-cons empty_one w ws

count_set : (ws : List (List Item)) (k : ℕ) (new : List Item) → k < length ws → empty_count (set ws k new) + empty_one (get_or ws k []) ≡ empty_count ws + empty_one new
count_set ws k new l = sum_by-set empty_one ws k new [] l

count_most : (ws : List (List Item)) → empty_count ws ≤ length ws
count_most [] = omega arith
count_most ([] ∷ ws) = omega (arith, count_cons [] ws, count_most ws)
count_most ((i ∷ w) ∷ ws) = omega (arith, count_cons (i ∷ w) ws, count_most ws)

-- no edge is empty just where each has an item
pub none_empty : (ws : List (List Item)) → (empty_count ws == 0) ≡ all_wait ws
none_empty [] = refl
none_empty ([] ∷ ws) = nat_not (empty_count ([] ∷ ws)) 0 (λ e. let z : ⊥ = omega (arith, count_cons [] ws) in z)
none_empty ((i ∷ w) ∷ ws) = let same : empty_count ((i ∷ w) ∷ ws) ≡ empty_count ws = omega (arith, count_cons (i ∷ w) ws) in ap (λ n. n == 0) same ∙ none_empty ws

-- where nothing waits on any of n edges
pub stamps_opening : (n : ℕ) → replicate n 0 ≡ map head_stamp (replicate n [])
stamps_opening zero = refl
stamps_opening (suc n) = ap (λ x. 0 ∷ x) (stamps_opening n)

pub count_opening : (n : ℕ) → n ≡ empty_count (replicate n [])
count_opening n = omega (arith, sum_by-replicate empty_one n [])

-- where an edge has another head
pub stamps_set : (ws : List (List Item)) (k : ℕ) (new : List Item) (stamp : ℕ) → stamp ≡ head_stamp new → set (map head_stamp ws) k stamp ≡ map head_stamp (set ws k new)
stamps_set ws k new stamp e = ap (set (map head_stamp ws) k) e ∙ sym (map-set head_stamp ws k new)

-- an item that comes to an edge ---------------------------------------------------------------------

stamp_first : (w : List Item) (i : Item) → length w ≡ 0 → head_stamp (w ++ i ∷ []) ≡ stamp_of i
stamp_first [] i e = refl
stamp_first (j ∷ w) i e = absurd (omega arith)

stamp_more : (w : List Item) (i : Item) → 1 ≤ length w → head_stamp (w ++ i ∷ []) ≡ head_stamp w
stamp_more [] i l = absurd (omega arith)
stamp_more (j ∷ w) i l = refl

-- to one where nothing waited
pub stamps_first : (ws : List (List Item)) (k : ℕ) (i : Item) → length (get_or ws k []) ≡ 0 → set (map head_stamp ws) k (stamp_of i) ≡ map head_stamp (set ws k (get_or ws k [] ++ i ∷ []))
stamps_first ws k i none = stamps_set ws k (get_or ws k [] ++ i ∷ []) (stamp_of i) (sym (stamp_first (get_or ws k []) i none))

pub count_first : (ws : List (List Item)) (k : ℕ) (i : Item) → k < length ws → length (get_or ws k []) ≡ 0 → empty_count (set ws k (get_or ws k [] ++ i ∷ [])) + 1 ≡ empty_count ws
count_first ws k i l none = omega (arith, count_set ws k (get_or ws k [] ++ i ∷ []) l, one_none (get_or ws k []) none, one_pushed (get_or ws k []) i)

-- to one where something waits
pub stamps_more : (ws : List (List Item)) (k : ℕ) (i : Item) → 1 ≤ length (get_or ws k []) → map head_stamp ws ≡ map head_stamp (set ws k (get_or ws k [] ++ i ∷ []))
stamps_more ws k i some = sym (map-set_same head_stamp ws k (get_or ws k [] ++ i ∷ []) [] (stamp_more (get_or ws k []) i some))

pub count_more : (ws : List (List Item)) (k : ℕ) (i : Item) → k < length ws → 1 ≤ length (get_or ws k []) → empty_count (set ws k (get_or ws k [] ++ i ∷ [])) ≡ empty_count ws
count_more ws k i l some = omega (arith, count_set ws k (get_or ws k [] ++ i ∷ []) l, one_some (get_or ws k []) some, one_pushed (get_or ws k []) i)

-- a head that goes -----------------------------------------------------------------------------------

-- and leaves the edge empty
pub count_last : (ws : List (List Item)) (k : ℕ) (new : List Item) → k < length ws → 1 ≤ length (get_or ws k []) → length new ≡ 0 → empty_count ws + 1 ≡ empty_count (set ws k new)
count_last ws k new l some none = omega (arith, count_set ws k new l, one_some (get_or ws k []) some, one_none new none)

-- and leaves the next one as the head
pub count_next : (ws : List (List Item)) (k : ℕ) (new : List Item) → k < length ws → 1 ≤ length (get_or ws k []) → 1 ≤ length new → empty_count ws ≡ empty_count (set ws k new)
count_next ws k new l some next = omega (arith, count_set ws k new l, one_some (get_or ws k []) some, one_some new next)

-- there is room for one more in the count
pub count_room : (ws : List (List Item)) (k : ℕ) → k < length ws → 1 ≤ length (get_or ws k []) → empty_count ws + 1 ≤ length ws
count_room ws k l some =
    omega (arith, count_set ws k [] l, one_some (get_or ws k []) some, count_most (set ws k []), length-set ws k [])

-- a mark or an end that goes from each edge that has it first -------------------------------------------

-- an edge that has it first has an item
pub start_waits : (sign : Item) (w : List Item) → starts_with sign w ≡ true → 1 ≤ length w
start_waits sign [] e = let z : ⊥ = cc e in absurd z
start_waits sign (i ∷ w) e = omega arith

sign_goes : (sign : Item) (w : List Item) → starts_with sign w ≡ true → without sign w ≡ drop 1 w
sign_goes sign [] e = let z : ⊥ = cc e in absurd z
sign_goes sign (i ∷ w) e = ap (λ b. if b then w else i ∷ w) e

other_stays : (sign : Item) (w : List Item) → starts_with sign w ≡ false → without sign w ≡ w
other_stays sign [] e = refl
other_stays sign (i ∷ w) e = ap (λ b. if b then w else i ∷ w) e

-- the queues of which those before the k-th were changed
abbrev pub changed_upto : (List Item → List Item) → ℕ → List (List Item) → List (List Item)
changed_upto f k ws = map f (take k ws) ++ drop k ws

pub changed_at : (f : List Item → List Item) (ws : List (List Item)) (k : ℕ) → k < length ws → get_or (changed_upto f k ws) k [] ≡ get_or ws k []
changed_at f [] k l = absurd (omega arith)
changed_at f (w ∷ ws) zero l = refl
changed_at f (w ∷ ws) (suc k) l = changed_at f ws k (omega arith)

pub changed_length : (f : List Item → List Item) (ws : List (List Item)) (k : ℕ) → length (changed_upto f k ws) ≡ length ws
changed_length f ws zero = refl
changed_length f [] (suc k) = refl
changed_length f (w ∷ ws) (suc k) = omega (arith, changed_length f ws k)

pub change_one : (f : List Item → List Item) (ws : List (List Item)) (k : ℕ) → k < length ws → set (changed_upto f k ws) k (f (get_or ws k [])) ≡ changed_upto f (suc k) ws
change_one f [] k l = absurd (omega arith)
change_one f (w ∷ ws) zero l = refl
change_one f (w ∷ ws) (suc k) l = ap (λ x. f w ∷ x) (change_one f ws k (omega arith))

pub keep_one : (f : List Item → List Item) (ws : List (List Item)) (k : ℕ) → k < length ws → f (get_or ws k []) ≡ get_or ws k [] → changed_upto f k ws ≡ changed_upto f (suc k) ws
keep_one f [] k l e = absurd (omega arith)
keep_one f (w ∷ ws) zero l e = ap (λ x. x ∷ ws) (sym e)
keep_one f (w ∷ ws) (suc k) l e = ap (λ x. f w ∷ x) (keep_one f ws k (omega arith) e)

-- the queues before the k-th were gone over; the k-th has the sign first
pub sign_popped : (sign : Item) (ws now : List (List Item)) (k : ℕ) → k < length ws → now ≡ changed_upto (without sign) k ws → starts_with sign (get_or now k []) ≡ true
    → set now k (drop 1 (get_or now k [])) ≡ changed_upto (without sign) (suc k) ws
sign_popped sign ws now k l e first =
    let same : get_or now k [] ≡ get_or ws k [] = ap (λ x. get_or x k []) e ∙ changed_at (without sign) ws k l in
    let goes : without sign (get_or ws k []) ≡ drop 1 (get_or ws k []) = sign_goes sign (get_or ws k []) (ap (starts_with sign) (sym same) ∙ first) in
    ap (λ x. set x k (drop 1 (get_or now k []))) e ∙ (ap (set (changed_upto (without sign) k ws) k) (ap (drop 1) same ∙ sym goes) ∙ change_one (without sign) ws k l)

-- or has something else first
pub sign_passed : (sign : Item) (ws now : List (List Item)) (k : ℕ) → k < length ws → now ≡ changed_upto (without sign) k ws → starts_with sign (get_or now k []) ≡ false
    → now ≡ changed_upto (without sign) (suc k) ws
sign_passed sign ws now k l e other =
    let same : get_or now k [] ≡ get_or ws k [] = ap (λ x. get_or x k []) e ∙ changed_at (without sign) ws k l in
    e ∙ keep_one (without sign) ws k l (other_stays sign (get_or ws k []) (ap (starts_with sign) (sym same) ∙ other))
