-- The least head is that of the first edge with the least stamp, where that is a row and each edge has a head.
use Rattle.std.proofs.Common.{◌≡◌, ◌<◌, ◌≤◌, ℕ, zero, suc, Bool, true, false, List, [], ◌∷◌, Option, None, Some, ◌+◌, ◌⊎◌, inl, inr, refl, sym, ap, ◌∙◌, subst, arith, get_or, length, map}
use Rattle.std.specs.Prelude.{fold, if◌then◌else◌, is_some, nat_lt, slice_get}
use Rattle.std.specs.List.{IsFirstBest}
use Rattle.std.proofs.lemmas.Bool.{cases_lt, ltb-true, ltb-false}
use Rattle.std.proofs.lemmas.List.{get_or-map, length-map}
use Rattle.tuple_edge.specs.declared.item.Item.{Item}
use Rattle.tuple_edge.specs.Item.{kind_of, stamp_of}
use Rattle.merge_order.specs.declared.head.Head.{Head}
use Rattle.merge_order.specs.HeadStamps.{head_stamp}
use Rattle.merge_order.specs.MergeView.{all_wait, heads_from, least, lesser}
use Rattle.merge_order.proofs.Heads.{Earlier, HeadStands, HeadsStand, found_is, head_at, heads_of, least_from, least_in, least_is, rank}

-- what holds of the head of the edge of source q, where the least is item i of source at
abbrev StandsHere : ℕ → Item → ℕ → List Item → Type 0
StandsHere at i q [] = ⊥
StandsHere at i q (head ∷ w) = HeadStands at i q head

stands_from : (at : ℕ) (i : Item) (q : ℕ) (ws : List (List Item)) → HeadsStand at i q ws → (k : ℕ) → k < length ws → StandsHere at i (q + k) (get_or ws k [])
stands_from at i q [] h k l = absurd (omega arith)
stands_from at i q ([] ∷ ws) h k l = absurd h
stands_from at i q ((x ∷ w) ∷ ws) h zero l = let same : q ≡ q + 0 = omega arith in subst (λ n. HeadStands at i n x) same h.0
stands_from at i q ((x ∷ w) ∷ ws) h (suc k) l =
    let same : (q + 1) + k ≡ q + suc k = omega arith in
    subst (λ n. StandsHere at i n (get_or ws k [])) same (stands_from at i (q + 1) ws h.1 k (omega arith))

stands_at : (at : ℕ) (i : Item) (ws : List (List Item)) → HeadsStand at i 0 ws → (k : ℕ) → k < length ws → StandsHere at i k (get_or ws k [])
stands_at at i ws h k l = let same : 0 + k ≡ k = omega arith in subst (λ n. StandsHere at i n (get_or ws k [])) same (stands_from at i 0 ws h k l)

same_stamp : (at : ℕ) (i : Item) (q : ℕ) (w : List Item) → StandsHere at i q w → q ≡ at → head_stamp w ≡ stamp_of i
same_stamp at i q [] h e = absurd h
same_stamp at i q (x ∷ w) h e = ap stamp_of (h.same e)

stands_item : (at : ℕ) (i : Item) (q : ℕ) (w : List Item) (x : Item) → StandsHere at i q w → Some x ≡ slice_get w 0 → HeadStands at i q x
stands_item at i q [] x h is = absurd h
stands_item at i q (y ∷ w) x h is = let same : y ≡ x = cc is in subst (HeadStands at i q) same h

stamp_is : (w : List Item) (x : Item) → Some x ≡ slice_get w 0 → head_stamp w ≡ stamp_of x
stamp_is [] x is = let z : ⊥ = cc is in absurd z
stamp_is (y ∷ w) x is = let same : y ≡ x = cc is in ap stamp_of same

-- where the first edge with the least stamp has a row first, that edge is the one of the least head
row_is : (at : ℕ) (i : Item) (ws : List (List Item)) (place : ℕ) (x : Item) → HeadsStand at i 0 ws → at < length ws
    → IsFirstBest nat_lt (map head_stamp ws) (length (map head_stamp ws)) place → Some x ≡ slice_get (get_or ws place []) 0 → kind_of x ≡ 0 → place ≡ at
row_is at i ws place x h within best is row = by (cases_lt place at) (cases_lt at place)
  where
    long : length (map head_stamp ws) ≡ length ws
    long = length-map ws head_stamp

    there : place < length ws
    there = omega (arith, long, best.0)

    stamp_at : (k : ℕ) → k < length ws → get_or (map head_stamp ws) k 0 ≡ head_stamp (get_or ws k [])
    stamp_at k l = get_or-map head_stamp ws k [] 0 l

    least_stamp : head_stamp (get_or ws at []) ≡ stamp_of i
    least_stamp = same_stamp at i at (get_or ws at []) (stands_at at i ws h at within) (omega arith)

    place_stamp : head_stamp (get_or ws place []) ≡ stamp_of x
    place_stamp = stamp_is (get_or ws place []) x is

    stands : HeadStands at i place x
    stands = stands_item at i place (get_or ws place []) x (stands_at at i ws h place there) is

    not_before : place < at → ⊥
    not_before l =
        let above : rank i < rank x = stands.earlier l in
        let least = ltb-false _ _ (best.1 at 0 (omega (arith, long, within))) in
        omega (arith, above, least, row, least_stamp, place_stamp, stamp_at at within, stamp_at place there)

    not_behind : at < place → ⊥
    not_behind l =
        let above : rank i ≤ rank x = stands.later l in
        let below = ltb-true _ _ (best.2 at 0 l) in
        omega (arith, above, below, row, least_stamp, place_stamp, stamp_at at within, stamp_at place there)

    by : (place < at) ⊎ (at ≤ place) → (at < place) ⊎ (place ≤ at) → place ≡ at
    by (inl l) b = absurd (not_before l)
    by (inr l) (inl m) = absurd (not_behind m)
    by (inr l) (inr m) = omega (arith, l, m)

within_is : (ws : List (List Item)) (head : Head) → least ws ≡ Some head → head.source < length ws
within_is ws head e =
    let found : least_from 0 None ws ≡ Some head = sym (least_is ws) ∙ e in
    let P : Option Head → Type 0 = Earlier (0 + length ws) in
    let within : head.source < 0 + length ws = subst P found (least_in ws 0 None tt) in
    omega (arith, within)

-- that row is the least head
pub least_row : (ws : List (List Item)) (place : ℕ) (i : Item) → 1 ≤ length ws → all_wait ws ≡ true
    → IsFirstBest nat_lt (map head_stamp ws) (length (map head_stamp ws)) place → Some i ≡ slice_get (get_or ws place []) 0 → kind_of i ≡ 0 → least ws ≡ Some (head_at place i)
least_row ws place i some all best is row = go (least ws) refl
  where
    go : (o : Option Head) → least ws ≡ o → least ws ≡ Some (head_at place i)
    go None e = let z : ⊥ = cc (ap is_some e, found_is ws some, all) in absurd z
    go (Some head) e =
        let stand = heads_of ws head.source head.item (sym (least_is ws) ∙ e) in
        let within = within_is ws head e in
        let place_is : place ≡ head.source = row_is head.source head.item ws place i stand within best is row in
        let here = stands_at head.source head.item ws stand place (omega (arith, within, place_is)) in
        let item_is : i ≡ head.item = (stands_item head.source head.item place (get_or ws place []) i here is).same place_is in
        e ∙ (λ k. Some (head_at (sym place_is k) (sym item_is k)))

pub least_none : (ws : List (List Item)) → all_wait ws ≡ false → least ws ≡ None
least_none ws e = ap (λ b. if b then fold lesser None (heads_from 0 ws) else None) e

-- where there is a least head, each edge has one
least_all : (ws : List (List Item)) (head : Head) → least ws ≡ Some head → all_wait ws ≡ true
least_all ws head e = go (all_wait ws) refl
  where
    go : (b : Bool) → all_wait ws ≡ b → all_wait ws ≡ true
    go true is = is
    go false is = let z : ⊥ = cc (least_none ws is, e) in absurd z

waits_at : (ws : List (List Item)) (k : ℕ) → all_wait ws ≡ true → k < length ws → 1 ≤ length (get_or ws k [])
waits_at [] k a l = absurd (omega arith)
waits_at ([] ∷ ws) k a l = let z : ⊥ = cc a in absurd z
waits_at ((i ∷ w) ∷ ws) zero a l = omega arith
waits_at ((i ∷ w) ∷ ws) (suc k) a l = waits_at ws k a (omega arith)

-- the edge of the least head is there, and something waits on it
pub least_waits : (ws : List (List Item)) (head : Head) → least ws ≡ Some head → (head.source < length ws) × (1 ≤ length (get_or ws head.source []))
least_waits ws head e = (within_is ws head e, waits_at ws head.source (least_all ws head e) (within_is ws head e))
