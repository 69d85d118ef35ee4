-- A merged item leaves fewer items that wait.
use Rattle.std.proofs.Common.{◌≡◌, ◌<◌, ◌≤◌, ℕ, zero, suc, Bool, true, false, List, [], ◌∷◌, ◌+◌, Option, None, Some, refl, sym, ap, ◌∙◌, subst, arith, drop, get_or, length, map, set}
use Rattle.std.specs.Prelude.{if◌then◌else◌, sum_by, OnSome}
use Rattle.std.proofs.lemmas.List.Sums.{sum_by-cons}
use Rattle.tuple_edge.specs.declared.item.Item.{Item}
use Rattle.tuple_edge.specs.declared.item.Item.TheVariants as item
use Rattle.merge_order.specs.declared.head.Head.{Head}
use Rattle.merge_order.specs.MergeView.{MergeView, after_head, all_wait, is_alike, item_of, least, taken_from, without}
use Rattle.merge_order.proofs.Choices.{nat_self}
use Rattle.merge_order.proofs.Heads.{Earlier, HeadsStand, heads_of, least_from, least_in, least_is}

-- how many items wait
abbrev pub wait_count : List (List Item) → ℕ
wait_count ws = sum_by length ws

wait_more : (w : List Item) (ws : List (List Item)) → wait_count (w ∷ ws) ≡ length w + wait_count ws
wait_more w ws = sum_by-cons length w ws

-- where each edge has an item, some item waits
pub some_wait : (ws : List (List Item)) → 1 ≤ length ws → all_wait ws ≡ true → 1 ≤ wait_count ws
some_wait [] l a = absurd (omega arith)
some_wait ([] ∷ ws) l a = let z : ⊥ = cc a in absurd z
some_wait ((i ∷ w) ∷ ws) l a = omega (arith, wait_more (i ∷ w) ws)

row_fewer : (at : ℕ) (i : Item) (q k : ℕ) (ws : List (List Item)) → at ≡ q + k → k < length ws → HeadsStand at i q ws → wait_count (set ws k (drop 1 (get_or ws k []))) + 1 ≡ wait_count ws
row_fewer at i q k [] e l h = absurd (omega arith)
row_fewer at i q k ([] ∷ ws) e l h = absurd h
row_fewer at i q zero ((x ∷ w) ∷ ws) e l h = omega (arith, wait_more w ws, wait_more (x ∷ w) ws)
row_fewer at i q (suc k) ((x ∷ w) ∷ ws) e l h =
    omega (arith, wait_more (x ∷ w) (set ws k (drop 1 (get_or ws k []))), wait_more (x ∷ w) ws, row_fewer at i (q + 1) k ws (omega arith) (omega arith) h.1)

without_most : (sign : Item) (w : List Item) → length (without sign w) ≤ length w
without_most sign [] = omega arith
without_most sign (i ∷ w) = go (is_alike sign i)
  where
    go : (b : Bool) → length (if b then w else i ∷ w) ≤ length (i ∷ w)
    go true = omega arith
    go false = omega arith

signs_most : (sign : Item) (ws : List (List Item)) → wait_count (map (without sign) ws) ≤ wait_count ws
signs_most sign [] = omega arith
signs_most sign (w ∷ ws) = omega (arith, wait_more (without sign w) (map (without sign) ws), wait_more w ws, without_most sign w, signs_most sign ws)

sign_fewer : (at : ℕ) (sign : Item) (q k : ℕ) (ws : List (List Item)) → is_alike sign sign ≡ true → at ≡ q + k → k < length ws → HeadsStand at sign q ws
    → wait_count (map (without sign) ws) + 1 ≤ wait_count ws
sign_fewer at sign q k [] self e l h = absurd (omega arith)
sign_fewer at sign q k ([] ∷ ws) self e l h = absurd h
sign_fewer at sign q zero ((x ∷ w) ∷ ws) self e l h =
    let alike : is_alike sign x ≡ true = ap (is_alike sign) (h.0.same (omega arith)) ∙ self in
    let gone : without sign (x ∷ w) ≡ w = ap (λ b. if b then w else x ∷ w) alike in
    omega (arith, wait_more (without sign (x ∷ w)) (map (without sign) ws), wait_more (x ∷ w) ws, ap length gone, signs_most sign ws)
sign_fewer at sign q (suc k) ((x ∷ w) ∷ ws) self e l h =
    omega (arith, wait_more (without sign (x ∷ w)) (map (without sign) ws), wait_more (x ∷ w) ws, without_most sign (x ∷ w), sign_fewer at sign (q + 1) k ws self (omega arith) (omega arith) h.1)

taken_fewer : (ws : List (List Item)) (at : ℕ) (i : Item) → at < length ws → HeadsStand at i 0 ws → wait_count (taken_from ws at i) + 1 ≤ wait_count ws
taken_fewer ws at (item.Row s r) l h = omega (arith, row_fewer at (item.Row s r) 0 at ws (omega arith) l h)
taken_fewer ws at (item.Mark s) l h = sign_fewer at (item.Mark s) 0 at ws (nat_self s) (omega arith) l h
taken_fewer ws at (item.End s) l h = sign_fewer at (item.End s) 0 at ws (nat_self s) (omega arith) l h

-- after a merged item fewer items wait
pub next_fewer : (m : MergeView) → OnSome (item_of (least m.waiting)) (wait_count (after_head m (least m.waiting)).waiting < wait_count m.waiting)
next_fewer m = go (least m.waiting) refl
  where
    go : (o : Option Head) → least m.waiting ≡ o → OnSome (item_of o) (wait_count (after_head m o).waiting < wait_count m.waiting)
    go None e = tt
    go (Some head) e =
        let found : least_from 0 None m.waiting ≡ Some head = sym (least_is m.waiting) ∙ e in
        let P : Option Head → Type 0 = Earlier (0 + length m.waiting) in
        let within : head.source < 0 + length m.waiting = subst P found (least_in m.waiting 0 None tt) in
        omega (arith, taken_fewer m.waiting head.source head.item (omega arith) (heads_of m.waiting head.source head.item found))
