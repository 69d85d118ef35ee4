-- The least head, as the loop over the edges finds it: it is there, and it comes before the head of each other edge.
use Rattle.std.proofs.Common.{◌≡◌, ◌≢◌, ◌<◌, ◌≤◌, ℕ, zero, suc, Bool, true, false, List, [], ◌∷◌, Option, None, Some, ◌+◌, ◌*◌, ◌⊎◌, inl, inr, refl, sym, ap, ◌∙◌, subst, arith, drop, length}
use Rattle.std.specs.Prelude.{◌==◌, nat_lt, if◌then◌else◌, fold, IfSome, IsTrue, is_some, slice_get, slice_index_or}
use Rattle.std.proofs.lemmas.Bool.{cases_lt, eqb-true, eqb-false, ltb-true, ltb-false}
use Rattle.tuple_edge.specs.declared.item.Item.{Item}
use Rattle.tuple_edge.specs.declared.item.Item.TheVariants as item
use Rattle.tuple_edge.specs.Item.{comes_before, kind_of, stamp_of}
use Rattle.merge_order.specs.declared.head.Head.{Head}
use Rattle.merge_order.specs.MergeView.{ComesFirst, all_wait, heads_from, item_of, least, lesser}

abbrev pub head_at : ℕ → Item → Head
head_at source i = record { source = source; item = i }

-- the least of what was found and the heads of the edges from source q on, where each edge has a head
abbrev pub least_from : ℕ → Option Head → List (List Item) → Option Head
least_from q best [] = best
least_from q best ([] ∷ ws) = None
least_from q best ((i ∷ w) ∷ ws) = least_from (q + 1) (lesser best (head_at q i)) ws

least_from_is : (q : ℕ) (best : Option Head) (ws : List (List Item)) → (if all_wait ws then fold lesser best (heads_from q ws) else None) ≡ least_from q best ws
least_from_is q best [] = refl
least_from_is q best ([] ∷ ws) = refl
least_from_is q best ((i ∷ w) ∷ ws) = least_from_is (q + 1) (lesser best (head_at q i)) ws

pub least_is : (ws : List (List Item)) → least ws ≡ least_from 0 None ws
least_is ws = least_from_is 0 None ws

-- the head of the first edge, and then those of the others
pub least_begins : (ws : List (List Item)) (w : List Item) (i : Item) → Some w ≡ slice_get ws 0 → Some i ≡ slice_get w 0 → least ws ≡ least_from 1 (Some (head_at 0 i)) (drop 1 ws)
least_begins [] w i first head = let z : ⊥ = cc first in absurd z
least_begins ([] ∷ ws) w i first head = let z : ⊥ = cc (first, head) in absurd z
least_begins ((j ∷ v) ∷ ws) w i first head =
    let same : j ≡ i = cc (first, head) in
    least_is ((j ∷ v) ∷ ws) ∙ ap (λ k. least_from 1 (Some (head_at 0 k)) ws) same

-- where nothing was found yet, or something of an earlier source ---------------------------------

abbrev pub Earlier : ℕ → Option Head → Type 0
Earlier q best = IfSome best (λ head. head.source < q)

pub lesser_earlier : (q : ℕ) (i : Item) (best : Option Head) → Earlier q best → Earlier (q + 1) (lesser best (head_at q i))
lesser_earlier q i None bound = omega arith
lesser_earlier q i (Some best) bound = go (comes_before i best.item q best.source)
  where
    go : (b : Bool) → (if b then head_at q i else best).source < q + 1
    go true = omega arith
    go false = omega arith

-- the edge of the least head is there
pub least_in : (ws : List (List Item)) (q : ℕ) (best : Option Head) → Earlier q best → Earlier (q + length ws) (least_from q best ws)
least_in [] q None bound = tt
least_in [] q (Some best) bound = omega arith
least_in ([] ∷ ws) q best bound = tt
least_in ((i ∷ w) ∷ ws) q best bound =
    weaker (least_from (q + 1) (lesser best (head_at q i)) ws) (least_in ws (q + 1) (lesser best (head_at q i)) (lesser_earlier q i best bound))
  where
    weaker : (found : Option Head) → Earlier ((q + 1) + length ws) found → Earlier (q + length ((i ∷ w) ∷ ws)) found
    weaker None h = tt
    weaker (Some head) h = omega arith

found_from : (q : ℕ) (best : Head) (ws : List (List Item)) → is_some (least_from q (Some best) ws) ≡ all_wait ws
found_from q best [] = refl
found_from q best ([] ∷ ws) = refl
found_from q best ((i ∷ w) ∷ ws) = found_from (q + 1) (if comes_before i best.item q best.source then head_at q i else best) ws

some_item : (o : Option Head) → is_some (item_of o) ≡ is_some o
some_item None = refl
some_item (Some head) = refl

-- there is a least head where each edge has an item that waits
pub found_is : (ws : List (List Item)) → 1 ≤ length ws → is_some (least ws) ≡ all_wait ws
found_is [] some = absurd (omega arith)
found_is ([] ∷ ws) some = refl
found_is ((i ∷ w) ∷ ws) some = ap is_some (least_is ((i ∷ w) ∷ ws)) ∙ found_from 1 (head_at 0 i) ws

pub known_is : (ws : List (List Item)) → 1 ≤ length ws → is_some (item_of (least ws)) ≡ all_wait ws
known_is ws some = some_item (least ws) ∙ found_is ws some

-- the order of items, as numbers -------------------------------------------------------------------

-- stamps and kinds as one number
abbrev pub rank : Item → ℕ
rank i = 3 * stamp_of i + kind_of i

pub kind_most : (i : Item) → kind_of i ≤ 2
kind_most (item.Row s r) = omega arith
kind_most (item.Mark s) = omega arith
kind_most (item.End s) = omega arith

-- whether an item of a later source comes before another
abbrev Ordered : Bool → Item → Item → Type 0
Ordered true i j = rank i < rank j
Ordered false i j = rank j ≤ rank i

not_less : (a b : ℕ) → b ≤ a → nat_lt a b ≡ false
not_less a b h = go (nat_lt a b) (ltb-true a b)
  where
    go : (c : Bool) → (c ≡ true → a < b) → c ≡ false
    go true is = absurd (let l = is refl in omega arith)
    go false is = refl

less : (a b : ℕ) → a < b → nat_lt a b ≡ true
less a b h = go (nat_lt a b) (ltb-false a b)
  where
    go : (c : Bool) → (c ≡ false → b ≤ a) → c ≡ true
    go true is = refl
    go false is = absurd (let l = is refl in omega arith)

later_rank : (q p : ℕ) → p < q → (i j : Item) → Ordered (comes_before i j q p) i j
later_rank q p later i j = stamps (stamp_of i == stamp_of j) (eqb-true _ _) (eqb-false _ _)
  where
    by_kinds : stamp_of i ≡ stamp_of j → (b : Bool) → (b ≡ true → kind_of i < kind_of j) → (b ≡ false → kind_of j ≤ kind_of i) → Ordered b i j
    by_kinds same true less not_less = let h = less refl in omega arith
    by_kinds same false less not_less = let h = not_less refl in omega arith

    kinds : stamp_of i ≡ stamp_of j → (b : Bool) → (b ≡ true → kind_of i ≡ kind_of j) → Ordered (if b then nat_lt q p else nat_lt (kind_of i) (kind_of j)) i j
    kinds same true equal = let h = equal refl in let o : Ordered false i j = omega arith in subst (λ b. Ordered b i j) (sym (not_less q p (omega arith))) o
    kinds same false equal = by_kinds same (nat_lt (kind_of i) (kind_of j)) (ltb-true _ _) (ltb-false _ _)

    by_stamps : (b : Bool) → (b ≡ true → stamp_of i < stamp_of j) → (b ≡ false → stamp_of j ≤ stamp_of i) → (stamp_of i ≡ stamp_of j → ⊥) → Ordered b i j
    by_stamps true less not_less apart = let h = less refl in omega (arith, kind_most i, kind_most j)
    by_stamps false less not_less apart = let h = not_less refl in go (cases_lt (stamp_of j) (stamp_of i)) h
      where
        go : (stamp_of j < stamp_of i) ⊎ (stamp_of i ≤ stamp_of j) → stamp_of j ≤ stamp_of i → rank j ≤ rank i
        go (inl l) h = omega (arith, kind_most i, kind_most j)
        go (inr l) h = absurd (apart (omega arith))

    stamps : (b : Bool) → (b ≡ true → stamp_of i ≡ stamp_of j) → (b ≡ false → stamp_of i ≡ stamp_of j → ⊥)
        → Ordered (if b then (if kind_of i == kind_of j then nat_lt q p else nat_lt (kind_of i) (kind_of j)) else nat_lt (stamp_of i) (stamp_of j)) i j
    stamps true same apart = kinds (same refl) (kind_of i == kind_of j) (eqb-true _ _)
    stamps false same apart = by_stamps (nat_lt (stamp_of i) (stamp_of j)) (ltb-true _ _) (ltb-false _ _) (apart refl)

-- the least head against each head -------------------------------------------------------------------

-- the head of source q, where the least is item i of source at
pub record HeadStands (at : ℕ) (i : Item) (q : ℕ) (head : Item) : Type 0 where
  pub same : q ≡ at → head ≡ i
  pub earlier : q < at → rank i < rank head
  pub later : at < q → rank i ≤ rank head

abbrev pub HeadsStand : ℕ → Item → ℕ → List (List Item) → Type 0
HeadsStand at i q [] = Unit {0}
HeadsStand at i q ([] ∷ ws) = ⊥
HeadsStand at i q ((h ∷ w) ∷ ws) = HeadStands at i q h × HeadsStand at i (q + 1) ws

-- what was found before is the least, or the least is less and comes later
abbrev Found : ℕ → Item → ℕ → Head → Type 0
Found at i q best = ((best.source ≡ at) × (best.item ≡ i)) ⊎ ((q ≤ at) × (rank i < rank best.item))

abbrev FoundIf : ℕ → Item → ℕ → Option Head → Type 0
FoundIf at i q best = IfSome best (Found at i q)

record Facts (at : ℕ) (i : Item) (q : ℕ) (best : Option Head) (ws : List (List Item)) : Type 0 where
  pub best_is : FoundIf at i q best
  pub heads : HeadsStand at i q ws

same_rank : (i j : Item) → i ≡ j → rank i ≡ rank j
same_rank i j e = ap rank e

-- one head more
one_more : (at : ℕ) (i : Item) (q : ℕ) (h : Item) (best : Option Head) → Earlier q best
    → FoundIf at i (q + 1) (lesser best (head_at q h)) → FoundIf at i q best × HeadStands at i q h
one_more at i q h None bound (inl e) = (tt, record { same = λ _. e.1; earlier = λ l. absurd (omega (arith, e.0)); later = λ l. absurd (omega (arith, e.0)) })
one_more at i q h None bound (inr l) = (tt, record { same = λ e. absurd (omega (arith, l.0)); earlier = λ _. l.1; later = λ k. absurd (omega (arith, l.0)) })
one_more at i q h (Some best) bound found = go (comes_before h best.item q best.source) (later_rank q best.source bound h best.item) found
  where
    go : (b : Bool) → Ordered b h best.item → Found at i (q + 1) (if b then head_at q h else best) → FoundIf at i q (Some best) × HeadStands at i q h
    go true less (inl e) =
        let r = same_rank h i e.1 in
        (inr (omega (arith, e.0), omega arith), record { same = λ _. e.1; earlier = λ l. absurd (omega (arith, e.0)); later = λ l. absurd (omega (arith, e.0)) })
    go true less (inr l) =
        (inr (omega (arith, l.0), omega (arith, l.1)), record { same = λ e. absurd (omega (arith, l.0)); earlier = λ _. l.1; later = λ k. absurd (omega (arith, l.0)) })
    go false less (inl e) =
        let r = same_rank best.item i e.1 in
        (inl e, record { same = λ k. absurd (omega (arith, e.0)); earlier = λ l. absurd (omega (arith, e.0)); later = λ _. omega arith })
    go false less (inr l) =
        (inr (omega (arith, l.0), l.1), record { same = λ e. absurd (omega (arith, l.0)); earlier = λ _. omega (arith, l.1); later = λ k. absurd (omega (arith, l.0)) })

facts_of : (ws : List (List Item)) (at : ℕ) (i : Item) (q : ℕ) (best : Option Head) → Earlier q best → least_from q best ws ≡ Some (head_at at i) → Facts at i q best ws
facts_of [] at i q None bound e = let z : ⊥ = cc e in absurd z
facts_of [] at i q (Some best) bound e = record { best_is = inl (some_at best e); heads = tt }
  where
    some_at : (b : Head) → Some b ≡ Some (head_at at i) → (b.source ≡ at) × (b.item ≡ i)
    some_at b e = let same : b ≡ head_at at i = cc e in (ap (λ x. x.source) same, ap (λ x. x.item) same)
facts_of ([] ∷ ws) at i q best bound e = let z : ⊥ = cc e in absurd z
facts_of ((h ∷ w) ∷ ws) at i q best bound e =
    let rest = facts_of ws at i (q + 1) (lesser best (head_at q h)) (lesser_earlier q h best bound) e in
    let here = one_more at i q h best bound rest.best_is in
    record { best_is = here.0; heads = (here.1, rest.heads) }

pub heads_of : (ws : List (List Item)) (at : ℕ) (i : Item) → least_from 0 None ws ≡ Some (head_at at i) → HeadsStand at i 0 ws
heads_of ws at i e = (facts_of ws at i 0 None tt e).heads

-- the least head comes before each other -----------------------------------------------------------------

rank_before : (i j : Item) (p q : ℕ) → (p < q → rank i ≤ rank j) → (q < p → rank i < rank j) → p ≢ q → IsTrue (comes_before i j p q)
rank_before i j p q at_least below apart = stamps (stamp_of i == stamp_of j) (eqb-true _ _) (eqb-false _ _)
  where
    rank_le : rank i ≤ rank j
    rank_le = by (cases_lt p q)
      where
        by : (p < q) ⊎ (q ≤ p) → rank i ≤ rank j
        by (inl l) = at_least l
        by (inr l) = let k : q < p = omega (arith, apart) in let r = below k in omega arith

    kinds : stamp_of i ≡ stamp_of j → (b : Bool) → (b ≡ true → kind_of i ≡ kind_of j) → (b ≡ false → kind_of i ≡ kind_of j → ⊥)
        → (if b then nat_lt p q else nat_lt (kind_of i) (kind_of j)) ≡ true
    kinds same true equal other = less p q (by (cases_lt p q))
      where
        by : (p < q) ⊎ (q ≤ p) → p < q
        by (inl l) = l
        by (inr l) = let k : q < p = omega (arith, apart) in let r = below k in let e = equal refl in absurd (omega arith)
    kinds same false equal other = less (kind_of i) (kind_of j) (by (cases_lt (kind_of i) (kind_of j)))
      where
        by : (kind_of i < kind_of j) ⊎ (kind_of j ≤ kind_of i) → kind_of i < kind_of j
        by (inl l) = l
        by (inr l) = absurd (other refl (let r = rank_le in omega arith))

    stamps : (b : Bool) → (b ≡ true → stamp_of i ≡ stamp_of j) → (b ≡ false → stamp_of i ≡ stamp_of j → ⊥)
        → (if b then (if kind_of i == kind_of j then nat_lt p q else nat_lt (kind_of i) (kind_of j)) else nat_lt (stamp_of i) (stamp_of j)) ≡ true
    stamps true same apart = kinds (same refl) (kind_of i == kind_of j) (eqb-true _ _) (eqb-false _ _)
    stamps false same apart = less (stamp_of i) (stamp_of j) (by (cases_lt (stamp_of i) (stamp_of j)))
      where
        by : (stamp_of i < stamp_of j) ⊎ (stamp_of j ≤ stamp_of i) → stamp_of i < stamp_of j
        by (inl l) = l
        by (inr l) = absurd (apart refl (let r = rank_le in omega (arith, kind_most i, kind_most j)))

first_from : (at : ℕ) (i : Item) (q : ℕ) (ws : List (List Item)) → HeadsStand at i q ws → (k : ℕ) (other : Item) → q + k ≢ at → slice_get (slice_index_or ws k []) 0 ≡ Some other
    → IsTrue (comes_before i other at (q + k))
first_from at i q [] h k other apart e = let z : ⊥ = cc e in absurd z
first_from at i q ([] ∷ ws) h k other apart e = absurd h
first_from at i q ((x ∷ w) ∷ ws) h zero other apart e =
    let same : x ≡ other = cc e in
    let P : Item → Type 0 = λ y. IsTrue (comes_before i y at (q + 0)) in
    subst P same (rank_before i x at (q + 0) (λ l. h.0.later (omega arith)) (λ l. h.0.earlier (omega arith)) (λ z. apart (sym z)))
first_from at i q ((x ∷ w) ∷ ws) h (suc k) other apart e =
    let P : ℕ → Type 0 = λ n. IsTrue (comes_before i other at n) in
    let same : (q + 1) + k ≡ q + suc k = omega arith in
    subst P same (first_from at i (q + 1) ws h.1 k other (λ z. apart (sym same ∙ z)) e)

-- the least of the heads, where each edge has one, comes first
pub comes_first : (ws : List (List Item)) → IfSome (least ws) (ComesFirst ws)
comes_first ws = go (least ws) refl
  where
    go : (o : Option Head) → least ws ≡ o → IfSome o (ComesFirst ws)
    go None e = tt
    go (Some head) e = λ q other apart at.
        let z : (n : ℕ) → 0 + n ≡ n = λ n. omega arith in
        let P : ℕ → Type 0 = λ n. IsTrue (comes_before head.item other head.source n) in
        subst P (z q) (first_from head.source head.item 0 ws (heads_of ws head.source head.item (sym (least_is ws) ∙ e)) q other (λ s. apart (sym (z q) ∙ s)) at)
