-- The merged list of edges has the form of an edge and their marks, and an edge of which some rows are left out keeps both.
use Rattle.std.proofs.Common.{◌≡◌, ◌≢◌, ◌<◌, ◌≤◌, ℕ, zero, suc, Bool, true, false, List, [], ◌∷◌, ◌++◌, ◌+◌, ◌⊎◌, inl, inr, None, length, map, refl, sym, ap, ◌∙◌, subst, arith, append_assoc}
use Rattle.std.specs.Prelude.{◌==◌, ◌||◌, if◌then◌else◌, filter}
use Rattle.std.proofs.lemmas.List.{map-append, length-map}
use Rattle.std.proofs.lemmas.List.Elements.{filter-append}
use Rattle.std.proofs.lemmas.Bool.{cases_lt, eqb-true, eq-eqb}
use Rattle.tuple_edge.specs.declared.item.Item.{Item}
use Rattle.tuple_edge.specs.declared.item.Item.TheVariants as item
use Rattle.merge_order.specs.Edges.{AllFrom, AreAlike, AreEdges, IsEdge}
use Rattle.merge_order.specs.Merged.{Place, all_rows_at, has_mark_at, is_row_at, items, mark_at, merged, rows_at, stamp_at, stamps_upto}
use Rattle.merge_order.proofs.Choices.{if_elim, nat_self, nat_not}
use Rattle.merge_order.proofs.Step.{weaken}
use Rattle.merge_order.proofs.Taken.{mark_if, place, rows_cons, rows_if, some_mark_at}

pub items-append : (xs ys : List Place) → items (xs ++ ys) ≡ items xs ++ items ys
items-append xs ys = map-append (λ p. p.item) xs ys

-- an edge whose items have at least a stamp
pub record Goes (last s : ℕ) (is : List Item) : Type 0 where
  pub from : AllFrom s is
  pub edge : IsEdge last is

-- the items of places, before others
abbrev before : List Place → List Item → List Item
before ps is = items ps ++ is

before-append : (ps qs : List Place) (is : List Item) → before (ps ++ qs) is ≡ before ps (before qs is)
before-append ps qs is = ap (λ x. x ++ is) (items-append ps qs) ∙ append_assoc (items ps) (items qs) is

-- rows of one stamp begin an edge --------------------------------------------------

row_goes : (last m q : ℕ) (i : Item) (e is : List Item) → 1 ≤ m → m ≤ last → Goes last m (before (rows_at m q e) is) → Goes last m (before (rows_at m q (i ∷ e)) is)
row_goes last m q i e is a b g = subst (λ x. Goes last m (before x is)) (sym (rows_cons m q i e)) (by_kind i)
  where
    by_kind : (i : Item) → Goes last m (before (rows_if m q (is_row_at m i) i e) is)
    by_kind (item.Row s r) = go (s == m) (eqb-true s m)
      where
        go : (c : Bool) → (c ≡ true → s ≡ m) → Goes last m (before (rows_if m q c (item.Row s r) e) is)
        go true z =
            let same = z refl in
            record { from = (omega arith, g.from); edge = (omega arith, omega arith, subst (λ k. AllFrom k (before (rows_at m q e) is)) (sym same) g.from, g.edge) }
        go false z = g
    by_kind (item.Mark s) = g
    by_kind (item.End s) = g

rows_go : (last m q : ℕ) (e is : List Item) → 1 ≤ m → m ≤ last → Goes last m is → Goes last m (before (rows_at m q e) is)
rows_go last m q [] is a b g = g
rows_go last m q (i ∷ e) is a b g = row_goes last m q i e is a b (rows_go last m q e is a b g)

all_rows_go : (last m q : ℕ) (es : List (List Item)) (is : List Item) → 1 ≤ m → m ≤ last → Goes last m is → Goes last m (before (all_rows_at m q es) is)
all_rows_go last m q [] is a b g = g
all_rows_go last m q (e ∷ es) is a b g =
    subst (Goes last m) (sym (before-append (rows_at m q e) (all_rows_at m (q + 1) es) is))
    (rows_go last m q e (before (all_rows_at m (q + 1) es) is) a b (all_rows_go last m (q + 1) es is a b g))

module _ (last : ℕ) (es : List (List Item)) where
  stamps_go : (n : ℕ) (is : List Item) → n ≤ last → AllFrom n is → (some_mark_at n es ≡ true → AllFrom (n + 1) is) → IsEdge last is → IsEdge last (before (stamps_upto n es) is)
  stamps_go zero is l f after e = e
  stamps_go (suc n) is l f after e =
      subst (IsEdge last) (sym (before-append (stamps_upto n es) (stamp_at (suc n) es) is))
      (stamps_go n (before (stamp_at (suc n) es) is) (omega arith) (weaken n (suc n) (before (stamp_at (suc n) es) is) (omega arith) inner.from)
      (λ _. weaken (n + 1) (suc n) (before (stamp_at (suc n) es) is) (omega arith) inner.from) inner.edge)
    where
      marked : Goes last (suc n) (before (mark_at (suc n) es) is)
      marked = if_elim (λ ps. Goes last (suc n) (before ps is)) (some_mark_at (suc n) es) (record { source = None; item = item.Mark (suc n) } ∷ []) []
          (λ z. record { from = (omega arith, f); edge = (omega arith, l, after z, e) }) (λ z. record { from = f; edge = e })

      inner : Goes last (suc n) (before (stamp_at (suc n) es) is)
      inner = subst (Goes last (suc n)) (sym (before-append (all_rows_at (suc n) 0 es) (mark_at (suc n) es) is))
          (all_rows_go last (suc n) 0 es (before (mark_at (suc n) es) is) (omega arith) l marked)

-- no mark stands at the last stamp ---------------------------------------------------

past_end : (last : ℕ) (is : List Item) → IsEdge last is → AllFrom (last + 1) is → ⊥
past_end last [] e f = e
past_end last (item.Row s r ∷ is) e f = omega (arith, e.1, f.0)
past_end last (item.Mark s ∷ is) e f = omega (arith, e.1, f.0)
past_end last (item.End s ∷ is) e f = omega (arith, e.1, f.0)

pub no_last_mark : (last : ℕ) (is : List Item) → IsEdge last is → has_mark_at last is ≡ false
no_last_mark last [] e = refl
no_last_mark last (item.Row s r ∷ is) e = no_last_mark last is e.3
no_last_mark last (item.Mark s ∷ is) e = go (s == last) (eqb-true s last) (no_last_mark last is e.3)
  where
    go : (c : Bool) → (c ≡ true → s ≡ last) → has_mark_at last is ≡ false → (c || has_mark_at last is) ≡ false
    go true z old = absurd (past_end last is e.3 (subst (λ k. AllFrom (k + 1) is) (z refl) e.2))
    go false z old = old
no_last_mark last (item.End s ∷ is) e = ap (has_mark_at last) e.2

no_last_marks : (last : ℕ) (carries : ℕ → Bool) (es : List (List Item)) → AreAlike last carries es → some_mark_at last es ≡ false
no_last_marks last carries [] a = refl
no_last_marks last carries (e ∷ es) a = ap (λ b. b || some_mark_at last es) (no_last_mark last e a.0) ∙ no_last_marks last carries es a.2

first_stamp : (last : ℕ) (is : List Item) → IsEdge last is → 1 ≤ last
first_stamp last [] e = absurd e
first_stamp last (item.Row s r ∷ is) e = omega (arith, e.0, e.1)
first_stamp last (item.Mark s ∷ is) e = omega (arith, e.0, e.1)
first_stamp last (item.End s ∷ is) e = omega (arith, e.0, e.1)

last_stamp : (last : ℕ) (carries : ℕ → Bool) (es : List (List Item)) → 1 ≤ length es → AreAlike last carries es → 1 ≤ last
last_stamp last carries [] l a = absurd (omega arith)
last_stamp last carries (e ∷ es) l a = first_stamp last e a.0

-- the merged list has the form of an edge
pub merged_edge : (last : ℕ) (es : List (List Item)) → AreEdges last es → IsEdge last (items (merged last es))
merged_edge last es a =
    subst (IsEdge last) (sym (items-append (stamps_upto last es) (record { source = None; item = item.End last } ∷ [])))
    (stamps_go last es last (item.End last ∷ []) (omega arith) (omega arith, tt)
    (λ z. (let no = no_last_marks last a.carries es a.alike in let y : ⊥ = cc (no, z) in absurd y)) (last_stamp last a.carries es a.some a.alike, refl, refl))

-- the marks of the merged list --------------------------------------------------------

row_marks : (k n q : ℕ) (i : Item) (e is : List Item) → has_mark_at k (before (rows_at n q (i ∷ e)) is) ≡ has_mark_at k (before (rows_at n q e) is)
row_marks k n q i e is = ap (λ x. has_mark_at k (before x is)) (rows_cons n q i e) ∙ by_kind i
  where
    by_kind : (i : Item) → has_mark_at k (before (rows_if n q (is_row_at n i) i e) is) ≡ has_mark_at k (before (rows_at n q e) is)
    by_kind (item.Row s r) = if_elim (λ x. has_mark_at k (before x is) ≡ has_mark_at k (before (rows_at n q e) is)) (s == n) (place q (item.Row s r) ∷ rows_at n q e) (rows_at n q e) (λ z. refl) (λ z. refl)
    by_kind (item.Mark s) = refl
    by_kind (item.End s) = refl

rows_marks : (k n q : ℕ) (e is : List Item) → has_mark_at k (before (rows_at n q e) is) ≡ has_mark_at k is
rows_marks k n q [] is = refl
rows_marks k n q (i ∷ e) is = row_marks k n q i e is ∙ rows_marks k n q e is

all_rows_marks : (k n q : ℕ) (es : List (List Item)) (is : List Item) → has_mark_at k (before (all_rows_at n q es) is) ≡ has_mark_at k is
all_rows_marks k n q [] is = refl
all_rows_marks k n q (e ∷ es) is =
    ap (has_mark_at k) (before-append (rows_at n q e) (all_rows_at n (q + 1) es) is) ∙ (rows_marks k n q e (before (all_rows_at n (q + 1) es) is) ∙ all_rows_marks k n (q + 1) es is)

module _ (es : List (List Item)) where
  stamp_marks : (n k : ℕ) (is : List Item) → has_mark_at k (before (stamp_at n es) is) ≡ has_mark_at k (before (mark_at n es) is)
  stamp_marks n k is = ap (has_mark_at k) (before-append (all_rows_at n 0 es) (mark_at n es) is) ∙ all_rows_marks k n 0 es (before (mark_at n es) is)

  other_mark : (n k : ℕ) (is : List Item) → n ≢ k → has_mark_at k (before (mark_at n es) is) ≡ has_mark_at k is
  other_mark n k is apart =
      if_elim (λ ps. has_mark_at k (before ps is) ≡ has_mark_at k is) (some_mark_at n es) (record { source = None; item = item.Mark n } ∷ []) []
      (λ e. ap (λ c. c || has_mark_at k is) (nat_not n k apart)) (λ e. refl)

  stamps_more : (n k : ℕ) (is : List Item) → has_mark_at k (before (stamps_upto (suc n) es) is) ≡ has_mark_at k (before (stamps_upto n es) (before (stamp_at (suc n) es) is))
  stamps_more n k is = ap (has_mark_at k) (before-append (stamps_upto n es) (stamp_at (suc n) es) is)

  marks_past : (n k : ℕ) (is : List Item) → n < k → has_mark_at k (before (stamps_upto n es) is) ≡ has_mark_at k is
  marks_past zero k is l = refl
  marks_past (suc n) k is l =
      stamps_more n k is ∙ (marks_past n k (before (stamp_at (suc n) es) is) (omega arith) ∙ (stamp_marks (suc n) k is ∙ other_mark (suc n) k is (λ e. omega arith)))

  mark_here : (n : ℕ) (is : List Item) → has_mark_at n is ≡ false → has_mark_at n (before (mark_at n es) is) ≡ some_mark_at n es
  mark_here n is none = go (some_mark_at n es)
    where
      go : (c : Bool) → has_mark_at n (before (mark_if n c) is) ≡ c
      go true = ap (λ c. c || has_mark_at n is) (nat_self n)
      go false = none

  marks_within : (n k : ℕ) (is : List Item) → 1 ≤ k → k ≤ n → has_mark_at k is ≡ false → has_mark_at k (before (stamps_upto n es) is) ≡ some_mark_at k es
  marks_within zero k is a b h = absurd (omega arith)
  marks_within (suc n) k is a b h =
      stamps_more n k is ∙ go (k == suc n) (eqb-true k (suc n)) (eq-eqb k (suc n)) (λ l e. marks_within n k (before (stamp_at (suc n) es) is) a l e)
    where
      go : (c : Bool) → (c ≡ true → k ≡ suc n) → (k ≡ suc n → c ≡ true)
          → (k ≤ n → has_mark_at k (before (stamp_at (suc n) es) is) ≡ false → has_mark_at k (before (stamps_upto n es) (before (stamp_at (suc n) es) is)) ≡ some_mark_at k es)
          → has_mark_at k (before (stamps_upto n es) (before (stamp_at (suc n) es) is)) ≡ some_mark_at k es
      go true here not_here old =
          let same = here refl in
          let P : ℕ → Type 0 = λ j. has_mark_at j (before (stamps_upto n es) (before (stamp_at (suc n) es) is)) ≡ some_mark_at j es in
          subst P (sym same) (marks_past n (suc n) (before (stamp_at (suc n) es) is) (omega arith)
          ∙ (stamp_marks (suc n) (suc n) is ∙ mark_here (suc n) is (subst (λ j. has_mark_at j is ≡ false) same h)))
      go false here not_here old =
          let apart : suc n ≢ k = λ z. (let y = not_here (sym z) in cc) in
          old (omega arith) (stamp_marks (suc n) k is ∙ (other_mark (suc n) k is apart ∙ h))

no_mark_out : (last k : ℕ) (is : List Item) → IsEdge last is → (1 ≤ k → k ≤ last → ⊥) → has_mark_at k is ≡ false
no_mark_out last k [] e out = refl
no_mark_out last k (item.Row s r ∷ is) e out = no_mark_out last k is e.3 out
no_mark_out last k (item.Mark s ∷ is) e out =
    ap (λ c. c || has_mark_at k is) (nat_not s k (λ z. out (let a = e.0 in omega arith) (let a = e.1 in omega arith))) ∙ no_mark_out last k is e.3 out
no_mark_out last k (item.End s ∷ is) e out = ap (has_mark_at k) e.2

some_mark_is : (last k : ℕ) (carries : ℕ → Bool) (es : List (List Item)) → AreAlike last carries es → 1 ≤ length es → some_mark_at k es ≡ carries k
some_mark_is last k carries [] a l = absurd (omega arith)
some_mark_is last k carries (e ∷ []) a l = ap (λ c. c || false) (a.1 k) ∙ or_false (carries k)
  where
    or_false : (c : Bool) → (c || false) ≡ c
    or_false true = refl
    or_false false = refl
some_mark_is last k carries (e ∷ f ∷ es) a l =
    ap (λ c. c || some_mark_at k (f ∷ es)) (a.1 k) ∙ (ap (λ c. carries k || c) (some_mark_is last k carries (f ∷ es) a.2 (omega arith)) ∙ or_same (carries k))
  where
    or_same : (c : Bool) → (c || c) ≡ c
    or_same true = refl
    or_same false = refl

out_carries : (last k : ℕ) (carries : ℕ → Bool) (es : List (List Item)) → AreAlike last carries es → 1 ≤ length es → (1 ≤ k → k ≤ last → ⊥) → carries k ≡ false
out_carries last k carries [] a l out = absurd (omega arith)
out_carries last k carries (e ∷ es) a l out = sym (a.1 k) ∙ no_mark_out last k e a.0 out

-- the merged list carries the marks of the edges
pub merged_marks : (last : ℕ) (es : List (List Item)) (a : AreEdges last es) (k : ℕ) → has_mark_at k (items (merged last es)) ≡ a.carries k
merged_marks last es a k = go (cases_lt k 1) (cases_lt last k)
  where
    outside : (1 ≤ k → k ≤ last → ⊥) → has_mark_at k (items (merged last es)) ≡ a.carries k
    outside out = no_mark_out last k (items (merged last es)) (merged_edge last es a) out ∙ sym (out_carries last k a.carries es a.alike a.some out)

    within : 1 ≤ k → k ≤ last → has_mark_at k (items (merged last es)) ≡ some_mark_at k es
    within l m =
        ap (has_mark_at k) (items-append (stamps_upto last es) (record { source = None; item = item.End last } ∷ [])) ∙ marks_within es last k (item.End last ∷ []) l m refl

    go : (k < 1) ⊎ (1 ≤ k) → (last < k) ⊎ (k ≤ last) → has_mark_at k (items (merged last es)) ≡ a.carries k
    go (inr l) (inr m) = within l m ∙ some_mark_is last k a.carries es a.alike a.some
    go (inr l) (inl m) = outside (λ x y. omega arith)
    go (inl l) m = outside (λ x y. omega arith)

-- some rows are left out ----------------------------------------------------------------

-- a test that each mark and each end passes
pub record KeepsSigns (p : Item → Bool) : Type 0 where
  pub marks : (stamp : ℕ) → p (item.Mark stamp) ≡ true
  pub ends : (stamp : ℕ) → p (item.End stamp) ≡ true

module _ (p : Item → Bool) (keeps : KeepsSigns p) where
  filter_from : (s : ℕ) (is : List Item) → AllFrom s is → AllFrom s (filter p is)
  filter_from s [] f = tt
  filter_from s (i ∷ is) f = if_elim (AllFrom s) (p i) (i ∷ filter p is) (filter p is) (λ e. (f.0, filter_from s is f.1)) (λ e. filter_from s is f.1)

  filter-mark : (s : ℕ) (is : List Item) → filter p (item.Mark s ∷ is) ≡ item.Mark s ∷ filter p is
  filter-mark s is = ap (λ b. if b then item.Mark s ∷ filter p is else filter p is) (keeps.marks s)

  filter-end : (s : ℕ) (is : List Item) → filter p (item.End s ∷ is) ≡ item.End s ∷ filter p is
  filter-end s is = ap (λ b. if b then item.End s ∷ filter p is else filter p is) (keeps.ends s)

  pub filter_edge : (last : ℕ) (is : List Item) → IsEdge last is → IsEdge last (filter p is)
  filter_edge last [] e = e
  filter_edge last (item.Row s r ∷ is) e =
      if_elim (IsEdge last) (p (item.Row s r)) (item.Row s r ∷ filter p is) (filter p is)
      (λ _. (e.0, e.1, filter_from s is e.2, filter_edge last is e.3)) (λ _. filter_edge last is e.3)
  filter_edge last (item.Mark s ∷ is) e = subst (IsEdge last) (sym (filter-mark s is)) (e.0, e.1, filter_from (s + 1) is e.2, filter_edge last is e.3)
  filter_edge last (item.End s ∷ is) e = subst (IsEdge last) (sym (filter-end s is)) (e.0, e.1, ap (filter p) e.2)

  pub filter_marks : (n : ℕ) (is : List Item) → has_mark_at n (filter p is) ≡ has_mark_at n is
  filter_marks n [] = refl
  filter_marks n (item.Row s r ∷ is) =
      if_elim (λ xs. has_mark_at n xs ≡ has_mark_at n is) (p (item.Row s r)) (item.Row s r ∷ filter p is) (filter p is) (λ _. filter_marks n is) (λ _. filter_marks n is)
  filter_marks n (item.Mark s ∷ is) = ap (has_mark_at n) (filter-mark s is) ∙ ap (λ b. (s == n) || b) (filter_marks n is)
  filter_marks n (item.End s ∷ is) = ap (has_mark_at n) (filter-end s is) ∙ filter_marks n is

  pub filter_alike : (last : ℕ) (carries : ℕ → Bool) (es : List (List Item)) → AreAlike last carries es → AreAlike last carries (map (filter p) es)
  filter_alike last carries [] a = tt
  filter_alike last carries (e ∷ es) a = (filter_edge last e a.0, λ n. filter_marks n e ∙ a.1 n, filter_alike last carries es a.2)

  -- edges of which some rows are left out are edges
  abbrev pub filter_edges : (last : ℕ) (es : List (List Item)) → AreEdges last es → AreEdges last (map (filter p) es)
  filter_edges last es a = record { some = omega (arith, length-map es (filter p), a.some); carries = a.carries; alike = filter_alike last a.carries es a.alike }

  -- their merged list is the merged list of which these rows are left out

  abbrev at_place : Place → Bool
  at_place x = p x.item

  rows_at-filter : (n q : ℕ) (e : List Item) → rows_at n q (filter p e) ≡ filter at_place (rows_at n q e)
  rows_at-filter n q [] = refl
  rows_at-filter n q (i ∷ e) = go (p i) refl (rows_at-filter n q e)
    where
      same : (b : Bool) → p i ≡ b → filter at_place (place q i ∷ rows_at n q e) ≡ (if b then place q i ∷ filter at_place (rows_at n q e) else filter at_place (rows_at n q e))
      same b is = ap (λ c. if c then place q i ∷ filter at_place (rows_at n q e) else filter at_place (rows_at n q e)) is

      stays : (c : Bool) → p i ≡ true → rows_at n q (filter p e) ≡ filter at_place (rows_at n q e) → rows_if n q c i (filter p e) ≡ filter at_place (rows_if n q c i e)
      stays true is old = ap (λ x. place q i ∷ x) old ∙ sym (same true is)
      stays false is old = old

      goes : (c : Bool) → p i ≡ false → rows_at n q (filter p e) ≡ filter at_place (rows_at n q e) → rows_at n q (filter p e) ≡ filter at_place (rows_if n q c i e)
      goes true is old = old ∙ sym (same false is)
      goes false is old = old

      go : (b : Bool) → p i ≡ b → rows_at n q (filter p e) ≡ filter at_place (rows_at n q e) → rows_at n q (if b then i ∷ filter p e else filter p e) ≡ filter at_place (rows_at n q (i ∷ e))
      go true is old = rows_cons n q i (filter p e) ∙ (stays (is_row_at n i) is old ∙ sym (ap (filter at_place) (rows_cons n q i e)))
      go false is old = goes (is_row_at n i) is old ∙ sym (ap (filter at_place) (rows_cons n q i e))

  all_rows_at-filter : (n q : ℕ) (es : List (List Item)) → all_rows_at n q (map (filter p) es) ≡ filter at_place (all_rows_at n q es)
  all_rows_at-filter n q [] = refl
  all_rows_at-filter n q (e ∷ es) =
      ap (λ x. x ++ all_rows_at n (q + 1) (map (filter p) es)) (rows_at-filter n q e)
      ∙ (ap (λ x. filter at_place (rows_at n q e) ++ x) (all_rows_at-filter n (q + 1) es) ∙ sym (filter-append at_place (rows_at n q e) (all_rows_at n (q + 1) es)))

  some_mark-filter : (n : ℕ) (es : List (List Item)) → some_mark_at n (map (filter p) es) ≡ some_mark_at n es
  some_mark-filter n [] = refl
  some_mark-filter n (e ∷ es) = ap (λ b. b || some_mark_at n (map (filter p) es)) (filter_marks n e) ∙ ap (λ b. has_mark_at n e || b) (some_mark-filter n es)

  mark_at-filter : (n : ℕ) (es : List (List Item)) → mark_at n (map (filter p) es) ≡ filter at_place (mark_at n es)
  mark_at-filter n es = ap (mark_if n) (some_mark-filter n es) ∙ go (some_mark_at n es)
    where
      go : (c : Bool) → mark_if n c ≡ filter at_place (mark_if n c)
      go true = sym (ap (λ b. if b then record { source = None; item = item.Mark n } ∷ [] else []) (keeps.marks n))
      go false = refl

  stamps_upto-filter : (n : ℕ) (es : List (List Item)) → stamps_upto n (map (filter p) es) ≡ filter at_place (stamps_upto n es)
  stamps_upto-filter zero es = refl
  stamps_upto-filter (suc n) es =
      ap (λ x. x ++ stamp_at (suc n) (map (filter p) es)) (stamps_upto-filter n es)
      ∙ (ap (λ x. filter at_place (stamps_upto n es) ++ x) stamp ∙ sym (filter-append at_place (stamps_upto n es) (stamp_at (suc n) es)))
    where
      stamp : stamp_at (suc n) (map (filter p) es) ≡ filter at_place (stamp_at (suc n) es)
      stamp =
          ap (λ x. x ++ mark_at (suc n) (map (filter p) es)) (all_rows_at-filter (suc n) 0 es)
          ∙ (ap (λ x. filter at_place (all_rows_at (suc n) 0 es) ++ x) (mark_at-filter (suc n) es) ∙ sym (filter-append at_place (all_rows_at (suc n) 0 es) (mark_at (suc n) es)))

  pub merged-filter : (last : ℕ) (es : List (List Item)) → merged last (map (filter p) es) ≡ filter at_place (merged last es)
  merged-filter last es =
      ap (λ x. x ++ end ∷ []) (stamps_upto-filter last es)
      ∙ (ap (λ b. filter at_place (stamps_upto last es) ++ (if b then end ∷ [] else [])) (sym (keeps.ends last)) ∙ sym (filter-append at_place (stamps_upto last es) (end ∷ [])))
    where
      end : Place
      end = record { source = None; item = item.End last }

  items-filter : (ps : List Place) → items (filter at_place ps) ≡ filter p (items ps)
  items-filter [] = refl
  items-filter (x ∷ ps) = go (p x.item) (items-filter ps)
    where
      go : (b : Bool) → items (filter at_place ps) ≡ filter p (items ps) → items (if b then x ∷ filter at_place ps else filter at_place ps) ≡ (if b then x.item ∷ filter p (items ps) else filter p (items ps))
      go true old = ap (λ is. x.item ∷ is) old
      go false old = old

  -- the items that are merged of edges of which some rows are left out are the items merged of the whole edges, without these rows
  pub merged_items-filter : (last : ℕ) (es : List (List Item)) → items (merged last (map (filter p) es)) ≡ filter p (items (merged last es))
  merged_items-filter last es = ap items (merged-filter last es) ∙ items-filter (merged last es)
