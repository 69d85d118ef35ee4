-- The least head is the first item of the merged list of what is left.
use Rattle.std.proofs.Common.{◌≡◌, ◌<◌, ◌≤◌, ℕ, zero, suc, Bool, true, false, List, [], ◌∷◌, ◌++◌, None, Some, ◌+◌, ◌⊎◌, inl, inr, refl, sym, ap, ◌∙◌, subst, arith, length, drop, get_or, map, set, Option}
use Rattle.std.specs.Prelude.{◌==◌, ◌||◌, if◌then◌else◌}
use Rattle.std.proofs.lemmas.Bool.{eqb-true, eq-eqb, cases_lt}
use Rattle.tuple_edge.specs.declared.row.Row.{Row}
use Rattle.tuple_edge.specs.declared.item.Item.{Item}
use Rattle.tuple_edge.specs.declared.item.Item.TheVariants as item
use Rattle.tuple_edge.specs.Item.{stamp_of}
use Rattle.merge_order.specs.Edges.{AllFrom, AreAlike, IsEdge}
use Rattle.merge_order.specs.Merged.{Place, all_rows_at, has_mark_at, mark_at, rows_at, stamp_at, stamps_upto}
use Rattle.merge_order.specs.declared.head.Head.{Head}
use Rattle.merge_order.specs.MergeView.{is_alike, least, taken_from, without}
use Rattle.merge_order.proofs.Choices.{nat_self, nat_not}
use Rattle.merge_order.proofs.Heads.{Earlier, head_at, rank, kind_most, HeadStands, HeadsStand, heads_of, least_from, least_in, least_is}
use Rattle.merge_order.proofs.Taken.{TakesIf, EdgesTake, EachFrom, ClearBefore, all_rows_other, mark_if, place, some_mark_at, some_mark_other, rows_none, mark_none, all_rows_none, some_mark_none, stamps_none, stamps_begin, row_begins}

abbrev pub is_done : List (List Item) → Bool
is_done [] = true
is_done ([] ∷ rs) = true
is_done ((i ∷ r) ∷ rs) = false

abbrev pub end_of : ℕ → Bool → List Place
end_of last done = if done then [] else record { source = None; item = item.End last } ∷ []

-- the merged list of what is left of the edges
abbrev pub left : ℕ → List (List Item) → List Place
left last rs = stamps_upto last rs ++ end_of last (is_done rs)

abbrev pub AllDone : List (List Item) → Type 0
AllDone [] = Unit {0}
AllDone (r ∷ rs) = (r ≡ []) × AllDone rs

-- edges, or nothing of them
pub data IsRest (last : ℕ) (rs : List (List Item)) : Type 0 where
  More : (carries : ℕ → Bool) → AreAlike last carries rs → IsRest last rs
  Done : AllDone rs → IsRest last rs

abbrev pub place_from : ℕ → Item → Place
place_from at (item.Row s row) = place at (item.Row s row)
place_from at (item.Mark s) = record { source = None; item = item.Mark s }
place_from at (item.End s) = record { source = None; item = item.End s }

-- what is taken -----------------------------------------------------------------

none_takes : (at : ℕ) (i : Item) (q : ℕ) (rs : List (List Item)) → at < q → EdgesTake q (place at i) rs rs
none_takes at i q [] l = tt
none_takes at i q (r ∷ rs) l = (subst (λ b. TakesIf b i r r) (sym (nat_not at q (omega arith))) refl, none_takes at i (q + 1) rs (omega arith))

pub row_takes : (at : ℕ) (i : Item) (q k : ℕ) (rs : List (List Item)) → at ≡ q + k → HeadsStand at i q rs → EdgesTake q (place at i) rs (set rs k (drop 1 (get_or rs k [])))
row_takes at i q zero [] e h = tt
row_takes at i q (suc k) [] e h = tt
row_takes at i q zero ([] ∷ rs) e h = absurd h
row_takes at i q (suc k) ([] ∷ rs) e h = absurd h
row_takes at i q zero ((x ∷ w) ∷ rs) e h =
    (subst (λ b. TakesIf b i (x ∷ w) w) (sym (eq-eqb at q (omega arith))) (ap (λ y. y ∷ w) (h.0.same (omega arith))), none_takes at i (q + 1) rs (omega arith))
row_takes at i q (suc k) ((x ∷ w) ∷ rs) e h =
    (subst (λ b. TakesIf b i (x ∷ w) (x ∷ w)) (sym (nat_not at q (omega arith))) refl, row_takes at i (q + 1) k rs (omega arith) h.1)

abbrev pub AllHead : Item → List (List Item) → Type 0
AllHead i [] = Unit {0}
AllHead i ([] ∷ rs) = ⊥
AllHead i ((x ∷ w) ∷ rs) = (x ≡ i) × AllHead i rs

pub sign_takes : (i : Item) (q : ℕ) (rs : List (List Item)) → is_alike i i ≡ true → AllHead i rs → EdgesTake q (record { source = None; item = i }) rs (map (without i) rs)
sign_takes i q [] self h = tt
sign_takes i q ([] ∷ rs) self h = absurd h
sign_takes i q ((x ∷ w) ∷ rs) self h =
    let z : is_alike i x ≡ true = ap (is_alike i) h.0 ∙ self in
    (ap (λ y. y ∷ w) h.0 ∙ ap (λ c. i ∷ (if c then w else x ∷ w)) (sym z), sign_takes i (q + 1) rs self h.1)

-- an edge by its head --------------------------------------------------------------

pub weaken : (s t : ℕ) (r : List Item) → s ≤ t → AllFrom t r → AllFrom s r
weaken s t [] l f = tt
weaken s t (i ∷ r) l f = (let k = f.0 in omega arith, weaken s t r l f.1)

stamp_within : (last : ℕ) (x : Item) (w : List Item) → IsEdge last (x ∷ w) → (1 ≤ stamp_of x) × (stamp_of x ≤ last)
stamp_within last (item.Row s row) w e = (e.0, e.1)
stamp_within last (item.Mark s) w e = (e.0, e.1)
stamp_within last (item.End s) w e = (e.0, let k = e.1 in omega arith)

from_head : (last : ℕ) (x : Item) (w : List Item) → IsEdge last (x ∷ w) → AllFrom (stamp_of x) (x ∷ w)
from_head last (item.Row s row) w e = (omega arith, e.2)
from_head last (item.Mark s) w e = (omega arith, weaken s (s + 1) w (omega arith) e.2)
from_head last (item.End s) w e = (omega arith, subst (AllFrom s) (sym e.2) tt)

least_rank : (at : ℕ) (i : Item) (q : ℕ) (x : Item) → HeadStands at i q x → rank i ≤ rank x
least_rank at i q x h = go (cases_lt q at) (cases_lt at q)
  where
    go : (q < at) ⊎ (at ≤ q) → (at < q) ⊎ (q ≤ at) → rank i ≤ rank x
    go (inl l) m = let k = h.earlier l in omega arith
    go (inr l) (inl m) = h.later m
    go (inr l) (inr m) = let k = ap rank (h.same (omega arith)) in omega arith

each_from : (last : ℕ) (carries : ℕ → Bool) (at : ℕ) (i : Item) (q : ℕ) (rs : List (List Item)) → AreAlike last carries rs → HeadsStand at i q rs → EachFrom (stamp_of i) rs
each_from last carries at i q [] a h = tt
each_from last carries at i q ([] ∷ rs) a h = absurd h
each_from last carries at i q ((x ∷ w) ∷ rs) a h =
    let l : stamp_of i ≤ stamp_of x = omega (arith, least_rank at i q x h.0, kind_most i, kind_most x) in
    (weaken (stamp_of i) (stamp_of x) (x ∷ w) l (from_head last x w a.0), each_from last carries at i (q + 1) rs a.2 h.1)

row_clear : (last s : ℕ) (row : Row) (q : ℕ) (x : Item) (w : List Item) → IsEdge last (x ∷ w) → rank (item.Row s row) < rank x → rows_at s q (x ∷ w) ≡ []
row_clear last s row q (item.Row t other) w e l = rows_none s q t (item.Row t other ∷ w) (omega (arith, l)) (omega arith, e.2)
row_clear last s row q (item.Mark t) w e l = rows_none s q (t + 1) w (omega (arith, l)) e.2
row_clear last s row q (item.End t) w e l = ap (rows_at s q) e.2

clear_before : (last : ℕ) (carries : ℕ → Bool) (s : ℕ) (row : Row) (at q : ℕ) (rs : List (List Item)) → AreAlike last carries rs → HeadsStand at (item.Row s row) q rs → ClearBefore s at q rs
clear_before last carries s row at q [] a h = tt
clear_before last carries s row at q ([] ∷ rs) a h = absurd h
clear_before last carries s row at q ((x ∷ w) ∷ rs) a h = (λ l. row_clear last s row q x w a.0 (h.0.earlier l), clear_before last carries s row at (q + 1) rs a.2 h.1)

mark_head : (last s : ℕ) (x : Item) (w : List Item) → IsEdge last (x ∷ w) → has_mark_at s (x ∷ w) ≡ true → rank (item.Mark s) ≤ rank x → x ≡ item.Mark s
mark_head last s (item.Row t other) w e has l =
    let none = mark_none s t (item.Row t other ∷ w) (omega (arith, l)) (omega arith, e.2) in
    let z : ⊥ = cc (none, has) in absurd z
mark_head last s (item.Mark t) w e has l = go (cases_lt s t)
  where
    go : (s < t) ⊎ (t ≤ s) → item.Mark t ≡ item.Mark s
    go (inl k) = let none = mark_none s t (item.Mark t ∷ w) k (from_head last (item.Mark t) w e) in let z : ⊥ = cc (none, has) in absurd z
    go (inr k) = ap item.Mark (omega (arith, l))
mark_head last s (item.End t) w e has l = let none : has_mark_at s w ≡ false = ap (has_mark_at s) e.2 in let z : ⊥ = cc (none, has) in absurd z

end_head : (last : ℕ) (x : Item) (w : List Item) → IsEdge last (x ∷ w) → rank (item.End last) ≤ rank x → x ≡ item.End last
end_head last (item.Row t other) w e l = absurd (omega (arith, l, e.1))
end_head last (item.Mark t) w e l = absurd (omega (arith, l, e.1))
end_head last (item.End t) w e l = ap item.End e.1

all_marks : (last : ℕ) (carries : ℕ → Bool) (s at q : ℕ) (rs : List (List Item)) → AreAlike last carries rs → HeadsStand at (item.Mark s) q rs → carries s ≡ true → AllHead (item.Mark s) rs
all_marks last carries s at q [] a h c = tt
all_marks last carries s at q ([] ∷ rs) a h c = absurd h
all_marks last carries s at q ((x ∷ w) ∷ rs) a h c = (mark_head last s x w a.0 (a.1 s ∙ c) (least_rank at (item.Mark s) q x h.0), all_marks last carries s at (q + 1) rs a.2 h.1 c)

all_ends : (last : ℕ) (carries : ℕ → Bool) (at q : ℕ) (rs : List (List Item)) → AreAlike last carries rs → HeadsStand at (item.End last) q rs → AllHead (item.End last) rs
all_ends last carries at q [] a h = tt
all_ends last carries at q ([] ∷ rs) a h = absurd h
all_ends last carries at q ((x ∷ w) ∷ rs) a h = (end_head last x w a.0 (least_rank at (item.End last) q x h.0), all_ends last carries at (q + 1) rs a.2 h.1)

-- the edge that has the least head
record HasHead (last : ℕ) (carries : ℕ → Bool) (i : Item) : Type 0 where
  rest : List Item
  edge : IsEdge last (i ∷ rest)
  marks : (n : ℕ) → has_mark_at n (i ∷ rest) ≡ carries n

least_edge : (last : ℕ) (carries : ℕ → Bool) (at : ℕ) (i : Item) (q : ℕ) (rs : List (List Item)) → AreAlike last carries rs → HeadsStand at i q rs → q ≤ at → at < q + length rs → HasHead last carries i
least_edge last carries at i q [] a h l m = absurd (omega arith)
least_edge last carries at i q ([] ∷ rs) a h l m = absurd h
least_edge last carries at i q ((x ∷ w) ∷ rs) a h l m = go (cases_lt q at) (λ k. least_edge last carries at i (q + 1) rs a.2 h.1 k (omega arith))
  where
    go : (q < at) ⊎ (at ≤ q) → (q + 1 ≤ at → HasHead last carries i) → HasHead last carries i
    go (inl k) old = old (omega arith)
    go (inr k) old =
        let e = h.0.same (omega arith) in
        record { rest = w; edge = subst (λ y. IsEdge last (y ∷ w)) e a.0; marks = λ n. subst (λ y. has_mark_at n (y ∷ w) ≡ carries n) e (a.1 n) }

-- what is left is of the same form ----------------------------------------------------

row_rest : (last : ℕ) (carries : ℕ → Bool) (s : ℕ) (row : Row) (at q : ℕ) (rs news : List (List Item)) → AreAlike last carries rs
    → EdgesTake q (place at (item.Row s row)) rs news → AreAlike last carries news
row_rest last carries s row at q [] [] a t = tt
row_rest last carries s row at q [] (new ∷ news) a t = absurd t
row_rest last carries s row at q (r ∷ rs) [] a t = absurd t
row_rest last carries s row at q (r ∷ rs) (new ∷ news) a t =
    let one = go (at == q) t.0 in (one.0, one.1, row_rest last carries s row at (q + 1) rs news a.2 t.1)
  where
    go : (b : Bool) → TakesIf b (item.Row s row) r new → IsEdge last new × ((n : ℕ) → has_mark_at n new ≡ carries n)
    go true e = ((subst (IsEdge last) e a.0).3, λ n. subst (λ x. has_mark_at n x ≡ carries n) e (a.1 n))
    go false e = (subst (IsEdge last) (sym e) a.0, λ n. subst (λ x. has_mark_at n x ≡ carries n) (sym e) (a.1 n))

abbrev without_mark : ℕ → (ℕ → Bool) → ℕ → Bool
without_mark s carries n = if s == n then false else carries n

mark_rest : (last : ℕ) (carries : ℕ → Bool) (s q : ℕ) (rs news : List (List Item)) → AreAlike last carries rs
    → EdgesTake q (record { source = None; item = item.Mark s }) rs news → AreAlike last (without_mark s carries) news × EachFrom (s + 1) news
mark_rest last carries s q [] [] a t = (tt, tt)
mark_rest last carries s q [] (new ∷ news) a t = absurd t
mark_rest last carries s q (r ∷ rs) [] a t = absurd t
mark_rest last carries s q (r ∷ rs) (new ∷ news) a t =
    let edge : IsEdge last (item.Mark s ∷ new) = subst (IsEdge last) t.0 a.0 in
    let rest = mark_rest last carries s (q + 1) rs news a.2 t.1 in
    ((edge.3, λ n. go n edge.2 (s == n) (eqb-true s n) (subst (λ x. has_mark_at n x ≡ carries n) t.0 (a.1 n)), rest.0), (edge.2, rest.1))
  where
    go : (n : ℕ) → AllFrom (s + 1) new → (b : Bool) → (b ≡ true → s ≡ n) → (b || has_mark_at n new) ≡ carries n → has_mark_at n new ≡ (if b then false else carries n)
    go n from true is e = let k = is refl in mark_none n (s + 1) new (omega arith) from
    go n from false is e = e

end_rest : (last : ℕ) (carries : ℕ → Bool) (s q : ℕ) (rs news : List (List Item)) → AreAlike last carries rs → EdgesTake q (record { source = None; item = item.End s }) rs news → AllDone news
end_rest last carries s q [] [] a t = tt
end_rest last carries s q [] (new ∷ news) a t = absurd t
end_rest last carries s q (r ∷ rs) [] a t = absurd t
end_rest last carries s q (r ∷ rs) (new ∷ news) a t = ((subst (IsEdge last) t.0 a.0).2, end_rest last carries s (q + 1) rs news a.2 t.1)

pub take_length : (q : ℕ) (j : Place) (rs news : List (List Item)) → EdgesTake q j rs news → length rs ≡ length news
take_length q j [] [] t = refl
take_length q j [] (new ∷ news) t = absurd t
take_length q j (r ∷ rs) [] t = absurd t
take_length q j (r ∷ rs) (new ∷ news) t = omega (arith, take_length (q + 1) j rs news t.1)

pub not_done : (last : ℕ) (carries : ℕ → Bool) (rs : List (List Item)) → 1 ≤ length rs → AreAlike last carries rs → is_done rs ≡ false
not_done last carries [] l a = absurd (omega arith)
not_done last carries ([] ∷ rs) l a = absurd a.0
not_done last carries ((x ∷ w) ∷ rs) l a = refl

pub all_done : (rs : List (List Item)) → AllDone rs → is_done rs ≡ true
all_done [] d = refl
all_done ([] ∷ rs) d = refl
all_done ((x ∷ w) ∷ rs) d = let z : ⊥ = cc (d.0) in absurd z

pub done_from : (s : ℕ) (rs : List (List Item)) → AllDone rs → EachFrom s rs
done_from s [] d = tt
done_from s (r ∷ rs) d = (subst (AllFrom s) (sym d.0) tt, done_from s rs d.1)

some_marked : (last : ℕ) (carries : ℕ → Bool) (s : ℕ) (rs : List (List Item)) → 1 ≤ length rs → AreAlike last carries rs → carries s ≡ true → some_mark_at s rs ≡ true
some_marked last carries s [] l a c = absurd (omega arith)
some_marked last carries s (r ∷ rs) l a c = ap (λ b. b || some_mark_at s rs) (a.1 s ∙ c)

same_upto : (n s : ℕ) (rs news : List (List Item)) → EdgesTake 0 (record { source = None; item = item.End s }) rs news → stamps_upto n rs ≡ stamps_upto n news
same_upto zero s rs news t = refl
same_upto (suc n) s rs news t =
    let j : Place = record { source = None; item = item.End s } in
    let m : Place = record { source = None; item = item.Mark (suc n) } in
    ap (λ x. x ++ stamp_at (suc n) rs) (same_upto n s rs news t)
    ∙ (ap (λ x. stamps_upto n news ++ (x ++ mark_at (suc n) rs)) (all_rows_other (suc n) 0 j rs news refl t)
    ∙ ap (λ b. stamps_upto n news ++ (all_rows_at (suc n) 0 news ++ mark_if (suc n) b)) (some_mark_other (suc n) 0 j rs news refl t))

-- the step ---------------------------------------------------------------------------

pub record Step (last at : ℕ) (i : Item) (rs news : List (List Item)) : Type 0 where
  pub takes : EdgesTake 0 (place_from at i) rs news
  pub first : left last rs ≡ place_from at i ∷ left last news
  pub rest : IsRest last news

module _ (last : ℕ) (carries : ℕ → Bool) (rs : List (List Item)) (some : 1 ≤ length rs) (a : AreAlike last carries rs) (at : ℕ) (within : at < 0 + length rs) where
  ends : (b : Bool) (xs ys : List Place) → b ≡ false → xs ≡ ys → xs ++ end_of last (is_done rs) ≡ ys ++ end_of last b
  ends b xs ys e f = ap (λ x. x ++ end_of last (is_done rs)) f ∙ ap (λ d. ys ++ end_of last d) (not_done last carries rs some a ∙ sym e)

  row_step : (s : ℕ) (row : Row) → HeadsStand at (item.Row s row) 0 rs → Step last at (item.Row s row) rs (taken_from rs at (item.Row s row))
  row_step s row h = record { takes = t; first = ends (is_done news) (stamps_upto last rs) (j ∷ stamps_upto last news) unended begins; rest = More carries alike }
    where
      j : Place
      j = place at (item.Row s row)

      news : List (List Item)
      news = taken_from rs at (item.Row s row)

      t : EdgesTake 0 j rs news
      t = row_takes at (item.Row s row) 0 at rs (omega arith) h

      alike : AreAlike last carries news
      alike = row_rest last carries s row at 0 rs news a t

      unended : is_done news ≡ false
      unended = not_done last carries news (omega (arith, take_length 0 j rs news t)) alike

      head : HasHead last carries (item.Row s row)
      head = least_edge last carries at (item.Row s row) 0 rs a h (omega arith) within

      m : Place
      m = record { source = None; item = item.Mark s }

      here : stamp_at s rs ≡ j ∷ stamp_at s news
      here = ap (λ x. x ++ mark_at s rs) (row_begins s row at 0 rs news (omega arith) within (clear_before last carries s row at 0 rs a h) t)
          ∙ ap (λ b. j ∷ (all_rows_at s 0 news ++ mark_if s b)) (some_mark_other s 0 j rs news refl t)

      begins : stamps_upto last rs ≡ j ∷ stamps_upto last news
      begins = stamps_begin last j rs news head.edge.0 head.edge.1 (each_from last carries at (item.Row s row) 0 rs a h) t here

  mark_step : (s : ℕ) → HeadsStand at (item.Mark s) 0 rs → Step last at (item.Mark s) rs (taken_from rs at (item.Mark s))
  mark_step s h = record { takes = t; first = ends (is_done news) (stamps_upto last rs) (j ∷ stamps_upto last news) unended begins; rest = More (without_mark s carries) after.0 }
    where
      j : Place
      j = record { source = None; item = item.Mark s }

      news : List (List Item)
      news = taken_from rs at (item.Mark s)

      head : HasHead last carries (item.Mark s)
      head = least_edge last carries at (item.Mark s) 0 rs a h (omega arith) within

      carried : carries s ≡ true
      carried = sym (head.marks s) ∙ ap (λ b. b || has_mark_at s head.rest) (nat_self s)

      t : EdgesTake 0 j rs news
      t = sign_takes (item.Mark s) 0 rs (nat_self s) (all_marks last carries s at 0 rs a h carried)

      after : AreAlike last (without_mark s carries) news × EachFrom (s + 1) news
      after = mark_rest last carries s 0 rs news a t

      unended : is_done news ≡ false
      unended = not_done last (without_mark s carries) news (omega (arith, take_length 0 j rs news t)) after.0

      ronews : all_rows_at s 0 news ≡ []
      ronews = all_rows_none s 0 (s + 1) news (omega arith) after.1

      here : stamp_at s rs ≡ j ∷ stamp_at s news
      here = ap (λ x. x ++ mark_at s rs) (all_rows_other s 0 j rs news refl t ∙ ronews)
          ∙ (ap (λ b. if b then j ∷ [] else []) (some_marked last carries s rs some a carried)
          ∙ sym (ap (λ x. j ∷ (x ++ mark_at s news)) ronews ∙ ap (λ b. j ∷ (if b then j ∷ [] else [])) (some_mark_none s (s + 1) news (omega arith) after.1)))

      begins : stamps_upto last rs ≡ j ∷ stamps_upto last news
      begins = stamps_begin last j rs news head.edge.0 head.edge.1 (each_from last carries at (item.Mark s) 0 rs a h) t here

  end_step : (s : ℕ) → HeadsStand at (item.End s) 0 rs → Step last at (item.End s) rs (taken_from rs at (item.End s))
  end_step s h = record { takes = t; first = first; rest = Done after }
    where
      j : Place
      j = record { source = None; item = item.End s }

      news : List (List Item)
      news = taken_from rs at (item.End s)

      head : HasHead last carries (item.End s)
      head = least_edge last carries at (item.End s) 0 rs a h (omega arith) within

      heads : AllHead (item.End s) rs
      heads = subst (λ k. AllHead (item.End k) rs) (sym head.edge.1) (all_ends last carries at 0 rs a (subst (λ k. HeadsStand at (item.End k) 0 rs) head.edge.1 h))

      t : EdgesTake 0 j rs news
      t = sign_takes (item.End s) 0 rs (nat_self s) heads

      after : AllDone news
      after = end_rest last carries s 0 rs news a t

      none_left : stamps_upto last news ≡ []
      none_left = stamps_none last (last + 1) news (omega arith) (done_from (last + 1) news after)

      first : left last rs ≡ j ∷ left last news
      first = ap (λ x. x ++ end_of last (is_done rs)) (same_upto last s rs news t ∙ none_left)
          ∙ (ap (end_of last) (not_done last carries rs some a)
          ∙ (ap (λ k. (let x : Place = record { source = None; item = item.End k } in x) ∷ []) (sym head.edge.1)
          ∙ sym (ap (λ x. j ∷ (x ++ end_of last (is_done news))) none_left ∙ ap (λ b. j ∷ end_of last b) (all_done news after))))

  one_step : (i : Item) → HeadsStand at i 0 rs → Step last at i rs (taken_from rs at i)
  one_step (item.Row s row) h = row_step s row h
  one_step (item.Mark s) h = mark_step s h
  one_step (item.End s) h = end_step s h

-- the least head is taken
pub step : (last : ℕ) (carries : ℕ → Bool) (rs : List (List Item)) (at : ℕ) (i : Item) → 1 ≤ length rs → AreAlike last carries rs → least rs ≡ Some (head_at at i) → Step last at i rs (taken_from rs at i)
step last carries rs at i some a e =
    let found : least_from 0 None rs ≡ Some (head_at at i) = sym (least_is rs) ∙ e in
    let P : Option Head → Type 0 = Earlier (0 + length rs) in
    let within : at < 0 + length rs = subst P found (least_in rs 0 None tt) in
    one_step last carries rs some a at within i (heads_of rs at i found)
