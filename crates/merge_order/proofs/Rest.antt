-- What is left of the edges after the first places of the merged list.
use Rattle.std.proofs.Common.{◌≡◌, ◌≤◌, ℕ, zero, suc, Bool, true, false, List, [], ◌∷◌, ◌++◌, Option, Some, ◌+◌, refl, sym, ap, ◌∙◌, subst, arith, length, take, append_assoc}
use Rattle.std.specs.Prelude.{filter, if◌then◌else◌}
use Rattle.std.proofs.lemmas.List.{append-nil, length-append, length-take-le}
use Rattle.std.proofs.lemmas.List.Sums.{sum_by_push}
use Rattle.tuple_edge.specs.declared.item.Item.{Item}
use Rattle.tuple_edge.specs.Item.{comes_before}
use Rattle.merge_order.specs.Edges.{AreAlike, AreEdges}
use Rattle.merge_order.specs.Merged.{Place, count_of, is_from, items, items_from, merged, stamps_upto}
use Rattle.merge_order.specs.declared.head.Head.{Head}
use Rattle.merge_order.specs.MergeView.{least, taken_from}
use Rattle.merge_order.proofs.Heads.{head_at, least_from, least_is}
use Rattle.merge_order.proofs.Taken.{TakesIf, EdgesTake, stamps_none}
use Rattle.merge_order.proofs.Step.{AllDone, IsRest, More, Done, is_done, end_of, left, place_from, take_length, not_done, all_done, done_from, step}

-- an edge is what is gone of it, the items of its source among the first places, and what is left
pub record IsLeft (edge : List Item) (q : ℕ) (front : List Place) (r : List Item) : Type 0 where
  pub gone : List Item
  pub whole : edge ≡ gone ++ r
  pub long : length gone ≡ count_of q front
  pub are : gone ≡ items_from q front

abbrev pub EdgesLeft : ℕ → List Place → List (List Item) → List (List Item) → Type 0
EdgesLeft q front [] [] = Unit {0}
EdgesLeft q front [] (r ∷ rs) = ⊥
EdgesLeft q front (e ∷ es) [] = ⊥
EdgesLeft q front (e ∷ es) (r ∷ rs) = IsLeft e q front r × EdgesLeft (q + 1) front es rs

pub count-push : (q : ℕ) (xs : List Place) (j : Place) → count_of q (xs ++ j ∷ []) ≡ count_of q xs + (if is_from q j.source then 1 else 0)
count-push q xs j = sum_by_push (λ place. if is_from q place.source then 1 else 0) xs j

-- the items of a source, with one place more
from_push : (q : ℕ) (xs : List Place) (j : Place) → items_from q (xs ++ j ∷ []) ≡ items_from q xs ++ (if is_from q j.source then j.item ∷ [] else [])
from_push q [] j = go (is_from q j.source)
  where
    go : (b : Bool) → items (if b then j ∷ [] else []) ≡ (if b then j.item ∷ [] else [])
    go true = refl
    go false = refl
from_push q (x ∷ xs) j = go (is_from q x.source) (from_push q xs j)
  where
    go : (b : Bool) → items_from q (xs ++ j ∷ []) ≡ items_from q xs ++ (if is_from q j.source then j.item ∷ [] else []) →
        items (if b then x ∷ filter (λ place. is_from q place.source) (xs ++ j ∷ []) else filter (λ place. is_from q place.source) (xs ++ j ∷ [])) ≡
        items (if b then x ∷ filter (λ place. is_from q place.source) xs else filter (λ place. is_from q place.source) xs) ++ (if is_from q j.source then j.item ∷ [] else [])
    go true e = ap (λ is. x.item ∷ is) e
    go false e = e

edges_advance : (q : ℕ) (j : Place) (front : List Place) (es rs news : List (List Item)) → EdgesLeft q front es rs → EdgesTake q j rs news → EdgesLeft q (front ++ j ∷ []) es news
edges_advance q j front [] [] [] l t = tt
edges_advance q j front [] [] (new ∷ news) l t = absurd t
edges_advance q j front [] (r ∷ rs) news l t = absurd l
edges_advance q j front (e ∷ es) [] news l t = absurd l
edges_advance q j front (e ∷ es) (r ∷ rs) [] l t = absurd t
edges_advance q j front (e ∷ es) (r ∷ rs) (new ∷ news) l t = (one (is_from q j.source) t.0 (count-push q front j) (from_push q front j), edges_advance (q + 1) j front es rs news l.1 t.1)
  where
    one : (b : Bool) → TakesIf b j.item r new → count_of q (front ++ j ∷ []) ≡ count_of q front + (if b then 1 else 0) → items_from q (front ++ j ∷ []) ≡ items_from q front ++ (if b then j.item ∷ [] else []) → IsLeft e q (front ++ j ∷ []) new
    one true k n m = record {
      gone = l.0.gone ++ j.item ∷ [];
      whole = l.0.whole ∙ (ap (λ x. l.0.gone ++ x) k ∙ sym (append_assoc l.0.gone (j.item ∷ []) new));
      long = omega (arith, length-append l.0.gone (j.item ∷ []), l.0.long, n);
      are = ap (λ x. x ++ j.item ∷ []) l.0.are ∙ sym m;
    }
    one false k n m = record { gone = l.0.gone; whole = l.0.whole ∙ ap (λ x. l.0.gone ++ x) (sym k); long = omega (arith, l.0.long, n); are = l.0.are ∙ (sym (append-nil (items_from q front)) ∙ sym m) }

edges_whole : (q : ℕ) (es : List (List Item)) → EdgesLeft q [] es es
edges_whole q [] = tt
edges_whole q (e ∷ es) = (record { gone = []; whole = refl; long = refl; are = refl }, edges_whole (q + 1) es)

left_length : (q : ℕ) (front : List Place) (es rs : List (List Item)) → EdgesLeft q front es rs → length es ≡ length rs
left_length q front [] [] l = refl
left_length q front [] (r ∷ rs) l = absurd l
left_length q front (e ∷ es) [] l = absurd l
left_length q front (e ∷ es) (r ∷ rs) l = omega (arith, left_length (q + 1) front es rs l.1)

-- where each edge goes on, there is a least head
pub record HasLeast (rs : List (List Item)) : Type 0 where
  pub head : Head
  pub is : least rs ≡ Some head

record Finds (q : ℕ) (best : Option Head) (rs : List (List Item)) : Type 0 where
  head : Head
  is : least_from q best rs ≡ Some head

finds : (last : ℕ) (carries : ℕ → Bool) (q : ℕ) (best : Head) (rs : List (List Item)) → AreAlike last carries rs → Finds q (Some best) rs
finds last carries q best [] a = record { head = best; is = refl }
finds last carries q best ([] ∷ rs) a = absurd a.0
finds last carries q best ((x ∷ w) ∷ rs) a = let h = finds last carries (q + 1) (next q x best) rs a.2 in record { head = h.head; is = h.is }
  where
    next : ℕ → Item → Head → Head
    next q x best = if comes_before x best.item q best.source then head_at q x else best

pub has_least : (last : ℕ) (carries : ℕ → Bool) (rs : List (List Item)) → 1 ≤ length rs → AreAlike last carries rs → HasLeast rs
has_least last carries [] l a = absurd (omega arith)
has_least last carries ([] ∷ rs) l a = absurd a.0
has_least last carries ((x ∷ w) ∷ rs) l a =
    let h = finds last carries 1 (head_at 0 x) rs a.2 in
    record { head = h.head; is = least_is ((x ∷ w) ∷ rs) ∙ h.is }

-- what is left after the first c places
pub record LeftAt (last : ℕ) (es : List (List Item)) (c : ℕ) : Type 0 where
  pub rest : List (List Item)
  pub edges : EdgesLeft 0 (take c (merged last es)) es rest
  pub goes_on : merged last es ≡ take c (merged last es) ++ left last rest
  pub form : IsRest last rest
  pub some : 1 ≤ length rest

pub left_done : (last : ℕ) (rs : List (List Item)) → AllDone rs → left last rs ≡ []
left_done last rs d = ap (λ x. x ++ end_of last (is_done rs)) (stamps_none last (last + 1) rs (omega arith) (done_from (last + 1) rs d)) ∙ ap (end_of last) (all_done rs d)

-- one place more
pub take_next : (c : ℕ) (xs : List Place) (j : Place) (ys : List Place) → c ≤ length xs → xs ≡ take c xs ++ j ∷ ys → take (suc c) xs ≡ take c xs ++ j ∷ []
take_next zero [] j ys l e = let z : ⊥ = cc e in absurd z
take_next zero (x ∷ xs) j ys l e = let same : x ≡ j = cc e in ap (λ k. k ∷ []) same
take_next (suc c) [] j ys l e = absurd (omega arith)
take_next (suc c) (x ∷ xs) j ys l e = let tails : xs ≡ take c xs ++ j ∷ ys = cc e in ap (λ k. x ∷ k) (take_next c xs j ys (omega arith) tails)

pub advance : (last : ℕ) (es : List (List Item)) (c : ℕ) (l : LeftAt last es c) (carries : ℕ → Bool) → AreAlike last carries l.rest → c ≤ length (merged last es)
    → (at : ℕ) (i : Item) → least l.rest ≡ Some (head_at at i) → LeftAt last es (suc c)
advance last es c l carries a within at i e =
    let s = step last carries l.rest at i l.some a e in
    let news = taken_from l.rest at i in
    let j = place_from at i in
    let on = l.goes_on ∙ ap (λ x. take c (merged last es) ++ x) s.first in
    let next = take_next c (merged last es) j (left last news) within on in
    record {
      rest = news;
      edges = subst (λ f. EdgesLeft 0 f es news) (sym next) (edges_advance 0 j (take c (merged last es)) es l.rest news l.edges s.takes);
      goes_on = on ∙ (sym (append_assoc (take c (merged last es)) (j ∷ []) (left last news)) ∙ ap (λ f. f ++ left last news) (sym next));
      form = s.rest;
      some = omega (arith, take_length 0 j l.rest news s.takes, l.some);
    }

pub left_at : (last : ℕ) (es : List (List Item)) → AreEdges last es → (c : ℕ) → c ≤ length (merged last es) → LeftAt last es c
left_at last es edges zero l = record {
  rest = es;
  edges = edges_whole 0 es;
  goes_on = ap (λ d. stamps_upto last es ++ end_of last d) (sym (not_done last edges.carries es edges.some edges.alike));
  form = More edges.carries edges.alike;
  some = edges.some;
}
left_at last es edges (suc c) l = go (left_at last es edges c (omega arith))
  where
    go : LeftAt last es c → LeftAt last es (suc c)
    go before = by_form before.form
      where
        by_form : IsRest last before.rest → LeftAt last es (suc c)
        by_form (More carries a) =
            let h = has_least last carries before.rest before.some a in
            advance last es c before carries a (omega arith) h.head.source h.head.item h.is
        by_form (Done d) =
            let whole = ap length (before.goes_on ∙ ap (λ x. take c (merged last es) ++ x) (left_done last before.rest d)) in
            absurd (omega (arith, whole, length-append (take c (merged last es)) [], length-take-le c (merged last es) (omega arith)))
