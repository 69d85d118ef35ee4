-- How many items of an edge are used, as long as the merged list goes on and where it ends.
use Rattle.std.proofs.Common.{◌≡◌, ◌<◌, ℕ, zero, suc, Bool, List, [], ◌∷◌, ◌++◌, ◌+◌, ◌≤◌, ◌⊎◌, inl, inr, refl, sym, ap, ◌∙◌, subst, arith, length, take, get_or}
use Rattle.std.proofs.lemmas.Bool.{cases_lt}
use Rattle.std.proofs.lemmas.List.{length-append, length-take-le, take_all}
use Rattle.tuple_edge.specs.declared.item.Item.{Item}
use Rattle.merge_order.specs.Edges.{AreAlike, AreEdges}
use Rattle.merge_order.specs.Merged.{Place, count_of, items_from, merged}
use Rattle.merge_order.specs.Counts.{AllAreUsed, EdgesStayInOrder}
use Rattle.merge_order.proofs.Step.{AllDone, Done, IsRest, More, left, step}
use Rattle.merge_order.proofs.Rest.{EdgesLeft, LeftAt, has_least, left_at, left_done}

-- an edge of which something is left was not used up
not_used_up : (last : ℕ) (carries : ℕ → Bool) (q : ℕ) (front : List Place) (es rs : List (List Item)) → EdgesLeft q front es rs → AreAlike last carries rs
    → (k : ℕ) → k < length es → count_of (q + k) front < length (get_or es k [])
not_used_up last carries q front [] rs l a k h = absurd (omega arith)
not_used_up last carries q front (e ∷ es) [] l a k h = absurd l
not_used_up last carries q front (e ∷ es) ([] ∷ rs) l a k h = absurd a.0
not_used_up last carries q front (e ∷ es) ((x ∷ r) ∷ rs) l a zero h =
    let here : count_of q front < length e = omega (arith, ap length l.0.whole, length-append l.0.gone (x ∷ r), l.0.long) in
    subst (λ n. count_of n front < length e) (omega arith) here
not_used_up last carries q front (e ∷ es) ((x ∷ r) ∷ rs) l a (suc k) h =
    subst (λ n. count_of n front < length (get_or es k [])) (omega arith) (not_used_up last carries (q + 1) front es rs l.1 a.2 k (omega arith))

-- an edge of which nothing is left was used up
used_up : (q : ℕ) (front : List Place) (es rs : List (List Item)) → EdgesLeft q front es rs → AllDone rs → (k : ℕ) → k < length es → count_of (q + k) front ≡ length (get_or es k [])
used_up q front [] rs l d k h = absurd (omega arith)
used_up q front (e ∷ es) [] l d k h = absurd l
used_up q front (e ∷ es) (r ∷ rs) l d zero h =
    let here : count_of q front ≡ length e = omega (arith, ap length l.0.whole, length-append l.0.gone r, l.0.long, ap length d.0) in
    subst (λ n. count_of n front ≡ length e) (omega arith) here
used_up q front (e ∷ es) (r ∷ rs) l d (suc k) h = subst (λ n. count_of n front ≡ length (get_or es k [])) (omega arith) (used_up (q + 1) front es rs l.1 d.1 k (omega arith))

module _ (last : ℕ) (es : List (List Item)) (edges : AreEdges last es) where
  goes_on : (q c : ℕ) → q < length es → c < length (merged last es) → count_of q (take c (merged last es)) < length (get_or es q [])
  goes_on q c h l = by_form at.form
    where
      at : LeftAt last es c
      at = left_at last es edges c (omega arith)

      by_form : IsRest last at.rest → count_of q (take c (merged last es)) < length (get_or es q [])
      by_form (More carries a) = subst (λ n. count_of n (take c (merged last es)) < length (get_or es q [])) (omega arith) (not_used_up last carries 0 (take c (merged last es)) es at.rest at.edges a q h)
      by_form (Done d) =
          let whole = ap length (at.goes_on ∙ ap (λ x. take c (merged last es) ++ x) (left_done last at.rest d)) in
          absurd (omega (arith, whole, length-append (take c (merged last es)) [], length-take-le c (merged last es) (omega arith)))

  ends : (q : ℕ) → q < length es → count_of q (take (length (merged last es)) (merged last es)) ≡ length (get_or es q [])
  ends q h = by_form at.form
    where
      c : ℕ
      c = length (merged last es)

      at : LeftAt last es (length (merged last es))
      at = left_at last es edges (length (merged last es)) (omega arith)

      by_form : IsRest last at.rest → count_of q (take (length (merged last es)) (merged last es)) ≡ length (get_or es q [])
      by_form (Done d) =
          subst (λ n. count_of n (take (length (merged last es)) (merged last es)) ≡ length (get_or es q [])) (omega arith)
          (used_up 0 (take (length (merged last es)) (merged last es)) es at.rest at.edges d q h)
      by_form (More carries a) =
          let least = has_least last carries at.rest at.some a in
          let more = step last carries at.rest least.head.source least.head.item at.some a least.is in
          absurd (omega (
            arith,
            ap length at.goes_on,
            length-append (take (length (merged last es)) (merged last es)) (left last at.rest),
            length-take-le (length (merged last es)) (merged last es) (omega arith),
            ap length more.first,
          ))

pub all_are_used : AllAreUsed
all_are_used last es edges = record { below = λ q c h l. goes_on last es edges q c h l; whole = λ q h. ends last es edges q h }

-- ---- the items of a source are those of its edge, in order

take_front : (xs ys : List Item) → take (length xs) (xs ++ ys) ≡ xs
take_front [] ys = refl
take_front (x ∷ xs) ys = ap (λ k. x ∷ k) (take_front xs ys)

gone_is : (q : ℕ) (front : List Place) (es rs : List (List Item)) → EdgesLeft q front es rs → (k : ℕ) → k < length es → items_from (q + k) front ≡ take (count_of (q + k) front) (get_or es k [])
gone_is q front [] rs l k h = absurd (omega arith)
gone_is q front (e ∷ es) [] l k h = absurd l
gone_is q front (e ∷ es) (r ∷ rs) l zero h =
    let here : items_from q front ≡ take (count_of q front) e = sym l.0.are ∙ (sym (take_front l.0.gone r) ∙ (λ i. take (l.0.long i) (sym l.0.whole i))) in
    subst (λ n. items_from n front ≡ take (count_of n front) e) (omega arith) here
gone_is q front (e ∷ es) (r ∷ rs) l (suc k) h = subst (λ n. items_from n front ≡ take (count_of n front) (get_or es k [])) (omega arith) (gone_is (q + 1) front es rs l.1 k (omega arith))

pub stay_in_order : EdgesStayInOrder
stay_in_order last es edges q c h = by (cases_lt (length (merged last es)) c)
  where
    upto : (c : ℕ) → c ≤ length (merged last es) → items_from q (take c (merged last es)) ≡ take (count_of q (take c (merged last es))) (get_or es q [])
    upto c l =
        let at = left_at last es edges c l in
        subst (λ n. items_from n (take c (merged last es)) ≡ take (count_of n (take c (merged last es))) (get_or es q [])) (omega arith) (gone_is 0 (take c (merged last es)) es at.rest at.edges q h)

    by : (length (merged last es) < c) ⊎ (c ≤ length (merged last es)) → items_from q (take c (merged last es)) ≡ take (count_of q (take c (merged last es))) (get_or es q [])
    by (inr l) = upto c l
    by (inl l) =
        let same = take_all (length (merged last es)) (merged last es) (omega arith) ∙ sym (take_all c (merged last es) (omega arith)) in
        subst (λ (places : List Place). items_from q places ≡ take (count_of q places) (get_or es q [])) same (upto (length (merged last es)) (omega arith))
