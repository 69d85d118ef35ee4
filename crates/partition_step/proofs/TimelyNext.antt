-- What holds of each item that a merge takes holds of each that waits, of the next one, and of each that waits after it.
use Rattle.std.proofs.Common.{◌≡◌, ◌+◌, ℕ, zero, suc, Bool, true, false, List, [], ◌∷◌, ◌++◌, Option, None, Some, All, drop, subst, arith}
use Rattle.std.specs.Prelude.{◌==◌, fold, if◌then◌else◌, slice_index_or, slice_set}
use Rattle.std.proofs.lemmas.List.Elements.{All-append, All-cons, All-drop, All-head, All-map, All-nil, All-set, All-tail}
use Rattle.tuple_edge.specs.declared.item.Item.{Item}
use Rattle.tuple_edge.specs.declared.item.Item.TheVariants as item
use Rattle.tuple_edge.specs.Item.{comes_before}
use Rattle.merge_order.specs.MergeView.{MergeView, after_head, after_next, after_offer, all_wait, heads_from, is_alike, item_of, least, lesser, mark_of, taken_from, waiting_of, without}

-- it holds of the list at a place
pub all_at : {X : Type 0} (P : X → Type 0) (xss : List (List X)) (q : ℕ) → All (All P) xss → All P (slice_index_or xss q [])
all_at P [] q all = All-nil P
all_at P (xs ∷ xss) zero all = All-head (All P) xs xss all
all_at P (xs ∷ xss) (suc q) all = all_at P xss q (All-tail (All P) xs xss all)

module _ (P : Item → Type 0) where
  -- what holds of each item of an edge that is there, or of none, where it isn't
  at_edge : (waiting : List (List Item)) (q : ℕ) → All (All P) waiting → All P (slice_index_or waiting q [])
  at_edge [] q each = λ k d within. absurd (omega (arith, within))
  at_edge (is ∷ waiting) zero each = All-head (All P) is waiting each
  at_edge (is ∷ waiting) (suc q) each = at_edge waiting q (All-tail (All P) is waiting each)

  without_keeps : (sign : Item) (is : List Item) → All P is → All P (without sign is)
  without_keeps sign [] each = each
  without_keeps sign (i ∷ is) each = go (is_alike sign i)
    where
      go : (b : Bool) → All P (if b then is else i ∷ is)
      go true = All-tail P i is each
      go false = each

  each_without : (sign : Item) (waiting : List (List Item)) → All (All P) waiting → All (λ is. All P (without sign is)) waiting
  each_without sign waiting each k d within = without_keeps sign (slice_index_or waiting k d) (each k d within)

  taken_keeps : (waiting : List (List Item)) (source : ℕ) (i : Item) → All (All P) waiting → All (All P) (taken_from waiting source i)
  taken_keeps waiting source (item.Row stamp row) each =
      All-set (All P) waiting source (drop 1 (slice_index_or waiting source [])) (All-drop P 1 (slice_index_or waiting source []) (at_edge waiting source each)) each
  taken_keeps waiting source (item.Mark stamp) each = All-map (All P) (without (item.Mark stamp)) waiting (each_without (item.Mark stamp) waiting each)
  taken_keeps waiting source (item.End stamp) each = All-map (All P) (without (item.End stamp)) waiting (each_without (item.End stamp) waiting each)

  -- each item that waits after the next one was merged did before
  pub next_keeps : (m : MergeView) → All (All P) m.waiting → All (All P) (after_next m).waiting
  next_keeps m each = go (least m.waiting)
    where
      go : (o : _) → All (All P) (after_head m o).waiting
      go None = each
      go (Some head) = taken_keeps m.waiting head.source head.item each

  -- ---- the next item

  -- it holds of an item, where there is one
  abbrev HoldsOf : Option Item → Type 0
  HoldsOf None = Unit {0}
  HoldsOf (Some i) = P i

  lesser_holds : (best : _) (head : _) → HoldsOf (item_of best) → HoldsOf (item_of (Some head)) → HoldsOf (item_of (lesser best head))
  lesser_holds None head had one = one
  lesser_holds (Some other) head had one = go (comes_before head.item other.item head.source other.source)
    where
      go : (b : Bool) → P (if b then head else other).item
      go true = one
      go false = had

  heads_hold : (q : ℕ) (best : _) (waiting : List (List Item)) → All (All P) waiting → HoldsOf (item_of best) → HoldsOf (item_of (fold lesser best (heads_from q waiting)))
  heads_hold q best [] each had = had
  heads_hold q best ([] ∷ waiting) each had = heads_hold (q + 1) best waiting (All-tail (All P) [] waiting each) had
  heads_hold q best ((i ∷ is) ∷ waiting) each had =
      heads_hold (q + 1) (lesser best (record { source = q; item = i })) waiting (All-tail (All P) (i ∷ is) waiting each)
      (lesser_holds best (record { source = q; item = i }) had (All-head P i is (All-head (All P) (i ∷ is) waiting each)))

  least_holds : (waiting : List (List Item)) → All (All P) waiting → HoldsOf (item_of (least waiting))
  least_holds waiting each = go (all_wait waiting)
    where
      go : (b : Bool) → HoldsOf (item_of (if b then fold lesser None (heads_from 0 waiting) else None))
      go true = heads_hold 0 None waiting each tt
      go false = tt

  -- what holds of each item that waits holds of the next one
  pub next_holds : (waiting : List (List Item)) (i : Item) → All (All P) waiting → item_of (least waiting) ≡ Some i → P i
  next_holds waiting i each found = subst HoldsOf found (least_holds waiting each)

  -- ---- an item is offered

  pub all_offer : (m : MergeView) (q n : ℕ) (i : Item) → P i → All (All P) m.waiting → All (All P) (after_offer m q n i).waiting
  all_offer m q n i here all = by_test (n == mark_of m q + 1)
    where
      by_test : (b : Bool) → All (All P) (if b then record { marks = slice_set m.marks q n; waiting = slice_set m.waiting q (waiting_of m q ++ i ∷ []); count = m.count } else m).waiting
      by_test true = All-set (All P) m.waiting q (waiting_of m q ++ i ∷ []) (All-append P (waiting_of m q) (i ∷ []) (all_at P m.waiting q all) (All-cons P i [] here (All-nil P))) all
      by_test false = all
