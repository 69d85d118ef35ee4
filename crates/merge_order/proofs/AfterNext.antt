-- What the next merged item leaves of a merge.
use Rattle.std.proofs.Common.{◌≡◌, ◌+◌, ℕ, zero, suc, List, [], ◌∷◌, ◌++◌, Option, None, Some, ap, refl, take}
use Rattle.std.specs.Prelude.{slice_get}
use Rattle.tuple_edge.specs.declared.item.Item.{Item}
use Rattle.merge_order.specs.declared.head.Head.{Head}
use Rattle.merge_order.specs.MergeView.{MergeView, after_head, after_next, item_of, least}

pub after_next-marks : (m : MergeView) → (after_next m).marks ≡ m.marks
after_next-marks m = go (least m.waiting)
  where
    go : (o : Option Head) → (after_head m o).marks ≡ m.marks
    go None = refl
    go (Some head) = refl

pub after_next-count : (m : MergeView) (i : Item) → item_of (least m.waiting) ≡ Some i → (after_next m).count ≡ m.count + 1
after_next-count m i = go (least m.waiting)
  where
    go : (o : Option Head) → item_of o ≡ Some i → (after_head m o).count ≡ m.count + 1
    go None e = let z : ⊥ = cc e in absurd z
    go (Some head) e = refl

-- a front of a list with the next item
pub front_more : (c : ℕ) (xs : List Item) (x : Item) → slice_get xs c ≡ Some x → take (suc c) xs ≡ take c xs ++ x ∷ []
front_more c [] x e = let z : ⊥ = cc e in absurd z
front_more zero (y ∷ xs) x e = let same : y ≡ x = cc e in ap (λ k. k ∷ []) same
front_more (suc c) (y ∷ xs) x e = ap (λ k. y ∷ k) (front_more c xs x e)
