-- The merged list of one edge alone is the edge.
use Rattle.std.proofs.Common.{◌≡◌, ℕ, List, [], ◌∷◌, refl, sym, ap, ◌∙◌, arith}
use Rattle.std.specs.Prelude.{if◌then◌else◌}
use Rattle.tuple_edge.specs.declared.item.Item.{Item}
use Rattle.tuple_edge.specs.declared.item.Item.TheVariants as item
use Rattle.merge_order.specs.Edges.{AreAlike, IsEdge}
use Rattle.merge_order.specs.Merged.{has_mark_at, items, merged}
use Rattle.merge_order.proofs.Choices.{nat_self}
use Rattle.merge_order.proofs.Rest.{left_done}
use Rattle.merge_order.proofs.Step.{left, step}

alone : (last : ℕ) (is : List Item) → IsEdge last is → AreAlike last (λ n. has_mark_at n is) (is ∷ [])
alone last is e = (e, λ n. refl, tt)

-- what is left of one edge is its items
left_alone : (last : ℕ) (is : List Item) → IsEdge last is → items (left last (is ∷ [])) ≡ is
left_alone last [] e = absurd e
left_alone last (item.Row s r ∷ is) e =
    ap items (step last (λ n. has_mark_at n (item.Row s r ∷ is)) ((item.Row s r ∷ is) ∷ []) 0 (item.Row s r) (omega arith) (alone last (item.Row s r ∷ is) e) refl).first
    ∙ ap (λ x. item.Row s r ∷ x) (left_alone last is e.3)
left_alone last (item.Mark s ∷ is) e =
    ap items (step last (λ n. has_mark_at n (item.Mark s ∷ is)) ((item.Mark s ∷ is) ∷ []) 0 (item.Mark s) (omega arith) (alone last (item.Mark s ∷ is) e) refl).first
    ∙ (ap (λ b. item.Mark s ∷ items (left last ((if b then is else item.Mark s ∷ is) ∷ []))) (nat_self s) ∙ ap (λ x. item.Mark s ∷ x) (left_alone last is e.3))
left_alone last (item.End s ∷ is) e =
    ap items (step last (λ n. has_mark_at n (item.End s ∷ is)) ((item.End s ∷ is) ∷ []) 0 (item.End s) (omega arith) (alone last (item.End s ∷ is) e) refl).first
    ∙ (ap (λ b. item.End s ∷ items (left last ((if b then is else item.End s ∷ is) ∷ []))) (nat_self s)
    ∙ ap (λ x. item.End s ∷ x) (ap items (left_done last (is ∷ []) (e.2, tt)) ∙ sym e.2))

pub merged_alone : (last : ℕ) (is : List Item) → IsEdge last is → items (merged last (is ∷ [])) ≡ is
merged_alone last [] e = absurd e
merged_alone last (i ∷ is) e = left_alone last (i ∷ is) e
