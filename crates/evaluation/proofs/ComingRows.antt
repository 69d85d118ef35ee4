-- The rows of a merged list, and of what comes to a stage.
use Rattle.std.specs.Prelude.{◌≡◌, ◌+◌, ◌<◌, ◌≤◌, ℕ, List, [], ◌∷◌, ◌++◌, length}
use Rattle.tuple_edge.specs.Input.{Input}
use Rattle.tuple_edge.specs.declared.item.Item.{Item}
use Rattle.tuple_edge.specs.declared.row.Row.{Row}
use Rattle.merge_order.specs.Merged.{items, merged}
use Rattle.stream_ops.specs.Answers.{rows_of}
use Rattle.plan_reader.specs.PlanView.{PlanView}
use Rattle.pair_machine.specs.Edges.{sent_by, stamped}
use Rattle.pair_machine.specs.Ingress.{last_stamp}
use Rattle.tuple_edge.specs.declared.item.Item.TheVariants as item

-- rows lie above stamp s, marks are at least m, and the end lies above s
abbrev pub Past : ℕ → ℕ → List Item → Type 0
Past s m [] = Unit {0}
Past s m (item.Row t r ∷ is) = (s < t) × Past s m is
Past s m (item.Mark t ∷ is) = (m ≤ t) × Past s m is
Past s m (item.End t ∷ is) = (s < t) × Past s m is

-- rows of rising stamps and marks, before the last stamp
abbrev pub Rises : ℕ → List Item → Type 0
Rises last [] = Unit {0}
Rises last (item.Row s r ∷ is) = (1 ≤ s) × (s < last) × Past s s is × Rises last is
Rises last (item.Mark s ∷ is) = (1 ≤ s) × (s < last) × Past s (s + 1) is × Rises last is
Rises last (item.End s ∷ is) = ⊥

-- the late rows with their stamp, and the end
abbrev pub tail_of : ℕ → List Row → List Item
tail_of last late = stamped last late ++ item.End last ∷ []

-- a merged list has these early and late rows
pub record HasRows (last : ℕ) (list : List Item) (early late : List Row) : Type 0 where
  pub front : List Item
  pub whole : list ≡ front ++ tail_of last late
  pub rows : rows_of front ≡ early

-- What comes to stage s has these early and late rows; no two early ones have one stamp, but after the last stage.
pub record ComesTo (plan : PlanView) (inputs : List Input) (s : ℕ) (early late : List Row) : Type 0 where
  pub has : HasRows (last_stamp inputs) (items (merged (last_stamp inputs) (sent_by plan inputs s))) early late
  pub rises : s < length plan.stages → Rises (last_stamp inputs) has.front
