-- What each source of ingress sends: the rows of its own inputs, a mark after each so many inputs of all sources, and the end. An input's
-- stamp is its number among the inputs of all sources, so that all sources send the same marks and the same end.
use Rattle.std.specs.Prelude.{ℕ, List, [], ◌∷◌, ◌++◌, ◌+◌, ◌%◌, ◌==◌, if◌then◌else◌, length, map}
use Rattle.std.specs.List.{range_with_len}
use Rattle.tuple_edge.specs.Input.{Input}
use Rattle.tuple_edge.specs.declared.item.Item.{Item}
use Rattle.tuple_edge.specs.declared.item.Item.TheVariants as item
use Rattle.tuple_edge.specs.declared.row.Row.{Row}
use Rattle.plan_reader.specs.PlanView.{PlanView}

-- the stamp of the end: one more than that of the last input, whose stamp is its number
abbrev pub last_stamp : List Input → ℕ
last_stamp inputs = length inputs + 1

-- a mark follows the input of stamp n where n is divisible by the plan's mark
abbrev pub mark_after : ℕ → ℕ → List Item
mark_after mark n = if n % mark == 0 then item.Mark n ∷ [] else []

-- an input's row, which its own source alone sends
abbrev pub row_of_source : (source stamp : ℕ) → Input → List Item
row_of_source source stamp input = if input.source == source then item.Row stamp input.row ∷ [] else []

-- what a source sends for inputs of which the first has stamp n, and at last
abbrev pub sent_from : (source mark n : ℕ) → List Input → List Item
sent_from source mark n [] = item.End n ∷ []
sent_from source mark n (input ∷ inputs) = row_of_source source n input ++ (mark_after mark n ++ sent_from source mark (n + 1) inputs)

-- what a source sends for all inputs
abbrev pub sent_by_source : PlanView → List Input → ℕ → List Item
sent_by_source plan inputs source = sent_from source plan.mark 1 inputs

-- what ingress sends, source by source: a plan has as many sources as its version says
abbrev pub sent_by_ingress : PlanView → List Input → List (List Item)
sent_by_ingress plan inputs = map (sent_by_source plan inputs) (range_with_len 0 plan.version)

-- what all sources send together, for the rows of inputs in their order, of which the first has stamp n
abbrev pub sent_together : (mark n : ℕ) → List Row → List Item
sent_together mark n [] = item.End n ∷ []
sent_together mark n (row ∷ rows) = item.Row n row ∷ mark_after mark n ++ sent_together mark (n + 1) rows
