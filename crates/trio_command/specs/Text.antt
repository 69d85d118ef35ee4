-- The text of `trio`: the groups of a state, how the drain from it ends, and the rows that are emitted then.
use Rattle.std.specs.Prelude.{ℕ, ◌++◌, List, codes}
use Rattle.std.specs.Fmt.{decimal}
use Rattle.std.specs.List.{flat_map}
use Rattle.tuple_edge.specs.Input.{Input}
use Rattle.tuple_edge.specs.declared.event.Drained.{Drained}
use Rattle.tuple_edge.specs.declared.event.Drained.TheVariants as drained
use Rattle.tuple_edge.specs.declared.row.Row.{Row}
use Rattle.plan_reader.specs.PlanView.{PlanView}
use Rattle.trade_text.specs.Text.{row_line}
use Rattle.trio_machine.specs.Flow.{trio_flow}
use Rattle.trio_machine.specs.Machine.{State}
use Rattle.trio_drain.specs.Ending.{ending, rows_at_end}
use Rattle.trio_state.specs.GroupsText.{groups_text}

-- the fixed line with which the text begins
abbrev pub first_line : List ℕ
first_line = codes "trio 1\n"

-- the line that says how a drain ended
abbrev pub ended_line : Drained → List ℕ
ended_line drained.Whole = codes "drained whole\n"
ended_line (drained.Lost stage part) = codes "drained lost " ++ (decimal stage ++ (codes "." ++ (decimal part ++ codes "\n")))

-- the line of a row that was emitted
abbrev pub emitted_line : List (List ℕ) → Row → List ℕ
emitted_line symbols row = codes "row " ++ row_line symbols row

-- the text of a state that a plan reached with its inputs
abbrev pub trio_text : PlanView → List Input → List (List ℕ) → State → List ℕ
trio_text plan inputs symbols s =
    let f = trio_flow plan inputs in
    first_line ++ groups_text f s ++ ended_line (ending f s) ++ flat_map (emitted_line symbols) (rows_at_end plan inputs s)
