-- What the side of a run leaves that runs it, while the other writes.
use Rattle.std.specs.Prelude.{List, Result, Ok, Err}
use mathlib.Core.List.{IsPrefix}
use Rattle.tuple_edge.specs.Input.{Input}
use Rattle.tuple_edge.specs.declared.memory.OutOfMemory.{OutOfMemory}
use Rattle.tuple_edge.specs.declared.row.Row.{Row}
use Rattle.plan_reader.specs.PlanView.{PlanView}
use Rattle.pair_machine.specs.Output.{output}
use Rattle.pair_machine.specs.declared.order.Order.{Order}
use Rattle.drained_run.specs.Ended.{EndedView, IsEnded}

-- The run has ended, and these rows were given on: the first of its own. Without memory they are the first of the output.
abbrev pub HasRun : PlanView → List Input → List Order → (given : List Row) → Result EndedView OutOfMemory → Type 0
HasRun plan inputs script given (Ok ended) = IsEnded plan inputs script ended × IsPrefix given ended.rows
HasRun plan inputs script given (Err want) = IsPrefix given (output plan inputs)
