-- A run whose events are one list.
use Rattle.std.specs.Prelude.{◌≡◌, ℕ, List}
use Rattle.tuple_edge.specs.Input.{Input}
use Rattle.plan_reader.specs.PlanView.{PlanView}
use Rattle.pair_machine.specs.declared.order.Order.{Order}
use Rattle.run_journal.specs.Text.{lined_from}
use Rattle.flux_core.specs.Follows.{AreNamed, events_of}
use Rattle.drained_run.specs.Ended.{EndsSo}
use Rattle.listed_run.specs.declared.run.Listed.{Listed}

-- the line of the first event in a journal
abbrev pub first_line : ℕ
first_line = 2

-- A run of the plan over these inputs under the script has ended, and its events are this list: each has the line that it has in the journal, and is
-- one of the plan.
pub record IsListed (plan : PlanView) (inputs : List Input) (script : List Order) (run : Listed) : Type 0 where
  pub ends : EndsSo plan inputs script (events_of run.lines.items) run.rows.items run.drained
  pub lined : run.lines.items ≡ lined_from first_line (events_of run.lines.items)
  pub named : AreNamed plan run.lines.items
