-- What the file of a failure script says, or the line by which it is refused.
use Rattle.std.specs.Prelude.{ℕ, List, [], Option, None, Some}
use Rattle.plan_reader.specs.PlanView.{PlanView}
use Rattle.pair_machine.specs.declared.order.Order.{Order}
use Rattle.failure_script.specs.Limits.{max_script_bytes}
use Rattle.failure_script.specs.Messages.{script_fault}
use Rattle.failure_script.specs.Script.{script_of}
use Rattle.command_course.specs.Course.{Reading, Way, reads}
use Rattle.command_course.specs.Lines.{or_line}

-- the orders of a file with these bytes, for a plan
abbrev pub script_from : PlanView → List ℕ → List ℕ → Reading (List Order)
script_from plan name bytes = or_line script_fault name (script_of plan bytes)

-- without a file there are no orders
abbrev pub with_script : Option (List ℕ) → PlanView → Way (List Order)
with_script None plan next = next []
with_script (Some name) plan next = reads max_script_bytes (script_from plan) name next
