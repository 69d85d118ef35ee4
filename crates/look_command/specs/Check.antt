-- The course of `check`: the files that are named are read one after the other, whatever the others say, and then all of them are
-- judged. Movements are read unless the plan is one of version 1, and a script is read for a plan without a fault.
use Rattle.std.specs.Prelude.{ℕ, ◌-◌, ◌==◌, ◌||◌, Bool, false, true, List, [], ◌++◌, length, Option, None, Some, Ok, Err, if◌then◌else◌}
use Rattle.tuple_edge.specs.declared.row.Row.{Row}
use Rattle.plan_reader.specs.Limits.{max_plan_bytes}
use Rattle.plan_reader.specs.PlanView.{PlanView}
use Rattle.pair_machine.specs.declared.order.Order.{Order}
use Rattle.failure_script.specs.Limits.{max_script_bytes}
use Rattle.trade_text.specs.Limits.{max_input_bytes, max_inputs}
use Rattle.command_course.specs.Course.{Reading, Way}
use Rattle.command_course.specs.Inputs.{cash_from, plan_from, trades_from}
use Rattle.command_course.specs.Lines.{not_in_plan_line}
use Rattle.run_command.specs.Scripts.{script_from}
use Rattle.look_json.specs.CheckJson.{check_json}
use Rattle.trade_check.specs.Given.{GivenView}
use Rattle.trade_check.specs.Text.{check_text, warning_count}
use Rattle.command_course.specs.Answers.{AnswerView, answer}
use Rattle.look_command.specs.Trying.{Named, named_of, tried_of, tries, tries_named}
use Rattle.look_command.specs.Kinds.{told_from, with_file}
use Rattle.look_command.specs.declared.faults.Said.{Said}
use Rattle.input_faults.specs.AllFaults.{all_cash_faults, all_trades_faults}
use Rattle.input_faults.specs.RecordFaults.{cash_fault, trades_fault}
use Rattle.input_faults.specs.WordFaults.{plan_fault, script_fault}
use Rattle.command_course.specs.declared.answer.Ending.{Ending}
use Rattle.command_course.specs.declared.answer.Ending.TheVariants.{Done, Faulty, Warned}

-- ---- what a file says, or its fault, with the place and what may stand there

-- what the file of a plan says, or its fault
abbrev pub plan_told : List ℕ → List ℕ → Reading PlanView
plan_told = told_from max_plan_bytes plan_fault plan_from

-- what is said of trades that are refused: of each record that is, or of the first one alone
abbrev pub trades_faults : (all : Bool) → List ℕ → List ℕ → Option (List ℕ)
trades_faults true = all_trades_faults
trades_faults false = trades_fault

-- the same of movements, of which so many have room
abbrev pub movement_faults : (all : Bool) → (room : ℕ) → List ℕ → List ℕ → Option (List ℕ)
movement_faults true = all_cash_faults
movement_faults false = cash_fault

-- what the file of trades says, or its fault, or all its faults
abbrev pub trades_told : (all : Bool) → List ℕ → List ℕ → Reading GivenView
trades_told all name bytes = with_file name bytes (told_from max_input_bytes (trades_faults all) trades_from name bytes)

-- the same of the file of movements, of which so many have room
abbrev pub cash_told : (all : Bool) → (room : ℕ) → List ℕ → List ℕ → Reading (List Row)
cash_told all room = told_from max_input_bytes (movement_faults all room) (cash_from room)

-- what the script for a plan says, or its fault
abbrev pub script_told : PlanView → List ℕ → List ℕ → Reading (List Order)
script_told plan = told_from max_script_bytes (script_fault plan) (script_from plan)

-- what the files say
pub record Given : Type 0 where
  pub plan : Reading PlanView
  pub trades : Named GivenView
  pub cash : Named (List Row)
  pub script : Named (List Order)

-- for how many cash movements trades leave room; trades that have a fault, or that are not given, leave all of it
abbrev pub room_beside : Named GivenView → ℕ
room_beside None = max_inputs
room_beside (Some (Err line)) = max_inputs
room_beside (Some (Ok g)) = max_inputs - length g.trades.rows

-- whether a plan was read that has no cash movements: one of version 1
abbrev pub is_without_cash : Reading PlanView → Bool
is_without_cash (Ok plan) = plan.version == 1
is_without_cash (Err line) = false

-- A plan of version 1 has no cash movements: their file is not read, and that it is given is the fault. Of another plan so many movements may be given.
abbrev pub tries_cash : (all : Bool) → Reading PlanView → (room : ℕ) → Option (List ℕ) → Way (Named (List Row))
tries_cash all plan room None next = next None
tries_cash all (Err line) room (Some name) next = tries_named max_input_bytes (cash_told all room) (Some name) next
tries_cash all (Ok plan) room (Some name) next = if plan.version == 1 then next (Some (Err (not_in_plan_line name))) else tries_named max_input_bytes (cash_told all room) (Some name) next

-- a script is one for a plan: it is not read where that has a fault
abbrev pub tries_script : Reading PlanView → Option (List ℕ) → Way (Named (List Order))
tries_script (Ok plan) script next = tries_named max_script_bytes (script_told plan) script next
tries_script (Err line) script next = next None

-- ---- the judgement

-- whether a file has a fault
abbrev pub is_faulty : {A : Type 0} → Reading A → Bool
is_faulty (Ok value) = false
is_faulty (Err line) = true

-- whether a file is named that has a fault
abbrev pub is_named_faulty : {A : Type 0} → Named A → Bool
is_named_faulty None = false
is_named_faulty (Some said) = is_faulty said

-- whether one of the files has a fault
abbrev pub has_fault : Given → Bool
has_fault given = is_faulty given.plan || is_named_faulty given.trades || is_named_faulty given.cash || is_named_faulty given.script

-- the line of a fault
abbrev pub fault_line : {A : Type 0} → Reading A → List ℕ
fault_line (Ok value) = []
fault_line (Err line) = line

-- the line of the fault of a file that is named
abbrev pub named_line : {A : Type 0} → Named A → List ℕ
named_line None = []
named_line (Some said) = fault_line said

-- the lines of the faults of all files, in order
abbrev pub fault_lines : Given → List ℕ
fault_lines given = fault_line given.plan ++ (named_line given.trades ++ (named_line given.cash ++ named_line given.script))

-- what a file says that has no fault
abbrev pub accepted : {A : Type 0} → Named A → Option A
accepted None = None
accepted (Some (Err line)) = None
accepted (Some (Ok value)) = Some value

-- how a check ends that found so many warnings
abbrev pub ending_after : ℕ → Ending
ending_after count = if count == 0 then Done else Warned

-- a text as it stands, or as JSON
abbrev pub check_as : (json faulty : Bool) → List ℕ → List ℕ
check_as json faulty text = if json then check_json faulty text else text

-- what is said of files one of which has a fault
abbrev pub faulty_answer : (json : Bool) → Given → AnswerView
faulty_answer json given = answer Faulty (check_as json true (fault_lines given))

-- what is said of files that have no fault
abbrev pub sound_answer : (json : Bool) → PlanView → Option GivenView → Option (List Row) → Option (List Order) → AnswerView
sound_answer json plan trades cash script = answer (ending_after (warning_count plan trades cash script)) (check_as json false (check_text plan trades cash script))

-- what is said of a plan and of the files beside it
abbrev pub judged : (json : Bool) → Reading PlanView → Given → AnswerView
judged json (Err line) given = faulty_answer json given
judged json (Ok plan) given = if has_fault given then faulty_answer json given else sound_answer json plan (accepted given.trades) (accepted given.cash) (accepted given.script)

-- what is said of all files
abbrev pub judgement : (json : Bool) → Given → AnswerView
judgement json given = judged json given.plan given

-- ---- the course

-- what these files say
abbrev pub given : Reading PlanView → Named GivenView → Named (List Row) → Named (List Order) → Given
given plan trades cash script = record { plan = plan; trades = trades; cash = cash; script = script }

-- the script comes last, and then all are judged
abbrev pub checks_script : Option (List ℕ) → (json : Bool) → Reading PlanView → Named GivenView → Named (List Row) → Way AnswerView
checks_script script json plan trades cash next = tries_script plan script (λ orders. next (judgement json (given plan trades cash orders)))

-- before the script come the movements
abbrev pub checks_cash : (cash script : Option (List ℕ)) → (all json : Bool) → Reading PlanView → Named GivenView → Way AnswerView
checks_cash cash script all json plan trades next = tries_cash all plan (room_beside trades) cash (λ movements. checks_script script json plan trades movements next)

-- before the movements come the trades
abbrev pub checks_trades : (trades cash script : Option (List ℕ)) → (all json : Bool) → Reading PlanView → Way AnswerView
checks_trades trades cash script all json plan next = tries_named max_input_bytes (trades_told all) trades (λ them. checks_cash cash script all json plan them next)

-- `check`: the plan comes first
abbrev pub check_way : (plan : List ℕ) → (trades cash script : Option (List ℕ)) → (all json : Bool) → Way AnswerView
check_way plan trades cash script all json next = tries max_plan_bytes plan_told plan (λ it. checks_trades trades cash script all json it next)

-- ---- as the code holds it

-- what the files say that code has read
abbrev pub given_of : Said → Given
given_of said = given (tried_of said.plan) (named_of said.trades) (named_of said.cash) (named_of said.script)
