-- What is said of files that were read.
use Rattle.std.proofs.Common.{ℕ, ◌≡◌, ◌∙◌, ap, refl, Bool, true, false, List, subst, sym, Option, Ok, Err}
use Rattle.std.specs.Prelude.{IfOk, Result, if◌then◌else◌}
use Rattle.tuple_edge.specs.declared.memory.OutOfMemory.{OutOfMemory}
use Rattle.tuple_edge.specs.declared.row.Row.{Row}
use Rattle.plan_reader.specs.PlanView.{PlanView}
use Rattle.pair_machine.specs.declared.order.Order.{Order}
use Rattle.trade_check.specs.Given.{GivenView}
use Rattle.trade_check.specs.Text.{check_text, warning_count}
use Rattle.command_course.specs.Answers.{AnswerView, answer, answer_of}
use Rattle.command_course.specs.declared.answer.Answer.{Answer}
use Rattle.command_course.specs.Course.{Reading}
use Rattle.look_command.specs.Trying.{Named}
use Rattle.look_command.specs.Check.{Given, accepted, check_as, ending_after, faulty_answer, given, has_fault, judged, sound_answer}

-- the same answer
pub ok_answer : (result : Result Answer OutOfMemory) (said wanted : AnswerView) → said ≡ wanted → IfOk result (λ it. answer_of it ≡ said) → IfOk result (λ it. answer_of it ≡ wanted)
ok_answer result said wanted same = subst (λ a. IfOk result (λ it. answer_of it ≡ a)) same

pub judged_faulty : (json : Bool) (plan : PlanView) (given : Given) → has_fault given ≡ true → faulty_answer json given ≡ judged json (Ok plan) given
judged_faulty json plan given e = λ j. if (sym e j) then faulty_answer json given else sound_answer json plan (accepted given.trades) (accepted given.cash) (accepted given.script)

pub judged_sound : (json : Bool) (plan : PlanView) (given : Given) → has_fault given ≡ false → sound_answer json plan (accepted given.trades) (accepted given.cash) (accepted given.script) ≡ judged json (Ok plan) given
judged_sound json plan given e = λ j. if (sym e j) then faulty_answer json given else sound_answer json plan (accepted given.trades) (accepted given.cash) (accepted given.script)

-- what a check says of what is given with the plan
pub sound_is : (json : Bool) (plan : PlanView) (trades : Option GivenView) (cash : Option (List Row)) (script : Option (List Order)) (text bytes : List ℕ) (count : ℕ)
    → text ≡ check_text plan trades cash script → count ≡ warning_count plan trades cash script → bytes ≡ check_as json false text → answer (ending_after count) bytes ≡ sound_answer json plan trades cash script
sound_is json plan trades cash script text bytes count text_is count_is bytes_are =
    let whole : bytes ≡ check_as json false (check_text plan trades cash script) = bytes_are ∙ ap (check_as json false) text_is in
    λ j. answer (ending_after (count_is j)) (whole j)

-- the same files
pub sound_of : (json : Bool) (plan : PlanView) (trades there_trades : Option GivenView) (cash there_cash : Option (List Row)) (script there_script : Option (List Order))
    → trades ≡ there_trades → cash ≡ there_cash → script ≡ there_script → sound_answer json plan trades cash script ≡ sound_answer json plan there_trades there_cash there_script
sound_of json plan trades there_trades cash there_cash script there_script same_trades same_cash same_script = λ j. sound_answer json plan (same_trades j) (same_cash j) (same_script j)

-- where a file has a fault, the faults are told, whatever the plan is
pub faults_told : (json : Bool) (plan : Reading PlanView) (given : Given) → has_fault given ≡ true → faulty_answer json given ≡ judged json plan given
faults_told json (Ok plan) given e = judged_faulty json plan given e
faults_told json (Err line) given e = refl

-- a plan that is refused is a fault
pub refused_plan : (plan : Reading PlanView) (line : List ℕ) (trades : Named GivenView) (cash : Named (List Row)) (script : Named (List Order)) → plan ≡ Err line → has_fault (given plan trades cash script) ≡ true
refused_plan plan line trades cash script e = ap (λ (it : Reading PlanView). has_fault (given it trades cash script)) e
