-- Why scripts are refused.
use Rattle.std.proofs.Common.{ℕ, ◌≡◌, ◌<◌, true, List, length, refl, ap, Err, Result, arith}
use Rattle.std.specs.Prelude.{◌≢◌, nat_lt}
use Rattle.std.proofs.lemmas.Bool.Decides.{nat_tests}
use Rattle.plan_reader.specs.PlanView.{PlanView}
use Rattle.pair_machine.specs.declared.order.Order.{Order}
use Rattle.failure_script.specs.Limits.{max_script_bytes}
use Rattle.failure_script.specs.Messages.{script_fault}
use Rattle.failure_script.specs.Script.{Fails, script_of}
use Rattle.failure_script.specs.declared.error.ScriptError.{ScriptError}
use Rattle.failure_script.specs.declared.error.ScriptError.TheVariants as script_error
use Rattle.command_course.specs.Lines.{line_of}
use Rattle.command_course.specs.Steps.{IsRefusedBy, StopsOn}
use Rattle.command_course.specs.declared.stop.Stop.{Stop}
use Rattle.command_course.proofs.Refusals.{line_refused}
use Rattle.run_command.specs.Scripts.{script_from}

script_fails : (e : ScriptError) (read : Result (List Order) ScriptError) → Fails e read → e ≢ script_error.OutOfMemory → read ≡ Err e
script_fails script_error.OutOfMemory read fails known = absurd (known refl)
script_fails _ read fails known = fails

pub script_refused : (plan : PlanView) (name bytes : List ℕ) (e : ScriptError) (why : Stop) → Fails e (script_of plan bytes) → e ≢ script_error.OutOfMemory
    → IsRefusedBy why (line_of name (script_fault e)) (Unit {0}) → StopsOn (script_from plan name bytes) why
script_refused plan name bytes e why fails known by =
    line_refused script_fault name (script_of plan bytes) e why (script_fails e (script_of plan bytes) fails known) by

script_too_long : (plan : PlanView) (bytes : List ℕ) → max_script_bytes < length bytes → script_of plan bytes ≡ Err (script_error.TooLong (length bytes))
unfolding script_of
script_too_long plan bytes long = let e : nat_lt max_script_bytes (length bytes) ≡ true = grind (arith, nat_tests) in rw e refl

pub long_script : (plan : PlanView) (name bytes : List ℕ) (seen : ℕ) (why : Stop) → max_script_bytes < length bytes
    → IsRefusedBy why (line_of name (script_fault (script_error.TooLong seen))) (Unit {0}) → StopsOn (script_from plan name bytes) why
long_script plan name bytes seen why long by =
    line_refused script_fault name (script_of plan bytes) (script_error.TooLong (length bytes)) why (script_too_long plan bytes long) by
