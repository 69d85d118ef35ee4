-- What is said of a refused plan.
use Rattle.std.specs.Prelude.{ℕ, List, ◌++◌, codes}
use Rattle.std.specs.Fmt.{decimal}
use Rattle.text_words.specs.Messages.{at_line}
use Rattle.plan_reader.specs.declared.error.Fault.{Fault}
use Rattle.plan_reader.specs.declared.error.Fault.TheVariants as fault
use Rattle.plan_reader.specs.declared.error.PlanError.{PlanError}
use Rattle.plan_reader.specs.declared.error.PlanError.TheVariants as error

-- a fault of a line, with the line's number
abbrev pub fault_at : ℕ → Fault → PlanError
fault_at line fault.Grammar = error.Grammar line
fault_at line fault.UnknownWord = error.UnknownWord line
fault_at line fault.Number = error.Number line
fault_at line fault.Range = error.Range line
fault_at line fault.TooMany = error.TooMany line
fault_at line fault.JoinNotLast = error.JoinNotLast line

-- the text that says why a plan is refused
abbrev pub plan_fault : PlanError → List ℕ
plan_fault (error.Grammar line) = at_line line (codes "grammar")
plan_fault (error.UnknownWord line) = at_line line (codes "unknown word")
plan_fault (error.Number line) = at_line line (codes "number")
plan_fault (error.Range line) = at_line line (codes "range")
plan_fault error.NoStage = codes "no stage"
plan_fault (error.TooMany line) = at_line line (codes "too many stages")
plan_fault (error.TooLong bytes) = codes "too long"
plan_fault (error.Crowded edges mark) = codes "crowded, edges " ++ (decimal edges ++ (codes ", mark " ++ decimal mark))
plan_fault error.OutOfMemory = codes "out of memory"
plan_fault (error.JoinNotLast line) = at_line line (codes "stage after join")
