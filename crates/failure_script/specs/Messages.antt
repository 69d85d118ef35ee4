-- What is said of a refused script.
use Rattle.std.specs.Prelude.{ℕ, List, codes}
use Rattle.text_words.specs.Messages.{at_line}
use Rattle.failure_script.specs.declared.error.Fault.{Fault}
use Rattle.failure_script.specs.declared.error.Fault.TheVariants as fault
use Rattle.failure_script.specs.declared.error.ScriptError.{ScriptError}
use Rattle.failure_script.specs.declared.error.ScriptError.TheVariants as error

-- a fault of a line, with the line's number
abbrev pub fault_at : ℕ → Fault → ScriptError
fault_at line fault.Grammar = error.Grammar line
fault_at line fault.NoSuchReplica = error.NoSuchReplica line
fault_at line fault.Range = error.Range line
fault_at line fault.Twice = error.Twice line

-- the text that says why a script is refused
abbrev pub script_fault : ScriptError → List ℕ
script_fault (error.Grammar line) = at_line line (codes "grammar")
script_fault (error.NoSuchReplica line) = at_line line (codes "no such replica")
script_fault (error.Range line) = at_line line (codes "range")
script_fault (error.Twice line) = at_line line (codes "twice")
script_fault (error.TooLong bytes) = codes "too long"
script_fault error.OutOfMemory = codes "out of memory"
