-- What is said of a plan and of a script that are refused.
use Rattle.std.specs.Prelude.{ℕ, ◌+◌, ◌==◌, List, ◌++◌, length, Option, Some, None, Result, Ok, Err, slice_get, codes, if◌then◌else◌}
use Rattle.std.specs.Fmt.{decimal}
use Rattle.text_words.specs.Lines.{Word, counting_lines, words_of}
use Rattle.plan_reader.specs.Limits.{max_plan_bytes}
use Rattle.plan_reader.specs.Plan.{plan_of}
use Rattle.plan_reader.specs.PlanView.{PlanView}
use Rattle.plan_reader.specs.declared.error.PlanError.{PlanError}
use Rattle.plan_reader.specs.declared.error.PlanError.TheVariants as plan_error
use Rattle.failure_script.specs.Limits.{max_script_bytes}
use Rattle.failure_script.specs.Script.{script_of}
use Rattle.failure_script.specs.declared.error.ScriptError.{ScriptError}
use Rattle.failure_script.specs.declared.error.ScriptError.TheVariants as script_error
use Rattle.input_faults.specs.Places.{place_text}
use Rattle.input_faults.specs.Shown.{stands}
use Rattle.input_faults.specs.Spots.{first_place, line_of, spot_of, start_of}
use Rattle.input_faults.specs.declared.place.Place.{Place}
use Rattle.input_faults.specs.declared.place.Place.TheVariants as place
use Rattle.input_faults.specs.declared.spot.Spot.{Spot}

-- ---- a line and its word

-- what stands at a spot: a word, or the end of the line
abbrev pub standing : Option Word → List ℕ
standing None = codes "the line ends here"
standing (Some word) = stands word

-- the line that is said of a spot: the file, the line's number, the column where the word begins, the word, and what may stand there
abbrev pub spot_line : List ℕ → ℕ → List ℕ → Spot → List ℕ
spot_line name number line spot =
    name ++ (codes ": line " ++ (decimal number ++ (codes ", column " ++ (decimal (start_of spot.passed line + 1) ++ (codes ": "
    ++ (standing (slice_get (words_of line) spot.passed) ++ (codes "; here may stand: " ++ place_text spot.place)))))))

-- a file that is too long
abbrev pub length_line : List ℕ → ℕ → ℕ → List ℕ
length_line name count most = name ++ (codes ": " ++ (decimal count ++ (codes " bytes; at most " ++ (decimal most ++ codes " may be"))))

-- what is said of a file: nothing where it is accepted
abbrev pub told : {A E : Type 0} → (E → List ℕ) → Result A E → Option (List ℕ)
told line (Ok x) = None
told line (Err e) = Some (line e)

-- ---- a plan

-- a line of a plan that is refused
abbrev pub plan_word_line : List ℕ → List ℕ → ℕ → List ℕ
plan_word_line name bytes number = spot_line name number (line_of number bytes) (spot_of (first_place number (counting_lines bytes)) (line_of number bytes))

-- the first fault of a plan, and where no line counts that
abbrev pub plan_line_at : List ℕ → List ℕ → ℕ → List ℕ
plan_line_at name bytes number =
    if length (counting_lines bytes) == 0 then name ++ codes ": no line counts; the first has to be: flux 1, or flux 2" else plan_word_line name bytes number

-- a plan with more than 8 edges for each row of its mark
abbrev pub crowded_line : List ℕ → ℕ → ℕ → List ℕ
crowded_line name edges mark = name ++ (codes ": " ++ (decimal edges ++ (codes " edges, more than 8 times the mark " ++ decimal mark)))

-- the line that is said of a refused plan
abbrev pub plan_line : List ℕ → List ℕ → PlanError → List ℕ
plan_line name bytes (plan_error.Grammar number) = plan_line_at name bytes number
plan_line name bytes (plan_error.UnknownWord number) = plan_line_at name bytes number
plan_line name bytes (plan_error.Number number) = plan_line_at name bytes number
plan_line name bytes (plan_error.Range number) = plan_line_at name bytes number
plan_line name bytes plan_error.NoStage = name ++ codes ": no line says a stage"
plan_line name bytes (plan_error.TooMany number) = plan_line_at name bytes number
plan_line name bytes (plan_error.TooLong count) = length_line name count max_plan_bytes
plan_line name bytes (plan_error.Crowded edges mark) = crowded_line name edges mark
plan_line name bytes plan_error.OutOfMemory = name ++ codes ": out of memory"
plan_line name bytes (plan_error.JoinNotLast number) = plan_line_at name bytes number

-- what is said of a plan's bytes: nothing where they are a plan
unfoldable pub plan_fault : List ℕ → List ℕ → Option (List ℕ)
plan_fault name bytes = told (plan_line name bytes) (plan_of bytes)

-- ---- a script

-- the replica of an order, which is its second word
abbrev pub replica_spot : Place → Spot
replica_spot at = record { passed = 1; place = at }

-- the line that is said of a refused script
abbrev pub script_line : List ℕ → List ℕ → ScriptError → List ℕ
script_line name bytes (script_error.Grammar number) = spot_line name number (line_of number bytes) (spot_of place.Event (line_of number bytes))
script_line name bytes (script_error.NoSuchReplica number) = spot_line name number (line_of number bytes) (replica_spot place.Replica)
script_line name bytes (script_error.Range number) = spot_line name number (line_of number bytes) (spot_of place.Event (line_of number bytes))
script_line name bytes (script_error.Twice number) = spot_line name number (line_of number bytes) (replica_spot place.OtherReplica)
script_line name bytes (script_error.TooLong count) = length_line name count max_script_bytes
script_line name bytes script_error.OutOfMemory = name ++ codes ": out of memory"

-- what is said of a script's bytes: nothing where they are a script for the plan
unfoldable pub script_fault : PlanView → List ℕ → List ℕ → Option (List ℕ)
script_fault plan name bytes = told (script_line name bytes) (script_of plan bytes)
