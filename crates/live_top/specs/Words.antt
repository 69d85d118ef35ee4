-- The words of `flux_live`, as words of `flux run`.
use Rattle.std.specs.Prelude.{◌&&◌, List, [], ◌∷◌, Option, None, Some, codes, if◌then◌else◌}
use Rattle.command_line.specs.Forms.{Options, default_threads, default_turns}
use Rattle.command_line.specs.Words.{Text, is_plain}
use Rattle.command_course.specs.Course.{Course}
use Rattle.run_command.specs.Courses.{run_course}
use Rattle.command_line.specs.Views.{text_in}
use Rattle.live_top.specs.declared.words.Named.{Named}

-- the files that words name: a plan, its trades and, where one is named, a failure script
pub record Files : Type 0 where
  pub plan : Text
  pub trades : Text
  pub script : Option Text

-- the files of these names
abbrev pub naming : (plan trades : Text) → (script : Option Text) → Files
naming plan trades script = record { plan = plan; trades = trades; script = script }

-- `PLAN TRADES` and `PLAN TRADES SCRIPT`: no word is empty or begins with `-`
abbrev pub files_of : List Text → Option Files
files_of (plan ∷ trades ∷ []) =
    if is_plain plan && is_plain trades then Some (naming plan trades None) else None
files_of (plan ∷ trades ∷ script ∷ []) =
    if is_plain plan && is_plain trades && is_plain script then Some (naming plan trades (Some script)) else None
files_of _ = None

-- the words by which `flux` runs a plan over such files
abbrev pub run_words : (plan trades : Text) → (script : Option Text) → List Text
run_words plan trades None = codes "run" ∷ plan ∷ trades ∷ []
run_words plan trades (Some script) = codes "run" ∷ plan ∷ trades ∷ codes "--script" ∷ script ∷ []

-- words without a form are none
abbrev pub words_for : Option Files → List Text
words_for None = []
words_for (Some named) = run_words named.plan named.trades named.script

-- The words of `flux` that ask for what these words of `flux_live` do.
abbrev pub as_run : List Text → List Text
as_run words = words_for (files_of words)

-- what `flux run` is told for such files: no cash movements, no journal, and threads and turns as where no option is given
abbrev pub options_with : Option Text → Options
options_with script = record { cash = None; script = script; threads = default_threads; turns = default_turns; journal = None }

-- the course of `flux run` over them
abbrev pub course_over : Files → Course
course_over named = run_course named.plan named.trades (options_with named.script)

-- ---- as the code holds it

-- the files that code has found words to name
abbrev pub files_in : Named → Files
files_in named = naming named.plan.now named.trades.now (text_in named.script)
