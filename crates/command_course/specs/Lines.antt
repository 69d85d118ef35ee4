-- The lines that are said of a file, by a program that puts its name before them.
use Rattle.std.specs.Prelude.{ℕ, List, ◌++◌, Result, Ok, Err, codes}
use Rattle.command_course.specs.Course.{Reading}

-- what is said of a file
abbrev pub line_of : List ℕ → List ℕ → List ℕ
line_of name fault = name ++ codes ": " ++ fault ++ codes "\n"

-- what was read of a file, or the line that says its fault by this text
abbrev pub or_line : {E A : Type 0} → (E → List ℕ) → List ℕ → Result A E → Reading A
or_line text name (Ok x) = Ok x
or_line text name (Err fault) = Err (line_of name (text fault))

-- what is said of a file that can't be read
abbrev pub cannot_read_line : List ℕ → List ℕ
cannot_read_line name = line_of name (codes "cannot read")

-- what is said of cash movements for a plan that has no such source
abbrev pub not_in_plan_line : List ℕ → List ℕ
not_in_plan_line name = line_of name (codes "not in the plan")
