-- What is said of a plan and of the files beside it, as JSON: a line for each line of the text of `check`, by its kind.
use Rattle.std.specs.Prelude.{ℕ, ◌==◌, Bool, true, false, List, drop, length, Option, None, Some, codes, if◌then◌else◌}
use Rattle.std.specs.List.{flat_map, starts_with}
use Rattle.std.specs.Str.Lines.{lines}
use Rattle.serde_json.specs.Data.{Data, member, no_members, object, string}
use Rattle.look_json.specs.Lines.{line_of}

-- how the line of a warning begins
abbrev pub warning_mark : List ℕ
warning_mark = codes "Warning: "

-- what a line warns of, if it is the line of a warning
abbrev pub warning_in : (line : List ℕ) → Option (List ℕ)
warning_in line = if starts_with (◌==◌) line warning_mark then Some (drop (length warning_mark) line) else None

-- a warning, or else the line as it stands
abbrev pub sound_data : (warning : Option (List ℕ)) → (line : List ℕ) → Data
sound_data (Some warning) line = object (member (codes "warning") (string warning) no_members)
sound_data None line = object (member (codes "says") (string line) no_members)

-- a line: where files are refused it is one of a fault
abbrev pub check_data : (faulty : Bool) → (line : List ℕ) → Data
check_data true line = object (member (codes "fault") (string line) no_members)
check_data false line = sound_data (warning_in line) line

-- the same, as a line of JSON
abbrev pub check_line : (faulty : Bool) → (line : List ℕ) → List ℕ
check_line faulty line = line_of (check_data faulty line)

-- the whole text
abbrev pub check_json : (faulty : Bool) → (text : List ℕ) → List ℕ
check_json faulty text = flat_map (check_line faulty) (lines text)
