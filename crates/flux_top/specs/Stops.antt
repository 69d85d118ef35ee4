-- Why a command stops, as a program says it: with its own name before the line, and with a status.
use Rattle.std.specs.Prelude.{ℕ, ◌≡◌, ◌⊎◌, List}
use Rattle.std.specs.String.{string_bytes}
use Rattle.command_course.specs.Course.{Came, CameToRead, Course, Refuses, StoppedShort}
use Rattle.command_course.specs.declared.stop.Stop.{Stop}
use Rattle.command_course.specs.declared.stop.Stop.TheVariants as stop
use Rattle.flux_outside.specs.Told.{FilesTold}
use Rattle.flux_top.specs.Lines.{line_by}
use Rattle.flux_top.specs.Programs.{Lines, RefusesBy, UnreadBy}

-- the same stop with the name of the program before its line, or want of memory for that
abbrev pub IsOwn : List ℕ → Stop → Stop → Type 0
IsOwn name stop.Usage own = own ≡ stop.Usage
IsOwn name (stop.Refused line) own = (own ≡ stop.OutOfMemory) ⊎ ((said : _) × (own ≡ stop.Refused said) × (string_bytes said ≡ line_by name (string_bytes line)))
IsOwn name (stop.CannotRead line) own = (own ≡ stop.OutOfMemory) ⊎ ((said : _) × (own ≡ stop.CannotRead said) × (string_bytes said ≡ line_by name (string_bytes line)))
IsOwn name stop.CannotWrite own = own ≡ stop.CannotWrite
IsOwn name (stop.PairLost stage part line) own = own ≡ stop.PairLost stage part line
IsOwn name stop.OutOfMemory own = own ≡ stop.OutOfMemory

-- why a course stopped before anything was written, as a program that says lines so says it, and how far it came
abbrev pub StopsAs : (List ℕ → List ℕ) → FilesTold → FilesTold → Course → Stop → Type 0
StopsAs says before after course stop.Usage = ⊥
StopsAs says before after course (stop.Refused line) = RefusesBy (λ refused. Came before after course (Refuses refused)) says (string_bytes line)
StopsAs says before after course (stop.CannotRead line) = UnreadBy (CameToRead before after course) says (string_bytes line)
StopsAs says before after course stop.CannotWrite = ⊥
StopsAs says before after course (stop.PairLost stage part line) = ⊥
StopsAs says before after course stop.OutOfMemory = StoppedShort before after course

-- the status of a program that stops so
abbrev pub status_at : Stop → ℕ
status_at stop.Usage = 2
status_at (stop.Refused line) = 3
status_at (stop.CannotRead line) = 4
status_at stop.CannotWrite = 5
status_at (stop.PairLost stage part line) = 6
status_at stop.OutOfMemory = 8

-- the line that a program with these lines says then
abbrev pub line_at : Lines → Stop → List ℕ
line_at lines stop.Usage = lines.usage
line_at lines (stop.Refused line) = string_bytes line
line_at lines (stop.CannotRead line) = string_bytes line
line_at lines stop.CannotWrite = lines.unwritten
line_at lines (stop.PairLost stage part line) = string_bytes line
line_at lines stop.OutOfMemory = lines.short

-- the lines that stand for a status
abbrev pub own_lines : (usage unwritten short : List ℕ) → Lines
own_lines usage unwritten short = record { usage = usage; unwritten = unwritten; short = short }
