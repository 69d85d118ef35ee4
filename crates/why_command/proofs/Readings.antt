-- What is kept of a file that was read, or why it is refused.
use Rattle.std.proofs.Common.{◌≡◌, Ok, ap}
use Rattle.command_course.specs.Course.{Reading}
use Rattle.command_course.specs.Steps.{StopsOn}
use Rattle.command_course.specs.declared.stop.Stop.{Stop}
use Rattle.command_course.specs.declared.stop.Stop.TheVariants as stop
use Rattle.why_command.specs.Kept.{read_with}

-- what is refused is refused by the same line
pub stops_with : {A B : Type 0} (kept : A → B) (reading : Reading A) (why : Stop) → StopsOn reading why → StopsOn (read_with kept reading) why
stops_with kept reading stop.Usage stops = stops
stops_with kept reading (stop.Refused line) stops = ap (read_with kept) stops
stops_with kept reading (stop.CannotRead line) stops = stops
stops_with kept reading stop.CannotWrite stops = stops
stops_with kept reading (stop.PairLost stage part line) stops = stops
stops_with kept reading stop.OutOfMemory stops = stops

-- what is accepted is kept
pub read_is : {A B : Type 0} (kept : A → B) (reading : Reading A) (x : A) → reading ≡ Ok x → read_with kept reading ≡ Ok (kept x)
read_is kept reading x is = ap (read_with kept) is
