-- Why the steps of `flux_live` stop.
use Rattle.std.specs.Prelude.{ℕ, ◌≡◌, ◌⊎◌, List, None}
use Rattle.std.specs.String.{string_bytes}
use Rattle.pair_machine.specs.Drain.{partition}
use Rattle.pair_machine.specs.declared.order.Order.{Order}
use Rattle.command_course.specs.FeedView.{FeedView}
use Rattle.command_course.specs.declared.stop.Stop.{Stop}
use Rattle.command_course.specs.declared.stop.Stop.TheVariants as stop
use Rattle.flux_outside.specs.Told.{FilesTold, SinkTold}
use Rattle.flux_top.specs.Clauses.{ComesToRead, ComesToRefusal, StopsShort}
use Rattle.flux_top.specs.Outcome.{asked}
use Rattle.flux_top.specs.Programs as program
use Rattle.live_feed.specs.declared.answer.Live.TheVariants as live
use Rattle.live_top.specs.Clauses.{FallsShort}
use Rattle.live_top.specs.Lines.{lost_line, own_line}
use Rattle.live_top.specs.Runs.{Lived, RunLives}
use Rattle.live_top.specs.Words.{as_run}

-- a line is said of a refused input
abbrev pub RefusesBy : FilesTold → FilesTold → List (List ℕ) → List ℕ → Type 0
RefusesBy before after words = program.RefusesBy (ComesToRefusal before after (as_run words)) own_line

-- a line is said of a file that can't be read
abbrev pub UnreadBy : FilesTold → FilesTold → List (List ℕ) → List ℕ → Type 0
UnreadBy before after words = program.UnreadBy (ComesToRead before after (as_run words)) own_line

-- why the words' inputs weren't all read and accepted
abbrev pub StopsBefore : FilesTold → FilesTold → List (List ℕ) → Stop → Type 0
StopsBefore before after words stop.Usage = asked (as_run words) ≡ None
StopsBefore before after words (stop.Refused line) = RefusesBy before after words (string_bytes line)
StopsBefore before after words (stop.CannotRead line) = UnreadBy before after words (string_bytes line)
StopsBefore before after words stop.CannotWrite = ⊥
StopsBefore before after words (stop.PairLost stage part line) = ⊥
StopsBefore before after words stop.OutOfMemory = StopsShort before after (as_run words)

-- why a run was not whole, or not written whole
abbrev pub StopsLive : FeedView → List Order → SinkTold → SinkTold → Stop → Type 0
StopsLive feed script old new stop.Usage = ⊥
StopsLive feed script old new (stop.Refused line) = ⊥
StopsLive feed script old new (stop.CannotRead line) = ⊥
StopsLive feed script old new stop.CannotWrite = RunLives feed script old new live.WriteFault
StopsLive feed script old new (stop.PairLost stage part line) = RunLives feed script old new (live.Lost stage part) × (string_bytes line ≡ lost_line (partition stage part))
StopsLive feed script old new stop.OutOfMemory = RunLives feed script old new live.OutOfMemory

-- this pair was lost, as a line says, or no memory was to be had for that
abbrev pub NamesLost : (stage part : ℕ) → Stop → Type 0
NamesLost stage part why = (why ≡ stop.OutOfMemory) ⊎ ((line : _) × (why ≡ stop.PairLost stage part line) × (string_bytes line ≡ lost_line (partition stage part)))

-- why the words' run stopped, before it or in it
abbrev pub StopsTo : FilesTold → FilesTold → List (List ℕ) → SinkTold → SinkTold → Stop → Type 0
StopsTo before after words old new stop.Usage = asked (as_run words) ≡ None
StopsTo before after words old new (stop.Refused line) = RefusesBy before after words (string_bytes line)
StopsTo before after words old new (stop.CannotRead line) = UnreadBy before after words (string_bytes line)
StopsTo before after words old new stop.CannotWrite = Lived before after words old new live.WriteFault
StopsTo before after words old new (stop.PairLost stage part line) =
    Lived before after words old new (live.Lost stage part) × (string_bytes line ≡ lost_line (partition stage part))
StopsTo before after words old new stop.OutOfMemory = FallsShort before after words old new

-- nothing was put before any stop but those of a run
abbrev pub IsQuiet : {A : Type 0} → A → A → Stop → Type 0
IsQuiet old new stop.Usage = new ≡ old
IsQuiet old new (stop.Refused line) = new ≡ old
IsQuiet old new (stop.CannotRead line) = new ≡ old
IsQuiet old new stop.CannotWrite = Unit {0}
IsQuiet old new (stop.PairLost stage part line) = Unit {0}
IsQuiet old new stop.OutOfMemory = Unit {0}
