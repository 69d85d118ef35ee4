-- How a live run ended, from its inputs on.
use Rattle.std.proofs.Common.{ℕ, ◌≡◌, List, sym, subst, refl, Ok, Err, ⊎_elim, inl, inr}
use Rattle.std.specs.Prelude.{IfErr, OnOk, Result}
use Rattle.pair_machine.specs.declared.order.Order.{Order}
use Rattle.command_course.specs.FeedView.{FeedView}
use Rattle.command_course.specs.declared.stop.Stop.{Stop}
use Rattle.command_course.specs.declared.stop.Stop.TheVariants as stop
use Rattle.flux_outside.specs.Told.{FilesTold, SinkTold}
use Rattle.flux_top.specs.Clauses.{HasCause}
use Rattle.live_feed.specs.declared.answer.Live.{Live}
use Rattle.live_feed.specs.declared.answer.Live.TheVariants as live
use Rattle.live_top.specs.Runs.{ComesToRun, Lived, RunLives}
use Rattle.live_top.specs.Stops.{IsQuiet, NamesLost, StopsBefore, StopsLive, StopsTo}

module _ (feed : FeedView) (script : List Order) (old new : SinkTold) where
  -- what was put is a front of the text also where no memory was to be had for the line
  falls_short : (answer : Live) → RunLives feed script old new answer → RunLives feed script old new live.OutOfMemory
  falls_short answer lives = record { answers = tt; front = lives.front; offers = lives.offers; later = lives.later }

  pub lost_stops : (stage part : ℕ) (why : Stop) → NamesLost stage part why → RunLives feed script old new (live.Lost stage part) → StopsLive feed script old new why
  lost_stops stage part why names lives = ⊎_elim
      (λ want. subst (StopsLive feed script old new) (sym want) (falls_short (live.Lost stage part) lives))
      (λ says. subst (StopsLive feed script old new) (sym says.1) (lives, says.2)) names

  module _ (before after : FilesTold) (words : List (List ℕ)) (comes : ComesToRun before after words feed script) where
    lived : (answer : Live) → RunLives feed script old new answer → Lived before after words old new answer
    lived answer lives = record { feed = feed; script = script; comes = comes; lives = lives }

    pub lived_whole : (result : Result (Unit {0}) Stop) → OnOk result (RunLives feed script old new live.Done) → OnOk result (Lived before after words old new live.Done)
    lived_whole (Ok x) lives = lived live.Done lives
    lived_whole (Err why) lives = tt

    stops_to : (why : Stop) → StopsLive feed script old new why → StopsTo before after words old new why
    stops_to stop.Usage stops = absurd stops
    stops_to (stop.Refused line) stops = absurd stops
    stops_to (stop.CannotRead line) stops = absurd stops
    stops_to stop.CannotWrite stops = lived live.WriteFault stops
    stops_to (stop.PairLost stage part line) stops = (lived (live.Lost stage part) stops.0, stops.1)
    stops_to stop.OutOfMemory stops = inr (lived live.OutOfMemory stops)

    pub lived_stops : (result : Result (Unit {0}) Stop) → IfErr result (λ why. StopsLive feed script old new why) → IfErr result (λ why. StopsTo before after words old new why)
    lived_stops (Ok x) stops = tt
    lived_stops (Err why) stops = stops_to why stops

  live_cause : (before now : ℕ) (why : Stop) → now ≡ before → StopsLive feed script old new why → HasCause before now why
  live_cause before now stop.Usage still stops = absurd stops
  live_cause before now (stop.Refused line) still stops = absurd stops
  live_cause before now (stop.CannotRead line) still stops = absurd stops
  live_cause before now stop.CannotWrite still stops = still
  live_cause before now (stop.PairLost stage part line) still stops = still
  live_cause before now stop.OutOfMemory still stops = tt

  pub lived_cause : (before now : ℕ) (result : Result (Unit {0}) Stop) → now ≡ before → IfErr result (λ why. StopsLive feed script old new why) → IfErr result (λ why. HasCause before now why)
  lived_cause before now (Ok x) still stops = tt
  lived_cause before now (Err why) still stops = live_cause before now why still stops

  live_quiet : {A : Type 0} (out after : A) (why : Stop) → StopsLive feed script old new why → IsQuiet out after why
  live_quiet out after stop.Usage stops = absurd stops
  live_quiet out after (stop.Refused line) stops = absurd stops
  live_quiet out after (stop.CannotRead line) stops = absurd stops
  live_quiet out after stop.CannotWrite stops = tt
  live_quiet out after (stop.PairLost stage part line) stops = tt
  live_quiet out after stop.OutOfMemory stops = tt

  pub lived_quiet : {A : Type 0} (out after : A) (result : Result (Unit {0}) Stop) → IfErr result (λ why. StopsLive feed script old new why) → IfErr result (λ why. IsQuiet out after why)
  lived_quiet out after (Ok x) stops = tt
  lived_quiet out after (Err why) stops = live_quiet out after why stops

-- ---- a run that wasn't begun

pub stopped_before : (before after : FilesTold) (words : List (List ℕ)) (out : SinkTold) (why : Stop) → StopsBefore before after words why
    → StopsTo before after words out out why
stopped_before before after words out stop.Usage stops = stops
stopped_before before after words out (stop.Refused line) stops = stops
stopped_before before after words out (stop.CannotRead line) stops = stops
stopped_before before after words out stop.CannotWrite stops = absurd stops
stopped_before before after words out (stop.PairLost stage part line) stops = absurd stops
stopped_before before after words out stop.OutOfMemory stops = inl (stops, refl)

pub quiet_before : {A : Type 0} (out : A) (why : Stop) → IsQuiet out out why
quiet_before out stop.Usage = refl
quiet_before out (stop.Refused line) = refl
quiet_before out (stop.CannotRead line) = refl
quiet_before out stop.CannotWrite = tt
quiet_before out (stop.PairLost stage part line) = tt
quiet_before out stop.OutOfMemory = tt
