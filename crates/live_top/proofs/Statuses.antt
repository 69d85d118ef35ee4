-- Which end a status tells of.
use Rattle.std.proofs.Common.{ℕ, ◌≡◌, List, refl, subst, inl, inr}
use Rattle.std.specs.Prelude.{◌≢◌}
use Rattle.pair_machine.specs.Drain.{partition}
use Rattle.command_course.specs.Steps.{IsWant}
use Rattle.command_course.specs.declared.stop.Stop.{Stop}
use Rattle.command_course.specs.declared.stop.Stop.TheVariants as stop
use Rattle.command_course.proofs.Courses.{wants_for}
use Rattle.flux_outside.specs.Outside.{StopsAtWant}
use Rattle.flux_outside.specs.Told.{FilesTold, SinkTold}
use Rattle.flux_top.specs.Clauses.{HasCause, IsStatus}
use Rattle.flux_top.specs.Programs.{Tells}
use Rattle.flux_top.specs.Stops.{line_at, status_at}
use Rattle.flux_top.proofs.Stopping.{differ, says_stop, stays_stop, stopped}
pub use Rattle.flux_top.proofs.Stopping.{formless_at, no_answer, unwritten_at, usage_at}
use Rattle.live_top.specs.Clauses.{FallsShort, MaySave, SaysAt, SaysLost, SaysRefusal, SaysUnread, StaysAt}
use Rattle.live_top.specs.Lines.{lines}
use Rattle.live_top.specs.Stops.{IsQuiet, StopsTo}

-- ---- a run that is done

pub says_done : (old new : SinkTold) → SaysAt 0 old new
says_done old new = record { is_status = inl refl; usage = λ two. cc; unwritten = λ five. cc; short = λ eight. cc }

pub stays_done : (before after : FilesTold) → after.contents ≡ before.contents → after.save_faults ≡ before.save_faults → after.read_faults ≡ before.read_faults
    → StopsAtWant before.wants after.wants ⊥ → StaysAt 0 before after
stays_done before after kept saves still wants = record {
  wants = wants_for before.wants after.wants ⊥ (0 ≡ 8) (λ none. absurd none) wants;
  reads = λ not_unread not_short. still;
  kept = λ none_saved. kept;
  saves = λ none_saved. saves;
}

-- ---- a stop

is_status_at : (why : Stop) → IsStatus (status_at why)
is_status_at stop.Usage = inr (inl refl)
is_status_at (stop.Refused line) = inr (inr (inl refl))
is_status_at (stop.CannotRead line) = inr (inr (inr (inl refl)))
is_status_at stop.CannotWrite = inr (inr (inr (inr (inl refl))))
is_status_at (stop.PairLost stage part line) = inr (inr (inr (inr (inr (inl refl)))))
is_status_at stop.OutOfMemory = inr (inr (inr (inr (inr (inr refl)))))

pub says_why : (old new : SinkTold) (why : Stop) → Tells old new (line_at lines why) → SaysAt (status_at why) old new
says_why old new why tells = says_stop lines IsStatus old new why (is_status_at why) tells

pub stays_stopped : (before after : FilesTold) (why : Stop) → after.contents ≡ before.contents → after.save_faults ≡ before.save_faults → HasCause before.read_faults after.read_faults why
    → StopsAtWant before.wants after.wants (IsWant (stopped (Unit {0}) why)) → StaysAt (status_at why) before after
stays_stopped before after why kept saves cause wants = stays_stop (Unit {0}) MaySave before after why cause (λ none_saved. kept) (λ none_saved. saves) wants

pub quiet_why : {A : Type 0} (old new : A) (why : Stop) → status_at why ≢ 5 → status_at why ≢ 6 → status_at why ≢ 8 → IsQuiet old new why → new ≡ old
quiet_why old new stop.Usage five six eight quiet = quiet
quiet_why old new (stop.Refused line) five six eight quiet = quiet
quiet_why old new (stop.CannotRead line) five six eight quiet = quiet
quiet_why old new stop.CannotWrite five six eight quiet = absurd (five refl)
quiet_why old new (stop.PairLost stage part line) five six eight quiet = absurd (six refl)
quiet_why old new stop.OutOfMemory five six eight quiet = absurd (eight refl)

module _ (before after : FilesTold) (words : List (List ℕ)) (old new : SinkTold) where
  pub falls_short : (why : Stop) → status_at why ≡ 8 → StopsTo before after words old new why → FallsShort before after words old new
  falls_short stop.Usage is stops = absurd (differ 2 8 refl is)
  falls_short (stop.Refused line) is stops = absurd (differ 3 8 refl is)
  falls_short (stop.CannotRead line) is stops = absurd (differ 4 8 refl is)
  falls_short stop.CannotWrite is stops = absurd (differ 5 8 refl is)
  falls_short (stop.PairLost stage part line) is stops = absurd (differ 6 8 refl is)
  falls_short stop.OutOfMemory is stops = stops

  module _ (said says : SinkTold) where
    pub says_refusal : (why : Stop) → status_at why ≡ 3 → StopsTo before after words old new why → Tells said says (line_at lines why) → SaysRefusal before after words said says
    says_refusal stop.Usage is stops tells = absurd (differ 2 3 refl is)
    says_refusal (stop.Refused line) is stops tells = record { line = stops.line; comes = stops.comes; tells = subst (Tells said says) stops.said_is tells }
    says_refusal (stop.CannotRead line) is stops tells = absurd (differ 4 3 refl is)
    says_refusal stop.CannotWrite is stops tells = absurd (differ 5 3 refl is)
    says_refusal (stop.PairLost stage part line) is stops tells = absurd (differ 6 3 refl is)
    says_refusal stop.OutOfMemory is stops tells = absurd (differ 8 3 refl is)

    pub says_unread : (why : Stop) → status_at why ≡ 4 → StopsTo before after words old new why → HasCause before.read_faults after.read_faults why → Tells said says (line_at lines why)
        → SaysUnread before after words said says
    says_unread stop.Usage is stops cause tells = absurd (differ 2 4 refl is)
    says_unread (stop.Refused line) is stops cause tells = absurd (differ 3 4 refl is)
    says_unread (stop.CannotRead line) is stops cause tells = record { name = stops.name; comes = stops.comes; tells = subst (Tells said says) stops.said_is tells; rose = cause }
    says_unread stop.CannotWrite is stops cause tells = absurd (differ 5 4 refl is)
    says_unread (stop.PairLost stage part line) is stops cause tells = absurd (differ 6 4 refl is)
    says_unread stop.OutOfMemory is stops cause tells = absurd (differ 8 4 refl is)

    pub says_lost : (why : Stop) → status_at why ≡ 6 → StopsTo before after words old new why → Tells said says (line_at lines why) → SaysLost before after words old new said says
    says_lost stop.Usage is stops tells = absurd (differ 2 6 refl is)
    says_lost (stop.Refused line) is stops tells = absurd (differ 3 6 refl is)
    says_lost (stop.CannotRead line) is stops tells = absurd (differ 4 6 refl is)
    says_lost stop.CannotWrite is stops tells = absurd (differ 5 6 refl is)
    says_lost (stop.PairLost stage part line) is stops tells = record { pair = partition stage part; lived = stops.0; tells = subst (Tells said says) stops.1 tells }
    says_lost stop.OutOfMemory is stops tells = absurd (differ 8 6 refl is)
