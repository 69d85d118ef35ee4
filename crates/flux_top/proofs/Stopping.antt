-- Which stop a status tells of.
use Rattle.std.proofs.Common.{ℕ, ◌≡◌, ◌∙◌, false, eqb, ap, refl, sym, Err, ⊎_elim}
use Rattle.std.specs.Prelude.{◌≢◌, Result}
use Rattle.std.proofs.lemmas.Bool.{false≢true}
use Rattle.std.proofs.lemmas.Bool.Decides.{eqb_tells}
use Rattle.command_course.specs.Steps.{IsWant}
use Rattle.command_course.specs.declared.stop.Stop.{Stop}
use Rattle.command_course.specs.declared.stop.Stop.TheVariants as stop
use Rattle.command_course.proofs.Courses.{wants_for}
use Rattle.flux_outside.specs.Outside.{StopsAtWant}
use Rattle.flux_outside.specs.Told.{FilesTold, SinkTold}
use Rattle.flux_top.specs.Clauses.{HasCause, IsQuiet}
use Rattle.flux_top.specs.Programs.{Lines, SaysAt, StaysAt, Tells}
use Rattle.flux_top.specs.Stops.{line_at, status_at}

pub differ : (a b : ℕ) → eqb a b ≡ false → a ≡ b → ⊥
differ a b test same = ⊎_elim (λ yes. false≢true (sym test ∙ yes.0)) (λ no. no.1 same) (eqb_tells a b)

-- a stop has none of the other statuses
pub no_answer : (status : ℕ) → (why : Stop) → eqb 2 status ≡ false → eqb 3 status ≡ false → eqb 4 status ≡ false → eqb 5 status ≡ false → eqb 6 status ≡ false → eqb 8 status ≡ false
    → status_at why ≡ status → ⊥
no_answer status stop.Usage two three four five six eight is = differ 2 status two is
no_answer status (stop.Refused line) two three four five six eight is = differ 3 status three is
no_answer status (stop.CannotRead line) two three four five six eight is = differ 4 status four is
no_answer status stop.CannotWrite two three four five six eight is = differ 5 status five is
no_answer status (stop.PairLost stage part line) two three four five six eight is = differ 6 status six is
no_answer status stop.OutOfMemory two three four five six eight is = differ 8 status eight is

pub usage_at : (why : Stop) → status_at why ≡ 2 → why ≡ stop.Usage
usage_at stop.Usage is = refl
usage_at (stop.Refused line) is = absurd (differ 3 2 refl is)
usage_at (stop.CannotRead line) is = absurd (differ 4 2 refl is)
usage_at stop.CannotWrite is = absurd (differ 5 2 refl is)
usage_at (stop.PairLost stage part line) is = absurd (differ 6 2 refl is)
usage_at stop.OutOfMemory is = absurd (differ 8 2 refl is)

pub unwritten_at : (why : Stop) → status_at why ≡ 5 → why ≡ stop.CannotWrite
unwritten_at stop.Usage is = absurd (differ 2 5 refl is)
unwritten_at (stop.Refused line) is = absurd (differ 3 5 refl is)
unwritten_at (stop.CannotRead line) is = absurd (differ 4 5 refl is)
unwritten_at stop.CannotWrite is = refl
unwritten_at (stop.PairLost stage part line) is = absurd (differ 6 5 refl is)
unwritten_at stop.OutOfMemory is = absurd (differ 8 5 refl is)

pub short_at : (why : Stop) → status_at why ≡ 8 → why ≡ stop.OutOfMemory
short_at stop.Usage is = absurd (differ 2 8 refl is)
short_at (stop.Refused line) is = absurd (differ 3 8 refl is)
short_at (stop.CannotRead line) is = absurd (differ 4 8 refl is)
short_at stop.CannotWrite is = absurd (differ 5 8 refl is)
short_at (stop.PairLost stage part line) is = absurd (differ 6 8 refl is)
short_at stop.OutOfMemory is = refl

-- what a step answers that stopped
abbrev pub stopped : (A : Type 0) → Stop → Result A Stop
stopped A why = Err why

same_stop : (A : Type 0) (why : Stop) → stopped A why ≡ stopped A stop.Usage → why ≡ stop.Usage
same_stop A why same = cc

-- words that have no form end with 2
pub formless_at : (A : Type 0) (why : Stop) → stopped A why ≡ stopped A stop.Usage → status_at why ≡ 2
formless_at A why same = ap status_at (same_stop A why same)

pub quiet_at : {A : Type 0} (old new : A) (why : Stop) → status_at why ≢ 5 → status_at why ≢ 6 → IsQuiet old new why → new ≡ old
quiet_at old new stop.Usage five six quiet = quiet
quiet_at old new (stop.Refused line) five six quiet = quiet
quiet_at old new (stop.CannotRead line) five six quiet = quiet
quiet_at old new stop.CannotWrite five six quiet = absurd (five refl)
quiet_at old new (stop.PairLost stage part line) five six quiet = absurd (six refl)
quiet_at old new stop.OutOfMemory five six quiet = quiet

-- what is said of a stop
pub says_stop : (lines : Lines) (IsStatus : ℕ → Type 0) (old new : SinkTold) (why : Stop) → IsStatus (status_at why) → Tells old new (line_at lines why) → SaysAt lines IsStatus (status_at why) old new
says_stop lines IsStatus old new stop.Usage is tells = record { is_status = is; usage = λ two. tells; unwritten = λ five. cc; short = λ eight. cc }
says_stop lines IsStatus old new (stop.Refused line) is tells = record { is_status = is; usage = λ two. cc; unwritten = λ five. cc; short = λ eight. cc }
says_stop lines IsStatus old new (stop.CannotRead line) is tells = record { is_status = is; usage = λ two. cc; unwritten = λ five. cc; short = λ eight. cc }
says_stop lines IsStatus old new stop.CannotWrite is tells = record { is_status = is; usage = λ two. cc; unwritten = λ five. tells; short = λ eight. cc }
says_stop lines IsStatus old new (stop.PairLost stage part line) is tells = record { is_status = is; usage = λ two. cc; unwritten = λ five. cc; short = λ eight. cc }
says_stop lines IsStatus old new stop.OutOfMemory is tells = record { is_status = is; usage = λ two. cc; unwritten = λ five. cc; short = λ eight. tells }

-- ---- what stays of the files

still_at : (before now : ℕ) (why : Stop) → HasCause before now why → status_at why ≢ 4 → status_at why ≢ 8 → now ≡ before
still_at before now stop.Usage cause four eight = cause
still_at before now (stop.Refused line) cause four eight = cause
still_at before now (stop.CannotRead line) cause four eight = absurd (four refl)
still_at before now stop.CannotWrite cause four eight = cause
still_at before now (stop.PairLost stage part line) cause four eight = cause
still_at before now stop.OutOfMemory cause four eight = absurd (eight refl)

want_at : (A : Type 0) (why : Stop) → IsWant (stopped A why) → status_at why ≡ 8
want_at A stop.Usage want = absurd want
want_at A (stop.Refused line) want = absurd want
want_at A (stop.CannotRead line) want = absurd want
want_at A stop.CannotWrite want = absurd want
want_at A (stop.PairLost stage part line) want = absurd want
want_at A stop.OutOfMemory want = refl

-- any stop but a write fault is not one
pub other_stop : (A : Type 0) (why : Stop) → status_at why ≢ 5 → stopped A why ≢ stopped A stop.CannotWrite
other_stop A why other same = other (ap status_at (same_fault A why same))
  where
    same_fault : (A : Type 0) (why : Stop) → stopped A why ≡ stopped A stop.CannotWrite → why ≡ stop.CannotWrite
    same_fault A why same = cc

pub stays_stop : (A : Type 0) (MaySave : ℕ → Type 0) (before after : FilesTold) (why : Stop) → HasCause before.read_faults after.read_faults why
    → ((MaySave (status_at why) → ⊥) → after.contents ≡ before.contents) → ((MaySave (status_at why) → status_at why ≢ 5) → after.save_faults ≡ before.save_faults)
    → StopsAtWant before.wants after.wants (IsWant (stopped A why)) → StaysAt MaySave (status_at why) before after
stays_stop A MaySave before after why cause kept saves wants = record {
  wants = wants_for before.wants after.wants (IsWant (stopped A why)) (status_at why ≡ 8) (want_at A why) wants;
  reads = still_at before.read_faults after.read_faults why cause;
  kept = kept;
  saves = saves;
}
