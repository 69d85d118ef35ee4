-- A stop whose line has the name of the program before it is caused as the stop was, and its course came as far.
use Rattle.std.proofs.Common.{ℕ, ◌∙◌, List, ap, sym, subst, Err, ⊎_elim, string_bytes}
use Rattle.command_course.specs.Course.{AtReading, Between, Course, Refuses}
use Rattle.command_course.specs.Steps.{HasReadCause, IsWant, OnlyReads, StopsOf}
use Rattle.command_course.specs.declared.stop.Stop.{Stop}
use Rattle.command_course.specs.declared.stop.Stop.TheVariants as stop
use Rattle.command_course.proofs.Courses.{wants_for}
use Rattle.flux_outside.specs.Told.{FilesTold}
use Rattle.flux_top.specs.Lines.{line_by}
use Rattle.flux_top.specs.Stops.{IsOwn, StopsAs}

own_cause : (name : List ℕ) (before now : ℕ) (why own : Stop) → HasReadCause before now why → IsOwn name why own → HasReadCause before now own
own_cause name before now stop.Usage own cause is_own = subst (HasReadCause before now) (sym is_own) cause
own_cause name before now (stop.Refused line) own cause is_own = ⊎_elim
    (λ want. subst (HasReadCause before now) (sym want) tt) (λ says. subst (HasReadCause before now) (sym says.1) cause) is_own
own_cause name before now (stop.CannotRead line) own cause is_own = ⊎_elim
    (λ want. subst (HasReadCause before now) (sym want) tt) (λ says. subst (HasReadCause before now) (sym says.1) cause) is_own
own_cause name before now stop.CannotWrite own cause is_own = absurd cause
own_cause name before now (stop.PairLost stage part line) own cause is_own = absurd cause
own_cause name before now stop.OutOfMemory own cause is_own = subst (HasReadCause before now) (sym is_own) tt

want_stays : (name : List ℕ) (A : Type 0) (why own : Stop) → IsOwn name why own → IsWant {A = A} (Err why) → IsWant {A = A} (Err own)
want_stays name A stop.Usage own is_own want = absurd want
want_stays name A (stop.Refused line) own is_own want = absurd want
want_stays name A (stop.CannotRead line) own is_own want = absurd want
want_stays name A stop.CannotWrite own is_own want = absurd want
want_stays name A (stop.PairLost stage part line) own is_own want = absurd want
want_stays name A stop.OutOfMemory own is_own want = subst (λ s. IsWant {A = A} (Err s)) (sym is_own) tt

pub own_reads : (name : List ℕ) (A : Type 0) (old new : FilesTold) (why own : Stop) → IsOwn name why own → OnlyReads {A = A} old new (Err why) → OnlyReads {A = A} old new (Err own)
own_reads name A old new why own is_own reads = record {
  contents = reads.contents;
  saves = reads.saves;
  wants = wants_for old.wants new.wants (IsWant {A = A} (Err why)) (IsWant {A = A} (Err own)) (want_stays name A why own is_own) reads.wants;
  cause = own_cause name old.read_faults new.read_faults why own reads.cause is_own;
  still = tt;
}

pub own_stops : (name : List ℕ) (old new : FilesTold) (course : Course) (why own : Stop) → StopsOf old new course why → IsOwn name why own → StopsAs (line_by name) old new course own
own_stops name old new course stop.Usage own stops is_own = absurd stops
own_stops name old new course (stop.Refused line) own stops is_own = ⊎_elim
    (λ want. subst (StopsAs (line_by name) old new course) (sym want) (Between (Refuses (string_bytes line)) stops))
    (λ says. subst (StopsAs (line_by name) old new course) (sym says.1) (record { line = string_bytes line; comes = stops; said_is = says.2 })) is_own
own_stops name old new course (stop.CannotRead line) own stops is_own = ⊎_elim
    (λ want. subst (StopsAs (line_by name) old new course) (sym want) (AtReading stops.name stops.came))
    (λ says. subst (StopsAs (line_by name) old new course) (sym says.1) (record { name = stops.name; comes = stops.came; said_is = says.2 ∙ ap (line_by name) stops.line_is })) is_own
own_stops name old new course stop.CannotWrite own stops is_own = absurd stops
own_stops name old new course (stop.PairLost stage part line) own stops is_own = absurd stops
own_stops name old new course stop.OutOfMemory own stops is_own = subst (StopsAs (line_by name) old new course) (sym is_own) stops
