-- One reading of a file, whatever it says.
use Rattle.std.proofs.Common.{ℕ, ◌≡◌, ◌<◌, true, List, [], ◌∷◌, length, refl, ap, sym, subst, string_bytes, Option, Some, None, Ok, Err}
use Rattle.std.specs.Prelude.{IfErr, IfOk, Result, String}
use Rattle.std.specs.declared.alloc.Global.{Global}
use Rattle.command_course.specs.Course.{Between, Reading}
use Rattle.command_course.specs.Steps.{GivesBy, StopsBy, StopsOf, StopsOn}
use Rattle.command_course.specs.declared.stop.Stop.{Stop}
use Rattle.command_course.specs.declared.stop.Stop.TheVariants as stop
use Rattle.flux_outside.specs.Outside.{Adds, Call, IsHeld, IsRead, Joins, Read}
use Rattle.flux_outside.specs.Told.{FilesTold}
use Rattle.flux_outside.specs.declared.outside.Got.TheVariants as got
use Rattle.look_command.specs.Trying.{IsTried, Named, tried_of, tries}
use Rattle.command_course.proofs.Courses.{came_here}

adds_one : (old new : Option (List Call)) (call : Call) → Joins old new call true → Adds old new (call ∷ [])
adds_one None new call joined = tt
adds_one (Some old) new call joined = joined

module _ {A : Type 0} (old new : FilesTold) (most : ℕ) (reading : List ℕ → List ℕ → Reading A) (name : List ℕ) where
  -- bytes that the file holds decide how it goes on
  goes_on : (bytes : List ℕ) (there : Reading A) → IsHeld old.contents name bytes → Joins old.calls new.calls (Read name most) true → reading name bytes ≡ there → GivesBy old new (tries most reading name) there
  goes_on bytes there held joined is = λ next. record {
    calls = Read name most ∷ [];
    leads = (refl, (bytes, held, ap next is));
    added = adds_one old.calls new.calls (Read name most) joined;
  }

  -- so it is where no memory was to be had for what is said of them
  stops_there : (bytes : List ℕ) (why : Stop) → IsHeld old.contents name bytes → Joins old.calls new.calls (Read name most) true → why ≡ stop.OutOfMemory → StopsBy old new (tries most reading name) why
  stops_there bytes why held joined want = λ next.
      subst (StopsOf old new (tries most reading name next)) (sym want) (Between (next (reading name bytes)) (goes_on bytes (reading name bytes) held joined refl next))

  ok_tried : (read : Result A Stop) (tried : Result (Result A (String Global)) Stop) (bytes : List ℕ) → IsHeld old.contents name bytes → Joins old.calls new.calls (Read name most) true
      → IfOk read (λ value. reading name bytes ≡ Ok value) → IfErr read (StopsOn (reading name bytes)) → IsTried read tried
      → IfOk tried (λ t. GivesBy old new (tries most reading name) (tried_of t))
  ok_tried (Ok value) tried bytes held joined gives stops is =
      subst (λ r. IfOk r (λ t. GivesBy old new (tries most reading name) (tried_of t))) (sym is) (goes_on bytes (Ok value) held joined gives)
  ok_tried (Err stop.Usage) tried bytes held joined gives stops is = absurd stops
  ok_tried (Err (stop.Refused line)) tried bytes held joined gives stops is =
      subst (λ r. IfOk r (λ t. GivesBy old new (tries most reading name) (tried_of t))) (sym is) (goes_on bytes (Err (string_bytes line)) held joined stops)
  ok_tried (Err (stop.CannotRead line)) tried bytes held joined gives stops is = absurd stops
  ok_tried (Err stop.CannotWrite) tried bytes held joined gives stops is = absurd stops
  ok_tried (Err (stop.PairLost stage part line)) tried bytes held joined gives stops is = absurd stops
  ok_tried (Err stop.OutOfMemory) tried bytes held joined gives stops is =
      subst (λ r. IfOk r (λ t. GivesBy old new (tries most reading name) (tried_of t))) (sym is) tt

  err_tried : (read : Result A Stop) (tried : Result (Result A (String Global)) Stop) (bytes : List ℕ) → IsHeld old.contents name bytes → Joins old.calls new.calls (Read name most) true
      → IfErr read (StopsOn (reading name bytes)) → IsTried read tried → IfErr tried (λ why. StopsBy old new (tries most reading name) why)
  err_tried (Ok value) tried bytes held joined stops is = subst (λ r. IfErr r (λ why. StopsBy old new (tries most reading name) why)) (sym is) tt
  err_tried (Err stop.Usage) tried bytes held joined stops is = absurd stops
  err_tried (Err (stop.Refused line)) tried bytes held joined stops is = subst (λ r. IfErr r (λ why. StopsBy old new (tries most reading name) why)) (sym is) tt
  err_tried (Err (stop.CannotRead line)) tried bytes held joined stops is = absurd stops
  err_tried (Err stop.CannotWrite) tried bytes held joined stops is = absurd stops
  err_tried (Err (stop.PairLost stage part line)) tried bytes held joined stops is = absurd stops
  err_tried (Err stop.OutOfMemory) tried bytes held joined stops is =
      subst (λ r. IfErr r (λ why. StopsBy old new (tries most reading name) why)) (sym is) (stops_there bytes stop.OutOfMemory held joined refl)

  -- a whole file
  pub tried_whole : (read : Result A Stop) (tried : Result (Result A (String Global)) Stop) (bytes : List ℕ) → IsRead old.contents name most got.Whole [] bytes → Joins old.calls new.calls (Read name most) true
      → IfOk read (λ value. reading name bytes ≡ Ok value) → IfErr read (StopsOn (reading name bytes)) → IsTried read tried
      → IfOk tried (λ t. GivesBy old new (tries most reading name) (tried_of t))
  tried_whole read tried bytes is_read joined gives stops is = ok_tried read tried bytes (subst (IsHeld old.contents name) (sym is_read.read.1) is_read.held) joined gives stops is

  pub untried_whole : (read : Result A Stop) (tried : Result (Result A (String Global)) Stop) (bytes : List ℕ) → IsRead old.contents name most got.Whole [] bytes → Joins old.calls new.calls (Read name most) true
      → IfErr read (StopsOn (reading name bytes)) → IsTried read tried → IfErr tried (λ why. StopsBy old new (tries most reading name) why)
  untried_whole read tried bytes is_read joined stops is = err_tried read tried bytes (subst (IsHeld old.contents name) (sym is_read.read.1) is_read.held) joined stops is

  -- a file that is too long
  pub tried_long : (why : Stop) (tried : Result (Result A (String Global)) Stop) (appended : List ℕ) (seen : ℕ) → IsRead old.contents name most (got.TooLong seen) [] appended → Joins old.calls new.calls (Read name most) true
      → ((bytes : List ℕ) → most < length bytes → StopsOn (reading name bytes) why) → IsTried (Err why) tried → IfOk tried (λ t. GivesBy old new (tries most reading name) (tried_of t))
  tried_long why tried appended seen is_read joined long is = ok_tried (Err why) tried is_read.bytes is_read.held joined tt (long is_read.bytes is_read.read.0) is

  pub untried_long : (why : Stop) (tried : Result (Result A (String Global)) Stop) (appended : List ℕ) (seen : ℕ) → IsRead old.contents name most (got.TooLong seen) [] appended → Joins old.calls new.calls (Read name most) true
      → ((bytes : List ℕ) → most < length bytes → StopsOn (reading name bytes) why) → IsTried (Err why) tried → IfErr tried (λ w. StopsBy old new (tries most reading name) w)
  untried_long why tried appended seen is_read joined long is = err_tried (Err why) tried is_read.bytes is_read.held joined (long is_read.bytes is_read.read.0) is

-- where no file is named nothing is read
pub unnamed : {A : Type 0} (told : FilesTold) → GivesBy {A = Named A} told told (λ next. next None) None
unnamed told = λ next. came_here told (next None) (next None) refl
