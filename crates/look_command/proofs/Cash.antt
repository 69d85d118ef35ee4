-- The movements that a check reads, which a plan of version 1 doesn't have.
use Rattle.std.proofs.Common.{ℕ, ◌≡◌, ◌∙◌, Bool, true, false, List, refl, ap, sym, subst, Option, Some, None, Ok, Err}
use Rattle.std.specs.Prelude.{IfErr, IfOk, Result, String, if◌then◌else◌}
use Rattle.std.specs.declared.alloc.Global.{Global}
use Rattle.tuple_edge.specs.declared.row.Row.{Row}
use Rattle.plan_reader.specs.PlanView.{PlanView}
use Rattle.trade_text.specs.Limits.{max_input_bytes}
use Rattle.command_course.specs.Course.{Between, Came, Course, Reading}
use Rattle.command_course.specs.Lines.{not_in_plan_line}
use Rattle.command_course.specs.Steps.{GivesBy, StopsBy, StopsOf}
use Rattle.command_course.specs.declared.stop.Stop.{Stop}
use Rattle.command_course.specs.declared.stop.Stop.TheVariants as stop
use Rattle.command_course.proofs.Courses.{came_here}
use Rattle.flux_outside.specs.Told.{FilesTold}
use Rattle.look_command.specs.Trying.{Named, named_of, tries_named}
use Rattle.look_command.specs.Check.{cash_told, is_without_cash, tries_cash}

-- where no file is named none is read
pub unnamed_cash : (told : FilesTold) (all : Bool) (plan : Reading PlanView) (room : ℕ) → GivesBy told told (tries_cash all plan room None) None
unnamed_cash told all (Ok plan) room = λ next. came_here told (tries_cash all (Ok plan) room None next) (next None) refl
unnamed_cash told all (Err line) room = λ next. came_here told (tries_cash all (Err line) room None next) (next None) refl

module _ (all : Bool) (plan : Reading PlanView) (room : ℕ) (name : List ℕ) where
  -- a plan without movements
  without : is_without_cash plan ≡ true → (next : Named (List Row) → Course) → tries_cash all plan room (Some name) next ≡ next (Some (Err (not_in_plan_line name)))
  without = go plan
    where
      go : (plan : Reading PlanView) → is_without_cash plan ≡ true → (next : Named (List Row) → Course) → tries_cash all plan room (Some name) next ≡ next (Some (Err (not_in_plan_line name)))
      go (Ok plan) e next = ap (λ (b : Bool). if b then next (Some (Err (not_in_plan_line name))) else tries_named max_input_bytes (cash_told all room) (Some name) next) e
      go (Err line) e next = let z : ⊥ = cc e in absurd z

  -- any other
  within : is_without_cash plan ≡ false → (next : Named (List Row) → Course) → tries_cash all plan room (Some name) next ≡ tries_named max_input_bytes (cash_told all room) (Some name) next
  within = go plan
    where
      go : (plan : Reading PlanView) → is_without_cash plan ≡ false → (next : Named (List Row) → Course) → tries_cash all plan room (Some name) next ≡ tries_named max_input_bytes (cash_told all room) (Some name) next
      go (Ok plan) e next = ap (λ (b : Bool). if b then next (Some (Err (not_in_plan_line name))) else tries_named max_input_bytes (cash_told all room) (Some name) next) e
      go (Err line) e next = refl

  -- the fault that they are given, or want of memory before it was said
  pub refused_cash : (told : FilesTold) (result : Result (Option (Result (List Row) (String Global))) Stop) → is_without_cash plan ≡ true
      → IfOk result (λ tried. named_of tried ≡ Some (Err (not_in_plan_line name))) → IfOk result (λ tried. GivesBy told told (tries_cash all plan room (Some name)) (named_of tried))
  refused_cash told (Ok tried) e is = λ next. came_here told (tries_cash all plan room (Some name) next) (next (named_of tried)) (without e next ∙ ap next (sym is))
  refused_cash told (Err why) e is = tt

  pub short_cash : (told : FilesTold) (result : Result (Option (Result (List Row) (String Global))) Stop) → IfErr result (λ why. why ≡ stop.OutOfMemory)
      → IfErr result (λ why. StopsBy told told (tries_cash all plan room (Some name)) why)
  short_cash told (Ok tried) want = tt
  short_cash told (Err why) want = λ next.
      let course = tries_cash all plan room (Some name) next in
      subst (StopsOf told told course) (sym want) (Between course (came_here told course course refl))

  -- what their file says
  pub given_cash : (old new : FilesTold) (result : Result (Option (Result (List Row) (String Global))) Stop) → is_without_cash plan ≡ false
      → IfOk result (λ tried. GivesBy old new (tries_named max_input_bytes (cash_told all room) (Some name)) (named_of tried))
      → IfOk result (λ tried. GivesBy old new (tries_cash all plan room (Some name)) (named_of tried))
  given_cash old new (Ok tried) e gives = λ next. subst (λ course. Came old new course (next (named_of tried))) (sym (within e next)) (gives next)
  given_cash old new (Err why) e gives = tt

  pub stopped_cash : (old new : FilesTold) (result : Result (Option (Result (List Row) (String Global))) Stop) → is_without_cash plan ≡ false
      → IfErr result (λ why. StopsBy old new (tries_named max_input_bytes (cash_told all room) (Some name)) why)
      → IfErr result (λ why. StopsBy old new (tries_cash all plan room (Some name)) why)
  stopped_cash old new (Ok tried) e stops = tt
  stopped_cash old new (Err why) e stops = λ next. subst (λ course. StopsOf old new course why) (sym (within e next)) (stops next)
