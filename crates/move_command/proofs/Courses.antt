-- How a course goes on.
use Rattle.std.proofs.Common.{ℕ, ◌≡◌, true, false, List, ap}
use Rattle.std.specs.Prelude.{if◌then◌else◌}
use Rattle.plan_reader.specs.PlanView.{PlanView}
use Rattle.bucket_move.specs.ByKey.{is_by_key}
use Rattle.command_course.specs.Course.{Refuses}
use Rattle.move_command.specs.Inputs.{not_by_key_line}
use Rattle.move_command.specs.Outcome.{move_plan, move_trades}
pub use Rattle.command_course.proofs.Courses.{came_here, err_on, err_short, ok_came, ok_on, reads_on, reads_passed, reads_refused, reads_then, refused_here}

-- a plan that is by key goes on, and another one doesn't
pub goes_by_key : (name trades moves : List ℕ) (plan : PlanView) → is_by_key plan ≡ true → move_plan name trades moves plan ≡ move_trades trades moves plan
goes_by_key name trades moves plan is = ap (λ b. if b then move_trades trades moves plan else Refuses (not_by_key_line name)) is

pub goes_not : (name trades moves : List ℕ) (plan : PlanView) → is_by_key plan ≡ false → move_plan name trades moves plan ≡ Refuses (not_by_key_line name)
goes_not name trades moves plan is = ap (λ b. if b then move_trades trades moves plan else Refuses (not_by_key_line name)) is
