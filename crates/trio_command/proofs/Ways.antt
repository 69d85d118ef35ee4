-- How a course goes on.
use Rattle.std.proofs.Common.{ℕ, ◌≡◌, ◌∙◌, true, false, List, [], Result, refl, ap, subst, sym}
use Rattle.std.specs.Prelude.{◌==◌, IfErr, if◌then◌else◌}
use Rattle.plan_reader.specs.PlanView.{PlanView}
use Rattle.trade_text.specs.Inputs.{inputs_of}
use Rattle.trade_text.specs.TradesView.{IsTrades, TradesView, inputs_in}
use Rattle.command_course.specs.Course.{Between, Course, Refuses}
use Rattle.command_course.specs.Feeds.{fed}
use Rattle.command_course.specs.FeedView.{FeedView}
use Rattle.command_course.specs.Steps.{HasReadCause, IsRefusedBy}
use Rattle.command_course.specs.declared.stop.Stop.{Stop}
use Rattle.command_course.specs.declared.stop.Stop.TheVariants as stop
use Rattle.command_course.proofs.Courses.{came_here}
use Rattle.command_course.proofs.MergedInputs.{unmerged_inputs}
use Rattle.trio_core.specs.CoreView.{CoreView}
use Rattle.trio_core.specs.CoreView.{inputs_of as inputs_of_core}
use Rattle.trio_command.specs.Ends.{StopsHere}
use Rattle.trio_command.specs.Courses.{not_for_trio_line, trio_plan, trio_trades}
pub use Rattle.command_course.proofs.Courses.{err_on, ok_on, reads_judged, reads_on, reads_passed, reads_refused, refused_here}
pub use Rattle.trio_core.proofs.Acting.{if_err-map, if_ok-map}

-- want of memory may stop a course anywhere
pub want_here : (course : Course) → StopsHere course stop.OutOfMemory
want_here course told = Between course (came_here told course course refl)

pub want_stops : {X : Type 0} (r : Result X Stop) (course : Course) → IfErr r (λ why. why ≡ stop.OutOfMemory) → IfErr r (StopsHere course)
want_stops r course want = if_err-map r (λ why. why ≡ stop.OutOfMemory) (StopsHere course) (λ why e. subst (StopsHere course) (sym e) (want_here course)) want

-- nothing was read where memory was wanting, and where a file is refused
pub want_cause : {X : Type 0} (r : Result X Stop) → IfErr r (λ why. why ≡ stop.OutOfMemory) → IfErr r (λ why. (faults : ℕ) → HasReadCause faults faults why)
want_cause r want = if_err-map r (λ why. why ≡ stop.OutOfMemory) (λ why. (faults : ℕ) → HasReadCause faults faults why) (λ why e faults. subst (HasReadCause faults faults) (sym e) tt) want

pub refused_cause : (line : List ℕ) (why : Stop) (P : Type 0) → IsRefusedBy why line P → (faults : ℕ) → HasReadCause faults faults why
refused_cause line stop.Usage P by faults = absurd by
refused_cause line (stop.Refused said) P by faults = refl
refused_cause line (stop.CannotRead said) P by faults = absurd by
refused_cause line stop.CannotWrite P by faults = absurd by
refused_cause line (stop.PairLost stage part said) P by faults = absurd by
refused_cause line stop.OutOfMemory P by faults = tt

-- a plan of one source goes on, and another one doesn't
pub goes_with_one_source : (name trades events : List ℕ) (plan : PlanView) → (plan.version == 1) ≡ true → trio_plan name trades events plan ≡ trio_trades trades events plan
goes_with_one_source name trades events plan is = ap (λ b. if b then trio_trades trades events plan else Refuses (not_for_trio_line name)) is

pub goes_not : (name trades events : List ℕ) (plan : PlanView) → (plan.version == 1) ≡ false → trio_plan name trades events plan ≡ Refuses (not_for_trio_line name)
goes_not name trades events plan is = ap (λ b. if b then trio_trades trades events plan else Refuses (not_for_trio_line name)) is

-- a core of a plan of one source is fed as the plan is by its trades
pub feed_is : (plan : PlanView) (trades : TradesView) (core : CoreView) → IsTrades trades → plan.version ≡ 1 → trades.merged ≡ false → core.plan ≡ plan → inputs_of_core core ≡ inputs_in trades
    → Path FeedView (record { plan = core.plan; inputs = inputs_of_core core; symbols = trades.symbols }) (fed plan trades [])
feed_is plan trades core limits version unmerged of_plan of_trades =
    let inputs = of_trades ∙ unmerged_inputs trades limits unmerged ∙ ap (λ v. inputs_of v trades.rows []) (sym version) in
    λ j. record { plan = of_plan j; inputs = inputs j; symbols = trades.symbols }
