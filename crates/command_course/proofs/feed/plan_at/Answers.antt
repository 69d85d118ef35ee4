use Rattle.std.proofs.Common.{option_map}
use Rattle.plan_reader.specs.Limits.{max_plan_bytes}
use Rattle.command_course.specs.Course.{reads}
use Rattle.command_course.specs.Feeds.{for_plan}
use Rattle.command_course.specs.Inputs.{plan_from}
use Rattle.command_course.specs.Steps.{GivesBy, StopsBy}
use Rattle.command_course.proofs.Feeding.{err_at, err_stops, ok_at, ok_gives}
use Rattle.command_course.proofs.Courses.{err_passed}
use Rattle.command_course.proofs.feed.plan_at.Goals as goal

pub returns-clause-gives : goal.returns-clause-gives
returns-clause-gives g c =
    let here = ok_at (λ told it. GivesBy told told (for_plan (option_map (λ name. name.now) c.args.cash) c.in_ok-plan.plan) it)
    (g.F.Files.told c.input_at.new.files) c.with_source.result c.with_source.ensures.gives in
    ok_gives (λ it. it) (g.F.Files.told c.args.files.now) (g.F.Files.told c.input_at.new.files) (g.F.Files.told c.input_at.new.files) (reads max_plan_bytes plan_from c.args.plan.now) (for_plan (option_map (λ name. name.now) c.args.cash)) c.in_ok-plan.plan c.with_source.result
    c.in_ok-plan.ensures.reads.contents c.in_ok-plan.ensures.gives here

pub returns-clause-stops : goal.returns-clause-stops
returns-clause-stops g c =
    let here = err_at (λ told why. StopsBy told told (for_plan (option_map (λ name. name.now) c.args.cash) c.in_ok-plan.plan) why)
    (g.F.Files.told c.input_at.new.files) c.with_source.result c.with_source.ensures.stops in
    err_stops (g.F.Files.told c.args.files.now) (g.F.Files.told c.input_at.new.files) (g.F.Files.told c.input_at.new.files) (reads max_plan_bytes plan_from c.args.plan.now) (for_plan (option_map (λ name. name.now) c.args.cash)) c.in_ok-plan.plan c.with_source.result
    c.in_ok-plan.ensures.reads.contents c.in_ok-plan.ensures.gives here

pub returns-in_err-plan-clause-stops : goal.returns-in_err-plan-clause-stops
returns-in_err-plan-clause-stops g c =
    err_passed _ _ c.from_residual.result c.from_residual.ensures.1 (λ next. c.in_err-plan.ensures.stops (λ it. for_plan (option_map (λ name. name.now) c.args.cash) it next))
