use Rattle.std.proofs.Common.{◌≡◌, ◌∙◌, [], ℕ, List, ap, length, map, subst, sym}
use Rattle.std.specs.Prelude.{All}
use Rattle.std.proofs.lemmas.List.{length-map}
use Rattle.tuple_edge.specs.Input.{Input}
use Rattle.tuple_edge.specs.declared.row.Row.{Row}
use Rattle.plan_reader.specs.PlanView.{IsStage}
use Rattle.plan_reader.specs.declared.stage.Stage.{Stage}
use Rattle.trade_text.specs.TradesView.{inputs_in}
use Rattle.trade_text.proofs.Sources.{rows_paired}
use Rattle.command_course.specs.Answers.{answer}
use Rattle.command_course.specs.declared.answer.Ending.TheVariants.{Done}
use Rattle.row_origin.specs.Origins.{only}
use Rattle.row_reach.specs.Reach.{passages}
use Rattle.reach_finder.specs.Found.{passage_of}
use Rattle.reach_text.specs.Trace.{Asked, trace_text}
use Rattle.trace_command.specs.Courses.{place_in}
use Rattle.trace_command.proofs.command.traced.Goals as goal

pub write_trace-requires : goal.write_trace-requires
write_trace-requires c = subst (All IsStage) (sym c.stages-stages.ensures.value) c.stages-stages.ensures.limits.stages

pub returns-clause-answer : goal.returns-clause-answer
returns-clause-answer c =
    let plan = c.args.feed.now.plan in
    let trades = c.args.feed.now.trades in
    let inputs = inputs_in trades in
    let asked : List Stage → Asked = λ stages. record { line = c.args.line; file = c.args.name.now; stages = stages; symbols = trades.symbols } in
    let rows : trades.rows ≡ map (λ (x : Input). x.row) inputs = sym (rows_paired trades.rows trades.sources) in
    let many : length trades.rows ≡ length inputs = ap length rows ∙ length-map inputs (λ (x : Input). x.row) in
    let found : map passage_of c.as_slice.result.now ≡ passages plan.stages (map (λ (x : Input). x.row) inputs) [] (only (place_in c.args.spot.now inputs) (length inputs)) =
    ap (map passage_of) c.as_slice.ensures.value
    ∙ (c.in_ok-found.ensures
    ∙ (ap (λ (rs : List Row). passages plan.stages rs [] (only c.place_in-place.result (length trades.rows))) rows
    ∙ (ap (λ (n : ℕ). passages plan.stages (map (λ (x : Input). x.row) inputs) [] (only c.place_in-place.result n)) many
    ∙ ap (λ (n : ℕ). passages plan.stages (map (λ (x : Input). x.row) inputs) [] (only n (length inputs))) c.place_in-place.ensures))) in
    ap (answer Done)
    (c.in_ok-text.ensures
    ∙ (ap (λ (stages : List Stage). trace_text (asked stages) (map passage_of c.as_slice.result.now)) c.stages-stages.ensures.value ∙ ap (trace_text (asked plan.stages)) found))
