use Rattle.std.proofs.Common.{◌≡◌, ◌-◌, ◌∙◌, [], ℕ, List, ap, arith, map, subst, sym}
use Rattle.std.specs.Prelude.{IfErr, IfOk}
use Rattle.tuple_edge.specs.Input.{Input}
use Rattle.tuple_edge.specs.declared.row.Row.{Row}
use Rattle.plan_reader.specs.declared.stage.Stage.{Stage}
use Rattle.trade_text.specs.TradesView.{TradesView, inputs_in}
use Rattle.trade_text.proofs.Sources.{rows_paired}
use Rattle.command_course.specs.Course.{Course}
use Rattle.command_course.specs.Answers.{AnswerView, answer_of}
use Rattle.replay_command.specs.Ends.{StopsIn}
use Rattle.row_origin.specs.Origins.{StageOrigin, origins}
use Rattle.origin_text.specs.Text.{asked_in}
use Rattle.why_command.specs.Courses.{tells}
use Rattle.why_command.specs.Given.{origins_for}
use Rattle.why_command.proofs.why.answered.Goals as goal

-- what is told of the rows of the inputs
same_origins : (place number : ℕ) (stages own : List Stage) (trades : TradesView) (told : List StageOrigin) → place ≡ number - 1 → own ≡ stages → told ≡ origins place stages trades.rows []
    → told ≡ origins (number - 1) own (map (λ (i : Input). i.row) (inputs_in trades)) []
same_origins place number stages own trades told at same is =
    is
    ∙ (ap (λ (n : ℕ). origins n stages trades.rows []) at
    ∙ (ap (λ (ss : List Stage). origins (number - 1) ss trades.rows []) (sym same) ∙ ap (λ (rs : List Row). origins (number - 1) own rs []) (sym (rows_paired trades.rows trades.sources))))

pub returns-clause-text : goal.returns-clause-text
returns-clause-text c =
    let a = asked_in c.args.question.now in
    let at : c.saturating_sub-place.result ≡ c.args.number - 1 = omega (arith, c.saturating_sub-place.ensures) in
    let whole : c.deref.result.now ≡ origins_for (c.args.number - 1) a =
    c.deref.ensures.value ∙ same_origins c.saturating_sub-place.result c.args.number c.args.plan.now.stages c.args.question.now.stages.now c.args.question.now.files.inputs.now c.in_ok-told.told.items at c.requires.same c.in_ok-told.ensures in
    subst (λ (os : List StageOrigin). IfOk c.told_answer.result (λ answer. (next : AnswerView → Course) → tells c.args.number a os next ≡ next (answer_of answer))) whole c.told_answer.ensures.text

pub returns-clause-refused : goal.returns-clause-refused
returns-clause-refused c =
    let a = asked_in c.args.question.now in
    let at : c.saturating_sub-place.result ≡ c.args.number - 1 = omega (arith, c.saturating_sub-place.ensures) in
    let whole : c.deref.result.now ≡ origins_for (c.args.number - 1) a =
    c.deref.ensures.value ∙ same_origins c.saturating_sub-place.result c.args.number c.args.plan.now.stages c.args.question.now.stages.now c.args.question.now.files.inputs.now c.in_ok-told.told.items at c.requires.same c.in_ok-told.ensures in
    subst (λ (os : List StageOrigin). IfErr c.told_answer.result (λ stop. (next : AnswerView → Course) → StopsIn (tells c.args.number a os next) stop)) whole c.told_answer.ensures.refused
