use Rattle.std.proofs.Common.{◌≡◌, [], subst}
use Rattle.std.specs.Prelude.{IfErr, IfOk}
use Rattle.command_course.specs.Course.{Course}
use Rattle.command_course.specs.Answers.{AnswerView, answer_of}
use Rattle.replay_command.specs.Ends.{StopsIn}
use Rattle.why_command.specs.Courses.{answers}
use Rattle.why_command.specs.Given.{no_cash, question}
use Rattle.why_command.specs.Kept.{KeptCash}
use Rattle.why_command.proofs.why.without_movements.Goals as goal

pub returns-clause-text : goal.returns-clause-text
returns-clause-text c =
    let wanted = c.args.wanted in
    let cash : KeptCash = record { rows = c.empty.result; bytes = c.new.result.items } in
    let none : cash ≡ no_cash = λ i. record { rows = c.empty.ensures i; bytes = c.new.ensures.items i } in
    subst (λ (m : KeptCash). IfOk c.explained.result (λ answer. (next : AnswerView → Course) → answers wanted.number (question wanted c.args.plan.now c.args.trades.now c.args.kept [] m) next ≡ next (answer_of answer)))
    none c.explained.ensures.text

pub returns-clause-refused : goal.returns-clause-refused
returns-clause-refused c =
    let wanted = c.args.wanted in
    let cash : KeptCash = record { rows = c.empty.result; bytes = c.new.result.items } in
    let none : cash ≡ no_cash = λ i. record { rows = c.empty.ensures i; bytes = c.new.ensures.items i } in
    subst (λ (m : KeptCash). IfErr c.explained.result (λ stop. (next : AnswerView → Course) → StopsIn (answers wanted.number (question wanted c.args.plan.now c.args.trades.now c.args.kept [] m) next) stop))
    none c.explained.ensures.refused
