use Rattle.std.proofs.Common.{rules, ℕ, ◌≡◌, ◌-◌, ◌∙◌, Some, ap, length, subst, sym}
use Rattle.trade_text.specs.Limits.{max_input_bytes, max_inputs}
use Rattle.trade_text.specs.TradesView.{TradesView}
use Rattle.command_course.specs.Steps.{Gives, StopsAt}
use Rattle.why_command.specs.Courses.{answers, movements_way}
use Rattle.why_command.specs.Given.{question}
use Rattle.why_command.specs.Kept.{kept_cash_from}
use Rattle.why_command.proofs.Ways.{gives_here, reads_answered, stops_here}
use Rattle.command_course.proofs.Courses.{err_passed}
use Rattle.why_command.proofs.why.of_movements.Goals as goal

pub returns-clause-gives : goal.returns-clause-gives
returns-clause-gives g c =
    let wanted = c.args.wanted in
    let plan = c.args.plan.now in
    let names = c.args.names in
    let kept = c.args.kept in
    let same : kept.trades ≡ c.kept.inside.trades = first_of (cc, search rules) in
    let room_is : c.room_beside-room.result ≡ max_inputs - length kept.trades.rows = c.room_beside-room.ensures.room ∙ ap (λ (t : TradesView). max_inputs - length t.rows) (sym same) in
    let gives = subst (λ (room : ℕ). Gives (g.F.Files.told c.args.files.now) (g.F.Files.told c.input_at.new.files) max_input_bytes (kept_cash_from room) names.cash.now c.in_ok-movements.movements) room_is c.in_ok-movements.ensures.gives in
    gives_here (g.F.Files.told c.args.files.now) (g.F.Files.told c.input_at.new.files) (movements_way names.trades.now (Some names.cash.now) wanted plan kept)
    (answers wanted.number (question wanted plan names.trades.now kept names.cash.now c.in_ok-movements.movements))
    (λ next. gives (λ movements. answers wanted.number (question wanted plan names.trades.now kept names.cash.now movements) next)) c.explained.result c.explained.ensures.text

pub returns-clause-stops : goal.returns-clause-stops
returns-clause-stops g c =
    let wanted = c.args.wanted in
    let plan = c.args.plan.now in
    let names = c.args.names in
    let kept = c.args.kept in
    let same : kept.trades ≡ c.kept.inside.trades = first_of (cc, search rules) in
    let room_is : c.room_beside-room.result ≡ max_inputs - length kept.trades.rows = c.room_beside-room.ensures.room ∙ ap (λ (t : TradesView). max_inputs - length t.rows) (sym same) in
    let gives = subst (λ (room : ℕ). Gives (g.F.Files.told c.args.files.now) (g.F.Files.told c.input_at.new.files) max_input_bytes (kept_cash_from room) names.cash.now c.in_ok-movements.movements) room_is c.in_ok-movements.ensures.gives in
    stops_here (g.F.Files.told c.args.files.now) (g.F.Files.told c.input_at.new.files) (movements_way names.trades.now (Some names.cash.now) wanted plan kept)
    (answers wanted.number (question wanted plan names.trades.now kept names.cash.now c.in_ok-movements.movements))
    (λ next. gives (λ movements. answers wanted.number (question wanted plan names.trades.now kept names.cash.now movements) next)) c.explained.result c.explained.ensures.refused

pub returns-clause-reads : goal.returns-clause-reads
returns-clause-reads g c =
    reads_answered (g.F.Files.told c.args.files.now) (g.F.Files.told c.input_at.new.files) c.in_ok-movements.movements
    (answers c.args.wanted.number (question c.args.wanted c.args.plan.now c.args.names.trades.now c.args.kept c.args.names.cash.now c.in_ok-movements.movements)) c.explained.result c.in_ok-movements.ensures.reads c.explained.ensures.refused

pub returns-in_err-movements-clause-stops : goal.returns-in_err-movements-clause-stops
returns-in_err-movements-clause-stops g c =
    err_passed _ _ c.from_residual.result c.from_residual.ensures.1 (λ next.
    let wanted = c.args.wanted in
    let names = c.args.names in
    let kept = c.args.kept in
    let same : kept.trades ≡ c.kept.inside.trades = first_of (cc, search rules) in
    let room_is : c.room_beside-room.result ≡ max_inputs - length kept.trades.rows = c.room_beside-room.ensures.room ∙ ap (λ (t : TradesView). max_inputs - length t.rows) (sym same) in
    subst (λ (room : ℕ). StopsAt (g.F.Files.told c.args.files.now) (g.F.Files.told c.input_at.new.files) max_input_bytes (kept_cash_from room) names.cash.now c.in_err-movements.field-0.0)
    room_is c.in_err-movements.ensures.stops (λ movements. answers wanted.number (question wanted c.args.plan.now names.trades.now kept names.cash.now movements) next))
