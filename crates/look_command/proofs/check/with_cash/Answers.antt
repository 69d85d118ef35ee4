use Rattle.std.proofs.Common.{option_map}
use Rattle.command_course.specs.Answers.{answer_of}
use Rattle.look_command.specs.Trying.{named_of, tried_of}
use Rattle.look_command.proofs.Ways.{err_stops, ok_gives}
use Rattle.command_course.proofs.Courses.{err_passed}
use Rattle.look_command.proofs.check.with_cash.Goals as goal
use Rattle.std.proofs.Common.{subst}
use Rattle.command_course.specs.Steps.{GivesBy, StopsBy}
use Rattle.look_command.specs.Check.{checks_script, room_beside, tries_cash}

pub returns-clause-gives : goal.returns-clause-gives
returns-clause-gives g c =
    let cash = option_map (λ n. n.now) c.args.cash in
    let gives = subst (λ room. GivesBy (g.F.Files.told c.args.files.now) (g.F.Files.told c.tried_cash.new.files) (tries_cash c.args.all (tried_of c.args.plan) room cash) (named_of c.in_ok-cash.cash))
    c.room_beside-room.ensures c.in_ok-cash.ensures.gives in
    ok_gives answer_of (g.F.Files.told c.args.files.now) (g.F.Files.told c.tried_cash.new.files) (g.F.Files.told c.with_script.new.files)
    (tries_cash c.args.all (tried_of c.args.plan) (room_beside (named_of c.args.trades)) cash) (checks_script (option_map (λ n. n.now) c.args.script) c.args.json (tried_of c.args.plan) (named_of c.args.trades)) (named_of c.in_ok-cash.cash) c.with_script.result
    c.in_ok-cash.ensures.reads.contents gives c.with_script.ensures.gives

pub returns-clause-stops : goal.returns-clause-stops
returns-clause-stops g c =
    let cash = option_map (λ n. n.now) c.args.cash in
    let gives = subst (λ room. GivesBy (g.F.Files.told c.args.files.now) (g.F.Files.told c.tried_cash.new.files) (tries_cash c.args.all (tried_of c.args.plan) room cash) (named_of c.in_ok-cash.cash))
    c.room_beside-room.ensures c.in_ok-cash.ensures.gives in
    err_stops (g.F.Files.told c.args.files.now) (g.F.Files.told c.tried_cash.new.files) (g.F.Files.told c.with_script.new.files)
    (tries_cash c.args.all (tried_of c.args.plan) (room_beside (named_of c.args.trades)) cash) (checks_script (option_map (λ n. n.now) c.args.script) c.args.json (tried_of c.args.plan) (named_of c.args.trades)) (named_of c.in_ok-cash.cash) c.with_script.result
    c.in_ok-cash.ensures.reads.contents gives c.with_script.ensures.stops

pub returns-in_err-cash-clause-stops : goal.returns-in_err-cash-clause-stops
returns-in_err-cash-clause-stops g c =
    err_passed _ _ c.from_residual.result c.from_residual.ensures.1 (λ next.
    subst (λ room. StopsBy (g.F.Files.told c.args.files.now) (g.F.Files.told c.tried_cash.new.files) (tries_cash c.args.all (tried_of c.args.plan) room (option_map (λ n. n.now) c.args.cash)) c.in_err-cash.field-0.0)
    c.room_beside-room.ensures c.in_err-cash.ensures.stops (λ movements. checks_script (option_map (λ n. n.now) c.args.script) c.args.json (tried_of c.args.plan) (named_of c.args.trades) movements next))
