use Rattle.std.proofs.Common.{◌∙◌, sym}
use Rattle.look_command.specs.Trying.{tried_of}
use Rattle.look_command.proofs.Cash.{given_cash, refused_cash, short_cash, stopped_cash}
use Rattle.look_command.proofs.check.tried_movements.Goals as goal

pub returns-then-is_without_cash-clause-gives : goal.returns-then-is_without_cash-clause-gives
returns-then-is_without_cash-clause-gives g c =
    refused_cash c.args.all (tried_of c.args.plan.now) c.args.room c.args.name.now (g.F.Files.told c.args.files.now) c.not_in_plan.result
    (sym c.is_without_cash.ensures ∙ c.if-is_without_cash.true) c.not_in_plan.ensures.fault

pub returns-then-is_without_cash-clause-stops : goal.returns-then-is_without_cash-clause-stops
returns-then-is_without_cash-clause-stops g c =
    short_cash c.args.all (tried_of c.args.plan.now) c.args.room c.args.name.now (g.F.Files.told c.args.files.now) c.not_in_plan.result c.not_in_plan.ensures.want

pub returns-clause-gives : goal.returns-clause-gives
returns-clause-gives g c =
    given_cash c.args.all (tried_of c.args.plan.now) c.args.room c.args.name.now (g.F.Files.told c.args.files.now) (g.F.Files.told c.tried_if_named.new.files)
    c.tried_if_named.result (sym c.is_without_cash.ensures ∙ c.if-is_without_cash.false) c.tried_if_named.ensures.gives

pub returns-clause-stops : goal.returns-clause-stops
returns-clause-stops g c =
    stopped_cash c.args.all (tried_of c.args.plan.now) c.args.room c.args.name.now (g.F.Files.told c.args.files.now) (g.F.Files.told c.tried_if_named.new.files)
    c.tried_if_named.result (sym c.is_without_cash.ensures ∙ c.if-is_without_cash.false) c.tried_if_named.ensures.stops
