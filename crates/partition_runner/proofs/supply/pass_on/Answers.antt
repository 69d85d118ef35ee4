use Rattle.std.proofs.Common.{◌++◌, subst, sym}
use Rattle.node_tasks.specs.Coming.{inputs_of}
use Rattle.node_tasks.specs.declared.source.Came.{Came}
use Rattle.partition_runner.specs.Feeds.{IsGivenBy, came_to}
use Rattle.partition_runner.proofs.Supplied.{one_held}
use Rattle.partition_runner.proofs.supply.pass_on.Goals as goal

pub returns-in-Input-clause-given : goal.returns-in-Input-clause-given
returns-in-Input-clause-given c = λ gave before ended was said.
    subst (λ (s : Came). IsGivenBy (gave ++ inputs_of s) ended (came_to c.pass_held.new.node c.pass_held.new.held)) (sym c.in-Input.is)
    (c.pass_held.ensures.given _ ended (one_held c.args.node.now c.args.held.now c.in-Input.input c.requires.none c.requires.open gave before ended was))
