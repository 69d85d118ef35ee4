use Rattle.std.proofs.Common.{IfErr, subst, sym}
use Rattle.trio_machine.specs.Machine.{State, act_of}
use Rattle.trio_core.specs.CoreView.{flow_in}
use Rattle.trio_core.specs.Refusals.{IsRefusal}
use Rattle.trio_core.specs.Stands.{StandsFor}
use Rattle.trio_core.proofs.nodes.TrioCore.task_of.Goals as goal

pub returns-in-Pull-clause-refused : goal.returns-in-Pull-clause-refused
returns-in-Pull-clause-refused c =
    subst (λ e. IfErr c.pull_of.result (λ x. (s : State) → StandsFor c.args.self.now s → IsRefusal (act_of (flow_in c.args.self.now) s e) x)) (sym c.in-Pull.is) c.pull_of.ensures.refused
