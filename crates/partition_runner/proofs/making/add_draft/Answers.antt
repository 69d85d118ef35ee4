use Rattle.std.proofs.Common.{subst, sym}
use Rattle.pair_machine.specs.Machine.{new_node}
use Rattle.run_node.specs.SoundNode.{TapFits}
use Rattle.plan_nodes.specs.States.{Admits, StandsFor, gone_of, id_of, rows_of}
use Rattle.plan_nodes.specs.declared.state.NodeState.{NodeState}
use Rattle.tuple_edge.specs.Input.{Input}
use Rattle.std.specs.Prelude.{List}
use Rattle.partition_runner.proofs.Opening.{fits}
use Rattle.partition_runner.proofs.making.add_draft.Goals as goal

pub new-requires-2-clause-opening : goal.new-requires-2-clause-opening
new-requires-2-clause-opening g c κs within =
    subst (λ (s : NodeState). (inputs : List Input) → Admits s inputs → StandsFor g.N.RunNames.plan inputs s (new_node (id_of s))) (sym c.new.ensures) c.requires.opening.stands

pub new-requires-2-clause-tap : goal.new-requires-2-clause-tap
new-requires-2-clause-tap g c κs within = subst (λ (s : NodeState). TapFits g.T.Draws.lets_go g.T.Draws.given rows_of gone_of c.args.tap s) (sym c.new.ensures)
    (fits g.T.Draws.lets_go g.T.Draws.given c.args.tap c.args.state c.requires.tap c.requires.opening.gone)
