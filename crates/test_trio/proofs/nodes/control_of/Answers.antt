use Rattle.test_trio.proofs.Edges.{has_edge}
use Rattle.test_trio.proofs.nodes.control_of.Goals as goal

pub returns : goal.returns
returns c = has_edge c.args.core.now c.control.result.now c.known.ensures c.control.ensures.named c.control.ensures.stands
