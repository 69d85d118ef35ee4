use Rattle.node_edges.proofs.Consumers.{consumers_follow}
use Rattle.node_edges.proofs.consumers_follow.Goals as goal

pub returns : goal.returns
returns c = consumers_follow
