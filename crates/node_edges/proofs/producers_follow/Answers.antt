use Rattle.node_edges.proofs.Producers.{producers_follow}
use Rattle.node_edges.proofs.producers_follow.Goals as goal

pub returns : goal.returns
returns c = producers_follow
