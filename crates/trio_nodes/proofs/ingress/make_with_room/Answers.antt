use Rattle.node_edges.proofs.OnEdges.{made_from}
use Rattle.trio_nodes.proofs.ingress.make_with_room.Goals as goal

pub returns-clause-made : goal.returns-clause-made
returns-clause-made c = made_from _ c.args.producer.now c.make_room.new.producer c.make_at.new.producer c.in_ok-make_room.ensures.contents c.make_at.ensures
