use Rattle.plan_nodes.proofs.Coming.{came_behind}
use Rattle.plan_nodes.proofs.making.ingress_feeds.Goals as goal

pub returns-clause-came : goal.returns-clause-came
returns-clause-came c = came_behind c.args.node.now c.feed.new.self c.args.input c.feed.result c.feed.ensures.takes c.feed.ensures.fed
