use Rattle.plan_nodes.proofs.Acting.{taken_alone}
use Rattle.plan_nodes.proofs.state.NodeStateActs.take.Goals as goal

pub returns-clause-acted : goal.returns-clause-acted
returns-clause-acted c = (taken_alone _ _ c.args.from c.args.packet.now c.take_packet.result c.args.out.now.packets c.take_packet.new.out.packets c.requires.empty c.take_packet.ensures.taken c.args._index).acted

pub returns-clause-left : goal.returns-clause-left
returns-clause-left c = λ idle. c.take_packet.ensures.left idle c.args._index
