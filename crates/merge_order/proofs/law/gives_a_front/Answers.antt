use Rattle.merge_order.proofs.RunLaw.{gives_front}
use Rattle.merge_order.proofs.law.gives_a_front.Goals as goal

pub returns : goal.returns
returns c = gives_front
