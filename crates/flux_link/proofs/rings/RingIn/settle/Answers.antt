use Rattle.flux_link.proofs.Numbered.{numbered_front}
use Rattle.flux_link.proofs.Sent.{front_was_sent}
use Rattle.flux_link.proofs.rings.RingIn.settle.Goals as goal

pub returns-clause-prefix : goal.returns-clause-prefix
returns-clause-prefix c = numbered_front _ _ _ c.slots_beside.ensures.fifo

pub returns-clause-arrivals : goal.returns-clause-arrivals
returns-clause-arrivals c = front_was_sent _ _ (numbered_front _ _ _ c.slots_beside.ensures.fifo)
