use Rattle.flux_link.proofs.Treating.{gives, gives_sound}
use Rattle.flux_link.proofs.lossy.LossyIn.take_ready.Goals as goal
use Rattle.flux_link.specs.LossyInlets.{choices_of, inner_arrivals}

pub invariant_of-self : goal.invariant_of-self
invariant_of-self g c = record { sound = gives_sound c.args.self.now.sound c.take.result c.take.ensures }

pub returns-clause-given : goal.returns-clause-given
returns-clause-given g c =
    let s = c.args.self.now in
    gives (choices_of s) (inner_arrivals s) s.ready c.take.new.self s.sound.waits c.take.result c.take.ensures
