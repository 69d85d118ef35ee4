use Rattle.test_links.proofs.links.next_of.Goals as goal
use Rattle.std.proofs.Common.{arith}

pub recv-requires : goal.recv-requires
recv-requires g c = omega (arith, c.requires, g.met.I.Inlet.few c.args.inlet.now)
