use Rattle.flux_link.proofs.Treating.{treats, given_same}
use Rattle.flux_link.proofs.lossy.LossyIn.treat_next.Goals as goal
use Rattle.std.proofs.Common.{◌≡◌, arith, length, min, ◌+◌}

pub invariant_of-self-2 : goal.invariant_of-self-2
invariant_of-self-2 g c =
    let came = c.in-Some.ensures in
    let on : c.min-self.result ≡ min (c.args.self.now.next + 1) (length c.args.self.now.choices.items) =
    omega (arith, c.min-self.ensures, c.len.ensures) in
    record {
      sound = treats c.in-Some.arrival c.choice-choice.result c.args.self.now.sound c.requires.ready came.given
          c.choice-choice.ensures c.of-self.ensures
          _ _ _ on c.held_back-self.ensures came.taken;
    }

pub returns-clause-given : goal.returns-clause-given
returns-clause-given g c =
    given_same c.in-Some.arrival c.choice-choice.result c.args.self.now.sound c.requires.ready
    c.in-Some.ensures.given c.choice-choice.ensures c.of-self.ensures
