use Rattle.std.proofs.Common.{arith, subst, sym}
use Rattle.flux_producer.specs.StandsFor.{StandsFor}
use Rattle.flux_producer.proofs.Rooms.{each_kept, roomy_stands}
use Rattle.flux_producer.proofs.producer.Producer.reserve.Goals as goal

pub returns-in_ok-self-inside-clause-stands : goal.returns-in_ok-self-inside-clause-stands
returns-in_ok-self-inside-clause-stands c all stands =
    roomy_stands c.self.inside.edges.items c.in_ok-self-inside.field-0.items c.args.items all c.in_ok-self-inside.ensures (subst (λ p. StandsFor p all) (sym c.self.view_is) stands)

pub invariant_of-self : goal.invariant_of-self
invariant_of-self c =
    let more = c.in_ok-self-inside.ensures in record {
      some = c.self.invariant.some;
      few = c.self.invariant.few;
      targets = omega (arith, c.self.invariant.targets, more.len);
      known = each_kept c.self.inside.edges.items c.in_ok-self-inside.field-0.items c.args.items c.self.inside.room more c.self.invariant.known;
    }
