use Rattle.std.proofs.Common.{◌∙◌, ap, arith, length, subst, sym}
use Rattle.std.proofs.lemmas.List.{length-map}
use Rattle.flux_producer.specs.OutEdge.{rewound}
use Rattle.flux_producer.specs.ProducerView.{EachMayHave}
use Rattle.flux_producer.proofs.Rooms.{each_after}
use Rattle.flux_producer.proofs.producer.Producer.lead.Goals as goal

pub invariant_of-self : goal.invariant_of-self
invariant_of-self c =
    let edges = c.self.inside.edges.items in
    let many = ap length c.rewind_all.ensures ∙ length-map edges rewound in
    record {
      some = c.self.invariant.some;
      few = c.self.invariant.few;
      targets = omega (arith, c.self.invariant.targets, many);
      known = subst (λ es. EachMayHave es c.self.inside.room) (sym c.rewind_all.ensures)
          (each_after rewound edges c.self.inside.room c.self.inside.room c.self.invariant.known (λ e may. record { room = may.room; fits = may.fits }));
    }
