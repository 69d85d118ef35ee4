use Rattle.flux_link.proofs.lossy.LossyInInlet.look.Given as goal
use Rattle.flux_link.specs.LossyInlets.{AskedOn, InnerKeepsAll, inner_arrivals, given_by, taken_by, steps_left}
use Rattle.std.proofs.Common.{◌≡◌, ◌≤◌, ◌+◌, ◌-◌, Some, length}
use Rattle.std.specs.Prelude.{IfSome, slice_get}
use mathlib.Core.List.{IsPrefix}

abbrev pub invariant-loop-self : goal.invariant-loop-self
invariant-loop-self g l = record {
  link : g.I.Inlet.identity l.self.inner ≡ g.I.Inlet.identity l.initial.self.inner;
  choices : l.self.choices ≡ l.initial.self.choices;
  grows : IsPrefix (inner_arrivals l.initial.self) (inner_arrivals l.self);
  all : InnerKeepsAll l.initial.self l.self;
  asked : AskedOn l.initial.self l.self;
  given : given_by l.self ≡ given_by l.initial.self;
  stays : IfSome (slice_get l.initial.self.ready 0) (λ arrival. slice_get l.self.ready 0 ≡ Some arrival);
  taken : taken_by l.self + (1 - length l.self.ready) ≤ taken_by l.initial.self + 1;
}

abbrev pub decreases-loop-self : goal.decreases-loop-self
decreases-loop-self g l = steps_left l.self
