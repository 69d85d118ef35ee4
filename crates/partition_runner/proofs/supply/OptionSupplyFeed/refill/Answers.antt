use Rattle.std.proofs.Common.{◌∙◌, List, Ok, subst, sym, ap}
use Rattle.plan_nodes.specs.States.{StandsFor}
use Rattle.plan_nodes.specs.declared.state.NodeState.{NodeState}
use Rattle.partition_runner.specs.Feeds.{IsGivenBy, came_to}
use Rattle.partition_runner.proofs.Ends.{supply_of}
use Rattle.partition_runner.proofs.supply.OptionSupplyFeed.refill.Goals as goal

pub returns-in_err-pass_held-clause-fits : goal.returns-in_err-pass_held-clause-fits
returns-in_err-pass_held-clause-fits g c =
    let was = supply_of g.S.Source.gave g.S.Source.ended c.args.self.now c.args.state.now c.in-Some.supply c.in-Ingress.node c.in-Some.is c.in-Ingress.is c.requires.fits in
    record { given = c.pass_held.ensures.given _ _ was.given; told = was.told ∙ sym c.pass_held.ensures.told }

pub returns-in_err-pass_held-clause-stands : goal.returns-in_err-pass_held-clause-stands
returns-in_err-pass_held-clause-stands g c = λ plan inputs x may stands. c.pass_held.ensures.stands plan inputs x may (subst (λ (s : NodeState). StandsFor plan inputs s x) c.in-Ingress.is stands)

pub returns-then-not-branch-clause-fits : goal.returns-then-not-branch-clause-fits
returns-then-not-branch-clause-fits g c =
    let was = supply_of g.S.Source.gave g.S.Source.ended c.args.self.now c.args.state.now c.in-Some.supply c.in-Ingress.node c.in-Some.is c.in-Ingress.is c.requires.fits in
    record { given = c.pass_held.ensures.given _ _ was.given; told = was.told ∙ sym c.pass_held.ensures.told }

pub returns-then-not-branch-clause-stands : goal.returns-then-not-branch-clause-stands
returns-then-not-branch-clause-stands g c = λ plan inputs x may stands. c.pass_held.ensures.stands plan inputs x may (subst (λ (s : NodeState). StandsFor plan inputs s x) c.in-Ingress.is stands)

pub loop-init : goal.loop-init
loop-init g c =
    let was = supply_of g.S.Source.gave g.S.Source.ended c.args.self.now c.args.state.now c.in-Some.supply c.in-Ingress.node c.in-Some.is c.in-Ingress.is c.requires.fits in
    record {
      supplied = record { given = c.pass_held.ensures.given _ _ was.given; told = was.told ∙ sym c.pass_held.ensures.told };
      none = c.pass_held.ensures.none (c.in_ok-pass_held.was ∙ ap Ok c.if-not-branch.false);
      inputs = λ inputs may. may;
      stands = λ plan inputs x may stands. stands;
      of_plan = λ plan of. of;
    }

pub returns-then-supply-clause-stands : goal.returns-then-supply-clause-stands
returns-then-supply-clause-stands g c = λ plan inputs x may stands.
    c.loop.invariant.stands plan inputs x may
    (c.pass_held.ensures.stands plan inputs x (c.loop.invariant.inputs inputs may) (subst (λ (s : NodeState). StandsFor plan inputs s x) c.in-Ingress.is stands))

pub returns-in_err-pass_on-clause-fits : goal.returns-in_err-pass_on-clause-fits
returns-in_err-pass_on-clause-fits g c = record {
  given = subst (λ (gave : List _). IsGivenBy gave (g.S.Source.ended c.next-said.new.self) (came_to c.pass_on.new.node c.pass_on.new.held)) (sym c.next-said.ensures.gave)
      (c.pass_on.ensures.given (g.S.Source.gave c.loop.supply.source) (g.S.Source.ended c.loop.supply.source) (g.S.Source.ended c.next-said.new.self) c.loop.invariant.supplied.given c.next-said.ensures.ended);
  told = c.pass_on.ensures.told;
}

pub returns-in_err-pass_on-clause-stands : goal.returns-in_err-pass_on-clause-stands
returns-in_err-pass_on-clause-stands g c = λ plan inputs x may stands.
    let before = c.pass_on.ensures.inputs inputs may in
    c.pass_on.ensures.stands plan inputs x may (c.loop.invariant.stands plan inputs x before
    (c.pass_held.ensures.stands plan inputs x (c.loop.invariant.inputs inputs before) (subst (λ (s : NodeState). StandsFor plan inputs s x) c.in-Ingress.is stands)))

pub returns-then-not-branch-2-clause-fits : goal.returns-then-not-branch-2-clause-fits
returns-then-not-branch-2-clause-fits g c = record {
  given = subst (λ (gave : List _). IsGivenBy gave (g.S.Source.ended c.next-said.new.self) (came_to c.pass_on.new.node c.pass_on.new.held)) (sym c.next-said.ensures.gave)
      (c.pass_on.ensures.given (g.S.Source.gave c.loop.supply.source) (g.S.Source.ended c.loop.supply.source) (g.S.Source.ended c.next-said.new.self) c.loop.invariant.supplied.given c.next-said.ensures.ended);
  told = c.pass_on.ensures.told;
}

pub returns-then-not-branch-2-clause-stands : goal.returns-then-not-branch-2-clause-stands
returns-then-not-branch-2-clause-stands g c = λ plan inputs x may stands.
    let before = c.pass_on.ensures.inputs inputs may in
    c.pass_on.ensures.stands plan inputs x may (c.loop.invariant.stands plan inputs x before
    (c.pass_held.ensures.stands plan inputs x (c.loop.invariant.inputs inputs before) (subst (λ (s : NodeState). StandsFor plan inputs s x) c.in-Ingress.is stands)))

pub loop-preserved : goal.loop-preserved
loop-preserved g c = record {
  supplied = record {
    given = subst (λ (gave : List _). IsGivenBy gave (g.S.Source.ended c.next-said.new.self) (came_to c.pass_on.new.node c.pass_on.new.held)) (sym c.next-said.ensures.gave)
        (c.pass_on.ensures.given (g.S.Source.gave c.loop.supply.source) (g.S.Source.ended c.loop.supply.source) (g.S.Source.ended c.next-said.new.self) c.loop.invariant.supplied.given c.next-said.ensures.ended);
    told = c.pass_on.ensures.told;
  };
  none = c.pass_on.ensures.none (c.in_ok-pass_on.was ∙ ap Ok c.if-not-branch-2.false);
  inputs = λ inputs may. c.loop.invariant.inputs inputs (c.pass_on.ensures.inputs inputs may);
  stands = λ plan inputs x may stands. c.pass_on.ensures.stands plan inputs x may (c.loop.invariant.stands plan inputs x (c.pass_on.ensures.inputs inputs may) stands);
  of_plan = λ plan of. c.pass_on.ensures.of_plan plan (c.loop.invariant.of_plan plan of);
}

pub returns-clause-stands : goal.returns-clause-stands
returns-clause-stands g c = λ plan inputs x may stands.
    c.loop.invariant.stands plan inputs x may
    (c.pass_held.ensures.stands plan inputs x (c.loop.invariant.inputs inputs may) (subst (λ (s : NodeState). StandsFor plan inputs s x) c.in-Ingress.is stands))
