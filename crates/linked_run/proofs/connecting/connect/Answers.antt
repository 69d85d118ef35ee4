use Rattle.std.proofs.Common.{◌∙◌, inl, inr, sym}
use Rattle.linked_run.proofs.Joining.{all_same, connected, led_already}
use Rattle.linked_run.proofs.connecting.connect.Goals as goal

pub returns-then-not-links-clause-grown : goal.returns-then-not-links-clause-grown
returns-then-not-links-clause-grown g c = all_same c.args.drafts.now

pub returns-then-not-links-clause-leads : goal.returns-then-not-links-clause-leads
returns-then-not-links-clause-leads g c =
    led_already c.args.plan.now c.args.drafts.now c.args.from c.args.to c.index-drafts-from.result c.index-drafts-to.result c.index-drafts-from.result c.id.result c.id-2.result c.requires.places.0 c.id.ensures c.id-2.ensures
    (inl (sym c.links.ensures ∙ c.if-not-links.true))

pub returns-then-leads_to-clause-grown : goal.returns-then-leads_to-clause-grown
returns-then-leads_to-clause-grown g c = all_same c.args.drafts.now

pub returns-then-leads_to-clause-leads : goal.returns-then-leads_to-clause-leads
returns-then-leads_to-clause-leads g c =
    led_already c.args.plan.now c.args.drafts.now c.args.from c.args.to c.index-drafts-from.result c.index-drafts-to.result c.index-drafts-from-2.result c.id.result c.id-2.result c.requires.places.0 c.id.ensures c.id-2.ensures
    (inr (sym c.leads_to.ensures ∙ c.if-leads_to.true))

pub returns-clause-grown : goal.returns-clause-grown
returns-clause-grown g c = (connected c.args.plan.now c.args.drafts.now c.args.from c.args.to c.index-drafts-from.result c.index-drafts-to.result c.index-drafts-from-2.result c.index-drafts-from-3.result c.index-drafts-to-2.result c.id.result c.id-2.result
    _ _ c.add_out.new.self c.add_in.new.self c.requires.places.0 c.requires.places.1 c.requires.distinct c.requires.linked c.id.ensures c.id-2.ensures
    (sym c.links.ensures ∙ c.if-not-links.false) (sym c.leads_to.ensures ∙ c.if-leads_to.false) c.in_ok-outlet.ensures.link c.in_ok-add_out.ensures c.in_ok-add_in.ensures).grown

pub returns-clause-linked : goal.returns-clause-linked
returns-clause-linked g c = (connected c.args.plan.now c.args.drafts.now c.args.from c.args.to c.index-drafts-from.result c.index-drafts-to.result c.index-drafts-from-2.result c.index-drafts-from-3.result c.index-drafts-to-2.result c.id.result c.id-2.result
    _ _ c.add_out.new.self c.add_in.new.self c.requires.places.0 c.requires.places.1 c.requires.distinct c.requires.linked c.id.ensures c.id-2.ensures
    (sym c.links.ensures ∙ c.if-not-links.false) (sym c.leads_to.ensures ∙ c.if-leads_to.false) c.in_ok-outlet.ensures.link c.in_ok-add_out.ensures c.in_ok-add_in.ensures).linked

pub returns-clause-leads : goal.returns-clause-leads
returns-clause-leads g c = (connected c.args.plan.now c.args.drafts.now c.args.from c.args.to c.index-drafts-from.result c.index-drafts-to.result c.index-drafts-from-2.result c.index-drafts-from-3.result c.index-drafts-to-2.result c.id.result c.id-2.result
    _ _ c.add_out.new.self c.add_in.new.self c.requires.places.0 c.requires.places.1 c.requires.distinct c.requires.linked c.id.ensures c.id-2.ensures
    (sym c.links.ensures ∙ c.if-not-links.false) (sym c.leads_to.ensures ∙ c.if-leads_to.false) c.in_ok-outlet.ensures.link c.in_ok-add_out.ensures c.in_ok-add_in.ensures).leads
