use Rattle.std.proofs.Common.{◌≡◌, ◌<◌, ◌+◌, ◌∙◌, length, max, min, subst, sym, arith, rules}
use Rattle.pair_control.specs.ControllerView.{AreAcknowledgedBut, ControllerView, IsLed}
use Rattle.pair_control.proofs.Due.{heard_a, heard_b, same_status}
use Rattle.pair_control.proofs.controller.PairControl.hear_report.Goals as goal

pub invariant_of-self : goal.invariant_of-self
invariant_of-self c =
    let i = c.self.invariant in
    let first : c.min-self-inside.result ≡ min c.self.inside.first_due c.args.edge.from = search rules in
    let end : c.max-self-inside.result ≡ max c.self.inside.end_due (c.args.edge.from + 1) = search rules in
    let here : c.args.edge.from < length c.self.inside.acked.items = subst (λ (v : ControllerView). c.args.edge.from < length v.acked) (sym c.self.view_is) c.requires in
    let old = c.self.inside.a in
    let new = c.hear_report.new.self in
    record {
      stage_counts = i.stage_counts;
      few_edges = i.few_edges;
      a_reports = c.hear_report.ensures.edges ∙ i.a_reports;
      b_reports = i.b_reports;
      led = subst (λ s. IsLed c.self.inside.leader s c.self.inside.b.status) (sym (same_status old new c.args.inc c.args.edge.from c.args.upto c.hear_report.ensures.numbers)) i.led;
      due_from = let h = i.due_from in omega arith;
      due_to = let h = i.due_to in omega arith;
      acknowledged = subst (λ n. AreAcknowledgedBut new c.self.inside.b c.self.inside.acked.items n c.max-self-inside.result) (sym first)
          (subst (λ n. AreAcknowledgedBut new c.self.inside.b c.self.inside.acked.items (min c.self.inside.first_due c.args.edge.from) n) (sym end)
          (heard_a old new c.args.inc c.args.edge.from c.args.upto c.hear_report.ensures.numbers c.self.inside.b c.self.inside.acked.items c.self.inside.first_due c.self.inside.end_due i.acknowledged));
    }

pub invariant_of-self-in-B : goal.invariant_of-self-in-B
invariant_of-self-in-B c =
    let i = c.self.invariant in
    let first : c.min-self-inside.result ≡ min c.self.inside.first_due c.args.edge.from = search rules in
    let end : c.max-self-inside.result ≡ max c.self.inside.end_due (c.args.edge.from + 1) = search rules in
    let here : c.args.edge.from < length c.self.inside.acked.items = subst (λ (v : ControllerView). c.args.edge.from < length v.acked) (sym c.self.view_is) c.requires in
    let old = c.self.inside.b in
    let new = c.hear_report-in-B.new.self in
    record {
      stage_counts = i.stage_counts;
      few_edges = i.few_edges;
      a_reports = i.a_reports;
      b_reports = c.hear_report-in-B.ensures.edges ∙ i.b_reports;
      led = subst (λ s. IsLed c.self.inside.leader c.self.inside.a.status s) (sym (same_status old new c.args.inc c.args.edge.from c.args.upto c.hear_report-in-B.ensures.numbers)) i.led;
      due_from = let h = i.due_from in omega arith;
      due_to = let h = i.due_to in omega arith;
      acknowledged = subst (λ n. AreAcknowledgedBut c.self.inside.a new c.self.inside.acked.items n c.max-self-inside.result) (sym first)
          (subst (λ n. AreAcknowledgedBut c.self.inside.a new c.self.inside.acked.items (min c.self.inside.first_due c.args.edge.from) n) (sym end)
          (heard_b old new c.args.inc c.args.edge.from c.args.upto c.hear_report-in-B.ensures.numbers c.self.inside.a c.self.inside.acked.items c.self.inside.first_due c.self.inside.end_due i.acknowledged));
    }
