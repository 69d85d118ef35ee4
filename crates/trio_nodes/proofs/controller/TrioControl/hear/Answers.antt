use Rattle.std.proofs.Common.{◌≡◌, ◌<◌, ◌∙◌, length, ap, arith}
use Rattle.trio_nodes.specs.ControllerView.{ControllerView, heard, unheard, watched_in}
use Rattle.trio_nodes.proofs.Hearing.{at_place, changed, report_here}
use Rattle.trio_nodes.proofs.controller.TrioControl.hear.Goals as goal

pub returns-in-Report-clause-does : goal.returns-in-Report-clause-does
returns-in-Report-clause-does c =
    let v : ControllerView = record {
      stage = c.self.inside.stage;
      part = c.self.inside.part;
      watched = c.self.inside.watched.items;
      acked = c.self.inside.acked.items;
      term = c.self.inside.term;
      leader = c.self.inside.leader;
    } in
    let there : c.args.copy < length v.watched = let three = c.self.invariant.three in let copy = c.requires.copy in omega arith in
    let seen : c.index_mut.result.now ≡ watched_in v.watched c.args.copy = c.index_mut.ensures.value ∙ at_place v.watched c.args.copy c.index_mut.result.now (unheard 0) there in
    report_here _ v _ c.args.copy c.self.view_is there c.args.out.now c.args.body.now c.in-Report.edge c.in-Report.upto c.in-Report.is c.requires.heard c.self.invariant.reports
    (ap (changed v c.args.copy) (c.hear.ensures ∙ ap (λ w. heard w c.in-Report.edge.from c.in-Report.upto) seen))
