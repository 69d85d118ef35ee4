use Rattle.std.proofs.Common.{◌<◌, length, subst, arith}
use Rattle.linked_run.specs.Drafts.{LeadsToAll}
use Rattle.linked_run.specs.Linked.{ids_of}
use Rattle.run_node.specs.NodeView.{NodeName}
use Rattle.linked_run.proofs.Joining.{all_more, all_same, first_led, same_ids, same_length, still_distinct}
use Rattle.run_node.proofs.Places.{each_take_by}
use Rattle.linked_run.proofs.connecting.connect_all.Goals as goal

pub loop-from-init : goal.loop-from-init
loop-from-init g c = record { grown = all_same c.args.drafts.now; linked = c.requires.linked; leads = tt }

pub connect_from-requires-clause-from : goal.connect_from-requires-clause-from
connect_from-requires-clause-from g c κs within = omega (arith, c.loop-from-test.true, c.loop-from.auto.drafts)

pub connect_from-requires-clause-distinct : goal.connect_from-requires-clause-distinct
connect_from-requires-clause-distinct g c κs within = still_distinct c.args.drafts.now c.loop-from.drafts c.loop-from.invariant.grown c.requires.distinct

pub connect_from-requires-clause-linked : goal.connect_from-requires-clause-linked
connect_from-requires-clause-linked g c κs within = c.loop-from.invariant.linked

pub loop-from-preserved : goal.loop-from-preserved
loop-from-preserved g c =
    let h = c.loop-from.invariant in
    let e = c.in_ok-connect_from.ensures in
    let ms = c.args.drafts.now in
    let ys = c.loop-from.drafts in
    let zs = c.connect_from.new.drafts in
    let plan = c.args.plan.now in
    let grown = all_more ms ys zs h.grown e.grown in
    let lt : c.loop-from.from < length zs = omega (arith, c.loop-from-test.true, same_length ms ys h.grown, same_length ys zs e.grown, c.loop-from.auto.drafts) in
    record {
      grown = grown;
      linked = e.linked;
      leads = each_take_by (λ (m : NodeName). LeadsToAll plan m (ids_of ms)) zs c.loop-from.from lt (first_led plan ys zs c.loop-from.from (ids_of ms) e.grown h.leads)
          (λ m at. subst (LeadsToAll plan m) (same_ids ms ys h.grown) (e.leads m at));
    }
