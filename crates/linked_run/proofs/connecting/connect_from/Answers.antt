use Rattle.std.proofs.Common.{◌<◌, length, subst, arith}
use Rattle.linked_run.specs.Drafts.{LeadsTo}
use Rattle.linked_run.specs.Linked.{ids_of}
use Rattle.linked_run.proofs.Joining.{all_later_led, all_more, all_same, at_after, at_before, many_ids, same_length, still_distinct}
use Rattle.run_node.proofs.Places.{each_take_by}
use Rattle.linked_run.proofs.connecting.connect_from.Goals as goal

pub loop-to-init : goal.loop-to-init
loop-to-init g c = record { grown = all_same c.args.drafts.now; linked = c.requires.linked; leads = λ m e. tt }

pub connect-requires-clause-places : goal.connect-requires-clause-places
connect-requires-clause-places g c κs within =
    let e = same_length c.args.drafts.now c.loop-to.drafts c.loop-to.invariant.grown in
    (omega (arith, c.requires.from, e), omega (arith, c.loop-to-test.true, e, c.loop-to.auto.drafts))

pub connect-requires-clause-distinct : goal.connect-requires-clause-distinct
connect-requires-clause-distinct g c κs within = still_distinct c.args.drafts.now c.loop-to.drafts c.loop-to.invariant.grown c.requires.distinct

pub connect-requires-clause-linked : goal.connect-requires-clause-linked
connect-requires-clause-linked g c κs within = c.loop-to.invariant.linked

pub loop-to-preserved : goal.loop-to-preserved
loop-to-preserved g c =
    let h = c.loop-to.invariant in
    let e = c.in_ok-connect.ensures in
    let ms = c.args.drafts.now in
    let ys = c.loop-to.drafts in
    let zs = c.connect.new.drafts in
    let grown = all_more ms ys zs h.grown e.grown in
    let lt : c.loop-to.to < length (ids_of ms) = omega (arith, c.loop-to-test.true, many_ids ms, same_length ms ys h.grown, c.loop-to.auto.drafts) in
    record {
      grown = grown;
      linked = e.linked;
      leads = λ m at.
          let before = at_before ys zs c.args.from m e.grown at in
          each_take_by (LeadsTo c.args.plan.now m) (ids_of ms) c.loop-to.to lt (all_later_led c.args.plan.now before.0 m _ before.2 (h.leads before.0 before.1))
          (λ n there. let k = at_after ms zs c.loop-to.to n grown there in subst (LeadsTo c.args.plan.now m) k.2 (e.leads m k.0 at k.1));
    }
