use Rattle.std.proofs.Common.{◌≡◌, ◌∙◌, ◌++◌, List, length, take, drop, sym, subst, arith}
use Rattle.std.proofs.lemmas.Result.{IfOk-weaker}
use Rattle.std.specs.Prelude.{map}
use Rattle.plan_nodes.specs.States.{id_of}
use Rattle.linked_run.specs.Linked.{AreDistinct, AreLinked}
use Rattle.run_node.specs.NodeView.{NodeName, name_of}
use Rattle.partition_runner.specs.Ready.{AreNodesOf, HaveTheirLinks}
use Rattle.run_node.proofs.Places.{written}
use Rattle.partition_runner.proofs.Unlinked.{all_distinct, all_linked, have_links}
use Rattle.partition_runner.proofs.making.make_nodes.Goals as goal

pub connect_all-requires-clause-distinct : goal.connect_all-requires-clause-distinct
connect_all-requires-clause-distinct g c κs within = subst AreDistinct (sym (c.deref_mut.ensures.value ∙ c.in_ok-drafts.ensures)) (all_distinct c.args.plan.now)

pub connect_all-requires-clause-linked : goal.connect_all-requires-clause-linked
connect_all-requires-clause-linked g c κs within = subst (λ (l : List NodeName). AreLinked l l) (sym (c.deref_mut.ensures.value ∙ c.in_ok-drafts.ensures)) (all_linked c.args.plan.now)

pub finished-requires-clause-links : goal.finished-requires-clause-links
finished-requires-clause-links g c κs within =
    let old = c.in_ok-drafts.drafts in
    let new = c.connect_all.new.drafts in
    let e = c.in_ok-connect_all.ensures in
    let long : length c.deref_mut.result.now ≡ old.len = omega (arith, c.deref_mut.ensures.len) in
    let same : take old.len (new ++ drop (length new) old.items) ≡ new = written old.len new old.items (c.connect_all.auto.drafts ∙ long) in
    subst (HaveTheirLinks c.args.plan.now) (sym same) (have_links c.args.plan.now c.deref_mut.result.now new (c.deref_mut.ensures.value ∙ c.in_ok-drafts.ensures) e.grown e.linked e.leads)

pub returns : goal.returns
returns g c =
    let old = c.in_ok-drafts.drafts in
    let new = c.connect_all.new.drafts in
    let e = c.in_ok-connect_all.ensures in
    let long : length c.deref_mut.result.now ≡ old.len = omega (arith, c.deref_mut.ensures.len) in
    let same : take old.len (new ++ drop (length new) old.items) ≡ new = written old.len new old.items (c.connect_all.auto.drafts ∙ long) in
    let links = subst (HaveTheirLinks c.args.plan.now) (sym same) (have_links c.args.plan.now c.deref_mut.result.now new (c.deref_mut.ensures.value ∙ c.in_ok-drafts.ensures) e.grown e.linked e.leads) in
    IfOk-weaker c.finished.result (λ nodes. map (name_of id_of) nodes.items ≡ take old.len (new ++ drop (length new) old.items)) (λ nodes. AreNodesOf c.args.plan.now (map (name_of id_of) nodes.items))
    (λ nodes same_names. subst (AreNodesOf c.args.plan.now) (sym same_names) links.nodes) c.finished.ensures
