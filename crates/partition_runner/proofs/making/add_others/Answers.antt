use Rattle.std.proofs.Common.{◌≡◌, true, refl, arith}
use Rattle.tuple_edge.specs.declared.node.NodeId.{NodeId}
use Rattle.plan_reader.specs.Nodes.{has_node}
use Rattle.run_node.proofs.Places.{each_at_place}
use Rattle.partition_runner.proofs.Unlinked.{other_at, unlinked_next}
use Rattle.partition_runner.proofs.making.add_others.Goals as goal

pub add_other-requires-clause-there : goal.add_other-requires-clause-there
add_other-requires-clause-there g c κs within = each_at_place (λ (n : NodeId). has_node c.args.plan.now n ≡ true) c.args.ids.now c.loop-place.place _ c.requires.there (omega (arith, c.loop-place-test.true))

pub add_other-requires-clause-other : goal.add_other-requires-clause-other
add_other-requires-clause-other g c κs within = other_at c.args.ids.now c.loop-place.place _ c.requires.others (omega (arith, c.loop-place-test.true)) (omega (arith, c.loop-place-test.true))

pub loop-place-preserved : goal.loop-place-preserved
loop-place-preserved g c = unlinked_next c.loop-place.drafts.items c.add_other.new.drafts.items c.args.ids.now c.loop-place.place _ _ _ (omega (arith, c.loop-place-test.true)) c.loop-place.invariant c.in_ok-add_other.ensures refl refl
