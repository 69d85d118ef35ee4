use Rattle.std.proofs.Common.{◌≡◌, ◌++◌, length}
use Rattle.std.specs.Vec.Iter.{into_iter_items}
use Rattle.pair_machine.specs.Lists.{Each}
use Rattle.linked_run.specs.Runs.{parts_in}
use Rattle.plan_nodes.specs.declared.state.NodeState.{NodeState}
use Rattle.partition_runner.specs.Feeds.{IsFeedOf}
use Rattle.partition_runner.specs.Parts.{HasRoom, IsLeftOf}
use Rattle.partition_runner.proofs.ran.Left.filled.Given as goal

abbrev pub invariant-loop-part : goal.invariant-loop-part
invariant-loop-part g l =
    (goal.iterator-loop-part g).can_next l.part-iterator ×
    (goal.iterator-loop-part g).is_finite l.part-iterator ×
    record {
      rest : l.yielded ++ into_iter_items l.part-iterator ≡ l.fn.parts.items;
      done : IsLeftOf g.K.Keeps.kept (parts_in g.K.Keeps.kept l.yielded) l.left;
      room : HasRoom (length (into_iter_items l.part-iterator)) l.left;
      fits : Each (λ (s : NodeState). (f : g.row.F.Denot) × g.F.Feed.fits f s) l.left.nodes.items;
      feed : IsFeedOf g.F.Feed.fits l.feed l.left.nodes.items;
    }
