use Rattle.std.proofs.Common.{◌≡◌, ◌≤◌, ◌++◌, length, vec_len, vec_capacity}
use Rattle.std.specs.Prelude.{map}
use Rattle.std.specs.Vec.Iter.{into_iter_items}
use Rattle.run_node.specs.NodeView.{name_of}
use Rattle.partition_runner.proofs.making.finish_all.Given as goal

abbrev pub invariant-loop-draft : goal.invariant-loop-draft
invariant-loop-draft g l =
    (goal.iterator-loop-draft g).can_next l.draft-iterator ×
    (goal.iterator-loop-draft g).is_finite l.draft-iterator ×
    record {
      count : vec_len l.nodes ≡ length l.yielded;
      room : vec_len l.fn.drafts ≤ vec_capacity l.nodes;
      left : l.yielded ++ into_iter_items l.draft-iterator ≡ l.fn.drafts.items;
      made : map (name_of g.A.Acts.id) l.nodes.items ≡ l.yielded;
    }
