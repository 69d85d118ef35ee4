use Rattle.std.proofs.Common.{◌++◌, refl, subst}
use Rattle.tuple_edge.specs.Item.{stamp_of}
use Rattle.pair_machine.specs.Edges.{edge_to, passed, stamped}
use Rattle.node_edges.specs.OutEdges.{HasMade}
use Rattle.partition_step.proofs.Emitting.{on_ok}
use Rattle.partition_step.specs.declared.task.PartitionTask.{PartitionTask}
use Rattle.replica_node.proofs.phase.Running.merge.Goals as goal

pub returns-clause-merges : goal.returns-clause-merges
returns-clause-merges c = on_ok c.merge_next.result _ _
    (λ m. record {
      inc = refl;
      consumer = m.consumer;
      rows = m.rows;
      made = subst (λ (task : PartitionTask). HasMade (λ t. edge_to task.next t (stamped (stamp_of c.args.head.item) m.rows ++ passed c.args.head.item)) c.args.self.now.producer c.merge_next.new.producer) c.task.ensures m.made;
      answers = m.answers;
      stands = m.stands;
      spec = m.spec;
      old = m.old;
      served = refl;
      move = refl;
    })
    c.merge_next.ensures.merges
