use Rattle.std.proofs.Common.{◌∙◌, ◌++◌, ap, subst}
use Rattle.node_edges.proofs.OnEdges.{made_from}
use Rattle.node_edges.specs.OutEdges.{HasMade}
use Rattle.pair_machine.specs.Edges.{edge_to, passed, stamped}
use Rattle.stream_ops.specs.Answers.{answer}
use Rattle.tuple_edge.specs.Item.{stamp_of}
use Rattle.partition_step.proofs.merge.merge_next.Goals as goal

pub returns-clause-merges : goal.returns-clause-merges
returns-clause-merges c = record {
  consumer = c.pass.ensures.after;
  rows = c.step.new.out.items;
  made = subst (λ rs. HasMade (λ t. edge_to c.args.task.now.next t (stamped (stamp_of c.args.head.item) rs ++ passed c.args.head.item)) c.args.producer.now c.emit_answer.new.producer) c.deref.ensures.value
      (made_from _ c.args.producer.now c.make_room.new.producer c.emit_answer.new.producer c.in_ok-make_room.ensures.contents c.emit_answer.ensures);
  answers = λ before unended stands. c.in_ok-step.ensures.answers before unended stands ∙ ap (λ rs. rs ++ answer c.args.state.now.spec before c.args.head.item) c.clear.ensures.items;
  stands = c.in_ok-step.ensures.stands;
  spec = c.in_ok-step.ensures.spec;
  old = c.in_ok-step.ensures.old;
}
