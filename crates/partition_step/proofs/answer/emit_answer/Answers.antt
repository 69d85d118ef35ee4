use Rattle.partition_step.proofs.Emitting.{answer_emitted}
use Rattle.partition_step.proofs.answer.emit_answer.Goals as goal

pub returns : goal.returns
returns c = answer_emitted c.args.next.now c.stamp.result c.args.rows.now c.args.item c.args.producer.now c.emit_rows.new.producer c.pass_on.new.producer c.stamp.ensures c.emit_rows.ensures.made c.pass_on.ensures
