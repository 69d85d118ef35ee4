use Rattle.std.proofs.Common.{◌∙◌, arith}
use Rattle.partition_step.proofs.Emitting.{all_emitted, fits_left, none_emitted, one_emitted, room_left}
use Rattle.partition_step.proofs.answer.emit_rows.Goals as goal

pub loop-row-init : goal.loop-row-init
loop-row-init c = none_emitted c.args.next.now c.args.stamp c.args.rows.now c.args.producer.now c.requires.room c.requires.fits

pub emit_row-requires-clause-targets : goal.emit_row-requires-clause-targets
emit_row-requires-clause-targets c = c.loop-row.invariant.made.targets ∙ c.requires.targets

pub emit_row-requires-clause-room : goal.emit_row-requires-clause-room
emit_row-requires-clause-room c = room_left c.args.next.now c.args.stamp c.args.rows.now c.loop-row.row-index c.args.producer.now c.loop-row.producer (omega arith) c.loop-row.invariant

pub emit_row-requires-clause-fits : goal.emit_row-requires-clause-fits
emit_row-requires-clause-fits c = fits_left c.args.next.now c.args.stamp c.args.rows.now c.loop-row.row-index c.args.producer.now c.loop-row.producer (omega arith) c.loop-row.invariant

pub loop-row-preserved : goal.loop-row-preserved
loop-row-preserved c = one_emitted c.args.next.now c.args.stamp c.args.rows.now c.loop-row.row-index _ c.args.producer.now c.loop-row.producer c.emit_row.new.producer c.loop-row-test.true c.loop-row.invariant c.emit_row.ensures.made c.emit_row.ensures.less

pub returns-clause-made : goal.returns-clause-made
returns-clause-made c = all_emitted c.args.next.now c.args.stamp c.args.rows.now c.loop-row.row-index c.args.producer.now c.loop-row.producer c.loop-row-test.false c.loop-row.invariant

pub returns-clause-room : goal.returns-clause-room
returns-clause-room c = room_left c.args.next.now c.args.stamp c.args.rows.now c.loop-row.row-index c.args.producer.now c.loop-row.producer (omega arith) c.loop-row.invariant

pub returns-clause-fits : goal.returns-clause-fits
returns-clause-fits c = fits_left c.args.next.now c.args.stamp c.args.rows.now c.loop-row.row-index c.args.producer.now c.loop-row.producer (omega arith) c.loop-row.invariant
