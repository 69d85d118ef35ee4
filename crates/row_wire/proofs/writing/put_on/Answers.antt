use Rattle.row_wire.proofs.Writings.{puts_part, puts_whole, stays}
use Rattle.row_wire.proofs.writing.put_on.Goals as goal

pub returns-in-Ok : goal.returns-in-Ok
returns-in-Ok g c =
    rw c.in-Whole.is (puts_whole (g.W.Wire.told c.args.wire.now) (g.W.Wire.told c.put_all.new.wire) c.args.bytes.now c.in-Ok.ensures.ok c.requires c.in-Ok.ensures.offers c.in-Ok.ensures.later)

pub returns-in-Err : goal.returns-in-Err
returns-in-Err g c =
    rw c.in-Whole.is (puts_part (g.W.Wire.told c.args.wire.now) (g.W.Wire.told c.put_all.new.wire) c.args.bytes.now c.in-Err.ensures.failed c.requires c.in-Err.ensures.offers c.in-Err.ensures.cause c.in-Err.ensures.later)

pub returns-in_default : goal.returns-in_default
returns-in_default g c = stays (g.W.Wire.told c.args.wire.now) c.args.bytes.now c.args.written c.in_default.not-Whole
