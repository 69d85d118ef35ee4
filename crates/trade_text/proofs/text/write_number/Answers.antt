use Rattle.std.proofs.Common.{arith, rules, to_z-of_z}
use Rattle.trade_text.proofs.Numerals.{few_digits, minus_first}
use Rattle.trade_text.proofs.text.write_number.Goals as goal

pub write_digits-start-requires : goal.write_digits-start-requires
write_digits-start-requires c = (omega (arith, few_digits c.unsigned_abs.result (omega arith)), search rules)

pub returns-then-number-ge0-clause-start : goal.returns-then-number-ge0-clause-start
returns-then-number-ge0-clause-start c = (omega arith, omega (arith, few_digits c.unsigned_abs.result (omega arith)))

pub write_byte-requires-clause-some : goal.write_byte-requires-clause-some
write_byte-requires-clause-some c = omega (arith, few_digits c.unsigned_abs.result (omega arith))

pub returns-clause-start : goal.returns-clause-start
returns-clause-start c = (omega arith, omega (arith, few_digits c.unsigned_abs.result (omega arith)))

pub returns-clause-written : goal.returns-clause-written
returns-clause-written c =
    let back = to_z-of_z c.ranges.number in
    rw (c.write_byte.ensures.written, c.write_digits-start.ensures.written, c.unsigned_abs.ensures.value, back, ← minus_first c.args.number (rw back at c.if-number-ge0.false))
