use Rattle.std.proofs.Common.{◌≤◌, sym, arith}
use Rattle.trade_text.proofs.Digits.{one_digit}
use Rattle.trade_text.proofs.fields.fraction_of.Goals as goal

pub overflow_mul-result : goal.overflow_mul-result
overflow_mul-result c =
    let small : c.in-Some.tens ≤ 9 = one_digit c.args.text.now c.in-Some.tens c.in-1.is (sym c.in-Some.ensures) in
    omega arith

pub returns-in-Some-clause-within : goal.returns-in-Some-clause-within
returns-in-Some-clause-within c =
    let small : c.in-Some.tens ≤ 9 = one_digit c.args.text.now c.in-Some.tens c.in-1.is (sym c.in-Some.ensures) in
    omega arith
