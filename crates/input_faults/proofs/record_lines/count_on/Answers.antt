use Rattle.std.proofs.Common.{◌≡◌, ◌≤◌, length, arith, rules, false}
use Rattle.text_words.specs.Lines.{begins_with_end}
use Rattle.input_faults.proofs.RecordLinesFacts.{counted_on}
use Rattle.input_faults.proofs.record_lines.count_on.Goals as goal

pub returns-clause-counted : goal.returns-clause-counted
returns-clause-counted c =
    let fits : c.args.left ≤ length c.args.here.now = omega (arith, c.if-left-here.false) in
    let none : begins_with_end c.args.here.now ≡ false = search rules in
    (counted_on c.args.text.now c.args.here.now c.split_at-2.result.0.now c.split_at-2.result.1.now c.args.left c.args.line c.line_from-2.result c.requires fits none
    c.split_at-2.ensures.front c.split_at-2.ensures.back c.line_from-2.ensures.value c.line_from-2.ensures.room).0

pub returns-clause-line : goal.returns-clause-line
returns-clause-line c =
    let fits : c.args.left ≤ length c.args.here.now = omega (arith, c.if-left-here.false) in
    let none : begins_with_end c.args.here.now ≡ false = search rules in
    (counted_on c.args.text.now c.args.here.now c.split_at-2.result.0.now c.split_at-2.result.1.now c.args.left c.args.line c.line_from-2.result c.requires fits none
    c.split_at-2.ensures.front c.split_at-2.ensures.back c.line_from-2.ensures.value c.line_from-2.ensures.room).1
