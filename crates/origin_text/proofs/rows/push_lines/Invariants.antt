use Rattle.std.proofs.Common.{◌≡◌, ◌++◌, drop}
use Rattle.origin_text.specs.Text.{asked_in, told_lines}
use Rattle.origin_text.proofs.rows.push_lines.Given as goal

abbrev pub invariant-loop-x : goal.invariant-loop-x
invariant-loop-x l = record {
  text : l.text.items ++ told_lines (asked_in l.question) l.number l.stage l.came (drop l.x-index l.told)
      ≡ l.initial.text.items ++ told_lines (asked_in l.question) l.number l.stage l.came l.told;
  same : l.lines ≡ l.initial.lines;
}
