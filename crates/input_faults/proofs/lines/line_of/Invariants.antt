use Rattle.std.proofs.Common.{◌≡◌, ◌≤◌, ◌-◌, drop}
use Rattle.text_words.specs.Lines.{lines_of}
use Rattle.input_faults.proofs.lines.line_of.Given as goal

abbrev pub invariant-loop-turn : goal.invariant-loop-turn
invariant-loop-turn l = record {
  lines : lines_of l.rest ≡ drop (l._turn - 1) (lines_of l.fn.bytes);
  within : l._turn - 1 ≤ l.fn.number - 1;
}
