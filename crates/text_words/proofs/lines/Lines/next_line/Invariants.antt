use Rattle.std.proofs.Common.{◌≡◌, ◌<◌, ◌+◌, ◌^◌, length}
use Rattle.text_words.specs.Lines.{counting_lines_from}
use Rattle.text_words.proofs.lines.Lines.next_line.Given as goal

abbrev pub invariant-loop-line : goal.invariant-loop-line
invariant-loop-line l = record {
  left : counting_lines_from l.self-inside.number l.self-inside.text.now ≡ counting_lines_from l.initial.self-inside.number l.initial.self-inside.text.now;
  room : l.self-inside.number + length l.self-inside.text.now < 2 ^ 64;
}

abbrev pub decreases-loop-line : goal.decreases-loop-line
decreases-loop-line l = length l.self-inside.text.now
