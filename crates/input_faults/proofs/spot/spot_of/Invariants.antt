use Rattle.std.proofs.Common.{◌≡◌, ◌≤◌, ◌+◌, length}
use Rattle.text_words.specs.Lines.{words_of}
use Rattle.input_faults.specs.Spots.{spot_from}
use Rattle.input_faults.proofs.spot.spot_of.Given as goal

abbrev pub invariant-loop-word : goal.invariant-loop-word
invariant-loop-word l = record {
  spot : spot_from l.passed l.place l.words ≡ spot_from 0 l.fn.first (words_of l.fn.line);
  room : l.passed + length l.words ≤ length l.fn.line;
}

abbrev pub decreases-loop-word : goal.decreases-loop-word
decreases-loop-word l = length l.words
