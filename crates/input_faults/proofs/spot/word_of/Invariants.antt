use Rattle.std.proofs.Common.{◌≡◌, drop}
use Rattle.text_words.specs.Lines.{words_of}
use Rattle.input_faults.proofs.spot.word_of.Given as goal

abbrev pub invariant-loop-turn : goal.invariant-loop-turn
invariant-loop-turn l = l.words ≡ drop l._turn (words_of l.fn.line)
