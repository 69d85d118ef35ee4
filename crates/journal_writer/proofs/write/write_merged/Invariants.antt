use Rattle.std.proofs.Common.{◌≡◌, ◌++◌, None, string_bytes}
use Rattle.journal_writer.specs.Lines.{lines_of}
use Rattle.journal_writer.specs.Merged.{AreMergeable, least_from, merged_events}
use Rattle.journal_writer.proofs.Clocks.{left_from}
use Rattle.journal_writer.proofs.write.write_merged.Given as goal

abbrev pub invariant-loop-clock : goal.invariant-loop-clock
invariant-loop-clock l = record {
  mergeable : AreMergeable l.sources;
  text : string_bytes l.text ++ lines_of (merged_events l.sources) ≡ string_bytes l.fn.text ++ lines_of (merged_events l.fn.sources);
}

-- how many clocks there are from the next one on
abbrev pub decreases-loop-clock : goal.decreases-loop-clock
decreases-loop-clock l = left_from (least_from None l.sources)
