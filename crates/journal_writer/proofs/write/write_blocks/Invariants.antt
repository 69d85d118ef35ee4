use Rattle.std.proofs.Common.{◌≡◌, ◌++◌, string_bytes}
use Rattle.journal_writer.specs.Lines.{lines_of}
use Rattle.journal_writer.proofs.write.write_blocks.Given as goal

abbrev pub invariant-loop-event : goal.invariant-loop-event
invariant-loop-event l = string_bytes l.text ++ lines_of l.reader.events ≡ string_bytes l.fn.text ++ lines_of l.fn.blocks.events

abbrev pub decreases-loop-event : goal.decreases-loop-event
decreases-loop-event l = l.reader.blocks
