use Rattle.std.proofs.Common.{string_bytes}
use Rattle.journal_writer.proofs.Steps.{AreWritten}
use Rattle.journal_writer.proofs.write.write_clock.Given as goal

abbrev pub invariant-loop-place : goal.invariant-loop-place
invariant-loop-place l = AreWritten l.clock l.place (string_bytes l.fn.text) l.fn.sources (string_bytes l.text) l.sources
