use Rattle.std.proofs.Common.{◌≡◌, ◌++◌, replicate, string_bytes}
use Rattle.journal_writer.specs.Lines.{lines_of}
use Rattle.journal_writer.proofs.write.write_times.Given as goal

abbrev pub invariant-loop-nth : goal.invariant-loop-nth
invariant-loop-nth l = string_bytes l.text ≡ string_bytes l.fn.text ++ lines_of (replicate l._nth l.fn.event)
