use Rattle.std.proofs.Common.{◌≡◌, false}
use Rattle.stream_reader.specs.Parts.{view_of}
use Rattle.test_stream.proofs.heard.hear.Given as goal

abbrev pub invariant-loop : goal.invariant-loop
invariant-loop g l = (view_of l.reader).over ≡ false
