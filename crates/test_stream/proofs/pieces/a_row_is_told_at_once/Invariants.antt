use Rattle.std.proofs.Common.{◌≡◌, [], false}
use Rattle.stream_reader.specs.Parts.{view_of}
use Rattle.test_stream.proofs.pieces.a_row_is_told_at_once.Given as goal

abbrev pub invariant-loop-at : goal.invariant-loop-at
invariant-loop-at g l = ((view_of l.reader).at_hand ≡ []) × ((view_of l.reader).over ≡ false)
