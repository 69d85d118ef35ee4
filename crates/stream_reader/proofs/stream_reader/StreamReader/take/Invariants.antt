use Rattle.std.proofs.Common.{◌≡◌, ◌-◌, false}
use Rattle.stream_reader.specs.Parts.{view_of}
use Rattle.stream_reader.specs.Telling.{came}
use Rattle.stream_reader.proofs.stream_reader.StreamReader.take.Given as goal

abbrev pub invariant-loop-self : goal.invariant-loop-self
invariant-loop-self g l =
    (l.fn.self.parser.over ≡ false → ((view_of l.self).rows ≡ (view_of l.fn.self).rows) × ((view_of l.self).names ≡ (view_of l.fn.self).names))
    × (l.self.parser.over ≡ l.fn.self.parser.over)
    × (came (view_of l.self) ≡ came (view_of l.fn.self))
    × (l.self.source ≡ l.fn.self.source)

abbrev pub decreases-loop-self : goal.decreases-loop-self
decreases-loop-self g l = l.self.filled - l.self.at
