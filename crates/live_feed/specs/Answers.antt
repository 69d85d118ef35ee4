-- What is answered.
use Rattle.std.specs.Prelude.{Bool, true, false}
use Rattle.tuple_edge.specs.declared.event.Drained.{Drained}
use Rattle.tuple_edge.specs.declared.event.Drained.TheVariants as drained
use Rattle.row_wire.specs.declared.written.Written.{Written}
use Rattle.row_wire.specs.declared.written.Written.TheVariants as written
use Rattle.live_feed.specs.declared.answer.Live.{Live}
use Rattle.live_feed.specs.declared.answer.Live.TheVariants as live

-- as the text was written so and the run ended so
abbrev pub answered : Written → Drained → Live
answered written.Whole drained.Whole = live.Done
answered written.Whole (drained.Lost stage part) = live.Lost stage part
answered written.Broken drained = live.WriteFault
answered written.Short drained = live.OutOfMemory

-- all was emitted
abbrev pub ends_whole : Drained → Bool
ends_whole drained.Whole = true
ends_whole (drained.Lost stage part) = false
