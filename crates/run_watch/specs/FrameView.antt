-- What contracts see of a frame.
use Rattle.std.specs.Prelude.{ℕ, List}
use Rattle.run_watch.specs.declared.mode.Mode.{Mode}

-- what a run is after so many events: the mode of each replica in node order, the makes of ingress, and the rows of egress
pub record FrameView : Type 0 where
  pub place : ℕ
  pub modes : List Mode
  pub made : ℕ
  pub emitted : ℕ
