-- What files and sinks tell, as contracts see them.
use Rattle.std.specs.Prelude.{ℕ, List, Option}
use Rattle.flux_outside.specs.Outside.{Call, Names, Wants}

-- What files tell: what each name holds, the calls so far, in order, without those that found no memory, and the wants of memory, each where it is told;
-- and how often a read and a save have failed, as far as it is counted.
pub record FilesTold : Type 0 where
  pub contents : Option Names
  pub calls : Option (List Call)
  pub wants : Option Wants
  pub read_faults : ℕ
  pub save_faults : ℕ

-- What a sink tells: the bytes that were taken, and the pieces that puts were given, in order, each where it is told; and how often a put has failed, as far as
-- it is counted.
pub record SinkTold : Type 0 where
  pub taken : Option (List ℕ)
  pub offered : Option (List (List ℕ))
  pub faults : ℕ
