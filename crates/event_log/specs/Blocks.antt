-- A list of events as blocks of one event each.
use Rattle.std.specs.Prelude.{ℕ, List, [], ◌∷◌, ◌++◌, replicate}
use Rattle.tuple_edge.specs.declared.event.Event.{Event}
use Rattle.event_log.specs.declared.blocks.Block.{Block}

-- what contracts see: the events in order, and how many more fit without memory
pub record BlocksView : Type 0 where
  pub events : List Event
  pub spare : ℕ

-- the events of blocks, in order
abbrev pub events_in : List Block → List Event
events_in [] = []
events_in (b ∷ bs) = replicate b.count b.event ++ events_in bs

-- what is still to be read of blocks: their events in order, and how many blocks
pub record BlocksLeft : Type 0 where
  pub events : List Event
  pub blocks : ℕ
