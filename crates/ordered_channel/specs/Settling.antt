-- What contracts see of a channel whose ends are in one hand.
use Rattle.std.specs.Prelude.{List}
use Rattle.crossbeam_channel.specs.Claims.{view}
use Rattle.ordered_channel.specs.declared.settling.Settled.{Settled}

module _ {T : Type 0} where
  -- the values that were sent
  abbrev pub all_sent : Settled T → List T
  all_sent both = (view both.pass).sent

  -- the values that were received
  abbrev pub all_got : Settled T → List T
  all_got both = (view both.pass).got
