-- What contracts see of the two ends.
use Rattle.std.specs.Prelude.{List}
use Rattle.atomic_table.specs.Seated.{TableId}
use Rattle.atomic_table.specs.declared.badge.Badge.{Badge}
use Rattle.crossbeam_channel.specs.declared.flavors.array.Key.{Key}
use Rattle.crossbeam_channel.specs.Claims.{no_key, view}
use Rattle.crossbeam_channel.specs.Ends.{receives_on, sends_on}
use Rattle.ordered_channel.specs.declared.ends.Receiver.{Receiver}
use Rattle.ordered_channel.specs.declared.ends.Sender.{Sender}
use Rattle.ordered_channel.specs.declared.message.Message.{Message}

-- which channel it is
abbrev pub ChannelName : Type 0 → Type 0
ChannelName T = TableId × Badge (Key (Message T))

module _ {T : Type 0} where
  -- the values that were sent
  abbrev pub values_sent : Sender T → List T
  values_sent sender = (view sender.pass).sent

  -- the values that were received
  abbrev pub values_got : Receiver T → List T
  values_got receiver = (view receiver.pass).got

  -- those that were received together last
  abbrev pub batch_of : Receiver T → List T
  batch_of receiver = receiver.batch.items

  -- no channel
  abbrev pub no_channel : ChannelName T
  no_channel = let key : Badge (Key (Message T)) = no_key in (key.table_id, key)

  -- the channel that an end sends to
  abbrev pub sends_to : Sender T → ChannelName T
  sends_to sender = ((sends_on sender.end).stamps.shared.table_id, (sends_on sender.end).stamps.shared.key)

  -- the channel that an end receives from
  abbrev pub receives_from : Receiver T → ChannelName T
  receives_from receiver = ((receives_on receiver.end).stamps.shared.table_id, (receives_on receiver.end).stamps.shared.key)
