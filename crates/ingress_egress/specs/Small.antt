-- Messages whose numbers are below the limit.
use Rattle.std.specs.Prelude.{◌<◌}
use Rattle.tuple_edge.specs.Limits.{number_limit}
use Rattle.pair_machine.specs.Messages.{Message, Ack, Tuple}

-- where the message carries or acknowledges a number, that is below the limit
abbrev pub IsSmall : Message → Type 0
IsSmall (Tuple e n) = n < number_limit
IsSmall (Ack e k) = k < number_limit
IsSmall m = Unit {0}
