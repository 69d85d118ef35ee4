-- What a look at the channel comes to.
use Rattle.std.specs.Prelude.{List, [], ◌∷◌}
use Rattle.ordered_channel.specs.declared.next.Next.{Next}
use Rattle.ordered_channel.specs.declared.next.Next.TheVariants as next

-- the value that was received, if one was
abbrev pub next_value : {T : Type 0} → Next T → List T
next_value (next.Value value) = value ∷ []
next_value next.Empty = []
next_value next.Over = []
