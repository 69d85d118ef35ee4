-- The limit of a ring of inputs.
use Rattle.std.specs.Prelude.{ℕ}

-- how many inputs a ring holds
abbrev pub ring_inputs : ℕ
ring_inputs = 1024
