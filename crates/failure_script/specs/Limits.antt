-- The limits of a failure script.
use Rattle.std.specs.Prelude.{ℕ}

-- the most bytes of a script
abbrev pub max_script_bytes : ℕ
max_script_bytes = 65536

-- items after which an order is due; the least is 1
abbrev pub max_items : ℕ
max_items = 1000000
