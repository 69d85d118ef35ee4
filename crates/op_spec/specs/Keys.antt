-- The key of a row, and the order of keys.
use Rattle.std.specs.Prelude.{pos, Bool}
use Rattle.std.specs.Ordering.{int_cmp, ordering_then, is_eq}
use Rattle.std.specs.declared.cmp.Ordering.{Ordering}
use Rattle.tuple_edge.specs.declared.row.Key.{Key}
use Rattle.tuple_edge.specs.declared.row.Row.{Row}
use Rattle.op_spec.specs.declared.spec.By.{By}
use Rattle.op_spec.specs.declared.spec.By.TheVariants as by

-- the key of a row: a part that rows aren't kept by is 0
abbrev pub key_of : By → Row → Key
key_of by.Account r = record { account = r.account; symbol = pos 0 }
key_of by.Symbol r = record { account = pos 0; symbol = r.symbol }
key_of by.Both r = record { account = r.account; symbol = r.symbol }

-- the order of keys: by account, and then by symbol
abbrev pub key_cmp : Key → Key → Ordering
key_cmp a b = ordering_then (int_cmp a.account b.account) (int_cmp a.symbol b.symbol)

-- whether two keys are one
abbrev pub is_key : Key → Key → Bool
is_key a b = is_eq (key_cmp a b)
