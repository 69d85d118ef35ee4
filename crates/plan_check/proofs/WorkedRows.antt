-- The rows, plans and scripts that are worked by hand.
use Rattle.std.proofs.Common.{refl}
use Rattle.plan_check.specs.WorkedRows.{OrdersWarned, PlansWarned, RowsDiffer, ScriptsWarned, WorkedRows}

rows_differ : RowsDiffer
rows_differ = record {
  total = record { splits = refl; alone = refl; together = refl };
  last = record { splits = refl; alone = refl; together = refl };
  window = record { splits = refl; alone = refl; together = refl };
  crossing = record { splits = refl; alone = refl; together = refl };
  join = record { splits = refl; alone = refl; together = refl };
}

plans_warned : PlansWarned
plans_warned = record { none = refl; plain = refl; splits = refl; sums = refl; settings = refl; bounds = refl }

orders_warned : OrdersWarned
orders_warned =
    record { times = refl; one_key = refl; lost_before = refl; far = refl; again = refl; parts = refl; leaving = refl; before = refl; split = refl }

scripts_warned : ScriptsWarned
scripts_warned = record { none = refl; in_turn = refl; at_once = refl; not_safe = refl }

pub worked : WorkedRows
worked = record { rows = rows_differ; plans = plans_warned; orders = orders_warned; scripts = scripts_warned }
