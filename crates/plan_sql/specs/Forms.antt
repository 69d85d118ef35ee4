-- One form for each operator: what it answers, of the rows `routed` that enter its stage. An answer has a stamp, a source and a place: by these
-- three the next stage takes it.
use Rattle.std.specs.Prelude.{ℕ, ℤ, ◌-◌, List, ◌++◌, codes}
use Rattle.std.specs.Fmt.{decimal, signed_decimal}
use Rattle.tuple_edge.specs.declared.row.Column.{Column}
use Rattle.op_spec.specs.declared.spec.Compare.{Compare}
use Rattle.op_spec.specs.declared.spec.OpSpec.{OpSpec}
use Rattle.op_spec.specs.declared.spec.OpSpec.TheVariants as op
use Rattle.plan_reader.specs.Text.{test_text}

-- a filter passes on the rows whose column compares so
unfoldable pub keep_sql : Column → Compare → (limit : ℤ) → List ℕ
keep_sql column compare limit =
    codes "  )\n"
    ++ codes "  SELECT stamp, part AS source, n AS place, time, account, symbol, qty, value\n"
    ++ codes "  FROM routed\n"
    ++ codes "  WHERE " ++ test_text column compare limit ++ codes "\n"

-- the sums of a row's key up to it; how far back is said behind
unfoldable pub sums_sql : List ℕ
sums_sql =
    codes "  )\n"
    ++ codes "  SELECT stamp, part AS source, n AS place, time, account, symbol,\n"
    ++ codes "         CAST(SUM(qty) OVER k AS BIGINT) AS qty, CAST(SUM(value) OVER k AS BIGINT) AS value\n"
    ++ codes "  FROM routed\n"
    ++ codes "  WINDOW k AS (PARTITION BY part, account, symbol ORDER BY n"

-- the sums so far
unfoldable pub total_sql : List ℕ
total_sql = sums_sql ++ codes ")\n"

-- the sums of the last rows, of which so many were before
unfoldable pub last_sql : (rows : ℕ) → List ℕ
last_sql rows = sums_sql ++ codes " ROWS BETWEEN " ++ decimal (rows - 1) ++ codes " PRECEDING AND CURRENT ROW)\n"

-- the window of a row: the greatest that its key's rows came to so far
unfoldable pub leveled_sql : (width : ℤ) → List ℕ
leveled_sql width =
    codes "  ), leveled AS (\n"
    ++ codes "    SELECT part, account, symbol, stamp, n, qty, value,\n"
    ++ codes "           MAX(time / " ++ signed_decimal width ++ codes ") OVER (PARTITION BY part, account, symbol ORDER BY n) AS level\n"
    ++ codes "    FROM routed\n"

-- a key's windows, each with its first row and its sums
unfoldable pub runs_sql : List ℕ
runs_sql =
    codes "  ), runs AS (\n"
    ++ codes "    SELECT part, account, symbol, level, MIN(stamp) AS stamp, MIN(n) AS n,\n"
    ++ codes "           CAST(SUM(qty) AS BIGINT) AS qty, CAST(SUM(value) AS BIGINT) AS value\n"
    ++ codes "    FROM leveled\n"
    ++ codes "    GROUP BY part, account, symbol, level\n"

-- A window is answered at the first row of its key's next window; the last one at the end, behind all rows, in the order of keys.
unfoldable pub closed_sql : (width : ℤ) → List ℕ
closed_sql width =
    codes "  )\n"
    ++ codes "  SELECT COALESCE(LEAD(stamp) OVER k, (SELECT COUNT(*) + 1 FROM input)) AS stamp, part AS source,\n"
    ++ codes "         COALESCE(LEAD(n) OVER k, MAX(n) OVER () + ROW_NUMBER() OVER (ORDER BY account, symbol)) AS place,\n"
    ++ codes "         level * " ++ signed_decimal width ++ codes " AS time, account, symbol, qty, value\n"
    ++ codes "  FROM runs\n"
    ++ codes "  WINDOW k AS (PARTITION BY part, account, symbol ORDER BY level)\n"

-- the sums of windows
unfoldable pub window_sql : (width : ℤ) → List ℕ
window_sql width = leveled_sql width ++ runs_sql ++ closed_sql width

-- the sums so far, beside a row's own value
unfoldable pub own_sums_sql : List ℕ
own_sums_sql =
    codes "  ), sums AS (\n"
    ++ codes "    SELECT stamp, part AS source, n AS place, time, account, symbol, value AS own,\n"
    ++ codes "           CAST(SUM(qty) OVER k AS BIGINT) AS qty, CAST(SUM(value) OVER k AS BIGINT) AS value\n"
    ++ codes "    FROM routed\n"
    ++ codes "    WINDOW k AS (PARTITION BY part, account, symbol ORDER BY n)\n"

-- those by which the size of the value's sum goes above the limit, or back
unfoldable pub crossed_sql : (limit : ℤ) → List ℕ
crossed_sql limit =
    codes "  )\n"
    ++ codes "  SELECT stamp, source, place, time, account, symbol, qty, value\n"
    ++ codes "  FROM sums\n"
    ++ codes "  WHERE (ABS(value) > " ++ signed_decimal limit ++ codes ") <> (ABS(value - own) > " ++ signed_decimal limit ++ codes ")\n"

-- the sums where they cross the limit
unfoldable pub crossing_sql : (limit : ℤ) → List ℕ
crossing_sql limit = own_sums_sql ++ crossed_sql limit

-- a row's window, its number among those of its key and side, and how many of the other side came before it
unfoldable pub sides_sql : (width : ℤ) → List ℕ
sides_sql width =
    codes "  ), sides AS (\n"
    ++ codes "    SELECT part, account, symbol, stamp, n, time, qty, value, side, time / " ++ signed_decimal width ++ codes " AS span,\n"
    ++ codes "           ROW_NUMBER() OVER s AS own, ROW_NUMBER() OVER k - ROW_NUMBER() OVER s AS other\n"
    ++ codes "    FROM routed\n"
    ++ codes "    WINDOW k AS (PARTITION BY part, account, symbol ORDER BY n), s AS (PARTITION BY part, account, symbol, side ORDER BY n)\n"

-- a row b with those rows a of its key and window that are among the last of the other side before it
unfoldable pub pairs_sql : (rows : ℕ) → List ℕ
pairs_sql rows =
    codes "  )\n"
    ++ codes "  SELECT b.stamp, b.part AS source, ROW_NUMBER() OVER (ORDER BY b.n, a.n) AS place, b.time, b.account, b.symbol,\n"
    ++ codes "         a.qty + b.qty AS qty, a.value + b.value AS value\n"
    ++ codes "  FROM sides AS b JOIN sides AS a\n"
    ++ codes "    ON a.part = b.part AND a.account = b.account AND a.symbol = b.symbol AND a.span = b.span AND a.side <> b.side\n"
    ++ codes "   AND a.own > b.other - " ++ decimal rows ++ codes " AND a.own <= b.other\n"

-- the sums of pairs of rows
unfoldable pub join_sql : (width : ℤ) → (rows : ℕ) → List ℕ
join_sql width rows = sides_sql width ++ pairs_sql rows

-- what an operator answers
abbrev pub op_sql : OpSpec → List ℕ
op_sql (op.Keep column compare limit) = keep_sql column compare limit
op_sql (op.Total by) = total_sql
op_sql (op.Last by rows) = last_sql rows
op_sql (op.Window by width) = window_sql width
op_sql (op.Crossing by limit) = crossing_sql limit
op_sql (op.Join by width rows column compare limit) = join_sql width rows
