-- Pieces of queries, worked by hand.
use Rattle.std.specs.Prelude.{◌≡◌, ◌++◌, codes, negsuc, pos}
use Rattle.tuple_edge.specs.declared.row.Column.TheVariants as column
use Rattle.op_spec.specs.declared.spec.By.TheVariants as by
use Rattle.op_spec.specs.declared.spec.Compare.TheVariants as compare
use Rattle.op_spec.specs.declared.spec.OpSpec.{OpSpec}
use Rattle.op_spec.specs.declared.spec.OpSpec.TheVariants as op
use Rattle.plan_reader.specs.declared.stage.Stage.{Stage}
use Rattle.plan_sql.specs.Forms.{last_sql}
use Rattle.plan_sql.specs.Query.{stage_sql}
use Rattle.plan_sql.specs.Routed.{keyed_sql, part_sql, rows_after}

-- a stage of two partitions to which rows go by their symbols
abbrev pub by_symbol : OpSpec → Stage
by_symbol op = record { parts = 2; by = column.Symbol; op = op }

-- what these pieces are
pub record WorkedTexts : Type 0 where
  -- the first stage takes the inputs, and a later one the rows of the stage before
  pub inputs : rows_after 0 ≡ codes "input"
  pub later : rows_after 2 ≡ codes "stage2"
  -- rows below zero have a partition too
  pub one : part_sql column.Qty 1 ≡ codes "0"
  pub several : part_sql column.Qty 4 ≡ codes "((qty % 4) + 4) % 4"
  -- a filter's rows keep account and symbol, those of a sum have their key's, and those of a join have sides too
  pub kept : keyed_sql (by_symbol (op.Keep column.Qty compare.Less (pos 5))) ≡ codes "           stamp, time, account, symbol, qty, value\n"
  pub summed : keyed_sql (by_symbol (op.Total by.Account)) ≡ codes "           stamp, time, account, 0 AS symbol, qty, value\n"
  pub sided : keyed_sql (by_symbol (op.Join by.Symbol (pos 60) 2 column.Qty compare.AtLeast (negsuc 4)))
      ≡ codes "           stamp, time, 0 AS account, symbol, qty, value, (qty >= -5) AS side\n"
  -- the last five rows are this one and four before it
  pub last : last_sql 5
      ≡ codes "  )\n  SELECT stamp, part AS source, n AS place, time, account, symbol,\n"
      ++ codes "         CAST(SUM(qty) OVER k AS BIGINT) AS qty, CAST(SUM(value) OVER k AS BIGINT) AS value\n"
      ++ codes "  FROM routed\n"
      ++ codes "  WINDOW k AS (PARTITION BY part, account, symbol ORDER BY n ROWS BETWEEN 4 PRECEDING AND CURRENT ROW)\n"
  -- a stage from its line on
  pub stage : stage_sql 1 (by_symbol (op.Keep column.Value compare.Unequal (pos 0)))
      ≡ codes ",\n-- stage 2 parts 2 by symbol keep value != 0\n"
      ++ codes "stage2 AS (\n"
      ++ codes "  WITH routed AS (\n"
      ++ codes "    SELECT ROW_NUMBER() OVER (ORDER BY stamp, source, place) AS n, ((symbol % 2) + 2) % 2 AS part,\n"
      ++ codes "           stamp, time, account, symbol, qty, value\n"
      ++ codes "    FROM stage1\n"
      ++ codes "  )\n"
      ++ codes "  SELECT stamp, part AS source, n AS place, time, account, symbol, qty, value\n"
      ++ codes "  FROM routed\n"
      ++ codes "  WHERE value != 0\n"
      ++ codes ")"
