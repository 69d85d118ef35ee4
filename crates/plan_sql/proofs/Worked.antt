-- The worked pieces, computed.
use Rattle.std.proofs.Common.{refl}
use Rattle.std.specs.Fmt.{digits}
use Rattle.plan_reader.specs.Text.{test_text}
use Rattle.plan_sql.specs.Forms.{keep_sql, last_sql, sums_sql}
use Rattle.plan_sql.specs.Query.{opened_sql, stage_sql}
use Rattle.plan_sql.specs.Routed.{keyed_sql, left_sql, ordered_sql, part_sql, routed_sql, rows_after}
use Rattle.plan_sql.specs.WorkedTexts.{WorkedTexts}

pub worked_texts : WorkedTexts
unfolding digits keep_sql keyed_sql last_sql left_sql opened_sql ordered_sql part_sql routed_sql rows_after stage_sql sums_sql test_text
worked_texts = record {
  inputs = refl;
  later = refl;
  one = refl;
  several = refl;
  kept = refl;
  summed = refl;
  sided = refl;
  last = refl;
  stage = refl;
}
