use Rattle.std.proofs.Common.{◌∙◌, ◌++◌, List, ap, length, subst, ℕ}
use Rattle.tuple_edge.specs.declared.row.Row.{Row}
use Rattle.bucket_move.specs.BucketsView.{IsAfter, fed, opening_table, table_after}
use Rattle.bucket_move.specs.declared.moves.Shift.{Shift}
use Rattle.move_command.specs.Moved.{calls_of, made}
use Rattle.move_command.specs.Text.{part_lines}
use Rattle.move_command.proofs.Telling.{text_is}
use Rattle.move_command.proofs.text.moved_text.Goals as goal

pub returns : goal.returns
returns g c =
    let plan = c.args.plan.now in
    let trades = c.args.trades.now in
    let shifts = c.args.moves.now in
    let stage = c.in_ok-buckets.buckets.stage in
    let whole = calls_of 0 trades.rows (made (length trades.rows) shifts) in
    let worked = c.in_ok-work.ensures stage c.in_ok-buckets.ensures.opening in
    let of_rows = subst (λ (rows : List Row). IsAfter stage (calls_of 0 rows (made (length rows) c.list.result.now)) c.work.new.buckets) c.rows.ensures.rows worked in
    let after = subst (λ (moves : List Shift). IsAfter stage (calls_of 0 trades.rows (made (length trades.rows) moves)) c.work.new.buckets) c.list.ensures of_rows in
    text_is plan stage trades shifts c.new.ensures.limits c.requires.by_key c.in_ok-buckets.ensures.stage c.emitted.result.now c.push_keys.new.text.items
    (c.emitted.ensures.after stage whole after)
    (c.in_ok-push_keys.ensures stage whole after ∙ ap (λ (front : List ℕ). front ++ part_lines (table_after (opening_table stage.parts) whole) (fed whole) stage) c.in_ok-text.ensures)
