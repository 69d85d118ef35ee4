use Rattle.std.specs.Map.{lookup}
use Rattle.op_spec.specs.Keys.{is_key}
use Rattle.stream_ops.specs.Steps.{last_added}
use Rattle.stream_ops.specs.View.{AreLast}
use Rattle.stream_ops.proofs.Standing.{last_right, right-changed, right-found}
use Rattle.stream_ops.proofs.taking.take_last.Goals as goal

pub returns-clause-right : goal.returns-clause-right
returns-clause-right c =
    right-changed (AreLast c.args.rows) c.args.last_rows.now c.add_last_row.new.last_rows c.args.key (last_added c.args.rows (lookup (is_key c.args.key) c.args.last_rows.now.kept) c.of.result) c.requires.right c.in_ok-add_last_row.ensures.pushes
    (last_right c.args.rows c.requires.rows (lookup (is_key c.args.key) c.args.last_rows.now.kept) c.of.result (right-found (AreLast c.args.rows) c.args.key c.args.last_rows.now.kept c.requires.right.0))
