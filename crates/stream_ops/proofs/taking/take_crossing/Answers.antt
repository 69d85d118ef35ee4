use Rattle.std.specs.Map.{lookup}
use Rattle.op_spec.specs.Keys.{is_key}
use Rattle.stream_ops.specs.Steps.{total_with}
use Rattle.stream_ops.specs.View.{IsAnySums}
use Rattle.stream_ops.proofs.Standing.{right-changed}
use Rattle.stream_ops.proofs.taking.take_crossing.Goals as goal

pub returns-clause-right : goal.returns-clause-right
returns-clause-right c =
    right-changed IsAnySums c.args.totals.now c.add_to_sums.new.totals c.args.key (total_with (lookup (is_key c.args.key) c.args.totals.now.kept) c.args.row.now) c.requires c.in_ok-after.ensures.counts tt
