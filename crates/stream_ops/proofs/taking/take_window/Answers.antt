use Rattle.std.proofs.Common.{arith, ◌≡◌, to_z, of_z, w64}
use Rattle.std.proofs.lemmas.Int.{ints}
use Rattle.std.specs.Map.{lookup}
use Rattle.op_spec.specs.Keys.{is_key}
use Rattle.stream_ops.specs.Steps.{opened_by, window_with}
use Rattle.stream_ops.specs.View.{IsWindow}
use Rattle.stream_ops.proofs.Standing.{right-changed, right-found, window_right}
use Rattle.stream_ops.proofs.taking.take_window.Goals as goal

pub returns-clause-right : goal.returns-clause-right
returns-clause-right c =
    let back : to_z w64 (of_z w64 c.args.width) ≡ c.args.width = omega (arith, ints) in
    let counts = rw back at c.in_ok-closed.ensures.counts in
    right-changed (IsWindow c.args.width) c.args.windows.now c.add_to_window.new.windows c.args.key
    (window_with (lookup (is_key c.args.key) c.args.windows.now.kept) (opened_by c.args.width c.args.row.now) c.args.row.now) c.requires.right counts
    (window_right c.args.width (lookup (is_key c.args.key) c.args.windows.now.kept) c.args.row.now (right-found (IsWindow c.args.width) c.args.key c.args.windows.now.kept c.requires.right.0))
