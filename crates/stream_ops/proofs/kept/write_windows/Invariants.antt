use Rattle.std.proofs.Common.{◌≡◌, ◌≤◌, ◌+◌, ◌++◌, length, map}
use Rattle.std.specs.Vec.{vec_len, vec_capacity}
use Rattle.stream_ops.specs.Steps.{told_window_row}
use Rattle.stream_ops.proofs.kept.write_windows.Given as goal

abbrev pub invariant-loop-key : goal.invariant-loop-key
invariant-loop-key l =
    (l.out.items ++ map (λ e. told_window_row e.0 e.1) l.key-iterator ≡ l.fn.out.items ++ map (λ e. told_window_row e.0 e.1) l.windows.kept)
    × (vec_len l.out + length l.key-iterator ≤ vec_capacity l.out)
