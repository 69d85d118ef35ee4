use Rattle.std.proofs.Common.{◌≡◌, ◌++◌, take}
use Rattle.std.specs.Prelude.{flat_map, string_bytes}
use Rattle.trade_check.specs.Text.{order_line}
use Rattle.trade_check.proofs.order_lines.push_lines.Given as goal

abbrev pub invariant-loop-warning : goal.invariant-loop-warning
invariant-loop-warning l = string_bytes l.text ≡ string_bytes l.initial.text ++ flat_map order_line (take l.warning-index l.warnings)
