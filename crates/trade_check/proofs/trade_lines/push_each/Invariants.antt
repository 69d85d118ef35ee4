use Rattle.std.proofs.Common.{◌≡◌, ◌++◌, take}
use Rattle.std.specs.Prelude.{flat_map, string_bytes}
use Rattle.trade_check.specs.Text.{trade_line}
use Rattle.trade_check.proofs.trade_lines.push_each.Given as goal

abbrev pub invariant-loop-warning : goal.invariant-loop-warning
invariant-loop-warning l = string_bytes l.text ≡ string_bytes l.initial.text ++ flat_map (trade_line l.name) (take l.warning-index l.warnings)
