use Rattle.std.proofs.Common.{◌≡◌, ◌++◌, take}
use Rattle.std.specs.Prelude.{flat_map, string_bytes}
use Rattle.plan_check.specs.Text.{warning_line}
use Rattle.plan_check.proofs.warning_text.push_lines.Given as goal

abbrev pub invariant-loop-warning : goal.invariant-loop-warning
invariant-loop-warning l = string_bytes l.text ≡ string_bytes l.initial.text ++ flat_map warning_line (take l.warning-index l.warnings)
