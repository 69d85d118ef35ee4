use Rattle.std.proofs.Common.{◌≡◌, ◌++◌, ◌∷◌, [], take}
use Rattle.std.specs.Prelude.{flat_map}
use Rattle.trade_check.specs.Given.{line_of}
use Rattle.trade_check.specs.Warnings.{fall_warning}
use Rattle.trade_check.proofs.trade_warnings.push_each.Given as goal

abbrev pub invariant-loop-fall : goal.invariant-loop-fall
invariant-loop-fall l = l.warnings.items ≡ l.initial.warnings.items ++ flat_map (λ f. fall_warning (line_of l.given f.number) f ∷ []) (take l.fall-index l.found)
