-- Stages with their numbers.
use Rattle.std.specs.Prelude.{ℕ}
use Rattle.plan_reader.specs.declared.stage.Stage.{Stage}
use Rattle.plan_check.specs.declared.warning.Numbered.{Numbered}

-- a stage with its number
abbrev pub numbered : ℕ → Stage → Numbered
numbered number s = record { number = number; stage = s }
