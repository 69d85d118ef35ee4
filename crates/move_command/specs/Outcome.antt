-- What `move` does with its files.
use Rattle.std.specs.Prelude.{ℕ, List, if◌then◌else◌}
use Rattle.plan_reader.specs.Limits.{max_plan_bytes}
use Rattle.plan_reader.specs.PlanView.{PlanView}
use Rattle.trade_text.specs.Limits.{max_input_bytes}
use Rattle.trade_text.specs.TradesView.{TradesView}
use Rattle.bucket_move.specs.ByKey.{is_by_key}
use Rattle.bucket_move.specs.Limits.{max_moves_bytes}
use Rattle.command_course.specs.Course.{Course, Refuses, Writes, reads}
use Rattle.command_course.specs.Inputs.{plan_from, trades_from}
use Rattle.move_command.specs.Inputs.{moves_from, not_by_key_line}
use Rattle.move_command.specs.Text.{move_text}

-- the moves are read last
abbrev pub move_moves : List ℕ → PlanView → TradesView → Course
move_moves moves plan trades = reads max_moves_bytes (moves_from plan) moves (λ shifts. Writes (move_text plan trades shifts))

-- before the moves come the trades
abbrev pub move_trades : (trades moves : List ℕ) → PlanView → Course
move_trades trades moves plan = reads max_input_bytes trades_from trades (move_moves moves plan)

-- A plan that isn't by key is refused before the trades are read.
abbrev pub move_plan : (plan trades moves : List ℕ) → PlanView → Course
move_plan plan trades moves it = if is_by_key it then move_trades trades moves it else Refuses (not_by_key_line plan)

-- the course of `move`: the plan is read first
abbrev pub move_course : (plan trades moves : List ℕ) → Course
move_course plan trades moves = reads max_plan_bytes plan_from plan (move_plan plan trades moves)
