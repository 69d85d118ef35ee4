-- The course of `why`.
use Rattle.std.specs.Prelude.{ℕ, ◌-◌, ◌&&◌, Bool, List, [], ◌∷◌, ◌++◌, Option, None, Some, codes, length, nat_le, if◌then◌else◌}
use Rattle.std.specs.Fmt.{decimal}
use Rattle.plan_reader.specs.PlanView.{PlanView}
use Rattle.trade_text.specs.Limits.{max_input_bytes, max_inputs}
use Rattle.command_course.specs.Course.{Refuses, Way, reads}
use Rattle.command_course.specs.Feeds.{with_plan}
use Rattle.command_course.specs.Lines.{line_of}
use Rattle.command_course.specs.Answers.{AnswerView, answer}
use Rattle.command_course.specs.declared.answer.Ending.TheVariants.{Done}
use Rattle.row_origin.specs.Origins.{StageOrigin}
use Rattle.origin_text.specs.Text.{Asked, why_text}
use Rattle.why_command.specs.Given.{no_cash, origins_for, question}
use Rattle.why_command.specs.Kept.{KeptTrades, kept_cash_from, kept_trades_from}
use Rattle.why_command.specs.declared.why.Wanted.{Wanted}

-- ---- the answer

-- how many rows the last stage passes on, by what is told of all stages
abbrev pub row_count : List StageOrigin → ℕ
row_count [] = 0
row_count (last ∷ origins) = length last.rows

-- whether there is a row of this number among so many
abbrev pub is_row : (number count : ℕ) → Bool
is_row number count = nat_le 1 number && nat_le number count

-- what is said where there is none
abbrev pub no_row_line : (number count : ℕ) → List ℕ
no_row_line number count = line_of (codes "row " ++ decimal number) (codes "there are " ++ decimal count)

-- the text of what is told, or the refusal of a number that no row has
abbrev pub tells : (number : ℕ) → Asked → List StageOrigin → Way AnswerView
tells number a origins next = if is_row number (row_count origins) then next (answer Done (why_text a (number - 1) origins)) else Refuses (no_row_line number (row_count origins))

-- the answer to what is asked
abbrev pub answers : (number : ℕ) → Asked → Way AnswerView
answers number a next = tells number a (origins_for (number - 1) a) next

-- ---- the course

-- movements come last, where a file of them is named, and then the answer
abbrev pub movements_way : (trades : List ℕ) → (cash : Option (List ℕ)) → Wanted → PlanView → KeptTrades → Way AnswerView
movements_way trades None wanted plan kept next = answers wanted.number (question wanted plan trades kept [] no_cash) next
movements_way trades (Some cash) wanted plan kept next =
    reads max_input_bytes (kept_cash_from (max_inputs - length kept.trades.rows)) cash (λ movements. answers wanted.number (question wanted plan trades kept cash movements) next)

-- before them come the trades
abbrev pub trades_way : (trades : List ℕ) → (cash : Option (List ℕ)) → Wanted → PlanView → Way AnswerView
trades_way trades cash wanted plan next = reads max_input_bytes kept_trades_from trades (λ kept. movements_way trades cash wanted plan kept next)

-- `why`: plan, trades and movements, each read and checked before the next one
abbrev pub why_way : (plan trades : List ℕ) → (cash : Option (List ℕ)) → Wanted → Way AnswerView
why_way plan trades cash wanted next = with_plan plan cash (λ it. trades_way trades cash wanted it next)
