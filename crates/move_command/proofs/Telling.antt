-- The lines of partitions, and the text.
use Rattle.std.proofs.Common.{add-one, ℕ, zero, suc, ◌≡◌, ◌+◌, true, List, [], ◌∷◌, ◌++◌, length, sym, ap, ◌∙◌, arith, append_assoc, append-nil}
use Rattle.std.specs.Prelude.{flat_map}
use Rattle.std.specs.List.{range_with_len}
use Rattle.tuple_edge.specs.declared.row.Row.{Row}
use Rattle.stream_ops.specs.Answers.{answers}
use Rattle.plan_reader.specs.PlanView.{IsPlan, PlanView}
use Rattle.plan_reader.specs.declared.stage.Stage.{Stage}
use Rattle.pair_machine.specs.Output.{output}
use Rattle.trade_text.specs.Inputs.{inputs_of}
use Rattle.trade_text.specs.Text.{text}
use Rattle.trade_text.specs.TradesView.{TradesView}
use Rattle.bucket_move.specs.BucketsView.{Call, fed, opening_table, table_after}
use Rattle.bucket_move.specs.ByKey.{is_by_key}
use Rattle.bucket_move.specs.Rows.{items_of}
use Rattle.bucket_move.specs.declared.moves.Shift.{Shift}
use Rattle.move_command.specs.Moved.{calls_of, made}
use Rattle.move_command.specs.Text.{move_text, part_lines, table_at_end}
use Rattle.move_command.proofs.OneOperator.{one_operator}
use Rattle.move_command.proofs.Working.{fed_calls, table_calls}

-- the lines of one partition more
pub lines_more : (f : ℕ → List ℕ) (a n j : ℕ) → a + n ≡ j → flat_map f (range_with_len a (suc n)) ≡ flat_map f (range_with_len a n) ++ f j
lines_more f a zero j e = let same : a ≡ j = omega (arith, e) in append-nil (f a) ∙ ap f same
lines_more f a (suc n) j e = ap (λ (back : List ℕ). f a ++ back) (lines_more f (a + 1) n j (omega (arith, e))) ∙ sym (append_assoc (f a) (flat_map f (range_with_len (a + 1) n)) (f j))

pub lines_pushed : (f : ℕ → List ℕ) (front had line : List ℕ) (k : ℕ) → had ≡ front ++ flat_map f (range_with_len 0 k) → line ≡ f k → had ++ line ≡ front ++ flat_map f (range_with_len 0 (k + 1))
lines_pushed f front had line k so_far is =
    ap (λ (h : List ℕ). h ++ line) so_far
    ∙ append_assoc front (flat_map f (range_with_len 0 k)) line
    ∙ ap (λ (l : List ℕ). front ++ (flat_map f (range_with_len 0 k) ++ l)) is
    ∙ ap (λ (b : List ℕ). front ++ b) (sym (lines_more f 0 k k (omega arith)) ∙ ap (λ (n : ℕ). flat_map f (range_with_len 0 n)) (sym (add-one k)))

module _ (plan : PlanView) (stage : Stage) (trades : TradesView) (shifts : List Shift) (limits : IsPlan plan) (by_key : is_by_key plan ≡ true) (one : plan.stages ≡ stage ∷ []) where
  abbrev whole : List Call
  whole = calls_of 0 trades.rows (made (length trades.rows) shifts)

  -- what was answered is the output of the plan
  answers_are : answers stage.op [] (items_of (fed whole)) ≡ output plan (inputs_of plan.version trades.rows [])
  answers_are =
      ap (λ (rows : List Row). answers stage.op [] (items_of rows)) (fed_calls 0 trades.rows (made (length trades.rows) shifts))
      ∙ sym (one_operator plan stage trades.rows limits by_key one)

  lines_are : part_lines (table_after (opening_table stage.parts) whole) (fed whole) stage ≡ part_lines (table_at_end stage (length trades.rows) shifts) trades.rows stage
  lines_are =
      ap (λ (table : List ℕ). part_lines table (fed whole) stage) (table_calls (opening_table stage.parts) 0 trades.rows (made (length trades.rows) shifts))
      ∙ ap (λ (rows : List Row). part_lines (table_at_end stage (length trades.rows) shifts) rows stage) (fed_calls 0 trades.rows (made (length trades.rows) shifts))

  pub text_is : (emitted : List Row) (bytes : List ℕ) → emitted ≡ answers stage.op [] (items_of (fed whole))
      → bytes ≡ text trades.symbols emitted ++ part_lines (table_after (opening_table stage.parts) whole) (fed whole) stage → bytes ≡ move_text plan trades shifts
  text_is emitted bytes is told =
      let written = text trades.symbols (output plan (inputs_of plan.version trades.rows [])) in
      let lines : Stage → List ℕ = λ s. part_lines (table_at_end s (length trades.rows) shifts) trades.rows s in
      told
      ∙ ap (λ (rows : List Row). text trades.symbols rows ++ part_lines (table_after (opening_table stage.parts) whole) (fed whole) stage) (is ∙ answers_are)
      ∙ ap (λ (back : List ℕ). written ++ back) (lines_are ∙ sym (append-nil (lines stage)) ∙ ap (λ (ss : List Stage). flat_map lines ss) (sym one))
