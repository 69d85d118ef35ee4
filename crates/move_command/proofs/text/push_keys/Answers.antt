use Rattle.std.proofs.Common.{◌≡◌, ◌++◌, ◌∙◌, ℕ, List, ap, arith}
use Rattle.std.specs.Prelude.{flat_map}
use Rattle.std.specs.List.{range_with_len}
use Rattle.plan_reader.specs.declared.stage.Stage.{Stage}
use Rattle.bucket_move.specs.BucketsView.{fed, keys_at, opening_table, table_after}
use Rattle.move_command.specs.Text.{part_line}
use Rattle.move_command.proofs.Telling.{lines_pushed}
use Rattle.move_command.proofs.text.push_keys.Goals as goal

pub loop-part-preserved : goal.loop-part-preserved
loop-part-preserved c stage calls after =
    let part = c.loop-part.part in
    let line : ℕ → List ℕ = λ p. part_line p (keys_at stage (table_after (opening_table stage.parts) calls) p (fed calls)) in
    c.in_ok-extend_from_slice.ensures.items
    ∙ lines_pushed line c.args.text.now.items c.loop-part.text.items c.as_bytes.result.now part (c.loop-part.invariant stage calls after)
    (c.as_bytes.ensures.value ∙ c.in_ok-line.ensures ∙ ap (part_line part) (c.keys.ensures.after stage calls after))

pub returns : goal.returns
returns c stage calls after =
    let line : ℕ → List ℕ = λ p. part_line p (keys_at stage (table_after (opening_table stage.parts) calls) p (fed calls)) in
    let ended : c.loop-part.part ≡ stage.parts =
    omega (arith, c.loop-part-test.false, c.loop-part.auto.part-end, c.parts-part-end.ensures, ap (λ (s : Stage). s.parts) after.of_plan) in
    c.loop-part.invariant stage calls after ∙ ap (λ (n : ℕ). c.args.text.now.items ++ flat_map line (range_with_len 0 n)) ended
