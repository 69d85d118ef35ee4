use Rattle.std.proofs.Common.{◌≡◌, ◌+◌, ◌++◌, drop}
use Rattle.std.specs.Prelude.{string_bytes}
use Rattle.std.specs.List.{flat_map}
use Rattle.text_words.specs.Text.{line_text}
use Rattle.plan_reader.specs.Text.{stage_lines}
use Rattle.plan_reader.proofs.write.push_stages.Given as goal

abbrev pub invariant-loop-place : goal.invariant-loop-place
invariant-loop-place l =
    string_bytes l.text ++ flat_map line_text (stage_lines (l.place + 1) (drop l.place l.stages))
    ≡ string_bytes l.initial.text ++ flat_map line_text (stage_lines 1 l.stages)
