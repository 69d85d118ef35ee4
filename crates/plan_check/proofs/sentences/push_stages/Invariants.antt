use Rattle.std.proofs.Common.{◌≡◌, ◌+◌, ◌++◌, drop}
use Rattle.std.specs.Prelude.{string_bytes}
use Rattle.plan_check.specs.Sentences.{stages_text}
use Rattle.plan_check.proofs.sentences.push_stages.Given as goal

abbrev pub invariant-loop-place : goal.invariant-loop-place
invariant-loop-place l =
    string_bytes l.text ++ stages_text (l.place + 1) (drop l.place l.stages) ≡ string_bytes l.initial.text ++ stages_text 1 l.stages
