use Rattle.std.proofs.Common.{◌≡◌, ◌++◌, drop, length}
use Rattle.origin_text.specs.Text.{asked_in, stages_text}
use Rattle.origin_text.proofs.why.push_stages.Given as goal

abbrev pub invariant-loop-origin : goal.invariant-loop-origin
invariant-loop-origin l =
    l.text.items ++ stages_text (asked_in l.question) l.number (drop l.origin-index l.origins)
    ≡ l.initial.text.items ++ stages_text (asked_in l.question) (length l.question.stages.now) l.origins
