use Rattle.std.proofs.Common.{◌≡◌, ◌++◌, ◌∙◌, ℕ, List, Option, ap, length, map, sym}
use Rattle.std.specs.Prelude.{option_map, slice_get}
use Rattle.row_reach.specs.Reach.{Passage}
use Rattle.reach_finder.specs.Found.{passage_of}
use Rattle.reach_text.specs.Trace.{asked_in, head_text, output_text, stages_text, told_of}
use Rattle.reach_text.proofs.Telling.{mapped_got}
use Rattle.reach_text.proofs.trace.write_trace.Goals as goal

pub returns : goal.returns
returns c =
    let a = asked_in c.args.question.now in
    let stages = c.args.question.now.stages.now in
    let found = c.args.passages.now in
    let all = map passage_of found in
    let head : Option Passage → List ℕ = λ p. head_text a (slice_get (told_of p) 0) in
    let first : c.push_first.new.text.items ≡ head (slice_get all 0) =
    c.in_ok-push_first.ensures
    ∙ (ap (λ (text : List ℕ). text ++ head (option_map passage_of (slice_get found 0))) c.new-text.ensures.items ∙ ap head (sym (mapped_got passage_of found 0))) in
    let front : c.push_stages.new.text.items ≡ head (slice_get all 0) ++ stages_text a 1 stages all =
    c.in_ok-push_stages.ensures ∙ ap (λ (text : List ℕ). text ++ stages_text a 1 stages all) first in
    c.in_ok-push_output_text.ensures
    ∙ (ap (λ (text : List ℕ). text ++ output_text a (option_map passage_of (slice_get found (length stages)))) front
    ∙ ap (λ (p : Option Passage). head (slice_get all 0) ++ stages_text a 1 stages all ++ output_text a p) (sym (mapped_got passage_of found (length stages))))
