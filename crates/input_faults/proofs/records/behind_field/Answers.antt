use Rattle.std.proofs.Common.{◌≡◌, ◌∙◌, true, false, sym, ap, rules}
use Rattle.text_words.proofs.LineFacts.{no_items}
use Rattle.input_faults.specs.Records.{behind_field, left_of}
use Rattle.trade_text.specs.RecordStates.{action_of, is_field_end, state_of}
use Rattle.input_faults.proofs.ScanFacts.{behind_field-ends, behind_field-goes, behind_field-none}
use Rattle.input_faults.proofs.records.behind_field.Goals as goal

pub loop-byte-preserved : goal.loop-byte-preserved
loop-byte-preserved c =
    let goes : is_field_end (action_of c.step-next.result.1) ≡ false = search rules in
    sym (behind_field-goes c.loop-byte.state c.step-next.result.0 c.step-next.result.1 c.loop-byte.rest.now c.in-Some.byte.now c.in-Some.more.now c.in-Some.ensures.cases.0 c.step-next.ensures goes)
    ∙ c.loop-byte.invariant

pub returns-then-ends_field : goal.returns-then-ends_field
returns-then-ends_field c =
    let ends : is_field_end (action_of c.step-next.result.1) ≡ true = search rules in
    sym (behind_field-ends c.loop-byte.state c.step-next.result.0 c.step-next.result.1 c.loop-byte.rest.now c.in-Some.byte.now c.in-Some.more.now c.in-Some.ensures.cases.0 c.step-next.ensures ends)
    ∙ c.loop-byte.invariant

pub returns : goal.returns
returns c =
    let none = no_items c.loop-byte.rest.now c.in_default.ensures.cases in
    ap (left_of c.loop-byte.state) none
    ∙ sym (ap (behind_field (state_of c.loop-byte.state)) none ∙ behind_field-none (state_of c.loop-byte.state))
    ∙ c.loop-byte.invariant
