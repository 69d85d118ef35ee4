use Rattle.std.proofs.Common.{◌≡◌, ◌∙◌, true, false, length, ap, arith, rules}
use Rattle.text_words.proofs.LineFacts.{no_items}
use Rattle.input_faults.specs.Records.{field_len}
use Rattle.trade_text.specs.RecordStates.{action_of, is_field_end, state_of}
use Rattle.input_faults.proofs.ScanFacts.{field_len-ends, field_len-goes, field_len-none}
use Rattle.input_faults.proofs.records.field_len.Goals as goal

pub loop-byte-preserved : goal.loop-byte-preserved
loop-byte-preserved c =
    let l = c.loop-byte in
    let goes : is_field_end (action_of c.step-next.result.1) ≡ false = search rules in
    let more = field_len-goes l.state c.step-next.result.0 c.step-next.result.1 l.rest.now c.in-Some.byte.now c.in-Some.more.now c.in-Some.ensures.cases.0 c.step-next.ensures goes in
    let size = ap length c.in-Some.ensures.cases.0 in
    record { value = omega (arith, more, size, l.invariant.value, l.invariant.within); within = omega (arith, size, l.invariant.within) }

pub returns-then-ends_field-clause-value : goal.returns-then-ends_field-clause-value
returns-then-ends_field-clause-value c =
    let l = c.loop-byte in
    let ends : is_field_end (action_of c.step-next.result.1) ≡ true = search rules in
    let none = field_len-ends l.state c.step-next.result.0 c.step-next.result.1 l.rest.now c.in-Some.byte.now c.in-Some.more.now c.in-Some.ensures.cases.0 c.step-next.ensures ends in
    omega (arith, none, l.invariant.value, l.invariant.within)

pub returns-clause-value : goal.returns-clause-value
returns-clause-value c =
    let l = c.loop-byte in
    let none = no_items l.rest.now c.in_default.ensures.cases in
    let ended = ap (field_len (state_of l.state)) none ∙ field_len-none (state_of l.state) in
    omega (arith, ended, l.invariant.value, l.invariant.within)
