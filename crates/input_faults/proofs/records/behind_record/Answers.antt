use Rattle.std.proofs.Common.{◌≡◌, ◌∙◌, List, ℕ, [], true, false, sym, ap, rules}
use Rattle.csv.specs.Machine.{next_record}
use Rattle.csv.specs.Reading.{default_config}
use Rattle.text_words.proofs.LineFacts.{no_items}
use Rattle.input_faults.specs.Records.{left_by, left_of}
use Rattle.trade_text.specs.RecordStates.{action_of, state_of}
use Rattle.csv.specs.Machine.{is_end}
use Rattle.trade_text.specs.declared.record_state.RecordState.TheVariants as stands
use Rattle.input_faults.proofs.ScanFacts.{left_none, scan_ends, scan_goes}
use Rattle.input_faults.proofs.records.behind_record.Goals as goal

pub loop-byte-preserved : goal.loop-byte-preserved
loop-byte-preserved c =
    let goes : is_end (action_of c.step-next.result.1) ≡ false = search rules in
    sym (scan_goes c.loop-byte.state c.step-next.result.0 c.step-next.result.1 c.loop-byte.rest.now c.in-Some.byte.now c.in-Some.more.now c.in-Some.ensures.cases.0 c.step-next.ensures goes)
    ∙ c.loop-byte.invariant

pub returns-then-ends_record : goal.returns-then-ends_record
returns-then-ends_record c =
    let ends : is_end (action_of c.step-next.result.1) ≡ true = search rules in
    sym (scan_ends c.loop-byte.state c.step-next.result.0 c.step-next.result.1 c.loop-byte.rest.now c.in-Some.byte.now c.in-Some.more.now c.in-Some.ensures.cases.0 c.step-next.ensures ends)
    ∙ c.loop-byte.invariant

pub returns : goal.returns
returns c =
    let none = no_items c.loop-byte.rest.now c.in_default.ensures.cases in
    ap (left_of stands.StartRecord) none
    ∙ sym (ap (λ (t : List ℕ). left_by (next_record default_config (state_of c.loop-byte.state) [] [] t)) none ∙ left_none (state_of c.loop-byte.state))
    ∙ c.loop-byte.invariant
