use Rattle.std.proofs.Common.{◌≡◌, true, false, length, refl, ap, arith, rules}
use Rattle.csv.specs.Machine.{ends_at_end}
use Rattle.text_words.proofs.LineFacts.{no_items}
use Rattle.input_faults.specs.Records.{fields_in}
use Rattle.trade_text.specs.RecordStates.{action_of, is_field_end, state_of}
use Rattle.csv.specs.Machine.{is_end}
use Rattle.trade_text.specs.declared.record_state.RecordState.TheVariants as stands
use Rattle.input_faults.proofs.ScanFacts.{counted_byte, counted_ends, counted_field, counted_last, counted_none, counted_start}
use Rattle.input_faults.proofs.records.field_count.Goals as goal

pub loop-byte-init : goal.loop-byte-init
loop-byte-init c = record { counted = counted_start c.args.text.now stands.StartRecord refl; room = omega arith }

pub loop-byte-preserved-then-ends_field : goal.loop-byte-preserved-then-ends_field
loop-byte-preserved-then-ends_field c =
    let l = c.loop-byte in
    let goes : is_end (action_of c.step-next.result.1) ≡ false = search rules in
    let ends : is_field_end (action_of c.step-next.result.1) ≡ true = search rules in
    let size = ap length c.in-Some.ensures.cases.0 in
    record {
      counted = counted_field l.ended l.state c.step-next.result.0 c.step-next.result.1 l.rest.now c.in-Some.byte.now c.in-Some.more.now (length (fields_in c.args.text.now))
          c.in-Some.ensures.cases.0 c.step-next.ensures goes ends l.invariant.counted;
      room = omega (arith, size, l.invariant.room);
    }

pub loop-byte-preserved : goal.loop-byte-preserved
loop-byte-preserved c =
    let l = c.loop-byte in
    let goes : is_end (action_of c.step-next.result.1) ≡ false = search rules in
    let stays : is_field_end (action_of c.step-next.result.1) ≡ false = search rules in
    let size = ap length c.in-Some.ensures.cases.0 in
    record {
      counted = counted_byte l.ended l.state c.step-next.result.0 c.step-next.result.1 l.rest.now c.in-Some.byte.now c.in-Some.more.now (length (fields_in c.args.text.now))
          c.in-Some.ensures.cases.0 c.step-next.ensures goes stays l.invariant.counted;
      room = omega (arith, size, l.invariant.room);
    }

pub returns-then-ends_record : goal.returns-then-ends_record
returns-then-ends_record c =
    let l = c.loop-byte in
    let ends : is_end (action_of c.step-next.result.1) ≡ true = search rules in
    counted_ends l.ended l.state c.step-next.result.0 c.step-next.result.1 l.rest.now c.in-Some.byte.now c.in-Some.more.now (length (fields_in c.args.text.now))
    c.in-Some.ensures.cases.0 c.step-next.ensures ends l.invariant.counted

pub returns-else-ends_at_end : goal.returns-else-ends_at_end
returns-else-ends_at_end c =
    let l = c.loop-byte in
    let between : ends_at_end (state_of l.state) ≡ false = search rules in
    counted_none l.ended l.state l.rest.now (length (fields_in c.args.text.now)) (no_items l.rest.now c.in_default.ensures.cases) between l.invariant.counted

pub returns-then-ends_at_end : goal.returns-then-ends_at_end
returns-then-ends_at_end c =
    let l = c.loop-byte in
    let ends : ends_at_end (state_of l.state) ≡ true = search rules in
    counted_last l.ended l.state l.rest.now (length (fields_in c.args.text.now)) (no_items l.rest.now c.in_default.ensures.cases) ends l.invariant.counted
