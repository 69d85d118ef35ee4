use Rattle.std.proofs.Common.{◌≡◌, ◌∙◌, sym, ap, true, false, rules}
use Rattle.text_words.proofs.LineFacts.{no_items}
use Rattle.text_words.specs.Lines.{is_end_byte}
use Rattle.input_faults.specs.Records.{drop_ends}
use Rattle.input_faults.proofs.ScanFacts.{drop_ends-none, drop_ends-skip, drop_ends-stop}
use Rattle.input_faults.proofs.records.without_ends.Goals as goal

pub loop-byte-preserved : goal.loop-byte-preserved
loop-byte-preserved c =
    let ends : is_end_byte c.in-Some.byte.now ≡ true = search rules in
    sym (ap drop_ends c.in-Some.ensures.cases.0 ∙ drop_ends-skip c.in-Some.byte.now c.in-Some.more.now ends) ∙ c.loop-byte.invariant

pub returns-then-not-is_end_byte : goal.returns-then-not-is_end_byte
returns-then-not-is_end_byte c =
    let none : is_end_byte c.in-Some.byte.now ≡ false = search rules in
    c.in-Some.ensures.cases.0 ∙ sym (ap drop_ends c.in-Some.ensures.cases.0 ∙ drop_ends-stop c.in-Some.byte.now c.in-Some.more.now none) ∙ c.loop-byte.invariant

pub returns-in_default : goal.returns-in_default
returns-in_default c =
    let none = no_items c.loop-byte.rest.now c.in_default.ensures.cases in
    none ∙ sym (ap drop_ends none ∙ drop_ends-none) ∙ c.loop-byte.invariant
