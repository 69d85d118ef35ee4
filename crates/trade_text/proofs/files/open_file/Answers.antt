use Rattle.std.proofs.Common.{◌≡◌, ◌<◌, ◌∙◌, ap, sym, length, false, refl, rules, arith}
use Rattle.csv.specs.Reading.{strip_bom}
use Rattle.csv.specs.Records.{fields_of}
use Rattle.csv.specs.declared.parser.State.TheVariants as state
use Rattle.trade_text.specs.Records.{starts_with_mark}
use Rattle.trade_text.proofs.Reading.{reads_header, reads_none}
use Rattle.trade_text.proofs.files.open_file.Goals as goal

pub returns-then-not-branch-clause-refused : goal.returns-then-not-branch-clause-refused
returns-then-not-branch-clause-refused g c =
    let short : 16777216 < length c.args.bytes.now → ⊥ = λ h. absurd (omega arith) in
    let plain : starts_with_mark (strip_bom c.args.bytes.now) ≡ false = ap starts_with_mark (sym c.without_mark.ensures) ∙ (search rules) in
    let took = c.in_ok-next_record.ensures state.StartRecord (strip_bom c.args.bytes.now) c.open_records-reader.ensures in
    reads_none c.args.bytes.now (strip_bom c.args.bytes.now) (fields_of c.next_record.new.fields) c.next_record.new.reader short refl plain (rw c.if-not-branch.true at took)

pub returns-clause-opens : goal.returns-clause-opens
returns-clause-opens g c =
    let short : 16777216 < length c.args.bytes.now → ⊥ = λ h. absurd (omega arith) in
    let plain : starts_with_mark (strip_bom c.args.bytes.now) ≡ false = ap starts_with_mark (sym c.without_mark.ensures) ∙ (search rules) in
    let took = c.in_ok-next_record.ensures state.StartRecord (strip_bom c.args.bytes.now) c.open_records-reader.ensures in
    reads_header c.args.bytes.now (strip_bom c.args.bytes.now) (fields_of c.next_record.new.fields) c.next_record.new.reader short refl plain (rw c.if-not-branch.false at took)
