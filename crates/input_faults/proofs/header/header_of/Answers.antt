use Rattle.std.proofs.Common.{◌∙◌, []}
use Rattle.csv.specs.Machine.{next_record}
use Rattle.csv.specs.Reading.{default_config, strip_bom}
use Rattle.csv.specs.Records.{fields_of}
use Rattle.csv.specs.declared.parser.State.TheVariants as state
use Rattle.input_faults.proofs.HeaderFacts.{took_fields, took_none}
use Rattle.input_faults.proofs.header.header_of.Goals as goal

pub returns-then-branch : goal.returns-then-branch
returns-then-branch c =
    let took = c.in_ok-next_record.ensures state.StartRecord (strip_bom c.args.text.now) c.open_records-reader.ensures in
    took_fields (next_record default_config state.StartRecord [] [] (strip_bom c.args.text.now)) _ (fields_of c.next_record.new.fields) c.next_record.new.reader took c.if-branch.true

pub returns : goal.returns
returns c =
    let took = c.in_ok-next_record.ensures state.StartRecord (strip_bom c.args.text.now) c.open_records-reader.ensures in
    c.new.ensures.fields ∙ took_none (next_record default_config state.StartRecord [] [] (strip_bom c.args.text.now)) _ (fields_of c.next_record.new.fields) c.next_record.new.reader took c.if-branch.false
