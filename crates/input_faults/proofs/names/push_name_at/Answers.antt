use Rattle.std.proofs.Common.{sym}
use Rattle.std.specs.Prelude.{string_bytes}
use Rattle.csv.specs.Records.{fields_of}
use Rattle.input_faults.proofs.AllFacts.{one_name}
use Rattle.input_faults.proofs.names.push_name_at.Goals as goal

pub returns-in_ok-push_name-in-Some : goal.returns-in_ok-push_name-in-Some
returns-in_ok-push_name-in-Some c =
    one_name (string_bytes c.args.text.now) (string_bytes c.push_name.new.text) (fields_of c.args.header.now) c.args.place c.in-Some.name.now (sym c.in-Some.ensures.value) c.in_ok-push_name-in-Some.ensures
