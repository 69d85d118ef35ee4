use Rattle.std.proofs.Common.{codes, take}
use Rattle.std.specs.List.{flat_map}
use Rattle.std.specs.Prelude.{string_bytes}
use Rattle.csv.specs.Records.{fields_of}
use Rattle.input_faults.specs.AllFaults.{max_names, named}
use Rattle.input_faults.proofs.ShownFacts.{three_parts}
use Rattle.input_faults.proofs.names.push_names.Goals as goal

pub returns : goal.returns
returns c =
    three_parts (string_bytes c.args.text.now) (string_bytes c.push_str.new.self) (string_bytes c.push_str-2.new.self) (string_bytes c.push_first_names.new.text) c.args.front.now (codes ": here stands:")
    (flat_map named (take max_names (fields_of c.args.header.now))) c.in_ok-push_str.ensures.bytes c.in_ok-push_str-2.ensures.bytes c.in_ok-push_first_names.ensures
