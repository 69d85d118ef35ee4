use Rattle.std.specs.Prelude.{codes, string_bytes}
use Rattle.input_faults.specs.Shown.{shown}
use Rattle.input_faults.proofs.ShownFacts.{two_parts}
use Rattle.input_faults.proofs.shown.push_stands.Goals as goal

pub returns : goal.returns
returns c =
    two_parts (string_bytes c.args.text.now) (string_bytes c.push_shown.new.text) (string_bytes c.push_str.new.self) (shown c.args.word.now) (codes " stands here")
    c.in_ok-push_shown.ensures c.in_ok-push_str.ensures.bytes
