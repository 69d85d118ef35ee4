use Rattle.look_json.specs.CheckJson.{warning_mark}
use Rattle.look_json.proofs.Marks.{stripped}
use Rattle.look_json.proofs.check.warning_in.Goals as goal

pub returns : goal.returns
returns c = stripped warning_mark c.args.line.now c.strip_prefix.result c.strip_prefix.ensures.cases
