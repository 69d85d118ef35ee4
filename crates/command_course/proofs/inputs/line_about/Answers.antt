use Rattle.std.specs.Prelude.{string_bytes}
use Rattle.command_course.proofs.Refusals.{line_said}
use Rattle.command_course.proofs.inputs.line_about.Goals as goal

pub returns : goal.returns
returns g c = line_said (string_bytes c.in_ok-line.line) c.args.name.now (g.D.Display.output c.args.fault) c.in_ok-line.ensures.ok
