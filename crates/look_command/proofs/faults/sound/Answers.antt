use Rattle.std.proofs.Common.{ap, ◌∙◌}
use Rattle.std.specs.Prelude.{string_bytes}
use Rattle.command_course.specs.Answers.{answer}
use Rattle.look_command.proofs.Judged.{sound_is}
use Rattle.look_command.proofs.faults.sound.Goals as goal

pub returns : goal.returns
returns c =
    ap (λ e. answer e c.in_ok-text.text.items) c.ending_after-ending.ensures
    ∙ sound_is c.args.json c.args.plan.now _ _ _ (string_bytes c.in_ok-checked.checked.text) c.in_ok-text.text.items c.in_ok-checked.checked.warnings c.in_ok-checked.ensures.text c.in_ok-checked.ensures.warnings c.in_ok-text.ensures
