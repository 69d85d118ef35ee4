use Rattle.std.proofs.Common.{◌∙◌, append_assoc}
use Rattle.run_rehearsal.proofs.follows.push_takeover.Goals as goal

pub returns : goal.returns
returns c =
    c.in_ok-push_str.ensures.bytes ∙ simp (c.in_ok-push_heard.ensures, c.in_ok-push_takes.ensures, c.fell_at.ensures, c.led_at.ensures, c.partner.ensures, append_assoc)
