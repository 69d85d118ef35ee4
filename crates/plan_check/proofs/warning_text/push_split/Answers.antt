use Rattle.std.proofs.Common.{append_assoc}
use Rattle.plan_check.proofs.warning_text.push_split.Goals as goal

pub returns : goal.returns
returns c = rw (c.in_ok-write.ensures.bytes, c.in_ok-push_stage.ensures, c.column_name-by.ensures) (simp append_assoc)
