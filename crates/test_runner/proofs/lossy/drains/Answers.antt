-- The histories of a legal run may be merged.
use Rattle.std.proofs.Common.{subst, sym}
use Rattle.run_journal.specs.Logs.{AreMergeable}
use Rattle.test_runner.proofs.lossy.drains.Goals as goal

pub merge-requires : goal.merge-requires
merge-requires c = subst AreMergeable (sym c.deref.ensures.value) (record { distinct = c.requires.course.distinct; rising = c.requires.course.rising })
