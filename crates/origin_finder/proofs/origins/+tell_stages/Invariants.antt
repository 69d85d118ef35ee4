use Rattle.std.proofs.Common.{length}
use Rattle.origin_finder.proofs.origins.+tell_stages.Given as goal

abbrev pub decreases-tell_stages : goal.decreases-tell_stages
decreases-tell_stages l = length l.stages.now
