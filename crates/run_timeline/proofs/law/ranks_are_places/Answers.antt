use Rattle.run_timeline.proofs.Ranks.{ranks_are_places}
use Rattle.run_timeline.proofs.law.ranks_are_places.Goals as goal

pub returns : goal.returns
returns c = ranks_are_places
