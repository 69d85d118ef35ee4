use Rattle.origin_finder.proofs.Walking.{none_from, some_from}
use Rattle.origin_finder.proofs.telling.resting_from.Goals as goal

pub returns-in-None : goal.returns-in-None
returns-in-None c stage rows h below = none_from stage rows c.args.start c.in-None.is

pub returns-in-Some : goal.returns-in-Some
returns-in-Some c stage rows h below = some_from stage rows c.args.known.now c.in-Some.place c.args.start c.trail.result c.from_of.result c.in-Some.is h below c.trail.ensures.value c.from_of.ensures
