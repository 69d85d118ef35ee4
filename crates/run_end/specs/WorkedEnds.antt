-- Ends worked by hand.
use Rattle.std.specs.Prelude.{◌≡◌, None, Some, codes}
use Rattle.pair_machine.specs.Drain.{partition}
use Rattle.run_end.specs.Ends.{undone}
use Rattle.run_end.specs.Words.{end_words}
use Rattle.run_end.specs.declared.ends.RunEnd.TheVariants.{Done, Lost, NotDone}

-- these are so
pub record WorkedEnds : Type 0 where
  -- a run that isn't done has a pair lost, or none
  pub lost : undone (Some (partition 1 0)) ≡ Lost 1 0
  pub undecided : undone None ≡ NotDone
  -- the words of each
  pub done_said : end_words Done 13 13 ≡ codes "done"
  pub lost_said : end_words (Lost 1 0) 959 5000 ≡ codes "pair 1.0 is lost: 959 rows, 5000 with all"
  pub open_said : end_words NotDone 4 13 ≡ codes "not done"
