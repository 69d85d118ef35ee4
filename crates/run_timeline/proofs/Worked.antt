-- The worked parts of a timeline, computed.
use Rattle.std.proofs.Common.{refl}
use Rattle.std.specs.Fmt.{digits}
use Rattle.run_timeline.specs.Marks.{mark_of}
use Rattle.run_timeline.specs.Said.{title_of}
use Rattle.run_timeline.specs.Ticks.{tick_at}
use Rattle.run_timeline.specs.WorkedTimelines.{WorkedTimelines}

pub worked_timelines : WorkedTimelines
unfolding mark_of title_of tick_at digits
worked_timelines = record {
  at_the_end = refl;
  after_the_end = refl;
  of_a = refl;
  of_b = refl;
  of_ingress = refl;
  of_egress = refl;
  marks_of_a = refl;
  marks_of_b = refl;
  lost_at_a = refl;
  lost_at_b = refl;
  lost_at_no_other = refl;
  each_two = refl;
  drawn = refl;
  not_drawn = refl;
  title_done = refl;
  title_lost = refl;
  scale = refl;
}
