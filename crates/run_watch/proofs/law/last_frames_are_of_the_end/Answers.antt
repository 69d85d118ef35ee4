use Rattle.run_watch.proofs.LastFrame.{last_frames}
use Rattle.run_watch.proofs.law.last_frames_are_of_the_end.Goals as goal

pub returns : goal.returns
returns c = last_frames
