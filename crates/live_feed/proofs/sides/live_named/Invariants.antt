use Rattle.ordered_channel.specs.Ends.{sends_to}
use Rattle.live_feed.proofs.sides.live_named.Given as goal

abbrev pub ghosts-live_over : goal.ghosts-live_over
ghosts-live_over g a = record { channel = sends_to a.sender }
