use Rattle.std.proofs.Common.{◌≡◌, ◌≤◌, length}
use Rattle.std.specs.Prelude.{All}
use Rattle.run_journal.specs.Limits.{max_events}
use Rattle.run_journal.specs.Listing.{with_lines}
use Rattle.run_journal.proofs.listing.take_all.Given as goal

abbrev pub invariant-loop-line : goal.invariant-loop-line
invariant-loop-line g l = record {
  left : with_lines (g.S.EventForm.said_at l.form) l.entries.items l.lines ≡ with_lines (g.S.EventForm.said_at l.form) l.initial.entries.items l.initial.lines;
  few : length l.entries.items ≤ max_events;
  within : All (g.S.EventForm.within l.form) l.entries.items;
}

abbrev pub decreases-loop-line : goal.decreases-loop-line
decreases-loop-line g l = length l.lines
