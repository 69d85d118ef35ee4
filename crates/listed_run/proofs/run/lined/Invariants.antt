use Rattle.std.proofs.Common.{◌≡◌, ◌+◌, take}
use Rattle.run_journal.specs.Text.{lined_from}
use Rattle.listed_run.specs.Listed.{first_line}
use Rattle.listed_run.proofs.run.lined.Given as goal

abbrev pub invariant-loop-event : goal.invariant-loop-event
invariant-loop-event l = record {
  line : l.line ≡ first_line + l.event-index;
  lines : l.lines.items ≡ lined_from first_line (take l.event-index l.events);
}
