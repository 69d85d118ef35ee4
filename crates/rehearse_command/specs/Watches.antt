-- Events that were watched without a refusal.
use Rattle.std.specs.Prelude.{◌≡◌}
use Rattle.pair_machine.specs.Machine.{Leads, State, opening}
use Rattle.flux_core.specs.CoreView.{CoreView, flow_in}
use Rattle.flux_core.specs.Follows.{events_of}
use Rattle.flux_core.specs.declared.error.ApplyError.TheVariants as apply_error
use Rattle.run_journal.specs.declared.lined.Lined.{Lined}
use Rattle.run_watch.specs.declared.watching.WatchError.{WatchError}
use Rattle.run_watch.specs.declared.watching.WatchError.TheVariants as watch_error
use Rattle.std.specs.Prelude.{List}

-- the events lead from the opening somewhere, without a refusal
abbrev pub LeadOn : CoreView → List Lined → Type 0
LeadOn core lines = (t : State) × Leads (flow_in core) opening (events_of lines) t

-- watching ended for want of memory alone
abbrev pub IsWant : WatchError → Type 0
IsWant (watch_error.Stopped stopped) = stopped.error ≡ apply_error.OutOfMemory
IsWant watch_error.OutOfMemory = Unit {0}
