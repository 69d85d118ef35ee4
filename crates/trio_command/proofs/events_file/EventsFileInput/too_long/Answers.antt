use Rattle.trio_command.proofs.EventFaults.{long_events}
use Rattle.trio_command.proofs.events_file.EventsFileInput.too_long.Goals as goal

pub returns : goal.returns
returns c bytes long = long_events c.args.self.now.plan.now c.args.name.now bytes c.args.seen c.refused.result long c.refused.ensures
