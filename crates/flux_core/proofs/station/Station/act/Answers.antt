use Rattle.flux_core.proofs.Noting.{station_acted, station_refused, station_unchanged}
use Rattle.flux_core.proofs.station.Station.act.Goals as goal

pub returns-clause-acted : goal.returns-clause-acted
returns-clause-acted c = station_acted c.self.inside.node c.node_notes.new.node c.args.task.now c.node_notes.result c.self.inside.sent c.node_notes.new.sent c.args.self.now c.self.view_is c.node_notes.ensures

pub returns-clause-refused : goal.returns-clause-refused
returns-clause-refused c = station_refused c.self.inside.node c.node_notes.new.node c.args.task.now c.node_notes.result c.self.inside.sent c.node_notes.new.sent c.args.self.now c.self.view_is c.node_notes.ensures

pub returns-clause-unchanged : goal.returns-clause-unchanged
returns-clause-unchanged c = station_unchanged c.self.inside.node c.node_notes.new.node c.args.task.now c.node_notes.result c.self.inside.sent c.node_notes.new.sent c.args.self.now c.self.view_is c.node_notes.ensures
