use Rattle.trio_core.specs.CoreView.{inputs_of}
use Rattle.trio_core.proofs.NamedNodes.{control_is_named, control_stands, control_there, is_control}
use Rattle.trio_core.proofs.nodes.TrioCore.control.Goals as goal

pub station-requires : goal.station-requires
station-requires c = record { there = control_there c.args.self.now.plan (inputs_of c.args.self.now) c.args.stage c.args.part c.requires.there }

pub unreachable-requires : goal.unreachable-requires
unreachable-requires c = is_control c.args.self.now c.station.result.now c.args.stage c.args.part c.station.ensures c.known.ensures c.requires.there c.in-None.ensures

pub returns-clause-named : goal.returns-clause-named
returns-clause-named c = control_is_named c.args.self.now c.station.result.now c.args.stage c.args.part c.in-Some.control.now c.station.ensures c.known.ensures c.requires.there c.in-Some.ensures

pub returns-clause-stands : goal.returns-clause-stands
returns-clause-stands c = control_stands c.args.self.now c.station.result.now c.args.stage c.args.part c.in-Some.control.now c.station.ensures c.requires.there c.in-Some.ensures
