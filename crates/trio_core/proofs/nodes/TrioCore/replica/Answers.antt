use Rattle.trio_core.specs.CoreView.{inputs_of}
use Rattle.trio_core.proofs.NamedNodes.{is_replica, replica_is_named, replica_stands, replica_there}
use Rattle.trio_core.proofs.nodes.TrioCore.replica.Goals as goal

pub station-requires : goal.station-requires
station-requires c = record { there = replica_there c.args.self.now.plan (inputs_of c.args.self.now) c.args.stage c.args.part c.args.copy c.requires.there c.requires.copy }

pub unreachable-requires : goal.unreachable-requires
unreachable-requires c = is_replica c.args.self.now c.station.result.now c.args.stage c.args.part c.args.copy c.station.ensures c.known.ensures c.requires.there c.requires.copy c.in-None.ensures

pub returns-clause-named : goal.returns-clause-named
returns-clause-named c =
    replica_is_named c.args.self.now c.station.result.now c.args.stage c.args.part c.args.copy c.in-Some.replica.now c.station.ensures c.known.ensures c.requires.there c.requires.copy c.in-Some.ensures

pub returns-clause-stands : goal.returns-clause-stands
returns-clause-stands c = replica_stands c.args.self.now c.station.result.now c.args.stage c.args.part c.args.copy c.in-Some.replica.now c.station.ensures c.requires.there c.requires.copy c.in-Some.ensures
