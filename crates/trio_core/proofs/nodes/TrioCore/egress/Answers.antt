use Rattle.trio_core.proofs.NamedNodes.{is_egress}
use Rattle.trio_core.proofs.nodes.TrioCore.egress.Goals as goal

pub unreachable-requires : goal.unreachable-requires
unreachable-requires c = is_egress c.args.self.now c.station.result.now c.station.ensures c.known.ensures c.in-None.ensures
