use Rattle.trio_core.proofs.NamedNodes.{is_ingress}
use Rattle.trio_core.proofs.nodes.TrioCore.ingress.Goals as goal

pub unreachable-requires : goal.unreachable-requires
unreachable-requires c = is_ingress c.args.self.now c.station.result.now c.station.ensures c.known.ensures c.in-None.ensures
