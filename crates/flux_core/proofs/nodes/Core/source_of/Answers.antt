use Rattle.flux_core.proofs.Placed.{some_sources}
use Rattle.flux_core.proofs.nodes.Core.source_of.Goals as goal

pub source_ahead-requires : goal.source_ahead-requires
source_ahead-requires g c = some_sources c.args.self.now c.known.ensures c.ingress.result.now c.ingress.ensures
