use Rattle.tuple_edge.specs.Input.{from_first}
use Rattle.trio_core.proofs.opening.open_stations.Goals as goal

pub returns-clause-opens : goal.returns-clause-opens
returns-clause-opens c =
    let inputs = from_first c.args.rows.now in
    c.in_ok-add_egress.ensures.more.opens inputs (c.in_ok-add_groups.ensures.more.opens inputs c.in_ok-stations.ensures.opens)
