use Rattle.std.proofs.Common.{◌<◌, subst, sym}
use Rattle.std.specs.Prelude.{OnOk}
use Rattle.replica_node.specs.ReplicaView.{ReplicaView, with_phase}
use Rattle.replica_node.proofs.Opening.{PullsIn, pulls_stand}
use Rattle.replica_node.proofs.replica.Replica.pull.Goals as goal

pub returns-clause-stands : goal.returns-clause-stands
returns-clause-stands c =
    let old : ReplicaView = record { role = c.self.inside.role; phase = c.self.inside.phase } in
    let there : c.args.edge < old.role.sources = subst (λ (v : ReplicaView). c.args.edge < v.role.sources) (sym c.self.view_is) c.requires.edge in
    subst (λ (v : ReplicaView). OnOk c.pull.result (PullsIn v (with_phase old c.pull.new.self) c.args.edge c.args.item)) c.self.view_is
    (pulls_stand c.pull.result old c.pull.new.self c.args.edge c.args.item there c.pull.ensures.taken)
