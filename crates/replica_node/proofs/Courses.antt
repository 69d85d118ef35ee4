-- An event whose step the machine's replica does is a step of the replica's course.
use Rattle.std.proofs.Common.{◌≡◌, List, None, Ok, sym, ap, ◌∙◌, subst}
use Rattle.tuple_edge.specs.declared.event.Event.{Event}
use Rattle.tuple_edge.specs.declared.node.NodeId.{NodeId}
use Rattle.tuple_edge.specs.declared.packet.Body.{Body}
use Rattle.tuple_edge.specs.Input.{Input}
use Rattle.plan_reader.specs.PlanView.{PlanView}
use Rattle.pair_machine.specs.Asked.{Asks, TakenAsks}
use Rattle.pair_machine.specs.Contents.{BodyStands}
use Rattle.pair_machine.specs.Counts.{flow_of}
use Rattle.pair_machine.specs.Courses.{ActFor}
use Rattle.pair_machine.specs.Lengths.{ReplicaBound}
use Rattle.pair_machine.specs.Links.{link}
use Rattle.pair_machine.specs.Machine.{as_replica, does, replica_in}
use Rattle.pair_machine.specs.Messages.{Act, Envelope, Message}
use Rattle.pair_machine.specs.Numbers.{Replica, ReplicaNode}
use Rattle.pair_machine.specs.Replicas.{replica_does, replica_takes}
use Rattle.pair_machine.proofs.Delivered.{delivered}
use Rattle.replica_node.specs.Course.{IsDone, IsTaken}
use Rattle.replica_node.specs.ReplicaView.{ReplicaView, node_of, partition_of}
use Rattle.replica_node.specs.StandsFor.{IsOfPlan, PhaseStands, StandsFor}
use Rattle.replica_node.specs.declared.role.Role.{Role}
use Rattle.replica_node.proofs.Steps.{ComesTo}

module _ (plan : PlanView) (inputs : List Input) (old new : ReplicaView) (same : new.role ≡ old.role) (sent : List (NodeId × Body)) where
  -- it stands for the numbers after
  after_stands : IsOfPlan plan old.role → (d : Replica × List Envelope) → ComesTo plan inputs old.role new.phase sent d → StandsFor plan inputs new (ReplicaNode d.0)
  after_stands of d comes = record {
    of_plan = subst (λ (r : Role). IsOfPlan plan r) (sym same) of;
    phase_stands = subst (λ (r : Role). PhaseStands plan inputs (partition_of r) new.phase d.0) (sym same) comes.stands;
  }

  -- whatever act the machine's replica does so is one of the course
  pub done_course : (e : Event) (act : Act)
      → ((a : Act) → ActFor (flow_of plan inputs) (BodyStands plan inputs) (Asks (flow_of plan inputs)) (node_of old.role) e None a → a ≡ act)
      → ((x : Replica) → IsOfPlan plan old.role → PhaseStands plan inputs (partition_of old.role) old.phase x → ReplicaBound (flow_of plan inputs) (partition_of old.role) x
      → (d : Replica × List Envelope) × (replica_does (flow_of plan inputs) (partition_of old.role) old.role.which act x ≡ Ok d) × ComesTo plan inputs old.role new.phase sent d)
      → IsDone plan inputs old new sent e
  done_course e act is step clock a asked n stands asks =
      let it = step (replica_in n) stands.of_plan stands.phase_stands asks.0 in (
        (ReplicaNode it.0.0, it.0.1),
        (λ j. does (flow_of plan inputs) (node_of old.role) (is a asked j) n) ∙ ap as_replica it.1,
        after_stands stands.of_plan it.0 it.2,
        λ to. delivered (BodyStands plan inputs) (node_of old.role) clock to sent it.0.1 it.2.packets,
      )

  -- so is taking a packet, whatever message it stands for
  pub taken_course : (from : NodeId) (b : Body)
      → ((x : Replica) (m : Message) → IsOfPlan plan old.role → BodyStands plan inputs (link from (node_of old.role)) b m → PhaseStands plan inputs (partition_of old.role) old.phase x
      → ReplicaBound (flow_of plan inputs) (partition_of old.role) x → TakenAsks (flow_of plan inputs) (node_of old.role) (ReplicaNode x) from m
      → ComesTo plan inputs old.role new.phase sent (replica_takes (flow_of plan inputs) (partition_of old.role) from m x))
      → IsTaken plan inputs old new from b sent
  taken_course from b step clock at index a act n stands asks =
      let m = act.0 in
      let x = replica_in n in
      let asked = (subst (λ (z : Act). Asks (flow_of plan inputs) (node_of old.role) n z) act.1 asks).1 in
      let comes = step x m stands.of_plan act.2 stands.phase_stands asks.0 (record { sender = asked.sender; carried = asked.carried; bound = asked.bound; same_move = asked.same_move }) in
      let d = replica_takes (flow_of plan inputs) (partition_of old.role) from m x in (
        (ReplicaNode d.0, d.1),
        (λ j. does (flow_of plan inputs) (node_of old.role) (act.1 j) n),
        after_stands stands.of_plan d comes,
        λ to. delivered (BodyStands plan inputs) (node_of old.role) clock to sent d.1 comes.packets,
      )
