-- Taking a packet, by its rule, comes to what the machine's replica is, whatever message the packet stands for.
use Rattle.std.proofs.Common.{◌≡◌, List, [], sym, subst, Result, Ok, Err, OnOk}
use Rattle.tuple_edge.specs.declared.node.NodeId.{NodeId}
use Rattle.tuple_edge.specs.declared.packet.Body.{Body}
use Rattle.tuple_edge.specs.declared.packet.Body.TheVariants as body
use Rattle.tuple_edge.specs.Input.{Input}
use Rattle.plan_reader.specs.PlanView.{IsPlan, PlanView}
use Rattle.pair_machine.specs.Asked.{TakenAsks}
use Rattle.pair_machine.specs.Contents.{BodyStands}
use Rattle.pair_machine.specs.Counts.{flow_of}
use Rattle.pair_machine.specs.Links.{link}
use Rattle.pair_machine.specs.Messages.{Envelope, Message}
use Rattle.pair_machine.specs.Numbers.{Replica, ReplicaNode}
use Rattle.pair_machine.specs.Replicas.{replica_takes}
use Rattle.replica_node.specs.Admitted.{IsAdmitted}
use Rattle.replica_node.specs.Course.{AreTimely, IsTaken}
use Rattle.replica_node.specs.ReplicaView.{ReplicaView, node_of, partition_of}
use Rattle.replica_node.specs.Rules.{IsTakenAs, IsTakenBy}
use Rattle.replica_node.specs.StandsFor.{IsOfPlan, PhaseStands}
use Rattle.replica_node.specs.declared.phase.Phase.{Phase}
use Rattle.replica_node.proofs.Courses.{taken_course}
use Rattle.replica_node.proofs.Ending.{begin_comes, end_comes, stop_comes}
use Rattle.replica_node.proofs.Gathering.{chunk_comes, tuple_gathers}
use Rattle.replica_node.proofs.Giving.{serve_comes}
use Rattle.replica_node.proofs.Steps.{ComesTo}
use Rattle.replica_node.proofs.Told.{take_ack_comes, take_lead_comes, take_want_comes, tuple_comes}

module _ (plan : PlanView) (inputs : List Input) (is : IsPlan plan) (times : AreTimely inputs) (v : ReplicaView) (from : NodeId) where
  -- what was made and sent is what a rule says
  by_rule : (after later : Phase) (sent given : List (NodeId × Body)) (d : Replica × List Envelope) → after ≡ later → sent ≡ given → ComesTo plan inputs v.role later given d → ComesTo plan inputs v.role after sent d
  by_rule after later sent given d made gave comes = subst (λ (z : Phase × List (NodeId × Body)). ComesTo plan inputs v.role z.0 z.1 d) (λ i. (sym made i, sym gave i)) comes

  takes_come : (b : Body) → IsAdmitted v from b → (after : Phase) (sent : List (NodeId × Body)) → IsTakenAs v.role from b v.phase after sent
      → (x : Replica) (m : Message) → IsOfPlan plan v.role → BodyStands plan inputs (link from (node_of v.role)) b m → PhaseStands plan inputs (partition_of v.role) v.phase x
      → TakenAsks (flow_of plan inputs) (node_of v.role) (ReplicaNode x) from m
      → ComesTo plan inputs v.role after sent (replica_takes (flow_of plan inputs) (partition_of v.role) from m x)
  takes_come (body.Tuple e n i) ok after sent taken x m of st s asks =
      by_rule after _ sent [] _ taken.0 taken.1 (tuple_comes plan inputs v.role of v.phase x from e n i m ok.1 (λ g y item held. tuple_gathers plan inputs v.role e n i g y of ok.1 item held) st s)
  takes_come (body.Ack e upto) ok after sent taken x m of st s asks = by_rule after _ sent [] _ taken.0 taken.1 (take_ack_comes plan inputs v.role of v.phase x from e upto m ok.1 st s)
  takes_come (body.Want e number) ok after sent taken x m of st s asks = by_rule after _ sent [] _ taken.0 taken.1 (take_want_comes plan inputs v.role of v.phase x from e number m ok.1 st s)
  takes_come (body.Lead inc term) ok after sent taken x m of st s asks = by_rule after _ sent [] _ taken.0 taken.1 (take_lead_comes plan inputs v.role of v.phase x from inc term m st s)
  takes_come (body.Serve inc target) ok after sent taken x m of st s asks = by_rule after _ sent [] _ taken.0 taken.1 (serve_comes plan inputs v.role of v.phase x from inc target m st s)
  takes_come (body.Begin inc) ok after sent taken x m of st s asks = by_rule after _ sent [] _ taken.0 taken.1 (begin_comes plan inputs v.role from inc m v.phase x of st s)
  takes_come (body.Stop inc) ok after sent taken x m of st s asks = by_rule after _ sent [] _ taken.0 taken.1 (stop_comes plan inputs v.role from inc m v.phase x st s)
  takes_come (body.Chunk inc number e) ok after sent taken x m of st s asks = by_rule after _ sent _ _ taken.0 taken.1 (chunk_comes plan inputs v.role from inc number e m v.phase x ok.0 st s asks)
  takes_come (body.ChunkEnd inc count) ok after sent taken x m of st s asks = end_comes plan inputs v.role from inc count m v.phase after sent x is times of ok.0 st s taken asks
  takes_come b ok after sent taken x m of st s asks = absurd ok

  pub take_course : (b : Body) → IsAdmitted v from b → (new : ReplicaView) (sent : List (NodeId × Body)) → IsTakenBy from b v new sent → IsTaken plan inputs v new from b sent
  take_course b ok new sent taken =
      taken_course plan inputs v new taken.role sent from b (λ x m of st s bound asks. takes_come b ok new.phase sent taken.taken x m of st s asks)

-- where the call succeeds
pub taken_so : {A E : Type 0} (r : Result A E) (v new : ReplicaView) (from : NodeId) (b : Body) (sent : List (NodeId × Body)) → IsAdmitted v from b → OnOk r (IsTakenBy from b v new sent)
    → OnOk r ((plan : PlanView) (inputs : List Input) → IsPlan plan → AreTimely inputs → IsTaken plan inputs v new from b sent)
taken_so (Ok a) v new from b sent ok taken = λ plan inputs is times. take_course plan inputs is times v from b ok new sent taken
taken_so (Err e) v new from b sent ok taken = tt
