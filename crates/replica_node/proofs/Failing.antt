-- A replica that fails, or asks its controller for something, does what the machine's does.
use Rattle.std.proofs.Common.{◌≡◌, List, [], ◌∷◌, Ok, refl, sym, subst}
use Rattle.tuple_edge.specs.declared.event.Event.TheVariants as event
use Rattle.tuple_edge.specs.declared.packet.Body.TheVariants as body
use Rattle.tuple_edge.specs.Input.{Input}
use Rattle.plan_reader.specs.PlanView.{PlanView}
use Rattle.pair_machine.specs.Messages.{AskBack, AskStop, AsksBack, AsksStop, Dies, Envelope}
use Rattle.pair_machine.specs.Numbers.{Gone, Replica, control_at}
use Rattle.pair_machine.specs.Numbers as numbers
use Rattle.pair_machine.specs.Replicas.{replica_asks, replica_dies}
use Rattle.replica_node.specs.Phases.{inc_in, mode_in}
use Rattle.replica_node.specs.Course.{IsDone}
use Rattle.replica_node.specs.ReplicaView.{ReplicaView, node_of, partition_of, partner_of}
use Rattle.replica_node.specs.Rules.{back_asked, down_sent, dying, stop_asked}
use Rattle.replica_node.specs.StandsFor.{PhaseStands}
use Rattle.replica_node.specs.declared.phase.Mode.TheVariants as mode
use Rattle.replica_node.specs.declared.phase.Phase.{Phase}
use Rattle.replica_node.specs.declared.phase.Phase.TheVariants as phase
use Rattle.replica_node.specs.declared.role.Role.{Role}
use Rattle.replica_node.proofs.Courses.{done_course}
use Rattle.replica_node.proofs.Steps.{ComesTo}

module _ (plan : PlanView) (inputs : List Input) (role : Role) where
  pub dies_come : (p : Phase) (x : Replica) → (mode_in p ≡ mode.Gone → ⊥) → PhaseStands plan inputs (partition_of role) p x
      → (d : Replica × List Envelope) × (replica_dies (partition_of role) x ≡ Ok d)
      × ComesTo plan inputs role (phase.Gone (inc_in p)) ((control_at (partition_of role), body.Down (inc_in p)) ∷ []) d
  dies_come (phase.Running r) (numbers.Running x) there stands = (_, refl, record { stands = stands.inc; packets = ((refl, stands.inc), tt) })
  dies_come (phase.Gathering g) (numbers.Gathering x) there stands = (_, refl, record { stands = stands.inc; packets = ((refl, stands.inc), tt) })
  dies_come (phase.Gone inc) x there stands = absurd (there refl)
  dies_come (phase.Running r) (numbers.Gathering x) there stands = absurd stands
  dies_come (phase.Running r) (Gone own) there stands = absurd stands
  dies_come (phase.Gathering g) (numbers.Running x) there stands = absurd stands
  dies_come (phase.Gathering g) (Gone own) there stands = absurd stands

  pub stops_come : (p : Phase) (x : Replica) → mode_in p ≡ mode.Running → PhaseStands plan inputs (partition_of role) p x
      → (d : Replica × List Envelope) × (replica_asks (partition_of role) (λ i. AskStop i) x ≡ Ok d)
      × ComesTo plan inputs role p ((control_at (partition_of role), body.AskStop (inc_in p)) ∷ []) d
  stops_come (phase.Running r) (numbers.Running x) runs stands = (_, refl, record { stands = stands; packets = ((refl, stands.inc), tt) })
  stops_come (phase.Running r) (numbers.Gathering x) runs stands = absurd stands
  stops_come (phase.Running r) (Gone own) runs stands = absurd stands
  stops_come (phase.Gathering g) x runs stands = let z : ⊥ = cc runs in absurd z
  stops_come (phase.Gone inc) x runs stands = let z : ⊥ = cc runs in absurd z

  pub backs_come : (p : Phase) (x : Replica) → mode_in p ≡ mode.Running → PhaseStands plan inputs (partition_of role) p x
      → (d : Replica × List Envelope) × (replica_asks (partition_of role) (λ i. AskBack) x ≡ Ok d)
      × ComesTo plan inputs role p ((control_at (partition_of role), body.AskBack) ∷ []) d
  backs_come (phase.Running r) (numbers.Running x) runs stands = (_, refl, record { stands = stands; packets = ((refl, tt), tt) })
  backs_come (phase.Running r) (numbers.Gathering x) runs stands = absurd stands
  backs_come (phase.Running r) (Gone own) runs stands = absurd stands
  backs_come (phase.Gathering g) x runs stands = let z : ⊥ = cc runs in absurd z
  backs_come (phase.Gone inc) x runs stands = let z : ⊥ = cc runs in absurd z

-- ---- in a course

pub kill_course : (old new : ReplicaView) → new ≡ dying old → (mode_in old.phase ≡ mode.Gone → ⊥) → (plan : PlanView) (inputs : List Input)
    → IsDone plan inputs old new (down_sent old) (event.Kill (node_of old.role))
kill_course old new is there plan inputs =
    subst (λ (v : ReplicaView). IsDone plan inputs old v (down_sent old) (event.Kill (node_of old.role))) (sym is)
    (done_course plan inputs old (dying old) refl (down_sent old) (event.Kill (node_of old.role)) Dies (λ a e. e) (λ x of stands bound. dies_come plan inputs old.role old.phase x there stands))

pub stop_course : (v : ReplicaView) → mode_in v.phase ≡ mode.Running → (plan : PlanView) (inputs : List Input)
    → IsDone plan inputs v v (stop_asked v) (event.AskStop (node_of v.role))
stop_course v runs plan inputs =
    done_course plan inputs v v refl (stop_asked v) (event.AskStop (node_of v.role)) AsksStop (λ a e. e) (λ x of stands bound. stops_come plan inputs v.role v.phase x runs stands)

pub back_course : (v : ReplicaView) → mode_in v.phase ≡ mode.Running → (plan : PlanView) (inputs : List Input)
    → IsDone plan inputs v v (back_asked v) (event.AskBack (partner_of v.role))
back_course v runs plan inputs =
    done_course plan inputs v v refl (back_asked v) (event.AskBack (partner_of v.role)) AsksBack (λ a e. e) (λ x of stands bound. backs_come plan inputs v.role v.phase x runs stands)
