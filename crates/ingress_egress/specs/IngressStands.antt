-- What ingress and its packets stand for in the machine.
use mathlib.Core.List.{IsPrefix}
use Rattle.std.specs.Prelude.{◌≡◌, ◌<◌, ◌≤◌, ℕ, Bool, true, false, List, [], None, Some, Err, length, slice_get}
use Rattle.tuple_edge.specs.Input.{Input}
use Rattle.tuple_edge.specs.Limits.{number_limit}
use Rattle.tuple_edge.specs.declared.event.Event.{Event}
use Rattle.tuple_edge.specs.declared.event.Event.TheVariants as event
use Rattle.tuple_edge.specs.declared.event.Worked.{Worked}
use Rattle.tuple_edge.specs.declared.event.Worked.TheVariants as worked
use Rattle.tuple_edge.specs.declared.node.NodeId.{NodeId}
use Rattle.tuple_edge.specs.declared.node.NodeId.TheVariants as node
use Rattle.tuple_edge.specs.declared.packet.Body.{Body}
use Rattle.tuple_edge.specs.declared.packet.Body.TheVariants as body
use Rattle.plan_reader.specs.PlanView.{PlanView}
use Rattle.pair_machine.specs.Asked.{Asks}
use Rattle.pair_machine.specs.Boundary.{ingress_source, source_made}
use Rattle.pair_machine.specs.Contents.{BodyStands}
use Rattle.pair_machine.specs.Counts.{flow_of, items_on}
use Rattle.pair_machine.specs.Courses.{IsStep, packets_to}
use Rattle.pair_machine.specs.Links.{link}
use Rattle.pair_machine.specs.Machine.{does, ingress_in}
use Rattle.pair_machine.specs.Messages.{Act, Makes, Works, NoMoreRows, NothingDue, Refusal}
use Rattle.pair_machine.specs.Numbers.{Node}
use Rattle.node_edges.specs.OutEdges.{ProducerStands}
use Rattle.ingress_egress.specs.IngressView.{HasMadeNext, IngressView, producer_at}

-- the inputs that came are the first of these, and all of them where no more come
abbrev pub AreCome : Bool → List Input → List Input → Type 0
AreCome true came inputs = came ≡ inputs
AreCome false came inputs = IsPrefix came inputs

-- ingress stands for a node's numbers: the inputs that came are the first of the plan's, it has the plan's first stage and mark, and the
-- producer of each source stands for its numbers, where so many items were made as the first makes give
pub record StandsFor (plan : PlanView) (all : List Input) (i : IngressView) (n : Node) : Type 0 where
  pub inputs : AreCome i.ended i.inputs all
  pub first : slice_get plan.stages 0 ≡ Some i.first
  pub mark : i.mark ≡ plan.mark
  pub makes : i.makes ≡ (ingress_in n).makes
  pub sources : length i.producers ≡ plan.version
  pub producers : (q : ℕ) → q < plan.version → ProducerStands (flow_of plan all) (items_on plan all) (ingress_source q) (source_made (flow_of plan all) (ingress_in n) q)
      ((ingress_in n).producers q) (producer_at i q)

-- it is ingress of a plan: it has the plan's first stage, and a producer for each source
pub record IsOfPlan (plan : PlanView) (i : IngressView) : Type 0 where
  pub first : slice_get plan.stages 0 ≡ Some i.first
  pub sources : length i.producers ≡ plan.version

-- ---- steps of a course: whatever message a packet stands for, and whatever clock and place on the link it has

-- to take this packet from a node; nothing is sent
abbrev pub IsTaken : PlanView → List Input → IngressView → IngressView → NodeId → Body → Type 0
IsTaken plan inputs old new from b =
    (at index : ℕ) → IsStep (flow_of plan inputs) (BodyStands plan inputs) (Asks (flow_of plan inputs)) node.Ingress (StandsFor plan inputs old) (StandsFor plan inputs new)
    (event.Take (link from node.Ingress) index) (Some (record { at = at; body = b })) (λ to. [])

-- an event that takes no packet, and sends these
abbrev pub IsDone : PlanView → List Input → IngressView → IngressView → List (NodeId × Body) → Event → Type 0
IsDone plan inputs old new sent e =
    (clock : ℕ) → IsStep (flow_of plan inputs) (BodyStands plan inputs) (Asks (flow_of plan inputs)) node.Ingress (StandsFor plan inputs old) (StandsFor plan inputs new) e None
    (λ to. packets_to clock to sent)

-- an act that the machine refuses
abbrev pub IsRefused : PlanView → List Input → IngressView → Act → Refusal → Type 0
IsRefused plan inputs old a r = (n : Node) → StandsFor plan inputs old n → does (flow_of plan inputs) node.Ingress a n ≡ Err r

-- a piece of work; where there was none, nothing was due
abbrev pub IsWorked : PlanView → List Input → IngressView → IngressView → List (NodeId × Body) → Worked → Type 0
IsWorked plan inputs old new sent worked.Did = IsDone plan inputs old new sent (event.Work node.Ingress)
IsWorked plan inputs old new sent worked.Idle = IsRefused plan inputs old Works NothingDue

-- a make; where there was none and all came, all was made
abbrev pub IsMadeIn : PlanView → List Input → IngressView → IngressView → Worked → Type 0
IsMadeIn plan inputs old new worked.Did = IsDone plan inputs old new [] event.Make
IsMadeIn plan inputs old new worked.Idle = old.ended ≡ true → IsRefused plan inputs old Makes NoMoreRows

-- the next input has come, or, where all came, the end is to be made
abbrev pub IsAtHand : IngressView → Type 0
IsAtHand i = (i.makes ≤ length i.inputs) × (i.ended ≡ false → i.makes < length i.inputs)

-- the next input, or the end, was made into items; there was none where the next one hasn't come, or the end was made already
abbrev pub IsMade : IngressView → IngressView → Worked → Type 0
IsMade old new worked.Did = IsAtHand old × HasMadeNext old new
IsMade old new worked.Idle = (new ≡ old) × (IsAtHand old → ⊥)

-- ---- which packets it may be given

-- an edge leads from a source to this partition of the first stage
abbrev pub IsFor : IngressView → (part stage from to : ℕ) → Type 0
IsFor i part stage from to = (stage ≡ 0) × (from < length i.producers) × (to ≡ part) × (part < i.first.parts)

-- an acknowledgement comes of the controller of a partition of the first stage, a want of a replica of it, for an edge to it
abbrev pub IsAdmitted : IngressView → NodeId → Body → Type 0
IsAdmitted i (node.Control stage part) (body.Ack edge upto) = (stage ≡ 1) × IsFor i part edge.stage edge.from edge.to × (upto < number_limit)
IsAdmitted i (node.Replica stage part which) (body.Want edge number) = (stage ≡ 1) × IsFor i part edge.stage edge.from edge.to
IsAdmitted i from b = ⊥
