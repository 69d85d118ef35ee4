-- A node keeps that its history is within a script: at first, and by one more event that its numbers let happen.
use Rattle.std.proofs.Common.{◌≡◌, ◌<◌, List, [], ◌∷◌, ◌++◌, None}
use Rattle.tuple_edge.specs.Input.{Input}
use Rattle.tuple_edge.specs.declared.event.Stamped.{Stamped}
use Rattle.tuple_edge.specs.declared.node.NodeId.{NodeId}
use Rattle.tuple_edge.specs.declared.packet.Packet.{Packet}
use Rattle.plan_reader.specs.PlanView.{PlanView}
use Rattle.pair_machine.specs.Asked.{Asks}
use Rattle.pair_machine.specs.Contents.{BodyStands}
use Rattle.pair_machine.specs.Counts.{flow_of}
use Rattle.pair_machine.specs.Courses.{Arrivals, IsStep, IsTrueNode, Moment, TookBefore, onto, taken_at}
use Rattle.pair_machine.specs.Links.{IsThere}
use Rattle.pair_machine.specs.Lists.{Each}
use Rattle.pair_machine.specs.Machine.{at_node}
use Rattle.pair_machine.specs.Numbers.{Node}
use Rattle.pair_machine.specs.Scripts.{DoesNotRepeat, HappenOnce, IsAllowedAt}
use Rattle.pair_machine.specs.Within.{IsWithinScript, history_events}
use Rattle.pair_machine.specs.declared.order.Order.{Order}
use Rattle.pair_machine.proofs.CourseKept.{Extends, one_more_met}

some_left : (pre : List Moment) (m : Moment) (post : List Moment) → onto pre (m ∷ post) ≡ [] → ⊥
some_left [] m post e = cc
some_left (x ∷ pre) m post e = some_left pre x (m ∷ post) e

pub new_within : (plan : PlanView) (inputs : List Input) (script : List Order) (n : NodeId) → IsWithinScript plan inputs script n (λ k j. None) (λ k. []) []
new_within plan inputs script n = record { allowed = λ before m later e acts af aa. absurd (some_left before m later e); once = tt }

once_more : (hs : List Stamped) (h : Stamped) → Each (λ g. DoesNotRepeat g.event h.event) hs → HappenOnce (history_events hs) → HappenOnce (history_events (hs ++ h ∷ []))
once_more [] h new old = (tt, tt)
once_more (x ∷ hs) h new old = (later hs old.0, once_more hs h new.1 old.1)
  where
    later : (gs : List Stamped) → Each (DoesNotRepeat x.event) (history_events gs) → Each (DoesNotRepeat x.event) (history_events (gs ++ h ∷ []))
    later [] old = (new.0, tt)
    later (g ∷ gs) old = (old.0, later gs old.1)

-- the new event is allowed at whatever numbers the node stands for, and no failure or request of the history is it
pub one_more_within : (plan : PlanView) (inputs : List Input) (script : List Order) (n : NodeId) (P P_after : Node → Type 0)
    (arrived arrived_after : Arrivals) → Extends arrived arrived_after → (sent new : NodeId → List Packet) (history : List Stamped) (h : Stamped) →
    IsTrueNode (flow_of plan inputs) (BodyStands plan inputs) (Asks (flow_of plan inputs)) n P arrived sent history →
    Each (λ g. g.clock < h.clock) history → at_node h.event ≡ n → IsThere (flow_of plan inputs) h.event → TookBefore h.clock h.event (taken_at arrived_after h.event) →
    ((to : NodeId) → Each (λ p. p.at ≡ h.clock) (new to)) →
    IsStep (flow_of plan inputs) (BodyStands plan inputs) (Asks (flow_of plan inputs)) n P P_after h.event (taken_at arrived_after h.event) new →
    IsWithinScript plan inputs script n arrived sent history → ((x : Node) → P x → IsAllowedAt script h.event x) → Each (λ g. DoesNotRepeat g.event h.event) history →
    IsWithinScript plan inputs script n arrived_after (λ k. sent k ++ new k) (history ++ h ∷ [])
one_more_within plan inputs script n P P_after arrived arrived_after extends sent new history h old clocks at there took stamped stepped within allowed once = record {
  allowed = one_more_met (flow_of plan inputs) (BodyStands plan inputs) (Asks (flow_of plan inputs)) n P P_after arrived arrived_after extends sent new history h old clocks at there took stamped stepped
      (IsAllowedAt script) within.allowed allowed;
  once = once_more history h once within.once;
}
