-- What is true of a node: whatever it took, its history is a true course within the script, and it stands for the numbers after it.
use Rattle.std.specs.Prelude.{◌≡◌, ◌≤◌, ◌<◌, ◌^◌, ℕ, Bool, List, [], Option, Some, None, IsTrue, true, false}
use Rattle.tuple_edge.specs.Input.{Input}
use Rattle.tuple_edge.specs.declared.event.Event.{Event}
use Rattle.tuple_edge.specs.declared.event.Event.TheVariants as event
use Rattle.tuple_edge.specs.declared.event.Stamped.{Stamped}
use Rattle.tuple_edge.specs.declared.node.NodeId.{NodeId}
use Rattle.tuple_edge.specs.declared.row.Row.{Row}
use Rattle.tuple_edge.specs.Outbox.{OutboxView}
use Rattle.event_log.specs.Views.{LogView}
use Rattle.plan_reader.specs.Nodes.{has_link}
use Rattle.plan_reader.specs.PlanView.{IsPlan, PlanView}
use Rattle.pair_machine.specs.Asked.{Asks}
use Rattle.pair_machine.specs.Contents.{BodyStands}
use Rattle.pair_machine.specs.Counts.{flow_of}
use Rattle.pair_machine.specs.Courses.{Arrivals, IsTrueNode}
use Rattle.pair_machine.specs.Joint.{AreRising}
use Rattle.pair_machine.specs.Links.{HasNode, link}
use Rattle.pair_machine.specs.Lists.{Each}
use Rattle.pair_machine.specs.Numbers.{Node}
use Rattle.pair_machine.specs.Within.{IsWithinScript}
use Rattle.pair_machine.specs.declared.order.Order.{Order}
use Rattle.node_tasks.specs.Timely.{AreTimely}
use Rattle.run_node.specs.Drawn.{IsDrawn}
use Rattle.run_node.specs.Ends.{InLink, OutLink, emitted_to, leads_to}
use Rattle.run_node.specs.Fits.{Fit}
use Rattle.run_node.specs.NodeView.{NodeView}
use Rattle.run_node.specs.declared.fired.Fired.{Fired}

-- what a node's tap gave on fits the rows that it emitted and those that it handed on; without a tap it handed on none
abbrev pub TapFits : {A T : Type 0} → Bool → (T → List Row) → (A → List Row) → (A → List Row) → Option T → A → Type 0
TapFits lets_go given rows gone None state = gone state ≡ []
TapFits lets_go given rows gone (Some t) state = IsDrawn lets_go (given t) (rows state) (gone state)

-- ---- what has happened once

-- no failure, and no request to be stopped
abbrev pub IsNoStop : Event → Type 0
IsNoStop (event.Kill n) = ⊥
IsNoStop (event.AskStop n) = ⊥
IsNoStop e = Unit {0}

-- no request for a partner
abbrev pub IsNoRecall : Event → Type 0
IsNoRecall (event.AskBack n) = ⊥
IsNoRecall e = Unit {0}

-- what is not noted as having happened has not
pub record IsNoted (fired : Fired) (history : List Stamped) : Type 0 where
  pub stopped : fired.stopped ≡ false → Each (λ h. IsNoStop h.event) history
  pub recalled : fired.recalled ≡ false → Each (λ h. IsNoRecall h.event) history

-- ---- the course

-- As far as all that links gave fits what came: the history is a true course, and the node stands for the numbers after it; and the history is
-- within the script.
pub record IsCourse {A : Type 0} (id : A → NodeId) (stands : PlanView → List Input → A → Node → Type 0) (plan : PlanView) (inputs : List Input) (script : List Order)
    (state : A) (outs : List OutLink) (history : List Stamped) (arrived : Arrivals) : Type 0 where
  pub course : IsTrueNode (flow_of plan inputs) (BodyStands plan inputs) (Asks (flow_of plan inputs)) (id state) (stands plan inputs state) arrived (emitted_to outs) history
  pub within : IsWithinScript plan inputs script (id state) arrived (emitted_to outs) history

-- what is true of a node of a plan with this part and these links
pub record IsSoundNode {A : Type 0} (id : A → NodeId) (of_plan : PlanView → A → Type 0) (stands : PlanView → List Input → A → Node → Type 0) (plan : PlanView) (inputs : List Input) (script : List Order)
    (state : A) (ins : List InLink) (outs : List OutLink) (clock : ℕ) (fired : Fired) (history : List Stamped) : Type 0 where
  -- the plan and the inputs are within their limits
  pub planned : IsPlan plan
  pub timely : AreTimely inputs
  -- it is a node of the plan, and has a link for each of the plan's links from it
  pub named : of_plan plan state
  pub there : HasNode (flow_of plan inputs) (id state)
  pub linked : (to : NodeId) → IsTrue (has_link plan (link (id state) to)) → leads_to outs to ≡ true
  -- its clocks rise, up to its own
  pub small : clock < 2 ^ 62
  pub past : Each (λ h. h.clock ≤ clock) history
  pub rises : AreRising history
  pub noted : IsNoted fired history
  -- whatever packets came under their indexes, as far as all that links gave fits
  pub course : (arrived : Arrivals) → Fit arrived ins → IsCourse id stands plan inputs script state outs history arrived

-- what is true of a node's course, whatever packets came under their indexes, as far as all that links gave fits
abbrev pub IsTrueView : {A T : Type 0} → (A → NodeId) → (PlanView → List Input → A → Node → Type 0) → PlanView → List Input → List Order → NodeView A T → Type 0
IsTrueView id stands plan inputs script v = (arrived : Arrivals) → Fit arrived v.ins → IsCourse id stands plan inputs script v.state v.outs v.history arrived

-- ---- the whole node

-- what is true of a node between its events
pub record IsNode {A T : Type 0} (lets_go : Bool) (given : T → List Row) (rows gone : A → List Row) (id : A → NodeId) (of_plan : PlanView → A → Type 0) (stands : PlanView → List Input → A → Node → Type 0) (admits : A → List Input → Type 0) (plan : PlanView) (script : List Order)
    (state : A) (ins : List InLink) (outs : List OutLink) (clock : ℕ) (fired : Fired) (history : LogView) (outbox : OutboxView) (tap : Option T) : Type 0 where
  -- nothing is left to be sent
  pub unsent : outbox.packets ≡ []
  pub gave : TapFits lets_go given rows gone tap state
  -- whatever the inputs are with which all that came begins
  pub sound : (inputs : List Input) → admits state inputs → AreTimely inputs → IsSoundNode id of_plan stands plan inputs script state ins outs clock fired history.entries
  -- the history is its own
  pub own : history.node ≡ id state
