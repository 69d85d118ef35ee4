-- A node as it opens.
use Rattle.std.specs.Prelude.{◌≡◌, Bool, List, [], Option}
use Rattle.tuple_edge.specs.Input.{Input}
use Rattle.tuple_edge.specs.declared.node.NodeId.{NodeId}
use Rattle.tuple_edge.specs.declared.row.Row.{Row}
use Rattle.plan_reader.specs.PlanView.{PlanView}
use Rattle.pair_machine.specs.Lists.{Each}
use Rattle.pair_machine.specs.Machine.{new_node}
use Rattle.pair_machine.specs.Numbers.{Node}
use Rattle.run_node.specs.Ends.{OutLink}
use Rattle.run_node.specs.SoundNode.{TapFits}

-- a node of the plan as it opens, on whose links nothing was sent, with a tap that gave on what it emitted, if anything
pub record IsFresh {A T : Type 0} (lets_go : Bool) (given : T → List Row) (id : A → NodeId) (of : PlanView → A → Type 0) (stands : PlanView → List Input → A → Node → Type 0) (rows gone : A → List Row) (admits : A → List Input → Type 0) (plan : PlanView)
    (state : A) (outs : List OutLink) (tap : Option T) : Type 0 where
  pub of_plan : of plan state
  pub opening : (inputs : List Input) → admits state inputs → stands plan inputs state (new_node (id state))
  pub unsent : Each (λ l. l.emitted ≡ []) outs
  pub gave : TapFits lets_go given rows gone tap state
