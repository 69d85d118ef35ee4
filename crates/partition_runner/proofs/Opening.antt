-- Nodes as they open, and their taps.
use Rattle.std.proofs.Common.{◌≡◌, ◌∙◌, Bool, true, false, List, [], Option, None, Some, refl, subst, sym}
use Rattle.std.specs.Prelude.{IfSome}
use mathlib.Core.List.{IsPrefix}
use Rattle.tuple_edge.specs.Input.{Input}
use Rattle.tuple_edge.specs.declared.node.NodeId.{NodeId}
use Rattle.tuple_edge.specs.declared.node.NodeId.TheVariants as node
use Rattle.tuple_edge.specs.declared.row.Row.{Row}
use Rattle.plan_reader.specs.PlanView.{PlanView}
use Rattle.pair_machine.specs.Machine.{new_node}
use Rattle.run_node.specs.SoundNode.{TapFits}
use Rattle.plan_nodes.specs.States.{Admits, AllCame, IsOfPlan, StandsFor, gone_of, id_of, inputs_in, rows_of}
use Rattle.plan_nodes.specs.declared.state.NodeState.{NodeState}
use Rattle.plan_nodes.specs.declared.state.NodeState.TheVariants as state
use Rattle.partition_runner.specs.Feeds.{HasAll}
use Rattle.partition_runner.specs.Ready.{IsOpening}

-- a node that stands for the opening does so under its own name, and another name of the plan
pub opens : (plan names_plan : PlanView) (s : NodeState) (id : NodeId) → plan ≡ names_plan → id_of s ≡ id → IsOfPlan plan s
    → ((inputs : List Input) → Admits s inputs → StandsFor plan inputs s (new_node id)) → gone_of s ≡ [] → IsOpening names_plan s
opens plan names_plan s id same named of_plan stands gone = record {
  of_plan = subst (λ p. IsOfPlan p s) same of_plan;
  stands = λ inputs may. subst (λ (x : PlanView × NodeId). StandsFor x.0 inputs s (new_node x.1)) (λ j. (same j, sym named j)) (stands inputs may);
  gone = gone;
}

-- a tap that gave on nothing fits a node that handed on nothing
pub fits : {T : Type 0} (lets_go : Bool) (given : T → List Row) (tap : Option T) (s : NodeState) → IfSome tap (λ t. given t ≡ []) → gone_of s ≡ [] → TapFits lets_go given rows_of gone_of tap s
fits lets_go given None s none gone = gone
fits true given (Some t) s none gone = (none ∙ sym gone, subst (λ l. IsPrefix l (rows_of s)) (sym gone) (rows_of s, refl))
fits false given (Some t) s none gone = (gone, subst (λ l. IsPrefix l (rows_of s)) (sym none) (rows_of s, refl))

-- a node that stands for the opening of trades does so of each list of inputs that may be its own, which are none but these
pub opens_on : (plan names_plan : PlanView) (trades : List Input) (s : NodeState) (id : NodeId) → plan ≡ names_plan → id_of s ≡ id → IsOfPlan plan s → StandsFor plan trades s (new_node id)
    → ((inputs : List Input) → Admits s inputs → inputs ≡ trades) → gone_of s ≡ [] → IsOpening names_plan s
opens_on plan names_plan trades s id same named of_plan stands only gone =
    opens plan names_plan s id same named of_plan (λ inputs may. subst (λ l. StandsFor plan l s (new_node id)) (sym (only inputs may)) stands) gone

-- where all inputs came to ingress, these did
pub has_all : (all : List Input) (s : NodeState) → id_of s ≡ node.Ingress → AllCame s → inputs_in s ≡ all → HasAll all s
has_all all (state.Ingress i) id came are = (came, are)
has_all all (state.Replica r) id came are = tt
has_all all (state.Control c) id came are = tt
has_all all (state.Egress e) id came are = tt
