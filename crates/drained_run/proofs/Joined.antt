-- What the threads leave, in one list: the merged events lead to a state of the machine, and a core made of the nodes stands for a state with the
-- same nodes, from which the drain may begin.
use Rattle.std.proofs.Common.{◌≡◌, ◌∙◌, ◌∷◌, List, [], map, refl, sym, ap, subst}
use Rattle.tuple_edge.specs.Input.{Input}
use Rattle.tuple_edge.specs.declared.event.Event.{Event}
use Rattle.tuple_edge.specs.declared.event.Stamped.{Stamped}
use Rattle.tuple_edge.specs.declared.node.NodeId.{NodeId}
use Rattle.event_log.specs.Views.{LogView}
use Rattle.plan_reader.specs.PlanView.{IsPlan, PlanView}
use Rattle.pair_machine.specs.Counts.{flow_of}
use Rattle.pair_machine.specs.Drain.{IsDrainable}
use Rattle.pair_machine.specs.Flow.{Flow}
use Rattle.pair_machine.specs.Lists.{Among}
use Rattle.pair_machine.specs.Machine.{State}
use Rattle.pair_machine.specs.Sound.{IsSound}
use Rattle.pair_machine.specs.declared.order.Order.{Order}
use Rattle.pair_machine.proofs.DrainAfter.{sound_drains}
use Rattle.pair_machine.proofs.PlanFlow.{plan_is_flow}
use Rattle.pair_machine.proofs.PlanNodes.{nodes_named}
use Rattle.pair_machine.proofs.SoundKept.{opening_sound, sound_run}
use Rattle.pair_machine.proofs.StepTurns.{HoldsOnOk}
use Rattle.journal_writer.specs.Merged.{AreAscending, AreMergeable, Named, merged, merged_events}
use Rattle.plan_nodes.specs.States.{StandsFor as NodeStands, id_of}
use Rattle.plan_nodes.specs.declared.state.NodeState.{NodeState}
use Rattle.plan_nodes.proofs.NodeOrder.{all_there}
use Rattle.flux_core.specs.CoreView.{CoreView, inputs_of, standing}
use Rattle.flux_core.specs.Opening.{bare_core}
use Rattle.flux_core.specs.Stands.{IsGiven, StandsFor, StationStands}
use Rattle.flux_core.proofs.Contents.{id_contents, stands_in}
use Rattle.partition_runner.specs.Parts.{named_kept}
use Rattle.partition_runner.specs.Ran.{IsLegalCourse, IsLegalKept, ReachesNodes}
use Rattle.partition_runner.specs.declared.ran.Left.{Left}
use Rattle.partition_runner.proofs.Kept.{course_kept}
use Rattle.drained_run.proofs.Ascending.{nodes_ascend}
use Rattle.drained_run.proofs.Logs.{is_log}
use Rattle.drained_run.proofs.Nodes.{find}

-- ---- however histories are kept

-- what the threads leave: the nodes, and the history of each with its name
pub record Ran : Type 0 where
  pub nodes : List NodeState
  pub logs : List Named

-- what a run promises of that, whether more inputs may come or not, and whether its rows were handed on or not
abbrev pub IsLegalRan : PlanView → List Input → List Order → Ran → Type 0
IsLegalRan plan inputs script ran = IsLegalCourse plan inputs script (λ (l : Named). l.0) (λ (l : Named). l.1) ran.nodes ran.logs

abbrev pub ran_of : {K : Type 0} → (K → LogView) → Left K → Ran
ran_of kept left = record { nodes = left.nodes.items; logs = named_kept kept left.logs.items }

named_same : {K : Type 0} (kept : K → LogView) (logs : List K) → map {B = NodeId × List Stamped} (λ (l : Named). (l.0, l.1)) (named_kept kept logs) ≡ named_kept kept logs
named_same kept [] = refl
named_same kept (l ∷ logs) = ap (λ ls. ((kept l).node, (kept l).entries) ∷ ls) (named_same kept logs)

pub course_ran : {K : Type 0} (kept : K → LogView) (plan : PlanView) (inputs : List Input) (script : List Order) (left : Left K)
    → IsLegalCourse plan inputs script (λ (l : K). (kept l).node) (λ (l : K). (kept l).entries) left.nodes.items left.logs.items → IsLegalRan plan inputs script (ran_of kept left)
course_ran {K} kept plan inputs script left course =
    course_kept (λ (l : Named). l.0) (λ (l : Named). l.1) (λ (l : K). (kept l).node) (λ (l : K). (kept l).entries) plan inputs script left.nodes.items (named_kept kept left.logs.items) left.logs.items
    (named_same kept left.logs.items) course

pub legal_ran : {K : Type 0} (kept : K → LogView) (plan : PlanView) (inputs : List Input) (script : List Order) (left : Left K) → IsLegalKept kept plan inputs script left → IsLegalRan plan inputs script (ran_of kept left)
legal_ran kept plan inputs script left run = course_ran kept plan inputs script left run.course

-- ---- one log

pub mergeable : (plan : PlanView) (inputs : List Input) (script : List Order) (ran : Ran) → IsLegalRan plan inputs script ran → AreMergeable ran.logs
mergeable plan inputs script ran run = record { ascending = subst AreAscending (sym run.histories) (nodes_ascend plan); rising = run.rising }

-- the events of all nodes in one list
abbrev pub events_of : Ran → List Event
events_of ran = merged_events ran.logs

pub reaches : (plan : PlanView) (inputs : List Input) (script : List Order) (ran : Ran) → IsLegalRan plan inputs script ran → ReachesNodes plan inputs script ran.nodes (merged ran.logs)
reaches plan inputs script ran run = run.joint (merged ran.logs) (is_log ran.logs run.distinct run.rising)

-- ---- a core of the nodes

module _ (plan : PlanView) (script : List Order) (ran : Ran) (limits : IsPlan plan) (run : IsLegalRan plan (inputs_of (bare_core plan ran.nodes)) script ran) where
  abbrev pub bare : CoreView
  bare = bare_core plan ran.nodes

  abbrev pub inputs : List Input
  inputs = inputs_of bare

  abbrev pub run_flow : Flow
  run_flow = flow_of plan inputs

  abbrev pub reached : ReachesNodes plan inputs script ran.nodes (merged ran.logs)
  reached = reaches plan inputs script ran run

  -- the nodes as they stand, and empty links
  abbrev pub left : State
  left = record { nodes = reached.reached.nodes; sent = λ l. [] }

  pub stands : StandsFor bare left
  stands n has =
      let there : Among n (map id_of ran.nodes) = subst (Among n) (sym run.nodes_are) (all_there plan n ((nodes_named plan inputs n).named has)) in
      let f = find (λ s. NodeStands plan inputs s (left.nodes (id_of s))) n ran.nodes there reached.stand in
      let holds : NodeStands plan inputs f.one (left.nodes n) = subst (λ m. NodeStands plan inputs f.one (left.nodes m)) f.named f.holds in
      subst (λ o. StationStands plan inputs n (standing o) left) (sym f.there)
      (record { content = (id_contents f.one ∙ f.named, stands_in plan inputs f.one (left.nodes n) holds); sent = λ to. tt })

  -- ---- from which the drain may begin

  pub sound : IsSound run_flow reached.reached
  sound = subst (HoldsOnOk (IsSound run_flow)) reached.legal.leads
      (sound_run run_flow (plan_is_flow plan inputs limits) (events_of ran) _ reached.legal.there (opening_sound run_flow (plan_is_flow plan inputs limits)))

  pub drainable : IsDrainable run_flow left
  drainable = let d = sound_drains plan inputs limits reached.reached sound in
      record { owed = record { ingress = d.owed.ingress; producers = d.owed.producers; consumers = d.owed.consumers; egress = d.owed.egress }; within = d.within }

  pub given_here : IsGiven bare
  given_here = record { state = left; drainable = drainable; stands = stands }
