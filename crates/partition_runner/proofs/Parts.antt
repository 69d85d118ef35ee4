-- What is left of the parts of a run is what a run promises.
use Rattle.std.proofs.Common.{◌≡◌, ◌∙◌, List, [], ◌∷◌, ◌++◌, map, refl, sym, ap, subst}
use Rattle.std.specs.Prelude.{if◌then◌else◌}
use Rattle.tuple_edge.specs.Input.{Input}
use Rattle.event_log.specs.Views.{LogView}
use Rattle.tuple_edge.specs.declared.event.Stamped.{Stamped}
use Rattle.tuple_edge.specs.declared.node.NodeId.{NodeId}
use Rattle.plan_reader.specs.PlanView.{PlanView}
use Rattle.pair_machine.specs.Joint.{AreDistinct}
use Rattle.pair_machine.specs.Lists.{Each}
use Rattle.pair_machine.specs.Machine.{State}
use Rattle.pair_machine.specs.Numbers.{is_node}
use Rattle.pair_machine.specs.declared.order.Order.{Order}
use Rattle.plan_nodes.specs.NodeOrder.{nodes_of}
use Rattle.plan_nodes.specs.States.{AllCame, StandsFor, gone_of, id_of}
use Rattle.plan_nodes.specs.declared.state.NodeState.{NodeState}
use Rattle.plan_nodes.proofs.NodeOrder.{ids_distinct, nodes_apart}
use Rattle.linked_run.specs.Runs.{IsRun, history_in, ids_in}
use Rattle.partition_runner.specs.Parts.{IsLeftOf, named_kept, nodes_in}
use Rattle.partition_runner.specs.Ran.{AllStand, IsLegalCourse, IsLegalKept, history_among}
use Rattle.partition_runner.specs.declared.ran.Left.{Left}
use Rattle.partition_runner.proofs.Kept.{course_kept}

-- ---- one part more

map_more : {X Y : Type 0} (f : X → Y) (xs : List X) (x : X) → map f (xs ++ x ∷ []) ≡ map f xs ++ f x ∷ []
map_more f [] x = refl
map_more f (y ∷ xs) x = ap (λ l. f y ∷ l) (map_more f xs x)

pub more_left : {K : Type 0} (kept : K → LogView) (parts : List (NodeState × List Stamped)) (before after : Left K) (s : NodeState) (log : K) → IsLeftOf kept parts before → after.nodes.items ≡ before.nodes.items ++ s ∷ []
    → after.logs.items ≡ before.logs.items ++ log ∷ [] → (kept log).node ≡ id_of s → IsLeftOf kept (parts ++ (s, (kept log).entries) ∷ []) after
more_left {K} kept parts before after s log old nodes logs named =
    let last : ◌≡◌ {A = NodeId × List Stamped} ((kept log).node, (kept log).entries) (id_of s, (kept log).entries) = λ i. (named i, (kept log).entries) in
    record {
      nodes = nodes ∙ (ap (λ l. l ++ s ∷ []) old.nodes ∙ sym (map_more (λ (p : NodeState × List Stamped). p.0) parts (s, (kept log).entries)));
      logs = ap (named_kept kept) logs ∙ (map_more (λ (l : K). ((kept l).node, (kept l).entries)) before.logs.items log
          ∙ ((λ i. old.logs i ++ last i ∷ []) ∙ sym (map_more (λ (p : NodeState × List Stamped). (id_of p.0, p.1)) parts (s, (kept log).entries))));
    }

-- ---- nodes and histories apart

nodes_named : (ps : List (NodeState × List Stamped)) → map id_of (nodes_in ps) ≡ ids_in id_of ps
nodes_named [] = refl
nodes_named (p ∷ ps) = ap (λ ns. id_of p.0 ∷ ns) (nodes_named ps)

history_of_part : (ps : List (NodeState × List Stamped)) (n : NodeId) → history_among (λ (p : NodeState × List Stamped). id_of p.0) (λ (p : NodeState × List Stamped). p.1) ps n ≡ history_in id_of ps n
history_of_part [] n = refl
history_of_part (p ∷ ps) n = ap (λ h. if is_node (id_of p.0) n then p.1 else h) (history_of_part ps n)

module _ (plan : PlanView) (inputs : List Input) (script : List Order) where
  nodes_stand : (s : State) (ps : List (NodeState × List Stamped)) → Each (λ (p : NodeState × List Stamped). StandsFor plan inputs p.0 (s.nodes (id_of p.0))) ps → AllStand plan inputs script (nodes_in ps) s
  nodes_stand s [] h = tt
  nodes_stand s (p ∷ ps) h = (h.0, nodes_stand s ps h.1)

  course_of_parts : (ps : List (NodeState × List Stamped)) → IsRun id_of StandsFor plan inputs script (nodes_of plan) ps
      → IsLegalCourse plan inputs script (λ (p : NodeState × List Stamped). id_of p.0) (λ (p : NodeState × List Stamped). p.1) (nodes_in ps) ps
  course_of_parts ps r = record {
    histories = r.nodes;
    distinct = subst AreDistinct (sym r.nodes) (ids_distinct (nodes_of plan) (nodes_apart plan));
    rising = r.rising;
    nodes_are = nodes_named ps ∙ r.nodes;
    joint = λ log l.
        let q = r.joint log (record { in_order = l.in_order; whole = λ n. l.whole n ∙ history_of_part ps n }) in
        record { reached = q.reached; legal = q.legal; within = q.within; stand = nodes_stand q.reached ps q.stand };
  }

  nodes_hold : (ps : List (NodeState × List Stamped)) → Each (λ (p : NodeState × List Stamped). gone_of p.0 ≡ []) ps → Each (λ n. gone_of n ≡ []) (nodes_in ps)
  nodes_hold [] held = tt
  nodes_hold (p ∷ ps) held = (held.0, nodes_hold ps held.1)

  pub course_left : {K : Type 0} (kept : K → LogView) (ps : List (NodeState × List Stamped)) (left : Left K) → IsRun id_of StandsFor plan inputs script (nodes_of plan) ps → IsLeftOf kept ps left
      → IsLegalCourse plan inputs script (λ (l : K). (kept l).node) (λ (l : K). (kept l).entries) left.nodes.items left.logs.items
  course_left {K} kept ps left r of_parts = subst (λ ns. IsLegalCourse plan inputs script (λ (l : K). (kept l).node) (λ (l : K). (kept l).entries) ns left.logs.items) (sym of_parts.nodes)
      (course_kept (λ (l : K). (kept l).node) (λ (l : K). (kept l).entries) (λ (p : NodeState × List Stamped). id_of p.0) (λ (p : NodeState × List Stamped). p.1) plan inputs script (nodes_in ps) left.logs.items ps of_parts.logs
      (course_of_parts ps r))

  pub legal_left : {K : Type 0} (kept : K → LogView) (ps : List (NodeState × List Stamped)) (left : Left K) → IsRun id_of StandsFor plan inputs script (nodes_of plan) ps
      → Each (λ (p : NodeState × List Stamped). gone_of p.0 ≡ []) ps → IsLeftOf kept ps left → Each AllCame left.nodes.items → IsLegalKept kept plan inputs script left
  legal_left kept ps left r held of_parts came = record {
    course = course_left kept ps left r of_parts;
    came = came;
    held = subst (Each (λ n. gone_of n ≡ [])) (sym of_parts.nodes) (nodes_hold ps held);
  }
