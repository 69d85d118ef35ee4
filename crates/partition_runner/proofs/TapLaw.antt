-- A tap gave on the first rows that egress emitted, and of the output.
use Rattle.std.proofs.Common.{◌≡◌, ◌∙◌, ◌⊎◌, inl, inr, ⊎_elim, Bool, true, false, List, [], ◌∷◌, ◌++◌, length, drop, refl, sym, ap, subst, append_assoc, true≢false}
use Rattle.std.specs.Prelude.{if◌then◌else◌}
use Rattle.std.proofs.lemmas.List.{take-append-drop}
use mathlib.Core.List.{IsPrefix}
use Rattle.tuple_edge.specs.Input.{Input}
use Rattle.tuple_edge.specs.declared.event.Stamped.{Stamped}
use Rattle.tuple_edge.specs.declared.node.NodeId.{NodeId}
use Rattle.tuple_edge.specs.declared.node.NodeId.TheVariants as node
use Rattle.tuple_edge.specs.declared.row.Row.{Row}
use Rattle.event_log.specs.Views.{LogView}
use Rattle.plan_reader.specs.PlanView.{PlanView}
use Rattle.pair_machine.specs.CountLaws.{output_first}
use Rattle.pair_machine.specs.Joint.{AreRising, IsLog, log_by_clocks}
use Rattle.pair_machine.specs.Lists.{Among, Each}
use Rattle.pair_machine.specs.Machine.{egress_in}
use Rattle.pair_machine.specs.Numbers.{Node, is_node}
use Rattle.pair_machine.specs.Output.{output}
use Rattle.pair_machine.specs.declared.order.Order.{Order}
use Rattle.pair_machine.proofs.CountLaws.{in_order}
use Rattle.pair_machine.proofs.Lists.{each_at}
use Rattle.pair_machine.proofs.Logs.{logs_there}
use Rattle.pair_machine.proofs.Names.{is_node-true}
use Rattle.plan_nodes.specs.NodeOrder.{nodes_of}
use Rattle.linked_run.specs.Runs.{IsRun, history_in, ids_in}
use Rattle.plan_nodes.specs.States.{StandsFor, id_of, rows_of}
use Rattle.plan_nodes.specs.declared.state.NodeState.{NodeState}
use Rattle.plan_nodes.specs.declared.state.NodeState.TheVariants as state
use Rattle.plan_nodes.proofs.NodeOrder.{Apart, ids_distinct, nodes_apart}
use Rattle.partition_runner.specs.Parts.{IsLeftOf, nodes_in}
use Rattle.partition_runner.specs.Ran.{emitted_in}
use Rattle.partition_runner.specs.declared.ran.Left.{Left}

pub prefix_more : (xs ys zs : List Row) → IsPrefix xs ys → IsPrefix ys zs → IsPrefix xs zs
prefix_more xs ys zs a b = (a.0 ++ b.0, sym (append_assoc xs a.0 b.0) ∙ (ap (λ l. l ++ b.0) a.1 ∙ b.1))

-- what begins nothing begins everything
of_nothing : (xs ys : List Row) → IsPrefix xs [] → IsPrefix xs ys
of_nothing [] ys h = (ys, refl)
of_nothing (x ∷ xs) ys h = let z : x ∷ (xs ++ h.0) ≡ [] = h.1 in cc

-- a log of the histories is there
rising_in : (ps : List (NodeState × List Stamped)) (n : NodeId) → Each (λ (p : NodeState × List Stamped). AreRising p.1) ps → AreRising (history_in id_of ps n)
rising_in [] n h = tt
rising_in (p ∷ ps) n h = go (is_node (id_of p.0) n) (rising_in ps n h.1)
  where
    go : (b : Bool) → AreRising (history_in id_of ps n) → AreRising (if b then p.1 else history_in id_of ps n)
    go true rest = h.0
    go false rest = rest

none_in : (ps : List (NodeState × List Stamped)) (n : NodeId) → (Among n (ids_in id_of ps) → ⊥) → history_in id_of ps n ≡ []
none_in [] n h = refl
none_in (p ∷ ps) n h = go (is_node (id_of p.0) n) (is_node-true (id_of p.0) n) (none_in ps n (λ a. h (inr a)))
  where
    go : (b : Bool) → (b ≡ true → id_of p.0 ≡ n) → history_in id_of ps n ≡ [] → (if b then p.1 else history_in id_of ps n) ≡ []
    go true is rest = absurd (h (inl (sym (is refl))))
    go false is rest = rest

module _ (plan : PlanView) (inputs : List Input) (script : List Order) (parts : List (NodeState × List Stamped)) (r : IsRun id_of StandsFor plan inputs script (nodes_of plan) parts) where
  parts_apart : Apart (ids_in id_of parts)
  parts_apart = subst Apart (sym r.nodes) (nodes_apart plan)

  log_there : IsLog (history_in id_of parts) (log_by_clocks (history_in id_of parts) (ids_in id_of parts))
  log_there = logs_there (ids_in id_of parts) (history_in id_of parts) (record {
    distinct = ids_distinct (ids_in id_of parts) parts_apart;
    rising = λ n. rising_in parts n r.rising;
    others = λ n a. none_in parts n a;
  })

  -- the rows of each part are the first of the output
  rows_front : (s : NodeState) (x : Node) → StandsFor plan inputs s x → IsPrefix (rows_of s) (output plan inputs)
  rows_front (state.Ingress i) x h = (output plan inputs, refl)
  rows_front (state.Replica v) x h = (output plan inputs, refl)
  rows_front (state.Control c) x h = (output plan inputs, refl)
  rows_front (state.Egress e) x h =
      let first = output_first plan inputs (egress_in x).count in
      let front = (in_order plan inputs).front (egress_in x).count in
      subst (λ l. IsPrefix l (output plan inputs)) (sym h.emitted)
      (drop (length first) (output plan inputs), ap (λ l. l ++ drop (length first) (output plan inputs)) front ∙ take-append-drop (length first) (output plan inputs))

  pub tap_of_output : (given : List Row) (p : NodeState × List Stamped) → Among p parts → IsPrefix given (rows_of p.0) → IsPrefix given (output plan inputs)
  tap_of_output given p among front =
      let q = r.joint (log_by_clocks (history_in id_of parts) (ids_in id_of parts)) log_there in
      prefix_more given (rows_of p.0) (output plan inputs) front
      (rows_front p.0 (q.reached.nodes (id_of p.0)) (each_at (λ (k : NodeState × List Stamped). StandsFor plan inputs k.0 (q.reached.nodes (id_of k.0))) p parts among q.stand))

  among_ids : (p : NodeState × List Stamped) (ps : List (NodeState × List Stamped)) → Among p ps → Among (id_of p.0) (ids_in id_of ps)
  among_ids p [] a = a
  among_ids p (k ∷ ps) a = ⊎_elim (λ (e : p ≡ k). inl (ap (λ (x : NodeState × List Stamped). id_of x.0) e)) (λ later. inr (among_ids p ps later)) a

  -- another node than egress emits nothing
  no_rows : (s : NodeState) → (id_of s ≡ node.Egress → ⊥) → rows_of s ≡ []
  no_rows (state.Ingress i) other = refl
  no_rows (state.Replica r) other = refl
  no_rows (state.Control c) other = refl
  no_rows (state.Egress e) other = absurd (other refl)

  nothing_given : (given rows : List Row) (s : NodeState) → IsPrefix given (rows_of s) → (id_of s ≡ node.Egress → ⊥) → IsPrefix given rows
  nothing_given given rows s front other = of_nothing given rows (subst (IsPrefix given) (no_rows s other) front)

  -- what begins the rows of one of these nodes, of which no two have one name, begins those of egress
  tap_of_nodes : (given : List Row) (p : NodeState × List Stamped) (ps : List (NodeState × List Stamped)) → Apart (ids_in id_of ps) → Among p ps → IsPrefix given (rows_of p.0) → IsPrefix given (emitted_in (nodes_in ps))
  tap_of_nodes given p [] apart among front = absurd among
  tap_of_nodes given p (k ∷ ps) apart among front = go (is_node (id_of k.0) node.Egress) refl among (λ later. tap_of_nodes given p ps apart.1 later front)
    where
      go : (b : Bool) → is_node (id_of k.0) node.Egress ≡ b → (p ≡ k) ⊎ Among p ps → (Among p ps → IsPrefix given (emitted_in (nodes_in ps))) → IsPrefix given (if b then rows_of k.0 else emitted_in (nodes_in ps))
      go true e (inl same) rest = subst (λ (x : NodeState × List Stamped). IsPrefix given (rows_of x.0)) same front
      go true e (inr later) rest = nothing_given given (rows_of k.0) p.0 front (λ is. true≢false (sym (ap (is_node (id_of k.0)) is ∙ e) ∙ each_at (λ m. is_node (id_of k.0) m ≡ false) (id_of p.0) (ids_in id_of ps) (among_ids p ps later) apart.0))
      go false e (inl same) rest = nothing_given given (emitted_in (nodes_in ps)) p.0 front
          (λ is. true≢false (sym (ap (λ n. is_node n node.Egress) (sym (ap (λ (x : NodeState × List Stamped). id_of x.0) same) ∙ is)) ∙ e))
      go false e (inr later) rest = rest later

  pub tap_of_left : {K : Type 0} (kept : K → LogView) (given : List Row) (p : NodeState × List Stamped) → Among p parts → IsPrefix given (rows_of p.0) → (left : Left K) → IsLeftOf kept parts left
      → IsPrefix given (emitted_in left.nodes.items)
  tap_of_left kept given p among front left of_parts = subst (λ ns. IsPrefix given (emitted_in ns)) (sym of_parts.nodes) (tap_of_nodes given p parts parts_apart among front)
