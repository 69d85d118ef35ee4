-- The merged events and the drain of what the threads left are how a run ends.
use Rattle.std.proofs.Common.{◌≡◌, ◌∙◌, ◌≤◌, ◌++◌, false, List, [], inl, map, refl, sym, ap, subst}
use Rattle.std.proofs.lemmas.List.{append-nil}
use Rattle.tuple_edge.specs.Input.{Input}
use Rattle.tuple_edge.specs.declared.event.Drained.{Drained}
use Rattle.tuple_edge.specs.declared.event.Drained.TheVariants as drained
use Rattle.tuple_edge.specs.declared.event.Event.{Event}
use Rattle.tuple_edge.specs.declared.node.LinkId.{LinkId}
use Rattle.tuple_edge.specs.declared.node.NodeId.{NodeId}
use Rattle.tuple_edge.specs.declared.node.NodeId.TheVariants as node
use Rattle.plan_reader.specs.PlanView.{IsPlan, PlanView}
use Rattle.pair_machine.specs.CountLaws.{output_first}
use Rattle.pair_machine.specs.Counts.{flow_of}
use Rattle.pair_machine.specs.Drain.{IsFirstLost, drain, pairs_up_to, partition}
use Rattle.pair_machine.specs.Legal.{IsLegal}
use Rattle.pair_machine.specs.Lists.{Among, Each}
use Rattle.pair_machine.specs.Machine.{State, egress_in}
use Rattle.pair_machine.specs.Messages.{Message}
use Rattle.pair_machine.specs.Numbers.{Node, Partition}
use Rattle.pair_machine.specs.Output.{output}
use Rattle.pair_machine.specs.Scripts.{AreWithin}
use Rattle.pair_machine.specs.Sound.{IsServed}
use Rattle.pair_machine.specs.declared.order.Order.{Order}
use Rattle.pair_machine.proofs.CountLaws.{in_order}
use Rattle.pair_machine.proofs.DrainWhole.{drains_free}
use Rattle.pair_machine.proofs.Journal.{journals_go_on, with_sent}
use Rattle.pair_machine.proofs.Legal.{at_the_end}
use Rattle.pair_machine.proofs.Lists.{among_last}
use Rattle.pair_machine.proofs.MachineLaws.{plan_owed, plan_safe}
use Rattle.ingress_egress.specs.EgressView.{IsFrontOf}
use Rattle.plan_nodes.specs.States.{AllCame, StandsFor as NodeStands, gone_of, id_of}
use Rattle.plan_nodes.specs.NodeOrder.{nodes_before_egress, nodes_of}
use Rattle.plan_nodes.specs.declared.state.NodeState.{NodeState}
use Rattle.flux_core.specs.CoreView.{CoreView, HasItsInputs, emitted_by, gone_by, inputs_at, inputs_of, standing, station}
use Rattle.flux_core.specs.Opening.{bare_core}
use Rattle.flux_core.specs.Stands.{IsGiven}
use Rattle.flux_core.proofs.Contents.{inputs_contents}
use Rattle.flux_core.proofs.Opened.{have_come, none_gone_by}
use Rattle.core_drain.specs.Drained.{IsDrained, IsDrainedFrom, IsLost, IsWhole}
use Rattle.drained_run.specs.Ended.{EndsSo, IsLostAt, IsRun, rows_at}
use Rattle.drained_run.specs.Ended as ended
use Rattle.drained_run.proofs.Joined.{IsLegalRan, Ran, bare, drainable, events_of, given_here, left, reached, reaches, stands}
use Rattle.drained_run.proofs.Nodes.{both, emitted_stand, find, inputs_stand}

-- legal events within a script lead to the state that they reach
leads : (plan : PlanView) (inputs : List Input) (script : List Order) → IsPlan plan → (events : List Event) (s : State) → IsLegal (flow_of plan inputs) events s → AreWithin (flow_of plan inputs) script events
    → IsRun plan inputs script events s
leads plan inputs script limits events s legal within = record { legal = legal; within = within; owed = plan_owed plan inputs limits events s legal }

-- which pair is the first lost one is a matter of the nodes alone
same_lost : (nodes : NodeId → Node) (one another : LinkId → List Message) (pairs : List Partition) (p : Partition) → IsFirstLost (with_sent nodes one) pairs p → IsFirstLost (with_sent nodes another) pairs p
same_lost nodes one another pairs p h = record { before = h.before; after = h.after; whole = h.whole; served = h.served; lost = h.lost }

-- ---- a drain lists its events behind those that stood there, whatever they are

behind_from : (old new : CoreView) (es after : List Event) (s : State) → IsDrainedFrom old new [] after s → IsDrainedFrom old new es (es ++ after) s
behind_from old new es after s d =
    let w = d.went in
    record { may = d.may; went = record { appended = ap (λ xs. es ++ xs) w.appended; reached = w.reached; legal = w.legal; quiet = w.quiet; stands = w.stands }; done = d.done }

behind : (old new : CoreView) (es after : List Event) (d : Drained) → IsDrained old new [] after d → IsDrained old new es (es ++ after) d
behind old new es after drained.Whole w = record { drained = λ s stands may. behind_from old new es after s (w.drained s stands may); rows = w.rows }
behind old new es after (drained.Lost stage part) l = record { lost = l.lost; unchanged = l.unchanged; no_event = ap (λ xs. es ++ xs) l.no_event ∙ append-nil es }

module _ (plan : PlanView) (script : List Order) (ran : Ran) (limits : IsPlan plan) (run : IsLegalRan plan (inputs_of (bare_core plan ran.nodes)) script ran) (core : CoreView) (after : List Event)
    (same_plan : core.plan ≡ plan) (same_inputs : inputs_of core ≡ inputs_of (bare_core plan ran.nodes)) where
  abbrev inputs : List Input
  inputs = inputs_of (bare_core plan ran.nodes)

  abbrev start : CoreView
  start = bare plan script ran limits run

  whole : IsWhole start core (events_of ran) after → ended.IsWhole plan inputs script after (emitted_by core)
  whole w =
      let f = flow_of plan inputs in
      let r = reached plan script ran limits run in
      let u = left plan script ran limits run in
      let d = w.drained u (stands plan script ran limits run) (drainable plan script ran limits run) in
      let free = drains_free f u in
      let on = journals_go_on f script r.reached d.went.reached u (events_of ran) (drain f u) r.legal r.within free.no_message free.no_order refl d.went.legal in
      let count = ap (λ (nodes : NodeId → Node). (egress_in (nodes node.Egress)).count) on.nodes in
      let here = emitted_stand core.plan (inputs_of core) (station core node.Egress).content (d.went.reached.nodes node.Egress) (d.went.stands node.Egress (tt, tt)).content in
      let at : output_first core.plan (inputs_of core) (egress_in (d.went.reached.nodes node.Egress)).count ≡ rows_at plan inputs on.state =
      (λ j. output_first (same_plan j) (same_inputs j) (sym count j)) in
      record {
        reached = on.state;
        run = leads plan inputs script limits after on.state (subst (λ es. IsLegal f es on.state) (sym d.went.appended) on.legal) (subst (AreWithin f script) (sym d.went.appended) on.within);
        done = count ∙ d.done;
        rows_are = here ∙ at;
        output = w.rows;
      }

  lost : (p : Partition) → IsLost start core (events_of ran) after p → IsLostAt plan inputs script after (emitted_by core) p
  lost p l =
      let f = flow_of plan inputs in
      let r = reached plan script ran limits run in
      let u = left plan script ran limits run in
      let at = l.lost u (stands plan script ran limits run) in
      let here = emitted_stand plan inputs (station start node.Egress).content (u.nodes node.Egress) (stands plan script ran limits run node.Egress (tt, tt)).content in
      let emitted : emitted_by core ≡ rows_at plan inputs r.reached = ap emitted_by l.unchanged ∙ here in
      let first : IsFirstLost r.reached (pairs_up_to f f.stages) p = same_lost r.reached.nodes (λ l. []) r.reached.sent (pairs_up_to f f.stages) p at.first in
      let count = (egress_in (r.reached.nodes node.Egress)).count in
      record {
        reached = r.reached;
        run = leads plan inputs script limits after r.reached (subst (λ es. IsLegal f es r.reached) (sym l.no_event) r.legal) (subst (AreWithin f script) (sym l.no_event) r.within);
        unfinished = at.undone;
        first = first;
        rows_are = emitted;
        front = subst (λ rows. IsFrontOf rows (output plan inputs)) (sym emitted) (sym ((in_order plan inputs).front count));
        unsafe = λ safe. first.lost (at_the_end f (λ t. (q : Partition) → 1 ≤ q.stage → IsServed t q) (events_of ran) r.reached (plan_safe plan inputs limits script safe (events_of ran) r.reached r.legal r.within) r.legal.leads p at.there.first);
      }

  pub ends : (d : Drained) → IsDrained start core (events_of ran) after d → EndsSo plan inputs script after (emitted_by core) d
  ends drained.Whole h = whole h
  ends (drained.Lost stage part) h = lost (partition stage part) h

-- where nodes handed no row on, egress of a core of them didn't
pub none_gone : (plan : PlanView) (nodes : List NodeState) → map id_of nodes ≡ nodes_of plan → Each (λ s. gone_of s ≡ []) nodes → gone_by (bare_core plan nodes) ≡ []
none_gone plan nodes named held = none_gone_by plan false nodes held (subst (Among node.Egress) (sym named) (among_last node.Egress (nodes_before_egress plan)))

-- ---- of the run's own inputs

-- ingress has the inputs of the run
pub own_inputs : (plan : PlanView) (inputs : List Input) (script : List Order) (ran : Ran) → IsLegalRan plan inputs script ran → Each AllCame ran.nodes → inputs_of (bare_core plan ran.nodes) ≡ inputs
own_inputs plan inputs script ran run came =
    let r = reaches plan inputs script ran run in
    let Stands : NodeState → Type 0 = λ s. NodeStands plan inputs s (r.reached.nodes (id_of s)) in
    let f = find (λ s. AllCame s × Stands s) node.Ingress ran.nodes (subst (Among node.Ingress) (sym run.nodes_are) (inl refl)) (both AllCame Stands ran.nodes came r.stand) in
    ap (λ o. inputs_at (standing o).content) f.there ∙ (inputs_contents f.one ∙ inputs_stand plan inputs f.one (r.reached.nodes (id_of f.one)) f.named f.holds.0 f.holds.1)

own_run : (plan : PlanView) (inputs : List Input) (script : List Order) (ran : Ran) → IsLegalRan plan inputs script ran → Each AllCame ran.nodes → IsLegalRan plan (inputs_of (bare_core plan ran.nodes)) script ran
own_run plan inputs script ran run came = subst (λ (I : List Input). IsLegalRan plan I script ran) (sym (own_inputs plan inputs script ran run came)) run

module _ (plan : PlanView) (inputs : List Input) (script : List Order) (ran : Ran) (limits : IsPlan plan) (run : IsLegalRan plan inputs script ran) (came : Each AllCame ran.nodes) where
  abbrev bare_nodes : CoreView
  bare_nodes = bare_core plan ran.nodes

  pub given : IsGiven bare_nodes
  given = given_here plan script ran limits (own_run plan inputs script ran run came)

  -- no more inputs come to the nodes
  pub all_came : HasItsInputs bare_nodes
  all_came = have_come plan false ran.nodes came (subst (Among node.Ingress) (sym run.nodes_are) (inl refl))

  -- where the drain's events were listed apart
  pub run_ends : (old core : CoreView) (before after : List Event) (d : Drained) → old ≡ bare_nodes → before ≡ [] → core.plan ≡ old.plan → inputs_of core ≡ inputs_of old
      → IsDrained old core before after d → EndsSo plan inputs script (events_of ran ++ after) (emitted_by core) d
  run_ends old core before after d is none same_plan same_inputs h =
      let plan_is : core.plan ≡ plan = same_plan ∙ ap (λ (c : CoreView). c.plan) is in
      let inputs_are : inputs_of core ≡ inputs_of bare_nodes = same_inputs ∙ ap (λ (c : CoreView). inputs_of c) is in
      let drained_so : IsDrained bare_nodes core (events_of ran) (events_of ran ++ after) d = behind bare_nodes core (events_of ran) after d (subst (λ c. IsDrained c core [] after d) is (subst (λ es. IsDrained old core es after d) none h)) in
      subst (λ (I : List Input). EndsSo plan I script (events_of ran ++ after) (emitted_by core) d) (own_inputs plan inputs script ran run came)
      (ends plan script ran limits (own_run plan inputs script ran run came) core (events_of ran ++ after) plan_is inputs_are d drained_so)
