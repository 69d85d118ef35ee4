-- From how far the drain has come to what it promises.
use Rattle.std.proofs.Common.{◌≡◌, ◌↔◌, ◌++◌, inl, inr, Bool, true, false, List, [], None, Some, refl, sym, ap, ◌∙◌, subst}
use Rattle.std.proofs.lemmas.List.{append-nil}
use Rattle.tuple_edge.specs.Input.{Input}
use Rattle.tuple_edge.specs.declared.event.Event.{Event}
use Rattle.tuple_edge.specs.declared.node.NodeId.TheVariants as node
use Rattle.plan_reader.specs.PlanView.{IsPlan, PlanView}
use Rattle.pair_machine.specs.Boundary.{egress_partition}
use Rattle.pair_machine.specs.CountLaws.{output_first}
use Rattle.pair_machine.specs.Counts.{flow_of}
use Rattle.pair_machine.specs.Drain.{IsDrainable, IsEgressDone, drain, drain_events, first_lost, pairs_up_to}
use Rattle.pair_machine.specs.Flow.{Flow}
use Rattle.pair_machine.specs.Legal.{IsLegalFrom}
use Rattle.pair_machine.specs.Machine.{State, egress_in}
use Rattle.pair_machine.specs.Numbers.{Node, Partition}
use Rattle.pair_machine.specs.Output.{output}
use Rattle.pair_machine.proofs.DrainAfter.{sound_drains}
use Rattle.pair_machine.proofs.DrainWhole.{drain_whole, finds_lost}
use Rattle.pair_machine.proofs.Legal.{leads_one}
use Rattle.ingress_egress.specs.EgressStands as egress
use Rattle.ingress_egress.specs.EgressView.{EgressView}
use Rattle.plan_nodes.specs.declared.state.NodeState.TheVariants as state
use Rattle.flux_core.specs.CoreView.{CoreView, emitted_by, flow_in, inputs_of, rows_at, station}
use Rattle.flux_core.specs.Stands.{IsCore, IsKnown, StandsFor}
use Rattle.flux_core.proofs.Placed.{emitted_so}
use Rattle.core_drain.specs.Drained.{IsCutShort, IsCutShortFrom, IsDrainedFrom, IsEachServed, IsLost, IsWhole}
use Rattle.core_drain.specs.Progress.{IsAfter, IsWithin, MayBegin, Start, flow_at}
use Rattle.core_drain.proofs.Along.{along_at}
use Rattle.core_drain.proofs.Blocks.{done_events, undone_events}
use Rattle.core_drain.proofs.Found.{egress_stands}

-- ---- what is known of a core

pub record IsThereFrom (core : CoreView) : Type 0 where
  pub state : State
  pub stands : StandsFor core state
  pub drainable : IsDrainable (flow_in core) state

known_from : (core : CoreView) (whole : Bool) → IsPlan core.plan → IsKnown whole core → IsThereFrom core
known_from core true plan h = record { state = h.state; stands = h.stands; drainable = sound_drains core.plan (inputs_of core) plan h.state h.sound }
known_from core false plan h = record { state = h.state; stands = h.stands; drainable = h.drainable }

pub there_from : (core : CoreView) → IsCore core → IsThereFrom core
there_from core is = known_from core core.whole is.plan is.known

-- ---- where the drain begins

abbrev pub start_of : CoreView → List Event → State → Start
start_of core events s = record { plan = core.plan; inputs = inputs_of core; state = s; events = events }

pub after_none : (core : CoreView) (events : List Event) (s : State) → StandsFor core s → IsAfter (start_of core events s) core events []
after_none core events s stands = record { plan = refl; inputs = refl; listed = sym (append-nil events); state = s; legal = record { there = tt; leads = refl }; ready = tt; stands = stands }

pub may_begin : (core : CoreView) (events : List Event) (s : State) → IsPlan core.plan → IsDrainable (flow_in core) s → (IsEgressDone (flow_in core) s → ⊥) → IsEachServed (flow_in core) s → MayBegin (start_of core events s)
may_begin core events s plan g undone served = record { plan = plan; drainable = g; undone = undone; served = served }

-- ---- what is promised

-- where egress has merged all, nothing is done
pub done_already : (old : CoreView) (events : List Event) (s : State) → StandsFor old s → IsEgressDone (flow_in old) s → IsDrainedFrom old old events events s
done_already old events s stands done =
    let none = done_events (flow_in old) s done in
    record {
      may = inl done;
      went = record {
        appended = sym (append-nil events) ∙ ap (λ es. events ++ es) (sym none);
        reached = s;
        legal = subst (λ es. IsLegalFrom (flow_in old) s es s) (sym none) (record { there = tt; leads = refl });
        quiet = λ l. refl;
        stands = stands;
      };
      done = done;
    }

module _ (old new : CoreView) (before after : List Event) (s : State) (plan : IsPlan old.plan) (g : IsDrainable (flow_in old) s) (undone : IsEgressDone (flow_in old) s → ⊥) (served : IsEachServed (flow_in old) s) where
  abbrev b : Start
  b = start_of old before s

  abbrev f : Flow
  f = flow_in old

  pub drained_from : IsAfter b new after (drain_events f s) → IsDrainedFrom old new before after s
  drained_from a =
      let same = undone_events f s undone in
      let z = drain_whole old.plan (inputs_of old) plan s g served in
      let legal = subst (λ es. IsLegalFrom f s es a.state) (sym same) a.legal in
      let here : z.reached ≡ a.state = leads_one f s z.reached a.state (drain f s) z.legal.leads legal.leads in
      record {
        may = inr served;
        went = record {
          appended = a.listed ∙ ap (λ es. before ++ es) (sym same);
          reached = a.state;
          legal = legal;
          quiet = λ l. (along_at b (may_begin old before s plan g undone served) new after (drain_events f s) a).went.quiet l;
          stands = a.stands;
        };
        done = subst (IsEgressDone f) here z.done;
      }

  pub rows_from : IsAfter b new after (drain_events f s) → emitted_by new ≡ output old.plan (inputs_of old)
  unfolding drained_from
  rows_from a =
      let z = drained_from a in
      let w = drain_whole old.plan (inputs_of old) plan s g served in
      let stood = emitted_so new a.state a.stands in
      let count : (egress_in (a.state.nodes node.Egress)).count ≡ (egress_in (w.reached.nodes node.Egress)).count = z.done ∙ sym w.done in
      stood ∙ ((λ i. output_first (a.plan i) (a.inputs i) (egress_in (a.state.nodes node.Egress)).count) ∙ (ap (output_first old.plan (inputs_of old)) count ∙ w.output))

  pub cut_short_from : IsWithin b new after → IsCutShortFrom old new before after s
  cut_short_from w = record {
    front = w.front;
    rest = w.rest;
    whole = w.whole ∙ sym (undone_events f s undone);
    went = record {
      appended = w.after.listed;
      reached = w.after.state;
      legal = w.after.legal;
      quiet = λ l. (along_at b (may_begin old before s plan g undone served) new after w.front w.after).went.quiet l;
      stands = w.after.stands;
    };
  }

-- ---- what code finds of a core

-- code's test whether egress has merged all
abbrev pub DoneSo : EgressView → Bool → Type 0
DoneSo e done = (plan : PlanView) (inputs : List Input) (n : Node) → IsPlan plan → egress.StandsFor plan inputs e n → (done ≡ true) ↔ ((egress_in n).count ≡ (flow_of plan inputs).total (egress_partition (flow_of plan inputs)))

abbrev pub RowsSo : EgressView → Bool → Type 0
RowsSo e done = (plan : PlanView) (inputs : List Input) (n : Node) → IsPlan plan → egress.StandsFor plan inputs e n → done ≡ true → e.emitted ≡ output plan inputs

module _ (core : CoreView) (is : IsCore core) (events : List Event) (e : EgressView) (same : Some (state.Egress e) ≡ (station core node.Egress).content) (done : Bool) (so : DoneSo e done) where
  stands_at : (s : State) → StandsFor core s → egress.StandsFor core.plan (inputs_of core) e (s.nodes node.Egress)
  stands_at s stands = egress_stands core s stands e same

  done_at : (s : State) → StandsFor core s → (done ≡ true) ↔ IsEgressDone (flow_in core) s
  done_at s stands = so core.plan (inputs_of core) (s.nodes node.Egress) is.plan (stands_at s stands)

  undone_at : done ≡ false → (s : State) → StandsFor core s → IsEgressDone (flow_in core) s → ⊥
  undone_at stops s stands h = let z : false ≡ true = sym stops ∙ (done_at s stands).1 h in cc z

  pub whole_already : done ≡ true → RowsSo e done → IsWhole core core events events
  whole_already ends rows =
      let t = there_from core is in
      record {
        drained = λ s stands g. done_already core events s stands ((done_at s stands).0 ends);
        rows = ap rows_at (sym same) ∙ (rows core.plan (inputs_of core) (t.state.nodes node.Egress) is.plan (stands_at t.state t.stands) ends);
      }

  -- the first lost pair that code finds
  pub lost_so : done ≡ false → (p : Partition) → ((s : State) → StandsFor core s → Some p ≡ first_lost s (pairs_up_to (flow_in core) (flow_in core).stages)) → IsLost core core events events p
  lost_so stops p found = record {
    lost = λ s stands. (let z = finds_lost (flow_in core) s in let here = sym (found s stands) in record { there = z.there p here; first = z.first p here; undone = undone_at stops s stands });
    unchanged = refl;
    no_event = refl;
  }

  module _ (stops : done ≡ false) (none : (s : State) → StandsFor core s → None ≡ first_lost s (pairs_up_to (flow_in core) (flow_in core).stages)) (new : CoreView) (after : List Event) where
    served_at : (s : State) → StandsFor core s → IsEachServed (flow_in core) s
    served_at s stands = (finds_lost (flow_in core) s).none (sym (none s stands))

    pub whole_after : ((b : Start) → MayBegin b → IsAfter b core events [] → IsAfter b new after (drain_events (flow_at b) b.state)) → IsWhole core new events after
    whole_after all = record {
      drained = λ s stands g. drained_from core new events after s is.plan g (undone_at stops s stands) (served_at s stands) (reached s stands g);
      rows = (let t = there_from core is in rows_from core new events after t.state is.plan t.drainable (undone_at stops t.state t.stands) (served_at t.state t.stands) (reached t.state t.stands t.drainable));
    }
      where
        reached : (s : State) → StandsFor core s → IsDrainable (flow_in core) s → IsAfter (start_of core events s) new after (drain_events (flow_in core) s)
        reached s stands g = all (start_of core events s) (may_begin core events s is.plan g (undone_at stops s stands) (served_at s stands)) (after_none core events s stands)

    pub cut_short : ((b : Start) → MayBegin b → IsAfter b core events [] → IsWithin b new after) → IsCutShort core new events after
    cut_short some s stands g = cut_short_from core new events after s is.plan g (undone_at stops s stands) (served_at s stands)
        (some (start_of core events s) (may_begin core events s is.plan g (undone_at stops s stands) (served_at s stands)) (after_none core events s stands))
