-- From how far the drain has come to what it promises.
use Rattle.std.proofs.Common.{◌≡◌, ◌↔◌, inl, inr, Bool, true, false, List, [], Option, None, Some, refl, sym, ap, ◌∙◌, subst}
use Rattle.std.specs.Option.{option_and_then}
use Rattle.tuple_edge.specs.Input.{Input}
use Rattle.tuple_edge.specs.declared.event.Drained.TheVariants as drained
use Rattle.plan_reader.specs.PlanView.{IsPlan, PlanView}
use Rattle.pair_machine.specs.Boundary.{egress_partition}
use Rattle.pair_machine.specs.CountLaws.{output_first}
use Rattle.pair_machine.specs.Counts.{flow_of}
use Rattle.pair_machine.specs.Drain.{pairs_up_to}
use Rattle.pair_machine.specs.Flow.{Flow}
use Rattle.pair_machine.specs.Numbers.{Partition}
use Rattle.pair_machine.specs.Output.{output}
use Rattle.ingress_egress.specs.EgressView.{EgressView, IsFrontOf}
use Rattle.trio_machine.specs.Drain.{IsEgressDone, drain, drain_events, first_lost}
use Rattle.trio_machine.specs.Flow.{IsTrioPlan}
use Rattle.trio_machine.specs.Legal.{IsLegalFrom}
use Rattle.trio_machine.specs.Machine.{State, egress_in}
use Rattle.trio_machine.specs.Numbers.{Node}
use Rattle.trio_machine.specs.Sound.{IsSound}
use Rattle.trio_machine.specs.declared.node.TrioNode.TheVariants as node
use Rattle.trio_machine.proofs.DrainWhole.{drain_whole, finds_lost}
use Rattle.trio_machine.proofs.Laws.{output_is_a_front, reached_is_sound}
use Rattle.trio_machine.proofs.Legal.{one_end}
use Rattle.trio_nodes.specs.Egress as egress
use Rattle.trio_core.specs.CoreView.{CoreView, StationView, flow_in, found, inputs_of, name_of}
use Rattle.trio_core.specs.Ends as ends
use Rattle.trio_core.specs.Promises.{EmitsAFront, HoldsWhatIsOwed, egress_of, emitted_by, rows_of}
use Rattle.trio_core.specs.Stands.{IsCore, IsThere, MemberStands, StandsFor}
use Rattle.trio_core.specs.declared.member.Member.{Member}
use Rattle.trio_core.specs.declared.member.Member.TheVariants as member
use Rattle.trio_drain.specs.Drained.{IsCutShort, IsCutShortFrom, IsDrainedFrom, IsLost, IsWhole}
use Rattle.trio_drain.specs.Ending.{ending, ending_by, rows_at_end, rows_by}
use Rattle.trio_drain.specs.Order.{IsEachServed, MayBegin, Start, flow_at}
use Rattle.trio_drain.specs.Progress.{IsAfter, IsWithin}
use Rattle.trio_drain.proofs.Along.{along_at}
use Rattle.trio_drain.proofs.Blocks.{done_events, undone_events}
use Rattle.trio_drain.proofs.Ending.{ending_done, ending_undone}

-- ---- where the drain begins

abbrev pub start_of : CoreView → State → Start
start_of core s = record { plan = core.plan; inputs = inputs_of core; state = s }

pub after_none : (core : CoreView) (s : State) → StandsFor core s → IsAfter (start_of core s) core []
after_none core s stands = record { plan = refl; inputs = refl; state = s; legal = record { there = tt; leads = refl }; ready = tt; stands = stands }

pub may_begin : (core : CoreView) (s : State) → IsTrioPlan core.plan → IsSound (flow_in core) s → (IsEgressDone (flow_in core) s → ⊥) → IsEachServed (flow_in core) s → MayBegin (start_of core s)
may_begin core s plan sound undone served = record { plan = plan; sound = sound; undone = undone; served = served }

-- ---- what egress has emitted

-- the rows that are emitted are the first so many of the output
pub emitted_first : (core : CoreView) (s : State) → StandsFor core s → emitted_by core ≡ output_first core.plan (inputs_of core) (egress_in (s.nodes node.Egress)).count
emitted_first core s stands = at_egress (found node.Egress core.stations) (stands node.Egress tt)
  where
    Goal : Option EgressView → Type 0
    Goal e = rows_of e ≡ output_first core.plan (inputs_of core) (egress_in (s.nodes node.Egress)).count

    at_egress : (o : Option StationView) → IsThere core.plan (inputs_of core) node.Egress o s → Goal (option_and_then (λ (at : StationView). ends.egress_in at.member) o)
    at_egress None h = absurd h
    at_egress (Some at) h = of_member at.member h.name h.member
      where
        of_member : (k : Member) → name_of k ≡ node.Egress → MemberStands core.plan (inputs_of core) k (s.nodes node.Egress) → Goal (ends.egress_in k)
        of_member (member.Ingress i) name h = let z : ⊥ = cc name in absurd z
        of_member (member.Replica r) name h = let z : ⊥ = cc name in absurd z
        of_member (member.Control c) name h = let z : ⊥ = cc name in absurd z
        of_member (member.Egress e) name h = h.emitted

-- ---- what holds of a core

-- the state that a core stands for is sound
is_sound : (core : CoreView) (is : IsCore core) → IsSound (flow_in core) is.state
is_sound core is = (reached_is_sound core.plan (inputs_of core) is.plan is.events is.state is.legal).sound

pub emits_a_front : (core : CoreView) → IsCore core → EmitsAFront core
emits_a_front core is =
    let front = output_is_a_front core.plan (inputs_of core) is.plan is.events is.state is.legal in
    subst (λ rows. IsFrontOf rows (output core.plan (inputs_of core))) (sym (emitted_first core is.state is.stands)) (sym front.front)

pub holds_what_is_owed : (core : CoreView) → IsCore core → HoldsWhatIsOwed core
holds_what_is_owed core is = (is.state, is.stands, (reached_is_sound core.plan (inputs_of core) is.plan is.events is.state is.legal).owed)

-- ---- what is promised

-- where egress has merged all, nothing is done
pub done_already : (old : CoreView) (s : State) → StandsFor old s → IsEgressDone (flow_in old) s → IsDrainedFrom old old s
done_already old s stands done =
    let none = done_events (flow_in old) s done in
    record {
      may = inl done;
      went = record {
        reached = s;
        legal = subst (λ es. IsLegalFrom (flow_in old) s es s) (sym none) (record { there = tt; leads = refl });
        quiet = λ from to. refl;
        stands = stands;
      };
      done = done;
    }

module _ (old new : CoreView) (s : State) (plan : IsTrioPlan old.plan) (g : IsSound (flow_in old) s) (undone : IsEgressDone (flow_in old) s → ⊥) (served : IsEachServed (flow_in old) s) where
  abbrev b : Start
  b = start_of old s

  abbrev f : Flow
  f = flow_in old

  pub drained_from : IsAfter b new (drain_events f s) → IsDrainedFrom old new s
  drained_from a =
      let same = undone_events f s undone in
      let z = drain_whole old.plan (inputs_of old) plan s g served in
      let legal = subst (λ es. IsLegalFrom f s es a.state) (sym same) a.legal in
      let here : z.reached ≡ a.state = one_end f s z.reached a.state (drain f s) z.legal legal in
      record {
        may = inr served;
        went = record {
          reached = a.state;
          legal = legal;
          quiet = λ from to. (along_at b (may_begin old s plan g undone served) new (drain_events f s) a).quiet from to;
          stands = a.stands;
        };
        done = subst (IsEgressDone f) here z.done;
      }

  pub rows_from : IsAfter b new (drain_events f s) → emitted_by new ≡ output old.plan (inputs_of old)
  unfolding drained_from
  rows_from a =
      let z = drained_from a in
      let w = drain_whole old.plan (inputs_of old) plan s g served in
      let count : (egress_in (a.state.nodes node.Egress)).count ≡ (egress_in (w.reached.nodes node.Egress)).count = z.done ∙ sym w.done in
      emitted_first new a.state a.stands ∙ ((λ i. output_first (a.plan i) (a.inputs i) (egress_in (a.state.nodes node.Egress)).count) ∙ (ap (output_first old.plan (inputs_of old)) count ∙ w.output))

  pub cut_short_from : IsWithin b new → IsCutShortFrom old new s
  cut_short_from w = record {
    front = w.front;
    rest = w.rest;
    whole = w.whole ∙ sym (undone_events f s undone);
    went = record {
      reached = w.after.state;
      legal = w.after.legal;
      quiet = λ from to. (along_at b (may_begin old s plan g undone served) new w.front w.after).quiet from to;
      stands = w.after.stands;
    };
  }

-- ---- what code finds of a core

-- code's test whether egress has merged all
abbrev pub DoneSo : EgressView → Bool → Type 0
DoneSo e done = (plan : PlanView) (inputs : List Input) (x : Node) → IsPlan plan → egress.StandsFor plan inputs e x → (done ≡ true) ↔ ((egress_in x).count ≡ (flow_of plan inputs).total (egress_partition (flow_of plan inputs)))

abbrev pub RowsSo : EgressView → Bool → Type 0
RowsSo e done = (plan : PlanView) (inputs : List Input) (x : Node) → IsPlan plan → egress.StandsFor plan inputs e x → done ≡ true → e.emitted ≡ output plan inputs

-- what egress that code finds stands for
abbrev pub EgressSo : CoreView → EgressView → Type 0
EgressSo core e = (s : State) → StandsFor core s → egress.StandsFor core.plan (inputs_of core) e (s.nodes node.Egress)

module _ (core : CoreView) (is : IsCore core) (e : EgressView) (same : egress_of core ≡ Some e) (stood : EgressSo core e) (done : Bool) (so : DoneSo e done) where
  done_at : (s : State) → StandsFor core s → (done ≡ true) ↔ IsEgressDone (flow_in core) s
  done_at s stands = so core.plan (inputs_of core) (s.nodes node.Egress) is.plan.within (stood s stands)

  undone_at : done ≡ false → (s : State) → StandsFor core s → IsEgressDone (flow_in core) s → ⊥
  undone_at stops s stands h = let z : false ≡ true = sym stops ∙ (done_at s stands).1 h in cc z

  pub whole_already : done ≡ true → RowsSo e done → IsWhole core core
  whole_already ends rows = record {
    drained = λ s stands g. done_already core s stands ((done_at s stands).0 ends);
    rows = ap rows_of same ∙ rows core.plan (inputs_of core) (is.state.nodes node.Egress) is.plan.within (stood is.state is.stands) ends;
  }

  pub ends_already : done ≡ true → (s : State) → StandsFor core s → drained.Whole ≡ ending (flow_in core) s
  ends_already ends s stands = sym (ending_done (flow_in core) s ((done_at s stands).0 ends))

  pub rows_already : done ≡ true → RowsSo e done → (s : State) → StandsFor core s → emitted_by core ≡ rows_at_end core.plan (inputs_of core) s
  rows_already ends rows s stands =
      let all = rows core.plan (inputs_of core) (s.nodes node.Egress) is.plan.within (stood s stands) ends in
      ap rows_of same ∙ all ∙ ap (rows_by core.plan (inputs_of core) s) (ends_already ends s stands)

  -- the first lost group that code finds
  pub lost_so : done ≡ false → (p : Partition) → ((s : State) → StandsFor core s → Some p ≡ first_lost s (pairs_up_to (flow_in core) (flow_in core).stages)) → IsLost core core p
  lost_so stops p found = record {
    lost = λ s stands. (let z = finds_lost (flow_in core) s in let here = sym (found s stands) in record { there = z.there p here; first = z.first p here; undone = undone_at stops s stands });
    unchanged = refl;
  }

  pub ends_lost : done ≡ false → (p : Partition) → ((s : State) → StandsFor core s → Some p ≡ first_lost s (pairs_up_to (flow_in core) (flow_in core).stages)) → (s : State) → StandsFor core s
      → drained.Lost p.stage p.part ≡ ending (flow_in core) s
  ends_lost stops p found s stands = sym (ending_undone (flow_in core) s (undone_at stops s stands) ∙ ap ending_by (sym (found s stands)))

  pub rows_lost : done ≡ false → (p : Partition) → ((s : State) → StandsFor core s → Some p ≡ first_lost s (pairs_up_to (flow_in core) (flow_in core).stages)) → (s : State) → StandsFor core s
      → emitted_by core ≡ rows_at_end core.plan (inputs_of core) s
  rows_lost stops p found s stands = emitted_first core s stands ∙ ap (rows_by core.plan (inputs_of core) s) (ends_lost stops p found s stands)

  module _ (stops : done ≡ false) (none : (s : State) → StandsFor core s → None ≡ first_lost s (pairs_up_to (flow_in core) (flow_in core).stages)) (new : CoreView) where
    served_at : (s : State) → StandsFor core s → IsEachServed (flow_in core) s
    served_at s stands = (finds_lost (flow_in core) s).none (sym (none s stands))

    begins : (s : State) → StandsFor core s → IsSound (flow_in core) s → MayBegin (start_of core s)
    begins s stands g = may_begin core s is.plan g (undone_at stops s stands) (served_at s stands)

    pub whole_after : ((b : Start) → MayBegin b → IsAfter b core [] → IsAfter b new (drain_events (flow_at b) b.state)) → IsWhole core new
    whole_after all = record {
      drained = λ s stands g. drained_from core new s is.plan g (undone_at stops s stands) (served_at s stands) (all (start_of core s) (begins s stands g) (after_none core s stands));
      rows = (let s = is.state in let g = is_sound core is in
          rows_from core new s is.plan g (undone_at stops s is.stands) (served_at s is.stands) (all (start_of core s) (begins s is.stands g) (after_none core s is.stands)));
    }

    pub cut_short : ((b : Start) → MayBegin b → IsAfter b core [] → IsWithin b new) → IsCutShort core new
    cut_short some s stands g = cut_short_from core new s is.plan g (undone_at stops s stands) (served_at s stands) (some (start_of core s) (begins s stands g) (after_none core s stands))

    pub ends_whole : (s : State) → StandsFor core s → drained.Whole ≡ ending (flow_in core) s
    ends_whole s stands = sym (ending_undone (flow_in core) s (undone_at stops s stands) ∙ ap ending_by (sym (none s stands)))

    pub rows_whole : ((b : Start) → MayBegin b → IsAfter b core [] → IsAfter b new (drain_events (flow_at b) b.state)) → (s : State) → StandsFor core s → emitted_by new ≡ rows_at_end core.plan (inputs_of core) s
    rows_whole all s stands = (whole_after all).rows ∙ ap (rows_by core.plan (inputs_of core) s) (ends_whole s stands)
