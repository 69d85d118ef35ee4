-- How a replica begins to gather, ends it, and stops: it makes of itself what the machine's makes.
use Rattle.std.proofs.Common.{◌≡◌, ℕ, zero, suc, Bool, true, false, if◌then◌else◌, List, [], ◌∷◌, length, map, refl, sym, ap, ◌∙◌, subst, Option, Some, None, slice_index_or, replicate, arith}
use Rattle.std.specs.Prelude.{◌==◌, ◌&&◌, nat_lt}
use Rattle.std.specs.List.{All}
use Rattle.std.proofs.lemmas.Bool.{eqb-true, eq-eqb}
use Rattle.std.proofs.lemmas.List.{length-replicate, take_all}
use Rattle.std.proofs.lemmas.List.Elements.{All-nil}
use Rattle.tuple_edge.specs.declared.item.Item.{Item}
use Rattle.tuple_edge.specs.declared.node.NodeId.{NodeId}
use Rattle.tuple_edge.specs.declared.node.NodeId.TheVariants as node
use Rattle.tuple_edge.specs.declared.packet.Body.{Body}
use Rattle.tuple_edge.specs.declared.packet.Body.TheVariants as body
use Rattle.tuple_edge.specs.Input.{Input}
use Rattle.plan_reader.specs.PlanView.{IsPlan, PlanView}
use Rattle.pair_machine.specs.Contents.{BodyStands, move_list}
use Rattle.pair_machine.specs.Counts.{flow_of, items_on}
use Rattle.pair_machine.specs.Asked.{TakenAsks}
use Rattle.pair_machine.specs.Lengths.{MoveBound}
use Rattle.pair_machine.specs.Links.{link}
use Rattle.pair_machine.specs.Messages.{Begin, Caught, ChunkEnd, Message, Stop, envelope}
use Rattle.pair_machine.specs.Numbers as numbers
use Rattle.pair_machine.specs.Numbers.{GatheringNumbers, MoveNumbers, Partition, Replica, ReplicaNode, control_at, in_edge, out_edge}
use Rattle.pair_machine.specs.Replicas.{caught_up, inc_of, replica_takes, size, takes_begin, takes_end, takes_stop}
use Rattle.pair_machine.proofs.MoveSize.{have_their_size}
use Rattle.state_mover.specs.MoverView.{MoverView}
use Rattle.catch_up.specs.Caught.{IsCaughtUp, IsWholeMove}
use Rattle.catch_up.specs.Fold.{IsRising}
use Rattle.catch_up.specs.NewcomerView.{NewcomerView, begun}
use Rattle.replica_node.specs.Admitted.{IsPartner}
use Rattle.replica_node.specs.CaughtUp.{ArePieces, IsItemOf, StandsCaughtUp}
use Rattle.replica_node.specs.Course.{AreTimely}
use Rattle.replica_node.specs.Phases.{begin_taken, inc_in, stop_taken}
use Rattle.replica_node.specs.ReplicaView.{node_of, partition_of}
use Rattle.replica_node.specs.Rules.{EndsGathering, HasCaughtUp, IsEnded}
use Rattle.replica_node.specs.StandsFor.{GatheringStands, IsOfPlan, MoveStands, PhaseStands, RunningStands}
use Rattle.replica_node.specs.declared.phase.Phase.{Phase}
use Rattle.replica_node.specs.declared.phase.Running.{Running}
use Rattle.replica_node.specs.declared.phase.Phase.TheVariants as phase
use Rattle.replica_node.specs.declared.role.Role.{Role}
use Rattle.replica_node.proofs.CatchUps.{catch_ups_stand}
use Rattle.replica_node.proofs.Steps.{ComesTo}
use Rattle.replica_node.proofs.Gathering.{from_partner, taken_front}
use Rattle.replica_node.proofs.Roles.{many_copies, merges, of_stage}
use Rattle.replica_node.proofs.Whole.{whole_move}

-- what doesn't change stands as before
unchanged : (plan : PlanView) (inputs : List Input) (role : Role) (p after : Phase) (sent : List (NodeId × Body)) (x : Replica) → PhaseStands plan inputs (partition_of role) p x → after ≡ p → sent ≡ []
    → ComesTo plan inputs role after sent (x, [])
unchanged plan inputs role p after sent x stands same none =
    subst (λ (f : Phase). ComesTo plan inputs role f sent (x, [])) (sym same)
    (subst (λ (ps : List (NodeId × Body)). ComesTo plan inputs role p ps (x, [])) (sym none) (record { stands = stands; packets = tt }))

-- ---- the end of a move

-- a newcomer that took as many entries as a move has took them all
pub all_taken : (plan : PlanView) (inputs : List Input) (role : Role) (g : NewcomerView) (x : GatheringNumbers) (m : MoveNumbers)
    → IsPlan plan → IsOfPlan plan role → GatheringStands plan inputs (partition_of role) g x → MoveBound (flow_of plan inputs) (partition_of role) m
    → ((before : MoveNumbers) → x.moved ≡ Some before → m ≡ before) → length g.taken ≡ size (flow_of plan inputs) (partition_of role) m
    → g.taken ≡ move_list plan inputs (partition_of role) m
all_taken plan inputs role g x m is of_plan stands bound same long =
    taken_front plan inputs (partition_of role) g.taken x.taken x.moved m stands.count stands.taken same
    ∙ take_all x.taken (move_list plan inputs (partition_of role) m)
    (let whole : length (move_list plan inputs (partition_of role) m) ≡ size (flow_of plan inputs) (partition_of role) m = have_their_size plan inputs is (partition_of role) m (of_stage plan inputs role of_plan) bound in
    let count = stands.count in
    omega (arith, whole, long, count))

module _ (plan : PlanView) (inputs : List Input) (role : Role) (g : NewcomerView) (x : GatheringNumbers) (is : IsPlan plan) (timely : AreTimely inputs)
    (of_plan : IsOfPlan plan role) (stands : GatheringStands plan inputs (partition_of role) g x) where
  -- it runs with what the machine's newcomer runs with
  caught_runs : (inc : ℕ) (m : MoveNumbers) (r : Running) → inc ≡ g.inc → HasCaughtUp role g r → MoveBound (flow_of plan inputs) (partition_of role) m
      → g.taken ≡ move_list plan inputs (partition_of role) m → RunningStands plan inputs (partition_of role) r (caught_up inc m x.held)
  caught_runs inc m r own caught bound whole = record {
    inc = caught.inc ∙ sym own;
    consumer = up.consumer;
    producer = up.producer;
    entries = up.entries;
    served = caught.served;
    move = subst (λ (o : Option MoverView). MoveStands plan inputs (partition_of role) o r.state.old None) (sym caught.move) tt;
  }
    where
      w : (w : IsWholeMove role.sources role.op (move_list plan inputs (partition_of role) m)) × ArePieces plan inputs (partition_of role) m role.op w.merge w.producer w.items
      w = whole_move plan inputs role m is timely of_plan bound

      mine : IsWholeMove (length g.held) role.op g.taken
      mine = record {
        merge = w.0.merge;
        producer = w.0.producer;
        items = w.0.items;
        merges = w.0.merges;
        edges_are = w.0.edges_are ∙ of_plan.sources ∙ sym stands.held.sources;
        exact = w.0.exact;
        timely = w.0.timely;
        list = whole ∙ w.0.list;
      }

      up : StandsCaughtUp plan inputs (partition_of role) inc m x.held (record { consumer = r.consumer; producer = r.producer; state = r.state })
      up =
          catch_ups_stand plan inputs (partition_of role) inc m x.held g role.op (record { consumer = r.consumer; producer = r.producer; state = r.state }) w.0.merge w.0.producer w.0.items
          (merges plan inputs role of_plan) w.1 stands.held
          (subst (λ n. IsCaughtUp g role.op role.stage role.part n (record { consumer = r.consumer; producer = r.producer; state = r.state }) w.0.merge w.0.producer w.0.items)
          (sym (many_copies plan inputs role of_plan)) (caught.caught mine))

  end_gathers : (inc count : ℕ) (m : MoveNumbers) (after : Phase) (sent : List (NodeId × Body)) → EndsGathering role inc count g after sent
      → (inc ≡ x.inc → (before : MoveNumbers) → x.moved ≡ Some before → m ≡ before) → count ≡ size (flow_of plan inputs) (partition_of role) m → MoveBound (flow_of plan inputs) (partition_of role) m
      → ComesTo plan inputs role after sent (takes_end (partition_of role) inc count m (numbers.Gathering x))
  end_gathers inc count m after sent ends same long bound =
      subst (λ t. ComesTo plan inputs role after sent
      (if t then (numbers.Running (caught_up inc m x.held), envelope (control_at (partition_of role)) (Caught inc) ∷ []) else (numbers.Gathering x, [])))
      (λ j. (inc == stands.inc j) && (count == stands.count j))
      (by_tests (inc == g.inc) (count == length g.taken) refl refl)
    where
      refused : ((inc ≡ g.inc) × (count ≡ length g.taken) → ⊥) → ComesTo plan inputs role after sent (numbers.Gathering x, [])
      refused not =
          let kept = ends.refused not in
          subst (λ (p : Phase). ComesTo plan inputs role p sent (numbers.Gathering x, [])) (sym kept.0)
          (subst (λ (ps : List (NodeId × Body)). ComesTo plan inputs role (phase.Gathering g) ps (numbers.Gathering x, [])) (sym kept.1) (record { stands = stands; packets = tt }))

      ended : inc ≡ g.inc → count ≡ length g.taken → ComesTo plan inputs role after sent (numbers.Running (caught_up inc m x.held), envelope (control_at (partition_of role)) (Caught inc) ∷ [])
      ended own whole =
          let d = ends.ended own whole in
          let list = all_taken plan inputs role g x m is of_plan stands bound (same (own ∙ stands.inc)) (sym whole ∙ long) in
          subst (λ (p : Phase). ComesTo plan inputs role p sent (numbers.Running (caught_up inc m x.held), envelope (control_at (partition_of role)) (Caught inc) ∷ [])) (sym d.1)
          (subst (λ (ps : List (NodeId × Body)). ComesTo plan inputs role (phase.Running d.0) ps (numbers.Running (caught_up inc m x.held), envelope (control_at (partition_of role)) (Caught inc) ∷ [])) (sym d.3)
          (record { stands = caught_runs inc m d.0 own d.2 bound list; packets = ((refl, sym own), tt) }))

      by_tests : (own whole : Bool) → (inc == g.inc) ≡ own → (count == length g.taken) ≡ whole
          → ComesTo plan inputs role after sent (if own && whole then (numbers.Running (caught_up inc m x.held), envelope (control_at (partition_of role)) (Caught inc) ∷ []) else (numbers.Gathering x, []))
      by_tests true true own whole = ended (eqb-true inc g.inc own) (eqb-true count (length g.taken) whole)
      by_tests true false own whole = refused (λ h. let z : true ≡ false = sym (eq-eqb count (length g.taken) h.1) ∙ whole in cc)
      by_tests false whole_it own whole = refused (λ h. let z : true ≡ false = sym (eq-eqb inc g.inc h.0) ∙ own in cc)

-- The end of a move makes of a replica what it makes of the machine's.
pub end_comes : (plan : PlanView) (inputs : List Input) (role : Role) (from : NodeId) (inc count : ℕ) (m : Message) (p after : Phase) (sent : List (NodeId × Body)) (x : Replica)
    → IsPlan plan → AreTimely inputs → IsOfPlan plan role → IsPartner role from → BodyStands plan inputs (link from (node_of role)) (body.ChunkEnd inc count) m
    → PhaseStands plan inputs (partition_of role) p x → IsEnded role inc count p after sent → TakenAsks (flow_of plan inputs) (node_of role) (ReplicaNode x) from m
    → ComesTo plan inputs role after sent (replica_takes (flow_of plan inputs) (partition_of role) from m x)
end_comes plan inputs role from inc count (ChunkEnd i n m) (phase.Running r) after sent (numbers.Running x) is timely of_plan partner st stands ends asks =
    unchanged plan inputs role (phase.Running r) after sent (numbers.Running x) stands ends.0 ends.1
end_comes plan inputs role from inc count (ChunkEnd i n m) (phase.Gone own) after sent (numbers.Gone there) is timely of_plan partner st stands ends asks =
    unchanged plan inputs role (phase.Gone own) after sent (numbers.Gone there) stands ends.0 ends.1
end_comes plan inputs role (node.Replica stage part which) inc count (ChunkEnd i n m) (phase.Gathering g) after sent (numbers.Gathering x) is timely of_plan partner st stands ends asks =
    subst (λ k. ComesTo plan inputs role after sent (takes_end (partition_of role) k n m (numbers.Gathering x))) st.0
    (subst (λ k. ComesTo plan inputs role after sent (takes_end (partition_of role) inc k m (numbers.Gathering x))) st.1
    (end_gathers plan inputs role g x is timely of_plan stands inc count m after sent ends (λ own. asks.same_move.0 (sym st.0 ∙ own)) (st.1 ∙ asks.same_move.1)
    (subst (λ (p : Partition). MoveBound (flow_of plan inputs) p m) (from_partner role stage part partner.0 partner.1) asks.bound)))
end_comes plan inputs role from inc count (ChunkEnd i n m) (phase.Gathering g) after sent (numbers.Gathering x) is timely of_plan partner st stands ends asks = absurd partner
end_comes plan inputs role from inc count (ChunkEnd i n m) p after sent x is timely of_plan partner st stands ends asks = absurd stands
end_comes plan inputs role from inc count m p after sent x is timely of_plan partner st stands ends asks = absurd st

-- ---- the beginning, and a stop

incs_agree : (plan : PlanView) (inputs : List Input) (p : Partition) (f : Phase) (x : Replica) → PhaseStands plan inputs p f x → inc_in f ≡ inc_of x
incs_agree plan inputs p (phase.Running r) (numbers.Running x) stands = stands.inc
incs_agree plan inputs p (phase.Gathering g) (numbers.Gathering x) stands = stands.inc
incs_agree plan inputs p (phase.Gone own) (numbers.Gone there) stands = stands
incs_agree plan inputs p f x stands = absurd stands

none_held : (n q : ℕ) → slice_index_or {A = List (ℕ × Item)} (replicate n []) q [] ≡ []
none_held zero q = refl
none_held (suc n) zero = refl
none_held (suc n) (suc q) = none_held n q

-- a newcomer that has nothing
begun_gathers : (plan : PlanView) (inputs : List Input) (role : Role) (inc : ℕ) → IsOfPlan plan role
    → GatheringStands plan inputs (partition_of role) (begun inc role.sources) (record { inc = inc; taken = 0; moved = None; held = λ q. [] })
begun_gathers plan inputs role inc of_plan = record {
  inc = refl;
  count = refl;
  taken = refl;
  held = record {
    sources = length-replicate role.sources [] ∙ of_plan.sources;
    items = λ q below. subst (λ es. All (IsItemOf (items_on plan inputs (in_edge (partition_of role) q))) es) (sym (none_held role.sources q)) (All-nil (IsItemOf (items_on plan inputs (in_edge (partition_of role) q))));
    under = λ q below. ap (λ es. map (λ e. e.0) es) (none_held role.sources q);
  };
  rising = λ q below. subst (λ es. IsRising es) (sym (none_held role.sources q)) tt;
}

-- An order to begin makes of a replica what it makes of the machine's.
pub begin_comes : (plan : PlanView) (inputs : List Input) (role : Role) (from : NodeId) (inc : ℕ) (m : Message) (p : Phase) (x : Replica)
    → IsOfPlan plan role → BodyStands plan inputs (link from (node_of role)) (body.Begin inc) m → PhaseStands plan inputs (partition_of role) p x
    → ComesTo plan inputs role (begin_taken role.sources inc p) [] (replica_takes (flow_of plan inputs) (partition_of role) from m x)
begin_comes plan inputs role from inc (Begin i) p x of_plan st stands =
    subst (λ k. ComesTo plan inputs role (begin_taken role.sources inc p) [] (takes_begin k x, [])) st
    (subst (λ t. ComesTo plan inputs role (begin_taken role.sources inc p) [] (if t then numbers.Gathering (record { inc = inc; taken = 0; moved = None; held = λ q. [] }) else x, []))
    (ap (λ k. nat_lt k inc) (incs_agree plan inputs (partition_of role) p x stands)) (by_test (nat_lt (inc_in p) inc)))
  where
    by_test : (t : Bool) → ComesTo plan inputs role (if t then phase.Gathering (begun inc role.sources) else p) [] (if t then numbers.Gathering (record { inc = inc; taken = 0; moved = None; held = λ q. [] }) else x, [])
    by_test true = record { stands = begun_gathers plan inputs role inc of_plan; packets = tt }
    by_test false = record { stands = stands; packets = tt }
begin_comes plan inputs role from inc m p x of_plan st stands = absurd st

-- An order to stop makes of a replica what it makes of the machine's.
pub stop_comes : (plan : PlanView) (inputs : List Input) (role : Role) (from : NodeId) (inc : ℕ) (m : Message) (p : Phase) (x : Replica)
    → BodyStands plan inputs (link from (node_of role)) (body.Stop inc) m → PhaseStands plan inputs (partition_of role) p x
    → ComesTo plan inputs role (stop_taken inc p) [] (replica_takes (flow_of plan inputs) (partition_of role) from m x)
stop_comes plan inputs role from inc (Stop i) p x st stands =
    subst (λ k. ComesTo plan inputs role (stop_taken inc p) [] (takes_stop k x, [])) st
    (subst (λ t. ComesTo plan inputs role (stop_taken inc p) [] (if t then numbers.Gone (inc_of x) else x, []))
    (ap (λ k. inc == k) same) (by_test (inc == inc_in p)))
  where
    same : inc_in p ≡ inc_of x
    same = incs_agree plan inputs (partition_of role) p x stands

    by_test : (t : Bool) → ComesTo plan inputs role (if t then phase.Gone (inc_in p) else p) [] (if t then numbers.Gone (inc_of x) else x, [])
    by_test true = record { stands = same; packets = tt }
    by_test false = record { stands = stands; packets = tt }
stop_comes plan rows role from inc m p x st stands = absurd st
