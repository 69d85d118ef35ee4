-- The list of a move, by its numbers, is that of a whole move: of a merge, a producer and an operator that have what the numbers say.
use Rattle.std.proofs.Common.{◌≡◌, ℕ, zero, suc, ◌+◌, ◌-◌, ◌<◌, ◌≤◌, false, List, [], ◌∷◌, Option, Some, drop, length, map, min, refl, sym, ap, ◌∙◌, subst, slice_index_or, arith}
use Rattle.std.specs.Prelude.{slice_get}
use Rattle.std.specs.List.{All}
use Rattle.std.proofs.lemmas.List.{length-drop, length-map, length-take}
use Rattle.std.proofs.lemmas.List.Elements.{All-take}
use Rattle.tuple_edge.specs.declared.item.Item.{Item}
use Rattle.tuple_edge.specs.Input.{Input}
use Rattle.ack_buffer.specs.Buffer.{BufferView}
use Rattle.merge_order.specs.Edges.{edge_of}
use Rattle.merge_order.specs.Merged.{items}
use Rattle.merge_order.specs.MergeView.{MergeView, mark_of, waiting_of}
use Rattle.merge_order.specs.StandsFor.{StandsFor, WaitsBetween}
use Rattle.flux_consumer.specs.ConsumerView.{over}
use Rattle.flux_producer.specs.OutEdge.{OutEdgeView, unused}
use Rattle.flux_producer.specs.OutEdge as edge
use Rattle.flux_producer.specs.ProducerView.{ProducerView, buffer_at, edge_at, over_buffers}
use Rattle.op_spec.specs.Times.{IsTimely}
use Rattle.op_spec.specs.declared.spec.OpSpec.{OpSpec}
use Rattle.stream_ops.specs.Entries.{entries}
use Rattle.plan_reader.specs.Nodes.{parts_of, sources_of}
use Rattle.plan_reader.specs.PlanView.{IsPlan, PlanView}
use Rattle.plan_reader.specs.declared.stage.Stage.{Stage}
use Rattle.pair_machine.specs.Contents.{between, kept, move_list, waiting}
use Rattle.pair_machine.specs.CountLaws.{IsMerging}
use Rattle.pair_machine.specs.Counts.{entries_after, entries_by, flow_of, items_on, made_on, merged_first, used_of}
use Rattle.pair_machine.specs.Edges.{edges_into, merged_at}
use Rattle.pair_machine.specs.Ingress.{last_stamp}
use Rattle.pair_machine.specs.Lengths.{MoveBound}
use Rattle.pair_machine.specs.Numbers.{MoveNumbers, Partition, Producer, in_edge, out_edge}
use Rattle.pair_machine.specs.Producers.{copies}
use Rattle.pair_machine.proofs.EdgeLaws.{times_stay}
use Rattle.pair_machine.proofs.PlanFlow.{made_most}
use Rattle.pair_machine.proofs.Used.{in_edge_is, into_is, sources_are}
use Rattle.node_edges.specs.InEdges.{ConsumerStands}
use Rattle.node_edges.specs.OutEdges.{ProducerStands}
use Rattle.node_edges.proofs.Consumers.{form_is, many_are, starts}
use Rattle.move_list.specs.MoveList as of_move
use Rattle.move_list.specs.Pieces.{IsMerge}
use Rattle.catch_up.specs.Caught.{IsWholeMove}
use Rattle.replica_node.specs.CaughtUp.{ArePieces}
use Rattle.replica_node.specs.Course.{AreTimely}
use Rattle.replica_node.specs.ReplicaView.{partition_of}
use Rattle.replica_node.specs.StandsFor.{IsOfPlan}
use Rattle.replica_node.specs.declared.role.Role.{Role}
use Rattle.replica_node.proofs.Holding.{pieces_hold}
use Rattle.replica_node.proofs.Roles.{merges, stages_are, targets_at}
use Rattle.replica_node.proofs.Telling.{moves_tell}

-- what a function has at each number below n
abbrev listed : {X : Type 0} → ℕ → (ℕ → X) → List X
listed zero f = []
listed (suc n) f = f 0 ∷ listed n (λ k. f (suc k))

length_listed : {X : Type 0} (n : ℕ) (f : ℕ → X) → length (listed n f) ≡ n
length_listed zero f = refl
length_listed (suc n) f = ap suc (length_listed n (λ k. f (suc k)))

at_listed : {X : Type 0} (n : ℕ) (f : ℕ → X) (q : ℕ) (d : X) → q < n → slice_index_or (listed n f) q d ≡ f q
at_listed zero f q d below = absurd (omega (arith, below))
at_listed (suc n) f zero d below = refl
at_listed (suc n) f (suc q) d below = at_listed n (λ k. f (suc k)) q d (omega (arith, below))

-- the same of out-edges over buffers
edge_listed : (n : ℕ) (f : ℕ → BufferView) (t : ℕ) → t < n → slice_index_or (map edge.over (listed n f)) t unused ≡ edge.over (f t)
edge_listed zero f t below = absurd (omega (arith, below))
edge_listed (suc n) f zero below = refl
edge_listed (suc n) f (suc t) below = edge_listed n (λ k. f (suc k)) t (omega (arith, below))

length_between : (low upto : ℕ) (xs : List Item) → upto ≤ length xs → length (between low upto xs) ≡ upto - low
length_between low upto xs within =
    let long : length (between low upto xs) ≡ min (upto - low) (length (drop low xs)) = length-take (upto - low) (drop low xs) in
    let rest : length (drop low xs) ≡ length xs - low = length-drop low xs in
    omega (arith, long, rest, within)

-- an edge into a partition that merges, by its source
edge_is : (plan : PlanView) (inputs : List Input) (s part q : ℕ) → 1 ≤ s → s ≤ length plan.stages + 1 → q < sources_of plan s
    → edge_of (edges_into plan inputs s part) q ≡ items_on plan inputs (in_edge (record { stage = s; part = part }) q)
edge_is plan inputs zero part q one last below = absurd (omega (arith, one))
edge_is plan inputs (suc s) part q one last below =
    let few : s ≤ length plan.stages = omega (arith, last) in
    into_is plan inputs s part q few (subst (λ n. q < n) (sources_are plan s) below) ∙ sym (in_edge_is plan inputs s part q)

-- the items that a partition merges have times within their limits
merges_timely : (plan : PlanView) (inputs : List Input) → IsPlan plan → AreTimely inputs → (s part count : ℕ) → 1 ≤ s → All IsTimely (merged_first plan inputs (record { stage = s; part = part }) count)
merges_timely plan inputs is timely zero part count one = absurd (omega (arith, one))
merges_timely plan inputs is timely (suc s) part count one =
    All-take IsTimely count (items (merged_at plan inputs (suc s) part)) ((times_stay plan inputs is timely).merged s part)

record Bounds (plan : PlanView) (inputs : List Input) (p : Partition) (m : MoveNumbers) : Type 0 where
  used : (q : ℕ) → q < sources_of plan p.stage → used_of plan inputs p q m.count ≤ m.marks q
  most : (q : ℕ) → m.marks q ≤ length (items_on plan inputs (in_edge p q))
  count : m.count ≤ length (merged_at plan inputs p.stage p.part)

bounds_are : (plan : PlanView) (inputs : List Input) (p : Partition) (m : MoveNumbers) → MoveBound (flow_of plan inputs) p m → Bounds plan inputs p m
unfolding flow_of
bounds_are plan inputs p m bound = record { used = bound.used; most = bound.most; count = bound.count }

-- what the operator of a stage keeps, by its settings
entries_are : (stage : Option Stage) (own : Stage) (spec : OpSpec) (given : List Item) → stage ≡ Some own → own.op ≡ spec → entries spec given ≡ entries_by stage given
entries_are stage own spec given is op = ap (λ o. entries o given) (sym op) ∙ ap (λ o. entries_by o given) (sym is)

module _ (plan : PlanView) (inputs : List Input) (p : Partition) (m : MoveNumbers) where
  -- the merge of the numbers
  abbrev merge_of : MergeView
  merge_of = record {
    marks = listed (sources_of plan p.stage) m.marks;
    waiting = listed (sources_of plan p.stage) (λ q. waiting plan inputs p m.count q (m.marks q));
    count = m.count;
  }

  -- the buffers of the numbers, and a producer over them
  abbrev buffer_of : ℕ → BufferView
  buffer_of t = record { low = m.lows t; produced = made_on plan inputs (out_edge p t) m.count; items = kept plan inputs p m.count t (m.lows t); spare = 0 }

  abbrev producer_of : ProducerView
  producer_of = over_buffers p.stage p.part (copies (flow_of plan inputs) p) (listed (parts_of plan (p.stage + 1)) buffer_of)

  abbrev sender_of : Producer
  sender_of = record { lows = m.lows; cursors = λ t c. m.lows t + 1; term = 0; leads = false }

  module _ (is : IsPlan plan) (merging : IsMerging (flow_of plan inputs) p) (bound : MoveBound (flow_of plan inputs) p m) where
    bounds : Bounds plan inputs p m
    bounds = bounds_are plan inputs p m bound

    last : p.stage ≤ length plan.stages + 1
    last = let all = stages_are plan inputs in let upto = merging.last in omega (arith, all, upto)

    many : length (edges_into plan inputs p.stage p.part) ≡ sources_of plan p.stage
    many = many_are plan inputs p.stage p.part merging.first last

    long : length (listed (sources_of plan p.stage) m.marks) ≡ sources_of plan p.stage
    long = length_listed (sources_of plan p.stage) m.marks

    at_mark : (q : ℕ) → q < sources_of plan p.stage → mark_of merge_of q ≡ m.marks q
    at_mark q below = at_listed (sources_of plan p.stage) m.marks q 0 below

    at_waiting : (q : ℕ) → q < sources_of plan p.stage → waiting_of merge_of q ≡ waiting plan inputs p m.count q (m.marks q)
    at_waiting q below = at_listed (sources_of plan p.stage) (λ q. waiting plan inputs p m.count q (m.marks q)) q [] below

    edge_at_is : (q : ℕ) → q < sources_of plan p.stage → edge_of (edges_into plan inputs p.stage p.part) q ≡ items_on plan inputs (in_edge p q)
    edge_at_is q below = edge_is plan inputs p.stage p.part q merging.first last below

    waits_between : (q : ℕ) → q < sources_of plan p.stage
        → WaitsBetween (edge_of (edges_into plan inputs p.stage p.part) q) (used_of plan inputs p q m.count) (mark_of merge_of q) (waiting_of merge_of q)
    waits_between q below =
        subst (λ (es : List Item). WaitsBetween es (used_of plan inputs p q m.count) (mark_of merge_of q) (waiting_of merge_of q)) (sym (edge_at_is q below))
        (subst (λ k. WaitsBetween (items_on plan inputs (in_edge p q)) (used_of plan inputs p q m.count) k (waiting_of merge_of q)) (sym (at_mark q below))
        (record { used_within = bounds.used q below; mark_within = bounds.most q; waits = at_waiting q below }))

    merge_stands : StandsFor (last_stamp inputs) (edges_into plan inputs p.stage p.part) merge_of
    merge_stands = record {
      count = bounds.count;
      marks = long ∙ sym many;
      waiting = length_listed (sources_of plan p.stage) (λ q. waiting plan inputs p m.count q (m.marks q)) ∙ sym many;
      waits = λ q below. waits_between q (omega (arith, below, many));
    }

    consumer_stands : ConsumerStands plan inputs p (record { marks = m.marks; told = λ q. 0; count = m.count }) (over merge_of)
    consumer_stands = starts plan inputs p m.marks merge_of long merge_stands at_mark

    merge_is : IsMerge merge_of
    merge_is = record {
      some = let some = (form_is plan inputs is p.stage p.part merging.first).some in omega (arith, some, many, long);
      edges = length_listed (sources_of plan p.stage) (λ q. waiting plan inputs p m.count q (m.marks q)) ∙ sym long;
      waits = λ q below. few q (omega (arith, below, long));
    }
      where
        few : (q : ℕ) → q < sources_of plan p.stage → length (waiting_of merge_of q) ≤ mark_of merge_of q
        few q below =
            let waits = ap length (at_waiting q below) in
            let mark = at_mark q below in
            let is_long : length (waiting plan inputs p m.count q (m.marks q)) ≡ m.marks q - used_of plan inputs p q m.count = length_between (used_of plan inputs p q m.count) (m.marks q) (items_on plan inputs (in_edge p q)) (bounds.most q) in
            omega (arith, waits, mark, is_long)

    targets_listed : length producer_of.edges ≡ parts_of plan (p.stage + 1)
    targets_listed = length-map (listed (parts_of plan (p.stage + 1)) buffer_of) edge.over ∙ length_listed (parts_of plan (p.stage + 1)) buffer_of

    at_edge : (t : ℕ) → t < parts_of plan (p.stage + 1) → edge_at producer_of t ≡ edge.over (buffer_of t)
    at_edge t below = edge_listed (parts_of plan (p.stage + 1)) buffer_of t below

    producer_stands : ProducerStands (flow_of plan inputs) (items_on plan inputs) p (λ t. made_on plan inputs (out_edge p t) m.count) sender_of producer_of
    producer_stands = record {
      stage = refl;
      from = refl;
      copies = refl;
      targets = targets_listed ∙ sym (targets_at plan inputs p.stage);
      term = refl;
      leads = refl;
      edges = λ t below.
          let here : t < parts_of plan (p.stage + 1) = let all = targets_at plan inputs p.stage in omega (arith, below, all) in
          record {
            low = ap (λ (e : OutEdgeView). e.buffer.low) (at_edge t here);
            produced = ap (λ (e : OutEdgeView). e.buffer.produced) (at_edge t here);
            kept = ap (λ (e : OutEdgeView). e.buffer.items) (at_edge t here);
            cursors = ap (λ (e : OutEdgeView). e.cursors) (at_edge t here);
          };
    }

    module _ (inside : p.stage ≤ length plan.stages) (part : p.part < parts_of plan p.stage) where
      exact : (t : ℕ) → t < length producer_of.edges → length (buffer_at producer_of t).items ≡ (buffer_at producer_of t).produced - (buffer_at producer_of t).low
      exact t below =
          subst (λ (e : OutEdgeView). length e.buffer.items ≡ e.buffer.produced - e.buffer.low) (sym (at_edge t here))
          (length_between (m.lows t) (made_on plan inputs (out_edge p t) m.count) (items_on plan inputs (out_edge p t))
          (made_most plan inputs p.stage p.part t m.count merging.first inside there))
        where
          here : t < parts_of plan (p.stage + 1)
          here = omega (arith, below, targets_listed)

          there : p.part < sources_of plan (p.stage + 1)
          there = let same : p.stage ≡ p.stage + 1 - 1 = omega arith in subst (λ s. p.part < parts_of plan s) same part

-- The list of the numbers of a move is that of a whole move, of pieces that have what the numbers say.
pub whole_move : (plan : PlanView) (inputs : List Input) (role : Role) (m : MoveNumbers) → IsPlan plan → AreTimely inputs → IsOfPlan plan role
    → MoveBound (flow_of plan inputs) (partition_of role) m
    → (w : IsWholeMove role.sources role.op (move_list plan inputs (partition_of role) m)) × ArePieces plan inputs (partition_of role) m role.op w.merge w.producer w.items
whole_move plan inputs role m is timely of_plan bound = (
  record {
    merge = merge_of plan inputs (partition_of role) m;
    producer = producer_of plan inputs (partition_of role) m;
    items = merged_first plan inputs (partition_of role) m.count;
    merges = merge_is plan inputs (partition_of role) m is merging bound;
    edges_are = length_listed (sources_of plan role.stage) m.marks ∙ sym of_plan.sources;
    exact = exact plan inputs (partition_of role) m is merging bound of_plan.last of_plan.part;
    timely = merges_timely plan inputs is timely role.stage role.part m.count of_plan.first;
    list =
        sym (moves_tell plan inputs (partition_of role) m (merge_of plan inputs (partition_of role) m) (producer_of plan inputs (partition_of role) m)
        (pieces_hold plan inputs (partition_of role) m role.op (merge_of plan inputs (partition_of role) m) (producer_of plan inputs (partition_of role) m) (merged_first plan inputs (partition_of role) m.count) merging pieces))
        ∙ ap (of_move.move_list (merge_of plan inputs (partition_of role) m) (producer_of plan inputs (partition_of role) m)) (sym told);
  },
  pieces,
)
  where
    merging : IsMerging (flow_of plan inputs) (partition_of role)
    merging = merges plan inputs role of_plan

    told : entries role.op (merged_first plan inputs (partition_of role) m.count) ≡ entries_after plan inputs (partition_of role) m.count
    told = entries_are (slice_get plan.stages (role.stage - 1)) of_plan.own role.op (merged_first plan inputs (partition_of role) m.count) of_plan.own_is of_plan.op

    pieces : ArePieces plan inputs (partition_of role) m role.op (merge_of plan inputs (partition_of role) m) (producer_of plan inputs (partition_of role) m) (merged_first plan inputs (partition_of role) m.count)
    pieces = record {
      consumer = consumer_stands plan inputs (partition_of role) m is merging bound;
      sender = sender_of plan inputs (partition_of role) m;
      sends = producer_stands plan inputs (partition_of role) m is merging bound;
      lows = λ t. refl;
      entries = told;
    }
