-- What a Pull asks of its node is the next item of the edge, which the producer keeps.
use Rattle.std.proofs.Common.{◌≡◌, ◌∙◌, ◌⊎◌, inl, inr, ◌≤◌, ◌<◌, ◌+◌, ◌-◌, ◌&&◌, ℕ, Bool, true, false, List, Option, None, Some, Result, Ok, Err, IfErr, IfOk, length, unwrap_or, refl, sym, ap, subst, arith, nat_le, nat_lt, leb-true, ltb-true, le-leb, lt-ltb, if◌then◌else◌}
use Rattle.std.specs.Option.{option_map}
use Rattle.tuple_edge.specs.Input.{Input}
use Rattle.tuple_edge.specs.declared.item.Item.{Item}
use Rattle.tuple_edge.specs.declared.node.EdgeId.{EdgeId}
use Rattle.ack_buffer.specs.Buffer as buffer
use Rattle.flux_consumer.specs.ConsumerView.{ConsumerView}
use Rattle.flux_producer.specs.ProducerView.{ProducerView, buffer_at, contents_of, edge_at}
use Rattle.merge_order.specs.Edges.{item_at}
use Rattle.merge_order.specs.MergeView.{mark_of}
use Rattle.node_edges.specs.OutEdges.{EdgeStands, ProducerStands}
use Rattle.node_edges.proofs.OutEdges.{held_is}
use Rattle.node_edges.proofs.Producers.{producers_follow}
use Rattle.plan_reader.specs.PlanView.{PlanView}
use Rattle.pair_machine.specs.Boundary.{ingress_source}
use Rattle.pair_machine.specs.Counts.{flow_of, items_on, made_on}
use Rattle.pair_machine.specs.Machine as pairs
use Rattle.pair_machine.specs.Numbers.{Partition, Producer, in_edge, ingress_edge, out_edge}
use Rattle.pair_machine.specs.Drain.{partition}
use Rattle.trio_machine.specs.Boundary.{source_made}
use Rattle.trio_machine.specs.Flow.{trio_flow}
use Rattle.trio_machine.specs.Links.{HasEdge}
use Rattle.trio_machine.specs.Machine.{State, act_of, buffer_in, buffer_of, ingress_in, pull_of, replica_in}
use Rattle.trio_machine.specs.Machine as machine
use Rattle.trio_machine.specs.Messages.{Act, NotHeld, NotRunning, Pulls}
use Rattle.trio_machine.specs.Numbers.{Gone, Node, Replica, Running, part_of}
use Rattle.trio_machine.specs.declared.event.TrioEvent.TheVariants as event
use Rattle.trio_machine.specs.declared.node.TrioNode.{TrioNode}
use Rattle.trio_machine.specs.declared.node.TrioNode.TheVariants as node
use Rattle.trio_nodes.specs.Replica.{RunningStands}
use Rattle.trio_nodes.specs.ReplicaView as role
use Rattle.trio_nodes.specs.declared.running.TrioRunning.{TrioRunning}
use Rattle.trio_core.specs.Acts.{IsActOf, IsNextAt, merges_at}
use Rattle.trio_core.specs.CoreView.{CoreView, StationView, flow_in, found, inputs_of, name_of}
use Rattle.trio_core.specs.Ends.{consumer_in, producer_in}
use Rattle.trio_core.specs.Pulls.{IsNoPull, IsPullOf}
use Rattle.trio_core.specs.Refusals.{IsRefusal}
use Rattle.trio_core.specs.Stands.{IsThere, MemberStands, StandsFor, StationStands}
use Rattle.trio_core.specs.Steps.{IsNamed, IsTaskOf}
use Rattle.trio_core.specs.declared.error.TrioError.{TrioError}
use Rattle.trio_core.specs.declared.error.TrioError.TheVariants as error
use Rattle.trio_core.specs.declared.member.Member.{Member}
use Rattle.trio_core.specs.declared.member.Member.TheVariants as member
use Rattle.trio_core.specs.declared.task.TrioTask.{TrioTask}
use Rattle.trio_core.specs.declared.task.TrioTask.TheVariants as task
use Rattle.trio_core.proofs.Contents.{contents_twice, few}

module _ (plan : PlanView) (inputs : List Input) where
  -- ---- the producer's end

  -- the machine's buffer is the producer's, and what this keeps are items of the edge
  record Buffered (p : ProducerView) (t : ℕ) (o : Option pairs.Buffer) (edge : EdgeId) : Type 0 where
    pub numbers : o ≡ Some (record { low = (buffer_at p t).low; produced = (buffer_at p t).produced })
    pub item : (k : ℕ) (i : Item) → buffer.item_at (buffer_at p t) k ≡ Some i → item_at (items_on plan inputs edge) k ≡ Some i

  -- a producer that holds what one holds that stands for a partition's
  by_producer : (at : Partition) (made : ℕ → ℕ) (x : Producer) (held p : ProducerView) (t : ℕ) → contents_of p ≡ held → ProducerStands (trio_flow plan inputs) (items_on plan inputs) at made x held → t < length p.edges
      → Buffered p t (Some (record { low = x.lows t; produced = made t })) (out_edge at t)
  by_producer at made x held p t same h l =
      let one : contents_of held ≡ contents_of p = ap contents_of (sym same) ∙ contents_twice p in
      let looks = (producers_follow (trio_flow plan inputs) (items_on plan inputs) at (few plan inputs)).contents made x held p one h in
      let edge : EdgeStands (items_on plan inputs (out_edge at t)) (made t) (x.lows t) (x.cursors t) (edge_at p t) = looks.edges t (subst (λ k. t < k) looks.targets l) in
      record {
        numbers = λ j. Some (record { low = sym edge.low j; produced = sym edge.produced j });
        item = λ k i e. held_is (items_on plan inputs (out_edge at t)) (made t) (x.lows t) (x.cursors t) (edge_at p t) k i edge e;
      }

  -- the edge from a node to target t
  abbrev edge_from : TrioNode → ℕ → EdgeId
  edge_from node.Ingress t = ingress_edge 0 t
  edge_from (node.Replica s p c) t = out_edge (partition s p) t
  edge_from (node.Control s p) t = ingress_edge 0 t
  edge_from node.Egress t = ingress_edge 0 t

  buffered_run : (at : Partition) (r : Option TrioRunning) (y : Replica) (p : ProducerView) (t : ℕ) → RunningStands plan inputs at r y → option_map (λ z. z.producer) r ≡ Some (contents_of p) → t < length p.edges
      → Buffered p t (buffer_in (trio_flow plan inputs) at t y) (out_edge at t)
  unfolding flow_of
  buffered_run at (Some r) (Running y) p t h e l =
      let held : contents_of p ≡ r.producer = ap (λ o. unwrap_or o r.producer) (sym e) in
      by_producer at (λ j. made_on plan inputs (out_edge at j) y.consumer.count) y.producer r.producer p t held h.producer l
  buffered_run at (Some r) Gone p t h e l = absurd h
  buffered_run at None y p t h e l = let z : ⊥ = cc e in absurd z

  buffered : (m : Member) (x : Node) (p : ProducerView) (t : ℕ) → MemberStands plan inputs m x → producer_in m ≡ Some (contents_of p) → t < length p.edges
      → Buffered p t (buffer_of (trio_flow plan inputs) t (name_of m) x) (edge_from (name_of m) t)
  buffered (member.Ingress i) x p t h e l =
      let held : contents_of p ≡ i.producer = ap (λ o. unwrap_or o i.producer) (sym e) in
      by_producer (ingress_source 0) (source_made (trio_flow plan inputs) (ingress_in x)) (ingress_in x).producer i.producer p t held h.producer l
  buffered (member.Replica r) x p t h e l = buffered_run (role.partition_of r.role) r.running (replica_in x) p t h.running e l
  buffered (member.Control c) x p t h e l = let z : ⊥ = cc e in absurd z
  buffered (member.Egress g) x p t h e l = let z : ⊥ = cc e in absurd z

  unbuffered_run : (at : Partition) (r : Option TrioRunning) (y : Replica) (t : ℕ) → RunningStands plan inputs at r y → option_map (λ z. z.producer) r ≡ None → buffer_in (trio_flow plan inputs) at t y ≡ None
  unbuffered_run at None Gone t h e = refl
  unbuffered_run at None (Running y) t h e = absurd h
  unbuffered_run at (Some r) y t h e = let z : ⊥ = cc e in absurd z

  unbuffered : (m : Member) (x : Node) (t : ℕ) → MemberStands plan inputs m x → producer_in m ≡ None → buffer_of (trio_flow plan inputs) t (name_of m) x ≡ None
  unbuffered (member.Ingress i) x t h e = let z : ⊥ = cc e in absurd z
  unbuffered (member.Replica r) x t h e = unbuffered_run (role.partition_of r.role) r.running (replica_in x) t h.running e
  unbuffered (member.Control c) x t h e = refl
  unbuffered (member.Egress g) x t h e = refl

  -- ---- the consumer's end

  marked_run : (at : Partition) (r : Option TrioRunning) (y : Replica) (k : ConsumerView) (q : ℕ) → RunningStands plan inputs at r y → option_map (λ z. z.consumer) r ≡ Some k → q < length k.merge.marks
      → machine.mark_in q y ≡ Some (mark_of k.merge q)
  marked_run at (Some r) (Running y) k q h e l =
      let same : r.consumer ≡ k = ap (λ o. unwrap_or o k) e in
      let within = subst (λ m. q < m) h.consumer.edges (subst (λ z. q < length z.merge.marks) (sym same) l) in
      ap Some (sym (h.consumer.marks q within) ∙ ap (λ z. mark_of z.merge q) same)
  marked_run at (Some r) Gone k q h e l = absurd h
  marked_run at None y k q h e l = let z : ⊥ = cc e in absurd z

  marked : (m : Member) (x : Node) (k : ConsumerView) (q : ℕ) → MemberStands plan inputs m x → consumer_in m ≡ Some k → q < length k.merge.marks → machine.mark_of q (name_of m) x ≡ Some (mark_of k.merge q)
  marked (member.Ingress i) x k q h e l = let z : ⊥ = cc e in absurd z
  marked (member.Replica r) x k q h e l = marked_run (role.partition_of r.role) r.running (replica_in x) k q h.running e l
  marked (member.Control c) x k q h e l = let z : ⊥ = cc e in absurd z
  marked (member.Egress g) x k q h e l =
      let same : g.consumer ≡ k = ap (λ o. unwrap_or o k) e in
      let within = subst (λ m. q < m) h.consumer.edges (subst (λ z. q < length z.merge.marks) (sym same) l) in
      ap Some (sym (h.consumer.marks q within) ∙ ap (λ z. mark_of z.merge q) same)

  unmarked_run : (at : Partition) (r : Option TrioRunning) (y : Replica) (q : ℕ) → RunningStands plan inputs at r y → option_map (λ z. z.consumer) r ≡ None → machine.mark_in q y ≡ None
  unmarked_run at None Gone q h e = refl
  unmarked_run at None (Running y) q h e = absurd h
  unmarked_run at (Some r) y q h e = let z : ⊥ = cc e in absurd z

  unmarked : (m : Member) (x : Node) (q : ℕ) → MemberStands plan inputs m x → consumer_in m ≡ None → machine.mark_of q (name_of m) x ≡ None
  unmarked (member.Ingress i) x q h e = refl
  unmarked (member.Replica r) x q h e = unmarked_run (role.partition_of r.role) r.running (replica_in x) q h.running e
  unmarked (member.Control c) x q h e = refl
  unmarked (member.Egress g) x q h e = let z : ⊥ = cc e in absurd z

  -- ---- the edge between the two

  between : (from to : TrioNode) → HasEdge (trio_flow plan inputs) from to → in_edge (merges_at plan inputs to) (part_of from) ≡ edge_from from (part_of to)
  unfolding flow_of
  between from node.Ingress e = absurd e.2
  between from (node.Control s p) e = absurd e.2
  between node.Ingress (node.Replica s p c) e = let z : s - 1 ≡ 0 = omega (arith, e.2.0, e.1.0) in λ j. record { stage = z j; from = 0; to = p }
  between (node.Replica t r d) (node.Replica s p c) e = let z : s - 1 ≡ t = omega (arith, e.2.0, e.1.1) in λ j. record { stage = z j; from = r; to = p }
  between (node.Control t r) to e = absurd e.1
  between node.Egress to e = absurd e.1
  between node.Ingress node.Egress e = let z : length plan.stages + 1 - 1 ≡ 0 = omega (arith, e.2.0, e.1.0) in λ j. record { stage = z j; from = 0; to = 0 }
  between (node.Replica t r d) node.Egress e = let z : length plan.stages + 1 - 1 ≡ t = omega (arith, e.2.0, e.1.1) in λ j. record { stage = z j; from = r; to = 0 }

-- ---- a pull

pull_none : (q : ℕ) (o : Option pairs.Buffer) → pull_of q o None ≡ Err NotRunning
pull_none q None = refl
pull_none q (Some o) = refl

and_true : (a b : Bool) → a ≡ true → b ≡ true → (a && b) ≡ true
and_true true b x y = y
and_true false b x y = x

pull_kept : (q low mark produced : ℕ) → low ≤ mark → mark < produced → pull_of q (Some (record { low = low; produced = produced })) (Some mark) ≡ Ok (Pulls q)
pull_kept q low mark produced l m = ap (λ b. if b then Ok (Pulls q) else Err (NotHeld low mark produced)) (and_true (nat_le low mark) (nat_lt mark produced) (le-leb low mark l) (lt-ltb mark produced m))

pull_lost : (q low mark produced : ℕ) → (mark < low) ⊎ (produced ≤ mark) → pull_of q (Some (record { low = low; produced = produced })) (Some mark) ≡ Err (NotHeld low mark produced)
pull_lost q low mark produced h = go (nat_le low mark) (nat_lt mark produced) refl refl
  where
    not_both : (mark < low) ⊎ (produced ≤ mark) → low ≤ mark → mark < produced → ⊥
    not_both (inl k) l m = omega (arith, k, l)
    not_both (inr k) l m = omega (arith, k, m)

    go : (a b : Bool) → nat_le low mark ≡ a → nat_lt mark produced ≡ b → (if a && b then Ok (Pulls q) else Err (NotHeld low mark produced)) ≡ Err (NotHeld low mark produced)
    go true true x y = absurd (not_both h (leb-true low mark x) (ltb-true mark produced y))
    go true false x y = refl
    go false b x y = refl

module _ (plan : PlanView) (inputs : List Input) (s : State) (from to : TrioNode) (sender receiver : Member) (sender_is : name_of sender ≡ from) (receiver_is : name_of receiver ≡ to)
    (here : MemberStands plan inputs sender (s.nodes from)) (there_to : MemberStands plan inputs receiver (s.nodes to)) (edge : HasEdge (trio_flow plan inputs) from to) where
  act_at : (o : Option pairs.Buffer) (m : Option ℕ) → buffer_of (trio_flow plan inputs) (part_of to) from (s.nodes from) ≡ o → machine.mark_of (part_of from) to (s.nodes to) ≡ m
      → act_of (trio_flow plan inputs) s (event.Pull from to) ≡ pull_of (part_of from) o m
  act_at o m e k = λ j. pull_of (part_of from) (e j) (k j)

  buffered_here : (p : ProducerView) → producer_in sender ≡ Some (contents_of p) → part_of to < length p.edges
      → Buffered plan inputs p (part_of to) (buffer_of (trio_flow plan inputs) (part_of to) from (s.nodes from)) (edge_from plan inputs from (part_of to))
  buffered_here p e l = subst (λ n. Buffered plan inputs p (part_of to) (buffer_of (trio_flow plan inputs) (part_of to) n (s.nodes from)) (edge_from plan inputs n (part_of to))) sender_is
      (buffered plan inputs sender (s.nodes from) p (part_of to) here e l)

  marked_there : (c : ConsumerView) → consumer_in receiver ≡ Some c → part_of from < length c.merge.marks → machine.mark_of (part_of from) to (s.nodes to) ≡ Some (mark_of c.merge (part_of from))
  marked_there c e l = subst (λ n. machine.mark_of (part_of from) n (s.nodes to) ≡ Some (mark_of c.merge (part_of from))) receiver_is (marked plan inputs receiver (s.nodes to) c (part_of from) there_to e l)

  pub pull_asked : (op : Option ProducerView) (oc : Option ConsumerView) → option_map contents_of op ≡ producer_in sender → oc ≡ consumer_in receiver → (t : TrioTask) → IsPullOf op (part_of to) oc (part_of from) t
      → (a : Act) × (act_of (trio_flow plan inputs) s (event.Pull from to) ≡ Ok a) × IsActOf plan inputs to t (s.nodes to) a
  pull_asked (Some p) (Some c) ep ec (task.Pull k i) h =
      let q = part_of from in
      let b = buffered_here p (sym ep) h.1 in
      let m = marked_there c (sym ec) h.2 in
      let mark = mark_of c.merge q in
      let item : item_at (items_on plan inputs (in_edge (merges_at plan inputs to) q)) (mark + 1) ≡ Some i =
      subst (λ e. item_at (items_on plan inputs e) (mark + 1) ≡ Some i) (sym (between plan inputs from to edge)) (b.item (mark + 1) i h.3.item) in
      let next : IsNextAt plan inputs to q i (machine.mark_of q to (s.nodes to)) = subst (IsNextAt plan inputs to q i) (sym m) item in (
        Pulls q,
        act_at _ _ b.numbers m ∙ pull_kept q (buffer_at p (part_of to)).low mark (buffer_at p (part_of to)).produced h.3.low h.3.produced,
        subst (λ j. (Pulls q ≡ Pulls j) × IsNextAt plan inputs to j i (machine.mark_of j to (s.nodes to))) (sym h.0) (refl, next),
      )
  pull_asked (Some p) (Some c) ep ec (task.Take f b) h = absurd h
  pull_asked (Some p) (Some c) ep ec task.Work h = absurd h
  pull_asked (Some p) (Some c) ep ec task.Make h = absurd h
  pull_asked (Some p) (Some c) ep ec task.Kill h = absurd h
  pull_asked None oc ep ec t h = absurd (no_producer oc t h)
    where
      no_producer : (oc : Option ConsumerView) (t : TrioTask) → IsPullOf None (part_of to) oc (part_of from) t → ⊥
      no_producer oc t h = h
  pull_asked (Some p) None ep ec t h = absurd (no_consumer t h)
    where
      no_consumer : (t : TrioTask) → IsPullOf (Some p) (part_of to) None (part_of from) t → ⊥
      no_consumer t h = h

  pub pull_refused : (op : Option ProducerView) (oc : Option ConsumerView) → option_map contents_of op ≡ producer_in sender → oc ≡ consumer_in receiver → (x : TrioError) → IsNoPull op (part_of to) oc (part_of from) x
      → IsRefusal (act_of (trio_flow plan inputs) s (event.Pull from to)) x
  pull_refused op oc ep ec error.OutOfMemory h = tt
  pull_refused None oc ep ec error.NotRunning h =
      act_at None (machine.mark_of (part_of from) to (s.nodes to))
      (subst (λ n. buffer_of (trio_flow plan inputs) (part_of to) n (s.nodes from) ≡ None) sender_is (unbuffered plan inputs sender (s.nodes from) (part_of to) here (sym ep))) refl
  pull_refused (Some p) None ep ec error.NotRunning h =
      act_at (buffer_of (trio_flow plan inputs) (part_of to) from (s.nodes from)) None refl
      (subst (λ n. machine.mark_of (part_of from) n (s.nodes to) ≡ None) receiver_is (unmarked plan inputs receiver (s.nodes to) (part_of from) there_to (sym ec)))
      ∙ pull_none (part_of from) (buffer_of (trio_flow plan inputs) (part_of to) from (s.nodes from))
  pull_refused (Some p) (Some c) ep ec error.NotRunning h = absurd h
  pull_refused (Some p) (Some c) ep ec (error.NotHeld low mark produced) h =
      let q = part_of from in
      let b = buffered_here p (sym ep) h.0 in
      let m = marked_there c (sym ec) h.1 in
      let lost = pull_lost q low mark produced h.5 in
      act_at _ _ b.numbers m ∙ (λ j. pull_of q (Some (record { low = sym h.2 j; produced = sym h.4 j })) (Some (sym h.3 j))) ∙ lost
  pull_refused None oc ep ec (error.NotHeld low mark produced) h = absurd h
  pull_refused (Some p) None ep ec (error.NotHeld low mark produced) h = absurd h
  pull_refused None oc ep ec (error.NotSent k n) h = absurd h
  pull_refused (Some p) None ep ec (error.NotSent k n) h = absurd h
  pull_refused (Some p) (Some c) ep ec (error.NotSent k n) h = absurd h
  pull_refused None oc ep ec error.NothingDue h = absurd h
  pull_refused (Some p) None ep ec error.NothingDue h = absurd h
  pull_refused (Some p) (Some c) ep ec error.NothingDue h = absurd h
  pull_refused None oc ep ec error.NoMoreRows h = absurd h
  pull_refused (Some p) None ep ec error.NoMoreRows h = absurd h
  pull_refused (Some p) (Some c) ep ec error.NoMoreRows h = absurd h

-- ---- the pull of a core

module _ (core : CoreView) (from to : TrioNode) (named : IsNamed (flow_in core) (event.Pull from to)) (sender receiver : StationView) (here : found from core.stations ≡ Some sender) (there_to : found to core.stations ≡ Some receiver) where
  sender_stands : (s : State) → StandsFor core s → StationStands core.plan (inputs_of core) from sender s
  sender_stands s stands = subst (λ o. IsThere core.plan (inputs_of core) from o s) here (stands from named.0)

  receiver_stands : (s : State) → StandsFor core s → StationStands core.plan (inputs_of core) to receiver s
  receiver_stands s stands = subst (λ o. IsThere core.plan (inputs_of core) to o s) there_to (stands to named.1)

  pub pull_found : (op : Option ProducerView) (oc : Option ConsumerView) → option_map contents_of op ≡ producer_in sender.member → oc ≡ consumer_in receiver.member → (t : TrioTask) → IsPullOf op (part_of to) oc (part_of from) t
      → IsTaskOf core (event.Pull from to) t
  pull_found op oc ep ec t h s stands =
      let a = sender_stands s stands in
      let b = receiver_stands s stands in
      pull_asked core.plan (inputs_of core) s from to sender.member receiver.member a.name b.name a.member b.member named.2 op oc ep ec t h

  pub pull_missing : (op : Option ProducerView) (oc : Option ConsumerView) → option_map contents_of op ≡ producer_in sender.member → oc ≡ consumer_in receiver.member → (x : TrioError) → IsNoPull op (part_of to) oc (part_of from) x
      → (s : State) → StandsFor core s → IsRefusal (act_of (flow_in core) s (event.Pull from to)) x
  pull_missing op oc ep ec x h s stands =
      let a = sender_stands s stands in
      let b = receiver_stands s stands in
      pull_refused core.plan (inputs_of core) s from to sender.member receiver.member a.name b.name a.member b.member named.2 op oc ep ec x h

  -- the same of what was found, under other names for the edge's ends
  pub pull_asked_so : (op : Option ProducerView) (oc : Option ConsumerView) → option_map contents_of op ≡ producer_in sender.member → oc ≡ consumer_in receiver.member → (t q : ℕ) → t ≡ part_of to → q ≡ part_of from
      → (r : Result TrioTask TrioError) → IfOk r (IsPullOf op t oc q) → IfOk r (IsTaskOf core (event.Pull from to))
  pull_asked_so op oc ep ec t q et eq (Ok k) h = pull_found op oc ep ec k (subst (λ n. IsPullOf op n oc (part_of from) k) et (subst (λ n. IsPullOf op t oc n k) eq h))
  pull_asked_so op oc ep ec t q et eq (Err x) h = h

  pub pull_refused_so : (op : Option ProducerView) (oc : Option ConsumerView) → option_map contents_of op ≡ producer_in sender.member → oc ≡ consumer_in receiver.member → (t q : ℕ) → t ≡ part_of to → q ≡ part_of from
      → (r : Result TrioTask TrioError) → IfErr r (IsNoPull op t oc q) → IfErr r (λ x. (s : State) → StandsFor core s → IsRefusal (act_of (flow_in core) s (event.Pull from to)) x)
  pull_refused_so op oc ep ec t q et eq (Ok k) h = h
  pull_refused_so op oc ep ec t q et eq (Err x) h = pull_missing op oc ep ec x (subst (λ n. IsNoPull op n oc (part_of from) x) et (subst (λ n. IsNoPull op t oc n x) eq h))

pub mapped_twice : {X Y Z : Type 0} (f : Y → Z) (g : X → Y) (o : Option X) → option_map f (option_map g o) ≡ option_map (λ x. f (g x)) o
mapped_twice f g None = refl
mapped_twice f g (Some x) = refl
