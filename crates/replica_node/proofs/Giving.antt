-- What a running replica gives, its moves, its items and its reports, is what the machine's replica does.
use Rattle.std.proofs.Common.{◌≡◌, ◌<◌, ◌≤◌, ◌+◌, ◌-◌, ℕ, zero, suc, Bool, true, false, nat_lt, List, [], ◌∷◌, Option, None, Some, length, refl, sym, ap, ◌∙◌, subst, arith}
use Rattle.std.specs.Prelude.{◌==◌, ◌&&◌, if◌then◌else◌, replicate, slice_get, slice_index}
use Rattle.std.proofs.lemmas.Bool.{eq-eqb, lt-ltb}
use Rattle.std.proofs.lemmas.Bool.Decides.{nat_tests}
use Rattle.std.proofs.lemmas.List.{length-replicate}
use Rattle.std.proofs.lemmas.Option.{slice_get_within}
use Rattle.tuple_edge.specs.declared.item.Item.{Item}
use Rattle.tuple_edge.specs.declared.node.NodeId.{NodeId}
use Rattle.tuple_edge.specs.declared.node.NodeId.TheVariants as node
use Rattle.tuple_edge.specs.declared.packet.Body.{Body}
use Rattle.tuple_edge.specs.declared.packet.Body.TheVariants as body
use Rattle.tuple_edge.specs.declared.packet.Entry.{Entry}
use Rattle.tuple_edge.specs.Input.{Input}
use Rattle.ack_buffer.specs.Buffer as buffer
use Rattle.flux_consumer.specs.ConsumerView.{report_of}
use Rattle.flux_producer.specs.Due.{due_of}
use Rattle.flux_producer.specs.ProducerView.{buffer_at}
use Rattle.flux_producer.specs.declared.due.Due.{Due as Sending}
use Rattle.plan_reader.specs.Nodes.{parts_of}
use Rattle.plan_reader.specs.PlanView.{IsPlan, PlanView}
use Rattle.plan_reader.specs.declared.stage.Stage.{Stage}
use Rattle.pair_machine.specs.Consumers.{telling, untold}
use Rattle.pair_machine.specs.Contents.{BodyStands, move_list}
use Rattle.pair_machine.specs.Counts.{entries_after, entries_by, flow_of, items_on, made_on, merged_first}
use Rattle.pair_machine.specs.Courses.{ArePacketsFor}
use Rattle.pair_machine.specs.Machine.{nth_from_one}
use Rattle.pair_machine.specs.Lengths.{MoverBound, ProducerBound}
use Rattle.pair_machine.specs.Links.{link}
use Rattle.pair_machine.specs.Messages.{Chunk, ChunkEnd, Envelope, Message, Report, Serve, envelope}
use Rattle.pair_machine.specs.Numbers.{Gone, Move, Replica, RunningNumbers, control_at, in_edge, other, out_edge, replica_at}
use Rattle.pair_machine.specs.Numbers as numbers
use Rattle.pair_machine.specs.Producers.{consumer_of, due, sends_due}
use Rattle.pair_machine.specs.Producers as machine
use Rattle.pair_machine.specs.Replicas.{begun, made_by, moves_on, numbers_of, replica_takes, size, takes_serve}
use Rattle.pair_machine.proofs.MoveSize.{have_their_size}
use Rattle.pair_machine.proofs.PlanFlow.{made_most}
use Rattle.pair_machine.proofs.Tests.{nat_not}
use Rattle.stream_ops.specs.Entries.{last_place}
use Rattle.move_list.proofs.Lists.{none_past}
use Rattle.state_mover.specs.MoverView.{MoverView, after_next, keyed_among, moved_at, moved_from, total_of}
use Rattle.state_mover.specs.declared.mover.Moved.{Moved}
use Rattle.state_mover.specs.declared.mover.Moved.TheVariants as moved
use Rattle.node_edges.specs.InEdges.{edge_in}
use Rattle.node_edges.specs.OutEdges.{any_due_in, due_in, which_at}
use Rattle.node_edges.specs.ProducerLaws.{SendsDue}
use Rattle.node_edges.proofs.Consumers as consumers
use Rattle.node_edges.proofs.Producers as producers
use Rattle.node_edges.proofs.Producers.{few_in_pairs}
use Rattle.replica_node.specs.CaughtUp.{ArePieces}
use Rattle.replica_node.specs.IsReplica.{IsMoving}
use Rattle.replica_node.specs.Moves.{HoldNumbers}
use Rattle.replica_node.specs.Phases.{serve_taken, serving}
use Rattle.replica_node.specs.ReplicaView.{node_of, partition_of}
use Rattle.replica_node.specs.Rules.{Moves, part_given, part_sent, receiver_of, report_sent, sent_due, told_one, tuples_of}
use Rattle.replica_node.specs.StandsFor.{IsOfPlan, MoverStands, MoveStands, PhaseStands, RunningStands}
use Rattle.replica_node.specs.declared.phase.Phase.{Phase}
use Rattle.replica_node.specs.declared.phase.Phase.TheVariants as phase
use Rattle.replica_node.specs.declared.phase.Running.{Running}
use Rattle.replica_node.specs.declared.role.Role.{Role}
use Rattle.replica_node.proofs.Holding.{pieces_hold}
use Rattle.replica_node.proofs.Roles.{merges, of_stage}
use Rattle.replica_node.proofs.Steps.{ComesTo}
use Rattle.replica_node.proofs.Telling.{moves_tell}

not_less : (m n : ℕ) → n ≤ m → nat_lt m n ≡ false
not_less m n within = grind (arith, nat_tests, within)

nothing_at : (n q : ℕ) → slice_index (replicate n 0) q ≡ 0
nothing_at zero q = refl
nothing_at (suc n) zero = refl
nothing_at (suc n) (suc q) = nothing_at n q

module _ (plan : PlanView) (inputs : List Input) (role : Role) (is_of : IsOfPlan plan role) where
  -- ---- a move begins

  pieces_are : (r : Running) (x : RunningNumbers) → RunningStands plan inputs (partition_of role) r x
      → ArePieces plan inputs (partition_of role) (numbers_of x) is_of.own.op r.consumer.merge r.producer (merged_first plan inputs (partition_of role) x.consumer.count)
  pieces_are r x s = record {
    consumer = record {
      edges = s.consumer.edges;
      listed = length-replicate (length r.consumer.merge.marks) 0;
      merge = s.consumer.merge;
      count = s.consumer.count;
      marks = s.consumer.marks;
      told = λ q inside. nothing_at (length r.consumer.merge.marks) q;
    };
    sender = x.producer;
    sends = s.producer;
    lows = λ t. refl;
    entries = ap (λ o. entries_by o (merged_first plan inputs (partition_of role) x.consumer.count)) (sym is_of.own_is);
  }

  begun_stands : (r : Running) (x : RunningNumbers) (target : ℕ) → RunningStands plan inputs (partition_of role) r x
      → RunningStands plan inputs (partition_of role) (serving target r) (begun target x)
  begun_stands r x target s =
      let held : HoldNumbers plan inputs (partition_of role) (numbers_of x) r.consumer.merge r.producer =
      pieces_hold plan inputs (partition_of role) (numbers_of x) is_of.own.op r.consumer.merge r.producer (merged_first plan inputs (partition_of role) x.consumer.count) (merges plan inputs role is_of) (pieces_are r x s) in
      record {
        inc = s.inc;
        consumer = s.consumer;
        producer = s.producer;
        entries = s.entries;
        served = refl;
        move = record {
          target = refl;
          sent = refl;
          kept = ap Some s.entries;
          list = moves_tell plan inputs (partition_of role) (numbers_of x) r.consumer.merge r.producer held;
        };
      }

  serves_or_not : (r : Running) (x : RunningNumbers) (target : ℕ) → RunningStands plan inputs (partition_of role) r x → (own same : Bool) → own ≡ same
      → ComesTo plan inputs role (if own then phase.Running (serving target r) else phase.Running r) [] ((if same then numbers.Running (begun target x) else numbers.Running x), [])
  serves_or_not r x target s true true e = record { stands = begun_stands r x target s; packets = tt }
  serves_or_not r x target s false false e = record { stands = s; packets = tt }
  serves_or_not r x target s true false e = let z : ⊥ = cc e in absurd z
  serves_or_not r x target s false true e = let z : ⊥ = cc e in absurd z

  served_comes : (p : Phase) (x : Replica) (inc target : ℕ) → PhaseStands plan inputs (partition_of role) p x
      → ComesTo plan inputs role (serve_taken inc target p) [] (takes_serve inc target x, [])
  served_comes (phase.Running r) (numbers.Running x) inc target s =
      serves_or_not r x target s ((inc == r.inc) && nat_lt r.served target) ((inc == x.inc) && nat_lt x.served target) (λ i. (inc == s.inc i) && nat_lt (s.served i) target)
  served_comes (phase.Gathering g) (numbers.Gathering x) inc target s = record { stands = s; packets = tt }
  served_comes (phase.Gone old) (Gone own) inc target s = record { stands = s; packets = tt }
  served_comes p x inc target s = absurd s

  pub serve_comes : (p : Phase) (x : Replica) (from : NodeId) (inc target : ℕ) (m : Message)
      → BodyStands plan inputs (link from (node_of role)) (body.Serve inc target) m → PhaseStands plan inputs (partition_of role) p x
      → ComesTo plan inputs role (serve_taken inc target p) [] (replica_takes (flow_of plan inputs) (partition_of role) from m x)
  serve_comes p x from inc target (Serve i t) st s =
      subst (λ (z : ℕ × ℕ). ComesTo plan inputs role (serve_taken inc target p) [] (takes_serve z.0 z.1 x, [])) (λ j. (st.0 j, st.1 j)) (served_comes p x inc target s)
  serve_comes p x from inc target m st s = absurd st

  -- ---- a part of a move is given

  chunk_comes : (r after : Running) (sent : List (NodeId × Body)) (x : RunningNumbers) (m : MoverView) (mv : Move) (e : Entry) → RunningStands plan inputs (partition_of role) r x
      → MoverStands plan inputs (partition_of role) m r.state.old mv → m.sent < total_of m → length (move_list plan inputs (partition_of role) mv.numbers) ≡ size (flow_of plan inputs) (partition_of role) mv.numbers
      → slice_get (move_list plan inputs (partition_of role) mv.numbers) mv.sent ≡ Some e
      → after ≡ part_given (after_next m (entries_after plan inputs (partition_of role) mv.numbers.count)) (moved.Chunk (mv.sent + 1) e) r
      → sent ≡ part_sent role m (moved.Chunk (mv.sent + 1) e)
      → ComesTo plan inputs role (phase.Running after) sent (moves_on (flow_of plan inputs) (partition_of role) (replica_at (partition_of role) (other role.which)) x mv)
  chunk_comes r after sent x m mv e s stands more long at after_is sent_is =
      subst (λ (b : Bool). ComesTo plan inputs role (phase.Running after) sent (if b then chunk else end)) (sym goes_on)
      (subst (λ (z : Running × List (NodeId × Body)). ComesTo plan inputs role (phase.Running z.0) z.1 chunk) (λ i. (sym after_so i, sym sent_is i)) (record {
        stands = record {
          inc = s.inc;
          consumer = s.consumer;
          producer = s.producer;
          entries = s.entries;
          served = s.served;
          move = record { target = stands.target; sent = ap (λ n. n + 1) stands.sent; kept = stands.kept; list = stands.list };
        };
        packets = ((refl, (stands.target, refl, ap (nth_from_one list) number ∙ at)), tt);
      }))
    where
      old : List Entry
      old = entries_after plan inputs (partition_of role) mv.numbers.count

      list : List Entry
      list = move_list plan inputs (partition_of role) mv.numbers

      chunk : Replica × List Envelope
      chunk = (
        numbers.Running (record x { move = Some (record mv { sent = mv.sent + 1 }) }),
        envelope (replica_at (partition_of role) (other role.which)) (Chunk mv.target (mv.sent + 1) mv.numbers) ∷ [],
      )

      end : Replica × List Envelope
      end = (
        numbers.Running (record x { move = None }),
        envelope (replica_at (partition_of role) (other role.which)) (ChunkEnd mv.target (size (flow_of plan inputs) (partition_of role) mv.numbers) mv.numbers) ∷ [],
      )

      number : mv.sent + 1 ≡ suc mv.sent
      number = omega arith

      goes_on : nat_lt mv.sent (size (flow_of plan inputs) (partition_of role) mv.numbers) ≡ true
      goes_on =
          lt-ltb mv.sent (size (flow_of plan inputs) (partition_of role) mv.numbers)
          (subst (λ n. mv.sent < n) long (slice_get_within (move_list plan inputs (partition_of role) mv.numbers) mv.sent e at))

      after_so : after ≡ record r { mover = Some (record m { sent = m.sent + 1; last = last_place (keyed_among m (m.sent + 1)) old }) }
      after_so =
          after_is
          ∙ ap (λ (b : Bool). record r { mover = Some (if b then record m { sent = m.sent + 1; last = last_place (keyed_among m (m.sent + 1)) old } else m) })
          (lt-ltb m.sent (total_of m) more)

  end_comes : (r after : Running) (sent : List (NodeId × Body)) (x : RunningNumbers) (m : MoverView) (mv : Move) → RunningStands plan inputs (partition_of role) r x
      → MoverStands plan inputs (partition_of role) m r.state.old mv → length (move_list plan inputs (partition_of role) mv.numbers) ≡ size (flow_of plan inputs) (partition_of role) mv.numbers
      → length (move_list plan inputs (partition_of role) mv.numbers) ≤ mv.sent
      → after ≡ record r { mover = None; state = record r.state { old = None } }
      → sent ≡ part_sent role m (moved.End (length (move_list plan inputs (partition_of role) mv.numbers)))
      → ComesTo plan inputs role (phase.Running after) sent (moves_on (flow_of plan inputs) (partition_of role) (replica_at (partition_of role) (other role.which)) x mv)
  end_comes r after sent x m mv s stands long past after_is sent_is =
      subst (λ (b : Bool). ComesTo plan inputs role (phase.Running after) sent (if b then chunk else end)) (sym ended)
      (subst (λ (z : Running × List (NodeId × Body)). ComesTo plan inputs role (phase.Running z.0) z.1 end) (λ i. (sym after_is i, sym sent_is i)) (record {
        stands = record { inc = s.inc; consumer = s.consumer; producer = s.producer; entries = s.entries; served = s.served; move = tt };
        packets = ((refl, (stands.target, long)), tt);
      }))
    where
      chunk : Replica × List Envelope
      chunk = (
        numbers.Running (record x { move = Some (record mv { sent = mv.sent + 1 }) }),
        envelope (replica_at (partition_of role) (other role.which)) (Chunk mv.target (mv.sent + 1) mv.numbers) ∷ [],
      )

      end : Replica × List Envelope
      end = (
        numbers.Running (record x { move = None }),
        envelope (replica_at (partition_of role) (other role.which)) (ChunkEnd mv.target (size (flow_of plan inputs) (partition_of role) mv.numbers) mv.numbers) ∷ [],
      )

      ended : nat_lt mv.sent (size (flow_of plan inputs) (partition_of role) mv.numbers) ≡ false
      ended =
          let within : size (flow_of plan inputs) (partition_of role) mv.numbers ≤ mv.sent = subst (λ n. n ≤ mv.sent) long past in
          not_less mv.sent (size (flow_of plan inputs) (partition_of role) mv.numbers) within

  -- what a mover gives is what comes next of its list
  given_comes : (r after : Running) (sent : List (NodeId × Body)) (x : RunningNumbers) (m : MoverView) (mv : Move) → RunningStands plan inputs (partition_of role) r x
      → MoverStands plan inputs (partition_of role) m r.state.old mv → m.sent < total_of m → length (move_list plan inputs (partition_of role) mv.numbers) ≡ size (flow_of plan inputs) (partition_of role) mv.numbers
      → (given : Moved) → after ≡ part_given (after_next m (entries_after plan inputs (partition_of role) mv.numbers.count)) given r → sent ≡ part_sent role m given
      → Some given ≡ moved_at (move_list plan inputs (partition_of role) mv.numbers) mv.sent
      → ComesTo plan inputs role (phase.Running after) sent (moves_on (flow_of plan inputs) (partition_of role) (replica_at (partition_of role) (other role.which)) x mv)
  given_comes r after sent x m mv s stands more long given after_is sent_is next = by_entry (slice_get list mv.sent) refl next
    where
      list : List Entry
      list = move_list plan inputs (partition_of role) mv.numbers

      old : List Entry
      old = entries_after plan inputs (partition_of role) mv.numbers.count

      by_end : (b : Bool) → length (move_list plan inputs (partition_of role) mv.numbers) ≤ mv.sent → Some given ≡ (if b then Some (moved.End (length (move_list plan inputs (partition_of role) mv.numbers))) else None)
          → ComesTo plan inputs role (phase.Running after) sent (moves_on (flow_of plan inputs) (partition_of role) (replica_at (partition_of role) (other role.which)) x mv)
      by_end true past next =
          let same : given ≡ moved.End (length list) = cc next in
          end_comes r after sent x m mv s stands long past (after_is ∙ ap (λ g. part_given (after_next m old) g r) same) (sent_is ∙ ap (part_sent role m) same)
      by_end false past next = let z : ⊥ = cc next in absurd z

      by_entry : (o : Option Entry) → slice_get (move_list plan inputs (partition_of role) mv.numbers) mv.sent ≡ o → Some given ≡ moved_from mv.sent (length (move_list plan inputs (partition_of role) mv.numbers)) o
          → ComesTo plan inputs role (phase.Running after) sent (moves_on (flow_of plan inputs) (partition_of role) (replica_at (partition_of role) (other role.which)) x mv)
      by_entry (Some e) at next =
          let same : given ≡ moved.Chunk (mv.sent + 1) e = cc next in
          chunk_comes r after sent x m mv e s stands more long at (after_is ∙ ap (λ g. part_given (after_next m old) g r) same) (sent_is ∙ ap (part_sent role m) same)
      by_entry None at next = by_end (mv.sent == length list) (none_past list mv.sent at) next

  pub moves_come : IsPlan plan → (m : MoverView) (r after : Running) (sent : List (NodeId × Body)) (x : RunningNumbers) (mv : Move) → Moves role m r after sent → RunningStands plan inputs (partition_of role) r x
      → x.move ≡ Some mv → r.mover ≡ Some m → MoverBound (flow_of plan inputs) (partition_of role) x.move → IsMoving r.mover r.state.old
      → ComesTo plan inputs role (phase.Running after) sent (moves_on (flow_of plan inputs) (partition_of role) (replica_at (partition_of role) (other role.which)) x mv)
  moves_come is_plan m r after sent x mv moves s of_move of_mover bound moving =
      let stands : MoverStands plan inputs (partition_of role) m r.state.old mv =
      subst (λ (z : Option MoverView × Option Move). MoveStands plan inputs (partition_of role) z.0 r.state.old z.1) (λ i. (of_mover i, of_move i)) s.move in
      let old : List Entry = entries_after plan inputs (partition_of role) mv.numbers.count in
      let midway : IsMoving (Some m) (Some old) = subst (λ (z : Option MoverView × Option (List Entry)). IsMoving z.0 z.1) (λ i. (of_mover i, stands.kept i)) moving in
      let within : MoverBound (flow_of plan inputs) (partition_of role) (Some mv) = subst (MoverBound (flow_of plan inputs) (partition_of role)) of_move bound in
      given_comes r after sent x m mv s stands midway.1 (have_their_size plan inputs is_plan (partition_of role) mv.numbers (of_stage plan inputs role is_of) within.0) moves.part (moves.given old stands.kept) moves.sent_is
      (moves.next old stands.kept ∙ (λ i. moved_at (stands.list i) (stands.sent i)))

  -- ---- an item is sent

  receiver_is : (d : Sending) → receiver_of role role.next d ≡ consumer_of (flow_of plan inputs) (partition_of role) (due_in d)
  unfolding flow_of
  receiver_is d = by_next role.next is_of.next
    where
      by_next : (o : Option Stage) → slice_get plan.stages role.stage ≡ o
          → receiver_of role o d ≡ (if role.stage == length plan.stages then node.Egress else node.Replica (role.stage + 1) d.to (which_at d.copy))
      by_next None at =
          let past : length plan.stages ≤ role.stage = none_past plan.stages role.stage at in
          let within : role.stage ≤ length plan.stages = is_of.last in
          sym (ap (λ (b : Bool). if b then node.Egress else node.Replica (role.stage + 1) d.to (which_at d.copy)) (eq-eqb role.stage (length plan.stages) (omega (arith, past, within))))
      by_next (Some stage) at =
          let within : role.stage < length plan.stages = slice_get_within plan.stages role.stage stage at in
          sym (ap (λ (b : Bool). if b then node.Egress else node.Replica (role.stage + 1) d.to (which_at d.copy))
          (nat_not role.stage (length plan.stages) (λ same. let z : ⊥ = omega (arith, within, same) in z)))

  pub due_is : (r : Running) (x : RunningNumbers) (d : Option Sending) → RunningStands plan inputs (partition_of role) r x → due_of r.producer ≡ d
      → due (flow_of plan inputs) (partition_of role) (made_by (flow_of plan inputs) (partition_of role) x.consumer.count) x.producer ≡ any_due_in d
  unfolding flow_of
  due_is r x d s found =
      sym (producers.due_is (flow_of plan inputs) (items_on plan inputs) (partition_of role) (few_in_pairs plan inputs) (λ t. made_on plan inputs (out_edge (partition_of role) t) x.consumer.count) x.producer r.producer s.producer)
      ∙ ap any_due_in found

  -- the item that is due is held
  item_held : (r : Running) (x : RunningNumbers) (d : Sending) → ProducerBound x.producer
      → SendsDue (flow_of plan inputs) (items_on plan inputs) (partition_of role) (λ t. made_on plan inputs (out_edge (partition_of role) t) x.consumer.count) x.producer r.producer d
      → (i : Item) × (buffer.item_at (buffer_at r.producer d.to) d.number ≡ Some i)
  item_held r x d bound sends =
      sends.held (bound.above d.to d.copy)
      (made_most plan inputs role.stage role.part d.to x.consumer.count is_of.first is_of.last (let same : role.stage ≡ role.stage + 1 - 1 = omega arith in subst (λ n. role.part < parts_of plan n) same is_of.part))

  pub sends_come : (r : Running) (x : RunningNumbers) (d : Sending) → RunningStands plan inputs (partition_of role) r x → ProducerBound x.producer → due_of r.producer ≡ Some d
      → ComesTo plan inputs role (phase.Running (sent_due d r)) (tuples_of role d (buffer.item_at (buffer_at r.producer d.to) d.number))
      (numbers.Running (record x { producer = machine.sent_on x.producer (due_in d) }), sends_due (flow_of plan inputs) (partition_of role) (due_in d))
  sends_come r x d s bound found =
      let sends : SendsDue (flow_of plan inputs) (items_on plan inputs) (partition_of role) (λ t. made_on plan inputs (out_edge (partition_of role) t) x.consumer.count) x.producer r.producer d =
      producers.sends (flow_of plan inputs) (items_on plan inputs) (partition_of role) (few_in_pairs plan inputs) (λ t. made_on plan inputs (out_edge (partition_of role) t) x.consumer.count) x.producer r.producer d found s.producer in
      let held = item_held r x d bound sends in
      record {
        stands = record { inc = s.inc; consumer = s.consumer; producer = sends.sent; entries = s.entries; served = s.served; move = s.move };
        packets = subst (λ (o : Option Item). ArePacketsFor (BodyStands plan inputs) (node_of role) (tuples_of role d o) (sends_due (flow_of plan inputs) (partition_of role) (due_in d))) (sym held.1)
            ((receiver_is d, (refl, refl, sends.item held.0 held.1)), tt);
      }

  -- ---- a mark is reported

  pub reports_come : (r : Running) (x : RunningNumbers) (report : ℕ × ℕ) → RunningStands plan inputs (partition_of role) r x → report_of r.consumer ≡ Some report
      → (untold (flow_of plan inputs) (partition_of role) x.consumer ≡ Some report.0) × ComesTo plan inputs role (phase.Running (told_one report r)) (report_sent role r report) (
        numbers.Running (record x { consumer = telling x.consumer report.0 }),
        envelope (control_at (partition_of role)) (Report x.inc (in_edge (partition_of role) report.0) (x.consumer.marks report.0)) ∷ [],
      )
  reports_come r x report s found =
      let tells = consumers.tells plan inputs (partition_of role) x.consumer r.consumer report found s.consumer in (
        tells.first,
        record {
          stands = record { inc = s.inc; consumer = tells.told; producer = s.producer; entries = s.entries; served = s.served; move = s.move };
          packets = ((refl, (s.inc, refl, tells.mark)), tt);
        },
      )

  pub none_untold : (r : Running) (x : RunningNumbers) → RunningStands plan inputs (partition_of role) r x → report_of r.consumer ≡ None → untold (flow_of plan inputs) (partition_of role) x.consumer ≡ None
  none_untold r x s none = sym (consumers.reports plan inputs (partition_of role) x.consumer r.consumer s.consumer) ∙ ap edge_in none
