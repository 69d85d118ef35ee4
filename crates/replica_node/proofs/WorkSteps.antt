-- A piece of work of a replica is the machine's, and where it has none the machine's has none.
use Rattle.std.proofs.Common.{◌≡◌, ℕ, false, List, [], Option, None, Some, Ok, Err, refl, sym, ap, ◌∙◌, subst}
use Rattle.std.specs.Prelude.{if◌then◌else◌, is_some}
use Rattle.tuple_edge.specs.declared.event.Worked.{Worked}
use Rattle.tuple_edge.specs.declared.event.Worked.TheVariants as worked
use Rattle.tuple_edge.specs.declared.item.Item.{Item}
use Rattle.tuple_edge.specs.declared.node.NodeId.{NodeId}
use Rattle.tuple_edge.specs.declared.packet.Body.{Body}
use Rattle.tuple_edge.specs.Input.{Input}
use Rattle.ack_buffer.specs.Buffer as buffer
use Rattle.merge_order.specs.MergeView.{item_of, least}
use Rattle.flux_consumer.specs.ConsumerView.{report_of}
use Rattle.flux_producer.specs.Due.{due_of}
use Rattle.flux_producer.specs.ProducerView.{buffer_at}
use Rattle.flux_producer.specs.declared.due.Due.{Due as Sending}
use Rattle.plan_reader.specs.PlanView.{IsPlan, PlanView}
use Rattle.pair_machine.specs.Consumers.{is_ready, merged_one}
use Rattle.pair_machine.specs.Counts.{flow_of}
use Rattle.pair_machine.specs.Lengths.{ReplicaBound}
use Rattle.pair_machine.specs.Messages.{Envelope, NothingDue}
use Rattle.pair_machine.specs.Numbers.{Gone, Move, Replica, RunningNumbers, other, replica_at}
use Rattle.pair_machine.specs.Numbers as numbers
use Rattle.pair_machine.specs.Producers.{due, sends_due}
use Rattle.pair_machine.specs.Producers as machine
use Rattle.pair_machine.specs.Replicas.{made_by, moves_on, moves_or_sends, replica_works, reports, sends_or_reports}
use Rattle.state_mover.specs.MoverView.{MoverView}
use Rattle.node_edges.specs.OutEdges.{due_in}
use Rattle.node_edges.proofs.Consumers as consumers
use Rattle.replica_node.specs.IsReplica.{IsPhase, IsRunning}
use Rattle.replica_node.specs.ReplicaView.{partition_of}
use Rattle.replica_node.specs.Rules.{Merges, MergesOrMoves, MovesOrSends, Reports, SendsOrReports, Works, report_sent, sent_due, told_one, tuples_of}
use Rattle.replica_node.specs.StandsFor.{IsOfPlan, MoveStands, PhaseStands, RunningStands}
use Rattle.replica_node.specs.declared.phase.Phase.{Phase}
use Rattle.replica_node.specs.declared.phase.Phase.TheVariants as phase
use Rattle.replica_node.specs.declared.phase.Running.{Running}
use Rattle.replica_node.specs.declared.role.Role.{Role}
use Rattle.replica_node.proofs.Giving.{due_is, moves_come, none_untold, reports_come, sends_come}
use Rattle.replica_node.proofs.Roles.{merges}
use Rattle.replica_node.proofs.Steps.{ComesTo}

module _ (plan : PlanView) (inputs : List Input) (role : Role) where
  -- what a piece of work comes to where the numbers are within the lengths; where there was none, nothing was due, and all is as it was
  abbrev pub WorksSo : Phase → Replica → Phase → List (NodeId × Body) → Worked → Type 0
  WorksSo old x after sent worked.Did = ReplicaBound (flow_of plan inputs) (partition_of role) x
      → (d : Replica × List Envelope) × (replica_works (flow_of plan inputs) (partition_of role) role.which x ≡ Ok d) × ComesTo plan inputs role after sent d
  WorksSo old x after sent worked.Idle =
      (replica_works (flow_of plan inputs) (partition_of role) role.which x ≡ Err NothingDue) × (after ≡ old) × (sent ≡ [])

  -- the rule of a merge, which is another one's
  abbrev pub MergesSo : Running → RunningNumbers → Type 0
  MergesSo r x = (i : Item) (s : Running) → item_of (least r.consumer.merge.waiting) ≡ Some i → Merges role i r s → RunningStands plan inputs (partition_of role) r x
      → RunningStands plan inputs (partition_of role) s (record x { consumer = merged_one x.consumer })

  did_so : (old : Phase) (x : Replica) (after later : Phase) (sent given : List (NodeId × Body)) (did : Worked) (d : Replica × List Envelope) → after ≡ later → sent ≡ given → did ≡ worked.Did
      → replica_works (flow_of plan inputs) (partition_of role) role.which x ≡ Ok d → (ReplicaBound (flow_of plan inputs) (partition_of role) x → ComesTo plan inputs role later given d) → WorksSo old x after sent did
  did_so old x after later sent given did d after_is sent_is did_is works comes =
      subst (WorksSo old x after sent) (sym did_is)
      (λ bound. (d, works, subst (λ (z : Phase × List (NodeId × Body)). ComesTo plan inputs role z.0 z.1 d) (λ i. (sym after_is i, sym sent_is i)) (comes bound)))

  idle_so : (old : Phase) (x : Replica) (after : Phase) (sent : List (NodeId × Body)) (did : Worked) → after ≡ old → sent ≡ [] → did ≡ worked.Idle
      → replica_works (flow_of plan inputs) (partition_of role) role.which x ≡ Err NothingDue → WorksSo old x after sent did
  idle_so old x after sent did after_is sent_is did_is works = subst (WorksSo old x after sent) (sym did_is) (works, after_is, sent_is)

  module _ (is_plan : IsPlan plan) (is_of : IsOfPlan plan role) where
    -- where no item is ready it moves, or sends
    unready : (x : RunningNumbers) (move : Option Move) → is_ready (flow_of plan inputs) (partition_of role) x.consumer ≡ false → x.move ≡ move
        → replica_works (flow_of plan inputs) (partition_of role) role.which (numbers.Running x)
        ≡ moves_or_sends (flow_of plan inputs) (partition_of role) (replica_at (partition_of role) (other role.which)) x move
    unready x move ready is = λ i.
        if ready i then Ok (numbers.Running (record x { consumer = merged_one x.consumer }), [])
        else moves_or_sends (flow_of plan inputs) (partition_of role) (replica_at (partition_of role) (other role.which)) x (is i)

    unmoved : (x : RunningNumbers) (d : Option machine.Due) → is_ready (flow_of plan inputs) (partition_of role) x.consumer ≡ false → x.move ≡ None
        → due (flow_of plan inputs) (partition_of role) (made_by (flow_of plan inputs) (partition_of role) x.consumer.count) x.producer ≡ d
        → replica_works (flow_of plan inputs) (partition_of role) role.which (numbers.Running x) ≡ sends_or_reports (flow_of plan inputs) (partition_of role) x d
    unmoved x d ready none is = unready x None ready none ∙ ap (sends_or_reports (flow_of plan inputs) (partition_of role) x) is

    ready_as : (r : Running) (x : RunningNumbers) (o : Option Item) → RunningStands plan inputs (partition_of role) r x → item_of (least r.consumer.merge.waiting) ≡ o
        → is_ready (flow_of plan inputs) (partition_of role) x.consumer ≡ is_some o
    ready_as r x o s found = sym (consumers.gives plan inputs (partition_of role) x.consumer r.consumer is_plan (merges plan inputs role is_of) s.consumer) ∙ ap is_some found

    module _ (r : Running) (x : RunningNumbers) (s : RunningStands plan inputs (partition_of role) r x) where
      reports_so : (after : Phase) (sent : List (NodeId × Body)) (did : Worked) → is_ready (flow_of plan inputs) (partition_of role) x.consumer ≡ false → x.move ≡ None → due_of r.producer ≡ None
          → (report : Option (ℕ × ℕ)) → report_of r.consumer ≡ report → Reports role r report after sent did → WorksSo (phase.Running r) (numbers.Running x) after sent did
      reports_so after sent did ready none undue None found works =
          idle_so (phase.Running r) (numbers.Running x) after sent did works.0 works.1 works.2
          (unmoved x None ready none (due_is plan inputs role is_of r x None s undue) ∙ ap (reports (flow_of plan inputs) (partition_of role) x) (none_untold plan inputs role is_of r x s found))
      reports_so after sent did ready none undue (Some report) found works =
          let comes = reports_come plan inputs role is_of r x report s found in
          did_so (phase.Running r) (numbers.Running x) after (phase.Running (told_one report r)) sent (report_sent role r report) did _ works.0 works.1 works.2
          (unmoved x None ready none (due_is plan inputs role is_of r x None s undue) ∙ ap (reports (flow_of plan inputs) (partition_of role) x) comes.0) (λ bound. comes.1)

      sends_so : (after : Phase) (sent : List (NodeId × Body)) (did : Worked)
          → is_ready (flow_of plan inputs) (partition_of role) x.consumer ≡ false → x.move ≡ None
          → (d : Option Sending) → due_of r.producer ≡ d → SendsOrReports role r d after sent did → WorksSo (phase.Running r) (numbers.Running x) after sent did
      sends_so after sent did ready none None undue works = reports_so after sent did ready none undue (report_of r.consumer) refl works
      sends_so after sent did ready none (Some d) found works =
          did_so (phase.Running r) (numbers.Running x) after (phase.Running (sent_due d r)) sent (tuples_of role d (buffer.item_at (buffer_at r.producer d.to) d.number)) did
          (numbers.Running (record x { producer = machine.sent_on x.producer (due_in d) }), sends_due (flow_of plan inputs) (partition_of role) (due_in d)) works.0 works.1 works.2
          (unmoved x (Some (due_in d)) ready none (due_is plan inputs role is_of r x (Some d) s found)) (λ bound. sends_come plan inputs role is_of r x d s bound.1 found)

      -- it moves something just where the machine's does
      moves_or_sends_so : IsRunning role r → (after : Phase) (sent : List (NodeId × Body)) (did : Worked)
          → is_ready (flow_of plan inputs) (partition_of role) x.consumer ≡ false
          → (mover : Option MoverView) → r.mover ≡ mover → (move : Option Move) → x.move ≡ move → MoveStands plan inputs (partition_of role) mover r.state.old move
          → MovesOrSends role r mover after sent did → WorksSo (phase.Running r) (numbers.Running x) after sent did
      moves_or_sends_so running after sent did ready None still None none stands works = sends_so after sent did ready none (due_of r.producer) refl works
      moves_or_sends_so running after sent did ready (Some m) is (Some mv) named stands works =
          did_so (phase.Running r) (numbers.Running x) after (phase.Running works.0) sent sent did
          (moves_on (flow_of plan inputs) (partition_of role) (replica_at (partition_of role) (other role.which)) x mv) works.1 refl works.3
          (unready x (Some mv) ready named) (λ bound. moves_come plan inputs role is_of is_plan m r works.0 sent x mv works.2 s named is bound.2 running.moving)
      moves_or_sends_so running after sent did ready None still (Some mv) named stands works = absurd stands
      moves_or_sends_so running after sent did ready (Some m) is None none stands works = absurd stands

      merges_or_moves_so : IsRunning role r → MergesSo r x → (after : Phase) (sent : List (NodeId × Body)) (did : Worked)
          → (o : Option Item) → item_of (least r.consumer.merge.waiting) ≡ o → MergesOrMoves role r o after sent did → WorksSo (phase.Running r) (numbers.Running x) after sent did
      merges_or_moves_so running merges after sent did None found works =
          moves_or_sends_so running after sent did (ready_as r x None s found) r.mover refl x.move refl s.move works
      merges_or_moves_so running merges after sent did (Some i) found works =
          did_so (phase.Running r) (numbers.Running x) after (phase.Running works.0) sent [] did (numbers.Running (record x { consumer = merged_one x.consumer }), []) works.1 works.3 works.4
          (λ j. if ready_as r x (Some i) s found j then Ok (numbers.Running (record x { consumer = merged_one x.consumer }), [])
          else moves_or_sends (flow_of plan inputs) (partition_of role) (replica_at (partition_of role) (other role.which)) x x.move)
          (λ bound. record { stands = merges i works.0 found works.2 s; packets = tt })

    -- a running replica's
    pub works_so : (r : Running) (x : RunningNumbers) → IsRunning role r → RunningStands plan inputs (partition_of role) r x → MergesSo r x
        → (after : Phase) (sent : List (NodeId × Body)) (did : Worked) → Works role (phase.Running r) after sent did → WorksSo (phase.Running r) (numbers.Running x) after sent did
    works_so r x running s merges after sent did works =
        merges_or_moves_so r x s running merges after sent did (item_of (least r.consumer.merge.waiting)) refl works

    -- any replica's
    pub work_comes : ((r : Running) (x : RunningNumbers) → IsRunning role r → MergesSo r x) → (p : Phase) (x : Replica) → IsPhase role p → PhaseStands plan inputs (partition_of role) p x
        → (after : Phase) (sent : List (NodeId × Body)) (did : Worked) → Works role p after sent did → WorksSo p x after sent did
    work_comes merges (phase.Running r) (numbers.Running x) is s after sent did works = works_so r x is s (merges r x is) after sent did works
    work_comes merges (phase.Gathering g) (numbers.Gathering x) is s after sent did works =
        idle_so (phase.Gathering g) (numbers.Gathering x) after sent did works.0 works.1 works.2 refl
    work_comes merges (phase.Gone inc) (Gone own) is s after sent did works = idle_so (phase.Gone inc) (Gone own) after sent did works.0 works.1 works.2 refl
    work_comes merges p x is s after sent did works = absurd s
