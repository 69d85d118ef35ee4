-- What is always true of a replica stays true over a piece of work.
use Rattle.std.proofs.Common.{◌≡◌, ◌<◌, ◌+◌, ℕ, Bool, true, false, List, ◌++◌, Option, None, Some, Result, Ok, Err, length, refl, sym, ap, subst, arith}
use Rattle.std.specs.Prelude.{IfOk, OnErr, ◌==◌, if◌then◌else◌, slice_get}
use Rattle.std.proofs.Math.ListN.{length-set}
use Rattle.std.proofs.lemmas.Bool.{lt-ltb}
use Rattle.std.proofs.lemmas.List.{length-append, length-map}
use Rattle.std.proofs.lemmas.Option.{slice_get_within}
use Rattle.tuple_edge.specs.declared.event.Worked.{Worked}
use Rattle.tuple_edge.specs.declared.event.Worked.TheVariants as worked
use Rattle.tuple_edge.specs.declared.item.Item.{Item}
use Rattle.tuple_edge.specs.declared.memory.OutOfMemory.{OutOfMemory}
use Rattle.tuple_edge.specs.declared.node.NodeId.{NodeId}
use Rattle.tuple_edge.specs.declared.packet.Body.{Body}
use Rattle.tuple_edge.specs.declared.packet.Entry.{Entry}
use Rattle.merge_order.specs.MergeView.{item_of, least}
use Rattle.flux_consumer.specs.ConsumerView.{report_of, telling}
use Rattle.flux_producer.specs.Due.{due_of}
use Rattle.flux_producer.specs.OutEdge.{acknowledged, rewound, wanted}
use Rattle.flux_producer.specs.OutEdge as edge
use Rattle.flux_producer.specs.ProducerView.{contents_of, edge_at, without_room}
use Rattle.flux_producer.specs.declared.due.Due.{Due}
use Rattle.pair_machine.specs.Receivers.{appended}
use Rattle.state_mover.specs.MoverView.{IsMidway, MoverView, after_next, keyed_among, moved_at, moved_from, total_of}
use Rattle.stream_ops.specs.Entries.{last_place}
use Rattle.state_mover.specs.declared.mover.Moved.{Moved}
use Rattle.state_mover.specs.declared.mover.Moved.TheVariants as moved
use Rattle.replica_node.specs.IsReplica.{IsMoving, IsPhase, IsRunning}
use Rattle.replica_node.specs.Rules.{IsSure, Merges, MergesOrMoves, Moves, MovesOrSends, Reports, SendsOrReports, Works, contents_in_phase, contents_in_running, part_given, sent_due, told_one}
use Rattle.replica_node.specs.declared.phase.Phase.{Phase}
use Rattle.replica_node.specs.declared.phase.Phase.TheVariants as phase
use Rattle.replica_node.specs.declared.phase.Running.{Running}
use Rattle.replica_node.specs.declared.role.Role.{Role}
use Rattle.replica_node.proofs.Kept.{with_consumer, with_producer}

-- ---- moves

-- a mover that gave a chunk has more to give
chunk_midway : (m : MoverView) (old : List Entry) (number : ℕ) (e : Entry) → IsMidway m old → m.sent < total_of m → Some (moved.Chunk number e) ≡ moved_at (m.fixed ++ old) m.sent
    → IsMidway (after_next m old) old × ((after_next m old).sent < total_of (after_next m old))
chunk_midway m old number e midway more next = by_entry (slice_get (m.fixed ++ old) m.sent) refl next
  where
    after : MoverView
    after = record m { sent = m.sent + 1; last = last_place (keyed_among m (m.sent + 1)) old }

    given : m.sent < length (m.fixed ++ old) → IsMidway (after_next m old) old × ((after_next m old).sent < total_of (after_next m old))
    given inside =
        let many : length (m.fixed ++ old) ≡ length m.fixed + length old = length-append m.fixed old in
        let count : length old ≡ m.entries = midway.count in
        subst (λ (z : MoverView). IsMidway z old × (z.sent < total_of z)) (sym (ap (λ (b : Bool). if b then after else m) (lt-ltb m.sent (total_of m) more)))
        (record { count = count; place = λ some. refl }, omega (arith, many, count, inside))

    at_end : (b : Bool) (n : ℕ) → Some (moved.Chunk number e) ≡ (if b then Some (moved.End n) else None) → ⊥
    at_end true n next = cc next
    at_end false n next = cc next

    by_entry : (o : Option Entry) → slice_get (m.fixed ++ old) m.sent ≡ o → Some (moved.Chunk number e) ≡ moved_from m.sent (length (m.fixed ++ old)) o
        → IsMidway (after_next m old) old × ((after_next m old).sent < total_of (after_next m old))
    by_entry (Some next_one) at next = given (slice_get_within (m.fixed ++ old) m.sent next_one at)
    by_entry None at next = absurd (at_end (m.sent == length (m.fixed ++ old)) (length (m.fixed ++ old)) next)

part_stays : (role : Role) (m : MoverView) (r : Running) (old : List Entry) (part : Moved) → IsRunning role r → r.state.old ≡ Some old → IsMidway m old → m.sent < total_of m
    → Some part ≡ moved_at (m.fixed ++ old) m.sent → IsRunning role (part_given (after_next m old) part r)
part_stays role m r old (moved.Chunk number e) is watched midway more next = record {
  sources = is.sources;
  stage = is.stage;
  from = is.from;
  copies = is.copies;
  targets = is.targets;
  op = is.op;
  timely = is.timely;
  moving = subst (λ o. IsMoving (Some (after_next m old)) o) (sym watched) (chunk_midway m old number e midway more next);
}
part_stays role m r old (moved.End count) is watched midway more next = record {
  sources = is.sources;
  stage = is.stage;
  from = is.from;
  copies = is.copies;
  targets = is.targets;
  op = is.op;
  timely = is.timely;
  moving = refl;
}

pub moves_stay : (role : Role) (m : MoverView) (r after : Running) (sent : List (NodeId × Body)) → IsRunning role r → r.mover ≡ Some m → Moves role m r after sent → IsRunning role after
moves_stay role m r after sent is named moves = by_old r.state.old refl (subst (λ o. IsMoving o r.state.old) named is.moving)
  where
    by_old : (o : Option (List Entry)) → r.state.old ≡ o → IsMoving (Some m) o → IsRunning role after
    by_old None none moving = absurd moving
    by_old (Some old) watched moving =
        subst (IsRunning role) (sym (moves.given old watched)) (part_stays role m r old moves.part is watched moving.0 moving.1 (moves.next old watched))

-- ---- items and reports

sent_stays : (role : Role) (d : Due) (r : Running) → IsRunning role r → IsRunning role (sent_due d r)
sent_stays role d r is =
    with_producer role r (sent_due d r).producer refl refl refl (length-set r.producer.edges d.to (edge.sent (edge_at r.producer d.to) d.copy)) is

told_stays : (role : Role) (report : ℕ × ℕ) (r : Running) → IsRunning role r → IsRunning role (told_one report r)
told_stays role report r is = with_consumer role r (telling r.consumer report.0) refl is.timely is

-- ---- work

module _ (role : Role) where
  -- the rule of a merge, which is another one's
  abbrev pub MergesStay : Type 0
  MergesStay = (i : Item) (r s : Running) → item_of (least r.consumer.merge.waiting) ≡ Some i → Merges role i r s → IsRunning role r → IsRunning role s

  pub after_is : (after later : Phase) → after ≡ later → IsPhase role later → IsPhase role after
  after_is after later same is = subst (IsPhase role) (sym same) is

  reports_stay : (r : Running) (after : Phase) (sent : List (NodeId × Body)) (did : Worked) → IsRunning role r → (o : Option (ℕ × ℕ)) → Reports role r o after sent did → IsPhase role after
  reports_stay r after sent did is None works = after_is after (phase.Running r) works.0 is
  reports_stay r after sent did is (Some report) works = after_is after (phase.Running (told_one report r)) works.0 (told_stays role report r is)

  sends_stay : (r : Running) (after : Phase) (sent : List (NodeId × Body)) (did : Worked) → IsRunning role r → (o : Option Due) → SendsOrReports role r o after sent did → IsPhase role after
  sends_stay r after sent did is None works = reports_stay r after sent did is (report_of r.consumer) works
  sends_stay r after sent did is (Some d) works = after_is after (phase.Running (sent_due d r)) works.0 (sent_stays role d r is)

  move_stays : (r : Running) (after : Phase) (sent : List (NodeId × Body)) (did : Worked) → IsRunning role r → (o : Option MoverView) → r.mover ≡ o → MovesOrSends role r o after sent did → IsPhase role after
  move_stays r after sent did is None named works = sends_stay r after sent did is (due_of r.producer) works
  move_stays r after sent did is (Some m) named works = after_is after (phase.Running works.0) works.1 (moves_stay role m r works.0 sent is named works.2)

  merge_stays : MergesStay → (r : Running) (after : Phase) (sent : List (NodeId × Body)) (did : Worked) → IsRunning role r → (o : Option Item) → item_of (least r.consumer.merge.waiting) ≡ o → MergesOrMoves role r o after sent did
      → IsPhase role after
  merge_stays merges r after sent did is None found works = move_stays r after sent did is r.mover refl works
  merge_stays merges r after sent did is (Some i) found works = after_is after (phase.Running works.0) works.1 (merges i r works.0 found works.2 is)

  pub work_stays : MergesStay → (p after : Phase) (sent : List (NodeId × Body)) (did : Worked) → IsPhase role p → Works role p after sent did → IsPhase role after
  work_stays merges (phase.Running r) after sent did is works = merge_stays merges r after sent did is (item_of (least r.consumer.merge.waiting)) refl works
  work_stays merges (phase.Gathering g) after sent did is works = after_is after (phase.Gathering g) works.0 is
  work_stays merges (phase.Gone inc) after sent did is works = after_is after (phase.Gone inc) works.0 is

-- ---- a call, which may have wanted memory

roomless : (role : Role) (p : Phase) → IsPhase role p → IsPhase role (contents_in_phase p)
roomless role (phase.Running r) is = with_producer role r (contents_of r.producer) refl refl refl (length-map r.producer.edges without_room) is
roomless role (phase.Gathering g) is = is
roomless role (phase.Gone inc) is = is

roomy : (role : Role) (p : Phase) → IsPhase role (contents_in_phase p) → IsPhase role p
roomy role (phase.Running r) is =
    with_producer role (contents_in_running r) r.producer refl refl refl (sym (length-map r.producer.edges without_room)) is
roomy role (phase.Gathering g) is = is
roomy role (phase.Gone inc) is = is

-- the room of its edges doesn't matter
pub room_stays : (role : Role) (p after : Phase) → contents_in_phase after ≡ contents_in_phase p → IsPhase role p → IsPhase role after
room_stays role p after same is = roomy role after (subst (IsPhase role) (sym same) (roomless role p is))

pub done_stays : (role : Role) (result : Result Worked OutOfMemory) (p after : Phase) (before later : List (NodeId × Body)) → MergesStay role → IsPhase role p
    → IfOk result (λ did. Works role p after (appended before later) did) → OnErr result ((contents_in_phase after ≡ contents_in_phase p) × (later ≡ before)) → IsPhase role after
done_stays role (Ok did) p after before later merges is works same = work_stays role merges p after (appended before later) did is works
done_stays role (Err e) p after before later merges is works same = room_stays role p after same.0 is

-- the same of a call that may have waited for a mark to rise
pub waited_stays : (Z : Type 0) (role : Role) (rise : ℕ) (result : Result Worked OutOfMemory) (p after : Phase) (before later : List (NodeId × Body)) → MergesStay role → IsPhase role p
    → IfOk result (λ did. IsSure rise did → Works role p after (appended before later) did) → IfOk result (λ did. did ≡ worked.Idle → (after ≡ p) × Z)
    → OnErr result ((contents_in_phase after ≡ contents_in_phase p) × (later ≡ before)) → IsPhase role after
waited_stays Z role rise (Ok worked.Did) p after before later merges is works idle same = work_stays role merges p after (appended before later) worked.Did is (works tt)
waited_stays Z role rise (Ok worked.Idle) p after before later merges is works idle same = after_is role after p (idle refl).0 is
waited_stays Z role rise (Err e) p after before later merges is works idle same = room_stays role p after same.0 is
