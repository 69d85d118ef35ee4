-- A piece of work sends at most one packet, over a link of the plan.
use Rattle.std.proofs.Common.{◌≡◌, ◌<◌, ◌≤◌, ◌+◌, ◌-◌, ℕ, Bool, true, false, IsTrue, List, [], Option, None, Some, length, refl, sym, subst, arith}
use Rattle.std.specs.Prelude.{if◌then◌else◌, slice_get}
use Rattle.std.proofs.lemmas.Option.{slice_get_within}
use Rattle.tuple_edge.specs.declared.event.Worked.{Worked}
use Rattle.tuple_edge.specs.declared.item.Item.{Item}
use Rattle.tuple_edge.specs.declared.node.NodeId.{NodeId}
use Rattle.tuple_edge.specs.declared.node.NodeId.TheVariants as node
use Rattle.tuple_edge.specs.declared.node.Which.{Which}
use Rattle.tuple_edge.specs.declared.node.Which.TheVariants.{A, B}
use Rattle.tuple_edge.specs.declared.packet.Body.{Body}
use Rattle.ack_buffer.specs.Buffer as buffer
use Rattle.merge_order.specs.MergeView.{item_of, least}
use Rattle.flux_consumer.specs.ConsumerView.{report_of}
use Rattle.flux_producer.specs.Due.{due_of, due_to, soonest_below}
use Rattle.flux_producer.specs.ProducerView.{ProducerView, buffer_at}
use Rattle.flux_producer.specs.declared.due.Due.{Due}
use Rattle.flux_producer.proofs.Dues.{due_least}
use Rattle.plan_reader.specs.Nodes.{has_link, parts_of}
use Rattle.plan_reader.specs.PlanView.{PlanView}
use Rattle.plan_reader.specs.declared.stage.Stage.{Stage}
use Rattle.pair_machine.specs.Counts.{flow_of}
use Rattle.pair_machine.specs.Links.{HasNode, link}
use Rattle.pair_machine.specs.Messages.{AskBack, Chunk, Tuple}
use Rattle.pair_machine.specs.Numbers.{control_at, other, out_edge}
use Rattle.pair_machine.specs.Receivers.{GoOverLinks}
use Rattle.pair_machine.proofs.PlanNodes.{links_named}
use Rattle.move_list.proofs.Lists.{none_past}
use Rattle.state_mover.specs.MoverView.{MoverView}
use Rattle.state_mover.specs.declared.mover.Moved.{Moved}
use Rattle.state_mover.specs.declared.mover.Moved.TheVariants as moved
use Rattle.replica_node.specs.IsReplica.{IsPhase, IsRunning}
use Rattle.replica_node.specs.ReplicaView.{node_of, partition_of, partner_of, targets_of}
use Rattle.replica_node.specs.Rules.{MergesOrMoves, MovesOrSends, Reports, SendsOrReports, Works, part_sent, receiver_of, report_sent, tuples_of}
use Rattle.replica_node.specs.StandsFor.{IsOfPlan}
use Rattle.replica_node.specs.declared.phase.Phase.{Phase}
use Rattle.replica_node.specs.declared.phase.Phase.TheVariants as phase
use Rattle.replica_node.specs.declared.phase.Running.{Running}
use Rattle.replica_node.specs.declared.role.Role.{Role}
use Rattle.replica_node.proofs.Roles.{targets_are}

-- ---- at most one packet

module _ (role : Role) (r : Running) (after : Phase) (sent : List (NodeId × Body)) (did : Worked) where
  as_few : (given : List (NodeId × Body)) → sent ≡ given → length given ≤ 1 → length sent ≤ 1
  as_few given same few = subst (λ (z : List (NodeId × Body)). length z ≤ 1) (sym same) few

  few_reports : (o : Option (ℕ × ℕ)) → Reports role r o after sent did → length sent ≤ 1
  few_reports None works = as_few [] works.1 (omega arith)
  few_reports (Some report) works = as_few (report_sent role r report) works.1 (omega arith)

  few_tuples : (d : Due) (o : Option Item) → length (tuples_of role d o) ≤ 1
  few_tuples d None = omega arith
  few_tuples d (Some i) = omega arith

  few_sends : (o : Option Due) → SendsOrReports role r o after sent did → length sent ≤ 1
  few_sends None works = few_reports (report_of r.consumer) works
  few_sends (Some d) works =
      as_few (tuples_of role d (buffer.item_at (buffer_at r.producer d.to) d.number)) works.1 (few_tuples d (buffer.item_at (buffer_at r.producer d.to) d.number))

  few_parts : (m : MoverView) (part : Moved) → length (part_sent role m part) ≤ 1
  few_parts m (moved.Chunk number e) = omega arith
  few_parts m (moved.End count) = omega arith

  few_moves : (o : Option MoverView) → MovesOrSends role r o after sent did → length sent ≤ 1
  few_moves None works = few_sends (due_of r.producer) works
  few_moves (Some m) works = as_few (part_sent role m works.2.part) works.2.sent_is (few_parts m works.2.part)

  few_merges : (o : Option Item) → MergesOrMoves role r o after sent did → length sent ≤ 1
  few_merges None works = few_moves r.mover works
  few_merges (Some i) works = as_few [] works.3 (omega arith)

pub works_few : (role : Role) (p after : Phase) (sent : List (NodeId × Body)) (did : Worked) → Works role p after sent did → length sent ≤ 1
works_few role (phase.Running r) after sent did works = few_merges role r after sent did (item_of (least r.consumer.merge.waiting)) works
works_few role (phase.Gathering g) after sent did works = subst (λ (z : List (NodeId × Body)). length z ≤ 1) (sym works.1) (omega arith)
works_few role (phase.Gone inc) after sent did works = subst (λ (z : List (NodeId × Body)). length z ≤ 1) (sym works.1) (omega arith)

-- ---- links

back_again : (w : Which) → w ≡ other (other w)
back_again A = refl
back_again B = refl

-- what is due is of an edge that is there
due_there : (y : ProducerView) (d : Due) (b : Bool) → (if b then soonest_below (due_to y) (length y.edges) else None) ≡ Some d → d.to < length y.edges
due_there y d false found = let z : ⊥ = cc found in absurd z
due_there y d true found = (due_least y (Some d) (sym found)).waits.edge

module _ (plan : PlanView) (role : Role) (is_of : IsOfPlan plan role) where
  here : HasNode (flow_of plan []) (node_of role)
  unfolding flow_of
  here = let same : role.stage ≡ role.stage + 1 - 1 = omega arith in ((is_of.first, is_of.last), subst (λ n. role.part < parts_of plan n) same is_of.part)

  pub partner_linked : IsTrue (has_link plan (link (node_of role) (partner_of role)))
  partner_linked = links_named plan [] (link (node_of role) (partner_of role)) (Chunk 0 0 (record { marks = λ q. 0; count = 0; lows = λ t. 0 })) here here (refl, refl, back_again role.which)

  pub control_linked : IsTrue (has_link plan (link (node_of role) (control_at (partition_of role))))
  control_linked = links_named plan [] (link (node_of role) (control_at (partition_of role))) AskBack here here (refl, refl)

  pub receiver_linked : (d : Due) → d.to < targets_of role.next → IsTrue (has_link plan (link (node_of role) (receiver_of role role.next d)))
  unfolding flow_of
  receiver_linked d there = by_next role.next is_of.next there
    where
      inside : d.to < parts_of plan (role.stage + 1 + 1 - 1)
      inside =
          let same : role.stage + 1 ≡ role.stage + 1 + 1 - 1 = omega arith in
          subst (λ n. d.to < parts_of plan n) same (subst (λ n. d.to < n) (sym (targets_are plan role is_of)) there)

      by_next : (o : Option Stage) → slice_get plan.stages role.stage ≡ o → d.to < targets_of o → IsTrue (has_link plan (link (node_of role) (receiver_of role o d)))
      by_next None at only =
          let past : length plan.stages ≤ role.stage = none_past plan.stages role.stage at in
          let within : role.stage ≤ length plan.stages = is_of.last in
          let last : role.stage ≡ length plan.stages = omega (arith, past, within) in
          links_named plan [] (link (node_of role) node.Egress) (Tuple (out_edge (partition_of role) d.to) d.number) here (tt, tt) ((is_of.first, refl, refl), (last, omega (arith, only)))
      by_next (Some stage) at only =
          let within : role.stage < length plan.stages = slice_get_within plan.stages role.stage stage at in
          links_named plan [] (link (node_of role) (receiver_of role (Some stage) d)) (Tuple (out_edge (partition_of role) d.to) d.number) here ((omega arith, omega (arith, within)), inside)
          ((is_of.first, refl, refl), (refl, refl))

  module _ (r : Running) (after : Phase) (sent : List (NodeId × Body)) (did : Worked) where
    so_linked : (given : List (NodeId × Body)) → sent ≡ given → GoOverLinks plan (node_of role) given → GoOverLinks plan (node_of role) sent
    so_linked given same linked = subst (GoOverLinks plan (node_of role)) (sym same) linked

    reports_linked : (o : Option (ℕ × ℕ)) → Reports role r o after sent did → GoOverLinks plan (node_of role) sent
    reports_linked None works = so_linked [] works.1 tt
    reports_linked (Some report) works = so_linked (report_sent role r report) works.1 (control_linked, tt)

    tuples_linked : (d : Due) → d.to < targets_of role.next → (o : Option Item) → GoOverLinks plan (node_of role) (tuples_of role d o)
    tuples_linked d there None = tt
    tuples_linked d there (Some i) = (receiver_linked d there, tt)

    sends_linked : IsRunning role r → (o : Option Due) → due_of r.producer ≡ o → SendsOrReports role r o after sent did → GoOverLinks plan (node_of role) sent
    sends_linked is None found works = reports_linked (report_of r.consumer) works
    sends_linked is (Some d) found works =
        so_linked (tuples_of role d (buffer.item_at (buffer_at r.producer d.to) d.number)) works.1
        (tuples_linked d (subst (λ n. d.to < n) is.targets (due_there r.producer d r.producer.leads found)) (buffer.item_at (buffer_at r.producer d.to) d.number))

    parts_linked : (m : MoverView) (part : Moved) → GoOverLinks plan (node_of role) (part_sent role m part)
    parts_linked m (moved.Chunk number e) = (partner_linked, tt)
    parts_linked m (moved.End count) = (partner_linked, tt)

    moves_linked : IsRunning role r → (o : Option MoverView) → MovesOrSends role r o after sent did → GoOverLinks plan (node_of role) sent
    moves_linked is None works = sends_linked is (due_of r.producer) refl works
    moves_linked is (Some m) works = so_linked (part_sent role m works.2.part) works.2.sent_is (parts_linked m works.2.part)

    merges_linked : IsRunning role r → (o : Option Item) → MergesOrMoves role r o after sent did → GoOverLinks plan (node_of role) sent
    merges_linked is None works = moves_linked is r.mover works
    merges_linked is (Some i) works = so_linked [] works.3 tt

  pub works_linked : (p after : Phase) (sent : List (NodeId × Body)) (did : Worked) → IsPhase role p → Works role p after sent did → GoOverLinks plan (node_of role) sent
  works_linked (phase.Running r) after sent did is works = merges_linked r after sent did is (item_of (least r.consumer.merge.waiting)) works
  works_linked (phase.Gathering g) after sent did is works = subst (GoOverLinks plan (node_of role)) (sym works.1) tt
  works_linked (phase.Gone inc) after sent did is works = subst (GoOverLinks plan (node_of role)) (sym works.1) tt
