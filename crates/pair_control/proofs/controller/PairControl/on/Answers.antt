use Rattle.std.proofs.Common.{◌⊎◌, ◌≤◌, ◌+◌, inl, inr, arith, ◌≡◌, ◌++◌, ◌∙◌, List, IsTrue, length, ap, subst, sym, rules}
use Rattle.tuple_edge.specs.declared.node.Which.TheVariants.{A, B}
use Rattle.pair_machine.specs.Controllers.{acks, backs, controller_takes, stops}
use Rattle.pair_machine.specs.Messages.{Envelope}
use Rattle.pair_machine.specs.Numbers.{Controller, Partition, control_at}
use Rattle.plan_reader.specs.Nodes.{has_node, sources_of}
use Rattle.pair_control.specs.ControllerView.{ControllerView, IsOneAway, IsOneCatching, WatchedView, numbers_of, partition_of}
use Rattle.pair_control.specs.Packets.{message_of, packets_of, taking}
use Rattle.pair_control.proofs.Courses.{course_step, machine_step}
use Rattle.pair_control.proofs.Limits.{reports_stay, rises_once}
use Rattle.pair_control.proofs.Receivers.{taking_linked}
use Rattle.pair_control.proofs.Room.{at_most_nineteen}
use Rattle.pair_control.proofs.Steps.{Along, numbers_along, packets_along}
use Rattle.pair_control.proofs.controller.PairControl.on.Goals as goal

-- the partition stays the same along the way

at_heard : (c : goal.After-acknowledge) → partition_of c.hear.new.self ≡ partition_of c.args.self.now
at_heard c = c.hear.ensures.does.partition

at_a_back : (c : goal.After-acknowledge) → partition_of c.bring_back.new.self ≡ partition_of c.args.self.now
at_a_back c = c.bring_back.ensures.does.partition ∙ at_heard c

at_b_back : (c : goal.After-acknowledge) → partition_of c.bring_back-2.new.self ≡ partition_of c.args.self.now
at_b_back c = c.bring_back-2.ensures.does.partition ∙ at_a_back c

at_a_stopped : (c : goal.After-acknowledge) → partition_of c.grant_stop.new.self ≡ partition_of c.args.self.now
at_a_stopped c = c.grant_stop.ensures.does.partition ∙ at_b_back c

at_b_stopped : (c : goal.After-acknowledge) → partition_of c.grant_stop-2.new.self ≡ partition_of c.args.self.now
at_b_stopped c = c.grant_stop-2.ensures.does.partition ∙ at_a_stopped c

at_last : (c : goal.After-acknowledge) → partition_of c.acknowledge.new.self ≡ partition_of c.args.self.now
at_last c = c.acknowledge.ensures.does.partition ∙ at_b_stopped c

edges : (c : goal.After-acknowledge) → length c.grant_stop-2.new.self.acked ≡ length c.args.self.now.acked
edges c = c.grant_stop-2.ensures.does.edges ∙ c.grant_stop.ensures.does.edges ∙ c.bring_back-2.ensures.does.edges ∙ c.bring_back.ensures.does.edges ∙ c.hear.ensures.does.edges

along : (c : goal.After-acknowledge) → Along (partition_of c.args.self.now) c.sender-which.result (message_of c.args.body.now) (numbers_of c.args.self.now)
    (numbers_of c.hear.new.self) (numbers_of c.bring_back.new.self) (numbers_of c.bring_back-2.new.self) (numbers_of c.grant_stop.new.self) (numbers_of c.grant_stop-2.new.self)
along c = record {
  hears = c.hear.ensures.does.numbers;
  back_a = c.bring_back.ensures.does.numbers ∙ ap (λ p. (backs p A (numbers_of c.hear.new.self)).0) (at_heard c);
  back_b = c.bring_back-2.ensures.does.numbers ∙ ap (λ p. (backs p B (numbers_of c.bring_back.new.self)).0) (at_a_back c);
  stop_a = c.grant_stop.ensures.does.numbers ∙ ap (λ p. (stops p A (numbers_of c.bring_back-2.new.self)).0) (at_b_back c);
  stop_b = c.grant_stop-2.ensures.does.numbers ∙ ap (λ p. (stops p B (numbers_of c.grant_stop.new.self)).0) (at_a_stopped c);
}

-- what the machine's controller does for this packet, by the replica that sent it
abbrev done : goal.After-acknowledge → (Controller × List Envelope)
done c = controller_takes (length c.args.self.now.acked) (partition_of c.args.self.now) c.sender-which.result (message_of c.args.body.now) (numbers_of c.args.self.now)

takes : (c : goal.After-acknowledge) → taking c.args.self.now c.args.from c.args.body.now ≡ done c
takes c = ap (λ from. taking c.args.self.now from c.args.body.now) c.sender-which.ensures

numbers_done : (c : goal.After-acknowledge) → numbers_of c.acknowledge.new.self ≡ (done c).0
numbers_done c =
    numbers_along (length c.args.self.now.acked) _ _ _ _ _ _ _ _ _ (along c) _
    (c.acknowledge.ensures.does.numbers ∙ (λ i. (acks (edges c i) (at_b_stopped c i) (numbers_of c.grant_stop-2.new.self)).0))

pub returns-clause-numbers : goal.returns-clause-numbers
returns-clause-numbers c = numbers_done c ∙ sym (ap (λ (d : Controller × List Envelope). d.0) (takes c))

packets_done : (c : goal.After-acknowledge) → c.acknowledge.new.out.packets ≡ c.args.out.now.packets ++ packets_of (done c).1
packets_done c = packets_along (length c.args.self.now.acked) _ _ _ _ _ _ _ _ _ (along c) _ _ _ _ _ _ _
    c.hear.ensures.does.packets
    (c.bring_back.ensures.does.packets ∙ ap (λ p. c.hear.new.out.packets ++ packets_of (backs p A (numbers_of c.hear.new.self)).1) (at_heard c))
    (c.bring_back-2.ensures.does.packets ∙ ap (λ p. c.bring_back.new.out.packets ++ packets_of (backs p B (numbers_of c.bring_back.new.self)).1) (at_a_back c))
    (c.grant_stop.ensures.does.packets ∙ ap (λ p. c.bring_back-2.new.out.packets ++ packets_of (stops p A (numbers_of c.bring_back-2.new.self)).1) (at_b_back c))
    (c.grant_stop-2.ensures.does.packets ∙ ap (λ p. c.grant_stop.new.out.packets ++ packets_of (stops p B (numbers_of c.grant_stop.new.self)).1) (at_a_stopped c))
    (c.acknowledge.ensures.does.packets ∙ (λ i. c.grant_stop-2.new.out.packets ++ packets_of (acks (edges c i) (at_b_stopped c i) (numbers_of c.grant_stop-2.new.self)).1))

pub returns-clause-packets : goal.returns-clause-packets
returns-clause-packets c = packets_done c ∙ sym (ap (λ (d : Controller × List Envelope). c.args.out.now.packets ++ packets_of d.1) (takes c))

pub returns-clause-linked : goal.returns-clause-linked
returns-clause-linked c = λ plan is.
    taking_linked plan c.args.self.now c.sender-which.result c.args.body.now c.args.out.now.packets c.acknowledge.new.out.packets (search rules) is
    (packets_done c)

pub returns-clause-of_plan : goal.returns-clause-of_plan
returns-clause-of_plan c = λ plan is.
    let same = at_last c in
    record {
      there = subst (λ (p : Partition). IsTrue (has_node plan (control_at p))) (sym same) is.there;
      edges = c.acknowledge.ensures.does.edges ∙ edges c ∙ is.edges ∙ ap (λ (p : Partition). sources_of plan p.stage) (sym same);
    }

pub returns-clause-id : goal.returns-clause-id
returns-clause-id c = ap control_at (at_last c)

pub returns-clause-step : goal.returns-clause-step
returns-clause-step c = λ plan rows m there st.
    machine_step plan rows c.args.self.now c.acknowledge.new.self c.args.from c.args.body.now m c.requires.admitted.sender c.requires.admitted.carried there st (returns-clause-numbers c)

pub returns-clause-course : goal.returns-clause-course
returns-clause-course c = λ plan rows.
    course_step plan rows c.args.self.now c.acknowledge.new.self c.args.from c.args.body.now c.requires.admitted.sender c.requires.admitted.carried (returns-clause-numbers c) (at_last c) (c.acknowledge.ensures.does.edges ∙ edges c)

pub returns-clause-reports : goal.returns-clause-reports
returns-clause-reports c =
    reports_stay (length c.args.self.now.acked) (partition_of c.args.self.now) c.sender-which.result c.args.self.now c.acknowledge.new.self c.args.body.now c.requires.admitted.carried (numbers_done c)

-- the granted clause on what is sent, and on the term
of_sent : {X Y Z : Type 0} → (X × Y) ⊎ Z → X ⊎ Z
of_sent (inl h) = inl h.0
of_sent (inr z) = inr z

of_term : {X Y Z : Type 0} → (X × Y) ⊎ Z → Y ⊎ Z
of_term (inl h) = inl h.1
of_term (inr z) = inr z

-- one that is catching up isn't up
is_away : (v : ControllerView) → IsOneCatching v → IsOneAway v
is_away v (inl e) = inl (λ up. cc)
is_away v (inr e) = inr (λ up. cc)

pub returns-clause-few : goal.returns-clause-few
returns-clause-few c =
    at_most_nineteen (IsOneCatching c.bring_back.new.self) (IsOneCatching c.bring_back-2.new.self) (IsOneAway c.grant_stop.new.self) _ _ _ _ _ _ _ c.hear.ensures.sends
    c.bring_back.ensures.sends c.bring_back.ensures.back
    c.bring_back-2.ensures.sends c.bring_back-2.ensures.back c.bring_back-2.ensures.quiet
    c.grant_stop.ensures.sends (of_sent c.grant_stop.ensures.granted) (λ h. let x = c.grant_stop.ensures.alone (is_away c.bring_back-2.new.self h) in (x.0, x.2))
    c.grant_stop-2.ensures.sends (λ h. (c.grant_stop-2.ensures.alone h).0)
    c.acknowledge.ensures.sends

pub returns-clause-small : goal.returns-clause-small
returns-clause-small c =
    let t : c.acknowledge.new.self.term ≤ c.args.self.now.term + 1 =
    rises_once (IsOneAway c.hear.new.self) (IsOneAway c.bring_back-2.new.self) (IsOneAway c.grant_stop.new.self)
    c.args.self.now.term c.hear.new.self.term c.bring_back-2.new.self.term c.grant_stop.new.self.term c.acknowledge.new.self.term
    c.hear.ensures.term c.hear.ensures.alone (c.bring_back-2.ensures.term ∙ c.bring_back.ensures.term) (λ h. c.bring_back-2.ensures.away (c.bring_back.ensures.away h))
    c.grant_stop.ensures.term (of_term c.grant_stop.ensures.granted) (λ h. let x = c.grant_stop.ensures.alone h in (x.1, x.2))
    (let e = c.acknowledge.ensures.term in let l = c.grant_stop-2.ensures.term in omega arith)
    (λ h. c.acknowledge.ensures.term ∙ (c.grant_stop-2.ensures.alone h).1) in
    let a : c.bring_back-2.new.self.a.inc ≡ c.bring_back.new.self.a.inc = ap (λ (h : WatchedView). h.inc) c.bring_back-2.ensures.partner in
    let b : c.bring_back.new.self.b.inc ≡ c.hear.new.self.b.inc = ap (λ (h : WatchedView). h.inc) c.bring_back.ensures.partner in
    let a_rises : c.bring_back.new.self.a.inc ≤ c.hear.new.self.a.inc + 1 = c.bring_back.ensures.inc in
    let b_rises : c.bring_back-2.new.self.b.inc ≤ c.bring_back.new.self.b.inc + 1 = c.bring_back-2.ensures.inc in
    let heard = c.hear.ensures.incs in
    let a_stopped = c.grant_stop.ensures.incs in
    let b_stopped = c.grant_stop-2.ensures.incs in
    let last = c.acknowledge.ensures.incs in
    let room = c.requires.admitted.rises in
    (omega arith, omega arith, omega arith)
