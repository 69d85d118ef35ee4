-- A packet at a controller is the machine's step: what is acknowledged, who gets packets, and what they stand for.
use Rattle.std.proofs.Common.{◌≡◌, ◌≢◌, ◌<◌, ◌≤◌, ◌+◌, ◌-◌, ◌++◌, ◌∙◌, ℕ, zero, suc, Bool, true, false, List, [], ◌∷◌, Option, None, Some, Ok, length, drop, max, min, slice_index, refl, ap, sym, subst, append_assoc, arith}
use Rattle.std.specs.Prelude.{◌==◌, if◌then◌else◌, nat_lt, unwrap_or}
use Rattle.std.specs.Option.{option_or}
use Rattle.std.proofs.lemmas.Bool.{eqb-true, eq-eqb}
use Rattle.std.proofs.lemmas.List.{drop_at}
use Rattle.tuple_edge.specs.Input.{Input}
use Rattle.plan_reader.specs.Nodes.{parts_of, sources_of}
use Rattle.plan_reader.specs.PlanView.{PlanView}
use Rattle.pair_machine.specs.Consumers.{first_below}
use Rattle.pair_machine.specs.CountLaws.{IsOfStage}
use Rattle.pair_machine.specs.Counts.{flow_of}
use Rattle.pair_machine.specs.Drain.{partition}
use Rattle.pair_machine.specs.Flow.{Flow}
use Rattle.pair_machine.specs.Lists.{Each}
use Rattle.pair_machine.specs.Numbers.{Partition, in_edge}
use Rattle.pair_machine.proofs.Lists.{each_append}
use Rattle.pair_machine.proofs.Tests.{if_elim}
use Rattle.trio_machine.specs.Controllers.{acks, acks_from, controller_hears, controller_takes, downed, goes_down, leads_now, least, least_below, least_with, named}
use Rattle.trio_machine.specs.Flow.{IsTrioPlan, trio_flow}
use Rattle.trio_machine.specs.Links.{HasNode, IsCarried}
use Rattle.trio_machine.specs.Machine.{controller_in, does}
use Rattle.trio_machine.specs.Messages.{Ack, Down, Envelope, Lead, Message, Report, Takes, envelope}
use Rattle.trio_machine.specs.Numbers.{Controller, ControllerNode, Node, control_at, copy_of, group_size, replica_at}
use Rattle.trio_machine.specs.Replicas.{to_group, to_producers}
use Rattle.trio_machine.specs.declared.body.TrioBody.{TrioBody}
use Rattle.trio_machine.specs.declared.node.TrioNode.{TrioNode}
use Rattle.trio_machine.specs.declared.node.TrioNode.TheVariants as node
use Rattle.trio_nodes.specs.Contents.{ArePacketsFor, GoOverLinks, HasItem, appended, envelopes_of, message_of}
use Rattle.trio_nodes.specs.ControllerPackets.{IsAcknowledged, IsOfPlan, StandsFor, body_of, packets_of, taking}
use Rattle.trio_nodes.specs.ControllerView.{ControllerView, IsUp, node_of, numbers_of, partition_of, watched_in}
use Rattle.trio_nodes.specs.Steps.{IsTaken}
use Rattle.trio_nodes.proofs.Acknowledging.{packets_of-append}

-- ---- what is acknowledged

abbrev AtMost : Option ℕ → ℕ → Type 0
AtMost None k = ⊥
AtMost (Some j) k = j ≤ k

-- the least report is at most that of each replica that is up
least_up : (x : Controller) (q d n : ℕ) → d < n → x.up d ≡ true → AtMost (least_below x q n) (x.reports d q)
least_up x q d zero there up = absurd (omega arith)
least_up x q d (suc n) there up = go (λ l. least_up x q d n l up) (n == d) refl
  where
    both : (o : Option ℕ) → AtMost o (x.reports d q) → AtMost (if x.up n then Some (least_with o (x.reports n q)) else o) (x.reports d q)
    both None h = absurd h
    both (Some j) h = if_elim (λ o. AtMost o (x.reports d q)) (x.up n) (Some (min j (x.reports n q))) (Some j) (λ t. omega arith) (λ t. h)

    own : (o : Option ℕ) (b : Bool) → b ≡ true → AtMost (if b then Some (least_with o (x.reports n q)) else o) (x.reports n q)
    own None true e = omega arith
    own (Some j) true e = omega arith
    own o false e = let z : ⊥ = cc e in absurd z

    go : (d < n → AtMost (least_below x q n) (x.reports d q)) → (b : Bool) → (n == d) ≡ b → AtMost (least_below x q (suc n)) (x.reports d q)
    go before true e = let same = eqb-true n d e in subst (λ k. AtMost (least_below x q (suc n)) (x.reports k q)) same (own (least_below x q n) (x.up n) (ap x.up same ∙ up))
    go before false e = both (least_below x q n) (before (let ne : n ≢ d = λ z. (let y = eq-eqb n d z in cc) in omega arith))

at_most : (o : Option ℕ) (known k : ℕ) → AtMost o k → max known (unwrap_or o known) ≤ max known k
at_most None known k h = absurd h
at_most (Some j) known k h = omega arith

pub acknowledged : (old heard new : ControllerView) (edges : ℕ) (p : Partition) → heard.acked ≡ old.acked → numbers_of new ≡ (acks edges p (numbers_of heard)).0 → new.watched ≡ heard.watched
    → length new.watched ≡ group_size → (q : ℕ) → IsAcknowledged old new q
acknowledged old heard new edges p same numbers watched three q =
    let known = ap (λ xs. slice_index xs q) same in
    let now : slice_index new.acked q ≡ max (slice_index heard.acked q) (least (numbers_of heard) q) = ap (λ (x : Controller). x.acked q) numbers in
    record {
      stays = omega arith;
      reported = λ d up.
          let is_up : (numbers_of heard).up d ≡ true = ap (λ ws. (watched_in ws d).up) (sym watched) ∙ up.up in
          let most = at_most (least_below (numbers_of heard) q group_size) (slice_index heard.acked q) _ (least_up (numbers_of heard) q d group_size (let there = up.there in omega arith) is_up) in
          let report = ap (λ ws. slice_index (watched_in ws d).reports q) watched in
          omega arith;
    }

-- ---- the packets

pub packets_along : (o o_heard o_last : List (TrioNode × TrioBody)) (edges edges_heard : ℕ) (p p_heard : Partition) (x : Controller) (heard : Controller × List Envelope) → o_heard ≡ o ++ packets_of heard.1
    → x ≡ heard.0 → p_heard ≡ p → edges_heard ≡ edges → o_last ≡ o_heard ++ packets_of (acks edges_heard p_heard x).1 → o_last ≡ o ++ packets_of (heard.1 ++ (acks edges p heard.0).1)
packets_along o o_heard o_last edges edges_heard p p_heard x heard first same_x same_p same_edges last =
    last ∙ (λ i. first i ++ packets_of (acks (same_edges i) (same_p i) (same_x i)).1)
    ∙ append_assoc o (packets_of heard.1) (packets_of (acks edges p heard.0).1)
    ∙ ap (λ ms. o ++ ms) (sym (packets_of-append heard.1 (acks edges p heard.0).1))

-- what holds of nobody, and of each of the three replicas, holds of the first one of which a test holds
by_first : (P : Option ℕ → Type 0) → P None → ((d : ℕ) → d < group_size → P (Some d)) → (test : ℕ → Bool) → P (first_below test group_size)
by_first P none some test = go (test 0) (test 1) (test 2)
  where
    go : (a b c : Bool) → P (option_or (option_or (option_or None (if a then Some 0 else None)) (if b then Some 1 else None)) (if c then Some 2 else None))
    go true b c = some 0 (omega arith)
    go false true c = some 1 (omega arith)
    go false false true = some 2 (omega arith)
    go false false false = none

module _ (P : Envelope → Type 0) (p : Partition) (edges : ℕ) (leads : (d t : ℕ) → d < group_size → P (envelope (replica_at p d) (Lead t)))
    (acknowledges : (q k : ℕ) → q < edges → Each P (to_producers p q (Ack (in_edge p q) k))) where
  hears_each : (c : ℕ) (m : Message) (x : Controller) → Each P (controller_hears p c m x).1
  hears_each c (Report e k) x = if_elim (λ (d : Controller × List Envelope). Each P d.1) (x.up c) _ _ (λ t. tt) (λ t. tt)
  hears_each c Down x = if_elim (λ (d : Controller × List Envelope). Each P d.1) (x.up c) _ _ (λ t. down) (λ t. tt)
    where
      down : Each P (goes_down p c x).1
      down = if_elim (λ (d : Controller × List Envelope). Each P d.1) (leads_now x.leader c) _ _
          (λ t. by_first (λ o. Each P (named p (downed c x) o).1) tt (λ d there. (leads d _ there, tt)) (downed c x).up) (λ t. tt)
  hears_each c m x = tt

  acks_each : (more q : ℕ) (x : Controller) → q + more ≤ edges → Each P (acks_from more q p x)
  acks_each zero q x h = tt
  acks_each (suc more) q x h = each_append P _ (acks_from more (q + 1) p x)
      (if_elim (Each P) (nat_lt (x.acked q) (least x q)) (to_producers p q (Ack (in_edge p q) (least x q))) [] (λ t. acknowledges q (least x q) (omega arith)) (λ t. tt))
      (acks_each more (q + 1) x (omega arith))

  pub takes_each : (c : ℕ) (m : Message) (x : Controller) → Each P (controller_takes edges p c m x).1
  takes_each c m x =
      let heard = controller_hears p c m x in each_append P heard.1 (acks edges p heard.0).1 (hears_each c m x) (acks_each edges 0 heard.0 (omega arith))

-- ---- what they stand for

-- the body of what a controller sends has its numbers, and carries no item
record IsWell (e : Envelope) : Type 0 where
  numbers : message_of (body_of e.message) ≡ e.message
  item : (plan : PlanView) (inputs : List Input) → HasItem plan inputs (body_of e.message)

takes_well : (p : Partition) (edges c : ℕ) (m : Message) (x : Controller) → Each IsWell (controller_takes edges p c m x).1
takes_well p edges c m x =
    takes_each IsWell p edges (λ d t there. record { numbers = refl; item = λ plan inputs. tt })
    (λ q k there. if_elim (Each IsWell) (p.stage == 1) _ _ (λ t. (one q k, tt)) (λ t. (one q k, (one q k, (one q k, tt))))) c m x
  where
    one : {to : TrioNode} → (q k : ℕ) → IsWell (envelope to (Ack (in_edge p q) k))
    one q k = record { numbers = refl; item = λ plan inputs. tt }

packets_stand : (plan : PlanView) (inputs : List Input) (es : List Envelope) → Each IsWell es → ArePacketsFor plan inputs (packets_of es) es
packets_stand plan inputs [] h = record { messages = refl; items = tt }
packets_stand plan inputs (e ∷ es) h =
    let more = packets_stand plan inputs es h.1 in
    record { messages = λ i. envelope e.to (h.0.numbers i) ∷ more.messages i; items = (h.0.item plan inputs, more.items) }

pub taken : (plan : PlanView) (inputs : List Input) (old new : ControllerView) (from : TrioNode) (b : TrioBody) → numbers_of new ≡ (taking old from b).0 → partition_of new ≡ partition_of old → length new.acked ≡ length old.acked
    → IsTaken plan inputs (node_of old) (StandsFor (trio_flow plan inputs) old) (StandsFor (trio_flow plan inputs) new) from b (packets_of (taking old from b).1)
taken plan inputs old new from b numbers same edges m st x stands asks =
    let f = trio_flow plan inputs in
    let p = partition_of old in
    let done = taking old from b in (
      (ControllerNode done.0, done.1),
      (λ i.
          let d = controller_takes (sym stands.edges i) p (copy_of from) (sym st.numbers i) (controller_in (stands.numbers i)) in Ok (ControllerNode d.0, d.1)),
      record { numbers = ap ControllerNode (sym numbers); edges = edges ∙ stands.edges ∙ ap (λ (z : Partition). f.sources z.stage) (sym same) },
      packets_stand plan inputs done.1 (takes_well p (length old.acked) (copy_of from) (message_of b) (numbers_of old)),
    )

-- ---- to whom they go

stages_are : (plan : PlanView) → (trio_flow plan []).sources ≡ sources_of plan
unfolding flow_of
stages_are plan = refl

each_packet : (P : TrioNode × TrioBody → Type 0) (es : List Envelope) → Each (λ (e : Envelope). P (e.to, body_of e.message)) es → Each P (packets_of es)
each_packet P [] h = tt
each_packet P (e ∷ es) h = (h.0, each_packet P es h.1)

module _ (plan : PlanView) (old : ControllerView) (is : IsTrioPlan plan) (of_plan : IsOfPlan plan old) where
  abbrev IsLinked : Envelope → Type 0
  IsLinked e = IsCarried (trio_flow plan []) (node_of old) e.to (message_of (body_of e.message))

  -- an acknowledgement goes back along its edge
  acks_linked : (q k : ℕ) → q < length old.acked → Each IsLinked (to_producers (partition_of old) q (Ack (in_edge (partition_of old) q) k))
  unfolding flow_of
  acks_linked q k there = if_elim (Each IsLinked) (old.stage == 1) _ _ first later
    where
      few : q < sources_of plan old.stage
      few = subst (λ n. q < n) of_plan.edges there

      first : (old.stage == 1) ≡ true → Each IsLinked (envelope node.Ingress (Ack (in_edge (partition_of old) q) k) ∷ [])
      first e =
          let one = eqb-true old.stage 1 e in
          let only : q < 1 = subst (λ n. q < n) (ap (sources_of plan) one ∙ is.one_source) few in
          (record { sender = of_plan.there; receiver = tt; carries = ((omega arith, refl), (omega arith, omega arith)) }, tt)

      later : (old.stage == 1) ≡ false → Each IsLinked (to_group (old.stage - 1) q (Ack (in_edge (partition_of old) q) k))
      later e = (each 0 (omega arith), (each 1 (omega arith), (each 2 (omega arith), tt)))
        where
          each : (c : ℕ) → c < group_size → IsLinked (envelope (node.Replica (old.stage - 1) q c) (Ack (in_edge (partition_of old) q) k))
          each c below =
              let ne : old.stage ≢ 1 = λ z. (let y = eq-eqb old.stage 1 z in cc) in
              let one = of_plan.there.first in
              let last = of_plan.there.last in
              let back : old.stage ≡ old.stage - 1 + 1 = omega arith in
              record {
                sender = of_plan.there;
                receiver = (record { first = omega arith; last = omega arith; part = subst (λ n. q < n) (ap (sources_of plan) back) few }, below);
                carries = ((omega arith, refl), (omega arith, refl, refl));
              }

  pub linked : (from : TrioNode) (b : TrioBody) (before after : List (TrioNode × TrioBody)) → after ≡ before ++ packets_of (taking old from b).1 → GoOverLinks plan (node_of old) (appended before after)
  linked from b before after same =
      subst (GoOverLinks plan (node_of old)) (sym (ap (drop (length before)) same ∙ drop_at before (packets_of (taking old from b).1) (length before) refl))
      (each_packet (λ (z : TrioNode × TrioBody). IsCarried (trio_flow plan []) (node_of old) z.0 (message_of z.1)) (taking old from b).1
      (takes_each IsLinked (partition_of old) (length old.acked) (λ d t there. record { sender = of_plan.there; receiver = (of_plan.there, there); carries = (refl, refl) }) acks_linked
      (copy_of from) (message_of b) (numbers_of old)))
