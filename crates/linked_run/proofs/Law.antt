-- The law over what nodes keep: where all is settled, any log of all histories is legal, and each node stands for its numbers.
use Rattle.std.proofs.Common.{◌≡◌, ◌≤◌, ◌-◌, ℕ, zero, suc, Bool, true, false, List, [], ◌∷◌, Option, None, Some, refl, sym, ap, ◌∙◌, subst, arith}
use Rattle.std.specs.Prelude.{if◌then◌else◌, map, slice_get}
use Rattle.std.proofs.lemmas.List.{append-nil}
use Rattle.linked_run.specs.Linked.{AreDistinct}
use Rattle.flux_link.specs.Arrivals.{WasSent}
use Rattle.flux_link.specs.declared.arrival.Arrival.{Arrival}
use Rattle.tuple_edge.specs.declared.event.Stamped.{Stamped}
use Rattle.tuple_edge.specs.declared.node.NodeId.{NodeId}
use Rattle.tuple_edge.specs.declared.packet.Packet.{Packet}
use Rattle.tuple_edge.specs.Input.{Input}
use Rattle.plan_reader.specs.PlanView.{IsPlan, PlanView}
use Rattle.pair_machine.specs.Asked.{Asks}
use Rattle.pair_machine.specs.Contents.{BodyStands}
use Rattle.pair_machine.specs.Counts.{flow_of}
use Rattle.pair_machine.specs.Courses.{Arrivals, IsSentAtItsIndex, IsTrueHistory, IsTrueNode}
use Rattle.pair_machine.specs.Joint.{IsLog, logged_events}
use Rattle.pair_machine.specs.Legal.{IsLegal}
use Rattle.pair_machine.specs.Lists.{Each}
use Rattle.pair_machine.specs.Machine.{State, nth_from_one}
use Rattle.pair_machine.specs.Within.{IsWithinScript}
use Rattle.pair_machine.specs.Numbers.{Node, is_node}
use Rattle.pair_machine.specs.declared.order.Order.{Order}
use Rattle.pair_machine.proofs.Lists.{each_map}
use Rattle.pair_machine.proofs.Names.{is_node-true, node_self}
use Rattle.pair_machine.proofs.RunLaw.{logs_legal, new_true, nodes_stand}
use Rattle.pair_machine.proofs.WithinLogs.{logs_within}
use Rattle.run_node.specs.Ends.{InLink, emitted_to}
use Rattle.run_node.specs.Fits.{Came, Fit}
use Rattle.run_node.specs.NodeView.{NodeView, name_of}
use Rattle.run_node.proofs.Events.{some_left}
use Rattle.linked_run.specs.Runs.{AreSettled, IsJointCourse, IsSettled, history_in, parts_of, view_at}
use Rattle.run_node.specs.SoundNode.{IsTrueView}

module _ {A : Type 0} (T : Type 0) (id : A → NodeId) (stands : PlanView → List Input → A → Node → Type 0) (plan : PlanView) (inputs : List Input) (script : List Order) where
  abbrev True : NodeView A T → Type 0
  True v = IsTrueView id stands plan inputs script v

  -- no two nodes have one id
  abbrev pub AreApart : List (NodeView A T) → Type 0
  AreApart [] = Unit {0}
  AreApart (v ∷ vs) = Each (λ w. is_node (id v.state) (id w.state) ≡ false) vs × AreApart vs

  abbrev sent_by : Option (NodeView A T) → NodeId → List Packet
  sent_by None to = []
  sent_by (Some v) to = emitted_to v.outs to

  abbrev history_by : Option (NodeView A T) → List Stamped
  history_by None = []
  history_by (Some v) = v.history

  module _ (views : List (NodeView A T)) where
    abbrev sent : NodeId → NodeId → List Packet
    sent n = sent_by (view_at id views n)

    abbrev arrived_by : Option (NodeView A T) → NodeId → Arrivals
    arrived_by None n from k = None
    arrived_by (Some v) n from k = nth_from_one (sent from n) k

    abbrev arrived : NodeId → Arrivals
    arrived n = arrived_by (view_at id views n) n

    abbrev history : NodeId → List Stamped
    history n = history_by (view_at id views n)

    links : (from to : NodeId) → IsSentAtItsIndex (arrived to from) (sent from to)
    links from to = go (view_at id views to)
      where
        go : (o : Option (NodeView A T)) → IsSentAtItsIndex (arrived_by o to from) (sent from to)
        go None k p e = cc
        go (Some v) k p e = e

    -- what was sent came under its index
    came : (me from : NodeId) (v : NodeView A T) (a : Arrival) → WasSent (sent from me) a → Came (arrived_by (Some v) me) from a
    came me from v a w = go a.index refl w.from_one w.packet
      where
        go : (k : ℕ) → a.index ≡ k → 1 ≤ a.index → slice_get (sent from me) (a.index - 1) ≡ Some a.packet → nth_from_one (sent from me) a.index ≡ Some a.packet
        go zero e one packet = absurd (omega arith)
        go (suc k) e one packet =
            let less : a.index - 1 ≡ k = omega arith in
            ap (nth_from_one (sent from me)) e ∙ (ap (slice_get (sent from me)) (sym less) ∙ packet)

    fits : (v : NodeView A T) → Each (IsSettled id views (id v.state)) v.ins → Fit (arrived_by (Some v) (id v.state)) v.ins
    fits v h = each_map (IsSettled id views (id v.state)) (λ (l : InLink). Each (Came (arrived_by (Some v) (id v.state)) l.from) l.given) one v.ins h
      where
        one : (l : InLink) → IsSettled id views (id v.state) l → Each (Came (arrived_by (Some v) (id v.state)) l.from) l.given
        one l s =
            let same : emitted_to s.sender.outs (id v.state) ≡ sent l.from (id v.state) = ap (λ o. sent_by o (id v.state)) (sym s.there) in
            each_map (WasSent (sent l.from (id v.state))) (Came (arrived_by (Some v) (id v.state)) l.from) (λ a w. came (id v.state) l.from v a w) l.given
            (subst (λ xs. Each (WasSent xs) l.given) same s.sent)

    -- the view that is found has the id, and what holds of all holds of it
    found : (P : NodeView A T → Type 0) (vs : List (NodeView A T)) (n : NodeId) (v : NodeView A T) → Each P vs → view_at id vs n ≡ Some v → (id v.state ≡ n) × P v
    found P [] n v h e = cc
    found P (w ∷ vs) n v h e = go (is_node (id w.state) n) (is_node-true (id w.state) n) (λ k. found P vs n v h.1 k) e
      where
        go : (b : Bool) → (b ≡ true → id w.state ≡ n) → (view_at id vs n ≡ Some v → (id v.state ≡ n) × P v) → (if b then Some w else view_at id vs n) ≡ Some v → (id v.state ≡ n) × P v
        go true is more e = let same : w ≡ v = cc e in (ap (λ (x : NodeView A T). id x.state) (sym same) ∙ is refl, subst P same h.0)
        go false is more e = more e

    true_of : Each True views → AreSettled id views views → (n : NodeId) → IsTrueHistory (flow_of plan inputs) (BodyStands plan inputs) (Asks (flow_of plan inputs)) n (arrived n) (sent n) (history n)
    true_of truth settled n = go (view_at id views n) refl
      where
        go : (o : Option (NodeView A T)) → view_at id views n ≡ o → IsTrueHistory (flow_of plan inputs) (BodyStands plan inputs) (Asks (flow_of plan inputs)) n (arrived_by o n) (sent_by o) (history_by o)
        go None e = (new_true (flow_of plan inputs) (BodyStands plan inputs) (Asks (flow_of plan inputs)) n (λ x. Unit {0}) tt).kept
        go (Some v) e =
            let t = found True views n v truth e in
            let s = found (λ (w : NodeView A T). Each (IsSettled id views (id w.state)) w.ins) views n v settled e in
            subst (λ (k : NodeId). IsTrueHistory (flow_of plan inputs) (BodyStands plan inputs) (Asks (flow_of plan inputs)) k (arrived_by (Some v) k) (sent_by (Some v)) (history_by (Some v))) t.0
            (t.1 (arrived_by (Some v) (id v.state)) (fits v s.1)).course.kept

    within_of : Each True views → AreSettled id views views → (n : NodeId) → IsWithinScript plan inputs script n (arrived n) (sent n) (history n)
    within_of truth settled n = go (view_at id views n) refl
      where
        go : (o : Option (NodeView A T)) → view_at id views n ≡ o → IsWithinScript plan inputs script n (arrived_by o n) (sent_by o) (history_by o)
        go None e = record { allowed = λ pre m post k acts af aa. absurd (some_left pre m post k); once = tt }
        go (Some v) e =
            let t = found True views n v truth e in
            let s = found (λ (w : NodeView A T). Each (IsSettled id views (id w.state)) w.ins) views n v settled e in
            subst (λ (k : NodeId). IsWithinScript plan inputs script k (arrived_by (Some v) k) (sent_by (Some v)) (history_by (Some v))) t.0
            (t.1 (arrived_by (Some v) (id v.state)) (fits v s.1)).within

    -- the history of a node by its parts
    by_parts : (vs : List (NodeView A T)) (n : NodeId) → history_in id (parts_of id vs) n ≡ history_by (view_at id vs n)
    by_parts [] n = refl
    by_parts (v ∷ vs) n = go (is_node (id v.state) n) (by_parts vs n)
      where
        go : (b : Bool) → history_in id (parts_of id vs) n ≡ history_by (view_at id vs n) → (if b then v.history else history_in id (parts_of id vs) n) ≡ history_by (if b then Some v else view_at id vs n)
        go true old = refl
        go false old = old

  -- each node of a list in which no id stands twice is the one that is found
  finds : (vs : List (NodeView A T)) → AreApart vs → Each (λ v. view_at id vs (id v.state) ≡ Some v) vs
  finds [] h = tt
  finds (v ∷ vs) h = (let s = node_self (id v.state) in simp s, later vs h.0 (finds vs h.1))
    where
      later : (ws : List (NodeView A T)) → Each (λ (w : NodeView A T). is_node (id v.state) (id w.state) ≡ false) ws → Each (λ (w : NodeView A T). view_at id vs (id w.state) ≡ Some w) ws → Each (λ (w : NodeView A T). view_at id (v ∷ vs) (id w.state) ≡ Some w) ws
      later [] a b = tt
      later (w ∷ ws) a b = (let n = a.0 in simp n b.0, later ws a.1 b.1)

  pub runs : IsPlan plan → (views : List (NodeView A T)) → AreApart views → Each True views → AreSettled id views views → IsJointCourse id stands plan inputs script (parts_of id views)
  runs planned views apart truth settled log l =
      let whole : IsLog (history views) log = record { in_order = l.in_order; whole = λ n. l.whole n ∙ by_parts views views n } in
      let r = logs_legal plan inputs planned (arrived views) (sent views) (history views) (true_of views truth settled) (links views) log whole log [] (append-nil log) in
      record {
        reached = r.reached;
        legal = r.legal;
        within = logs_within plan inputs planned script (arrived views) (sent views) (history views) (true_of views truth settled) (within_of views truth settled) (links views) log whole;
        sound = r.sound;
        stand = all whole r.reached r.legal views truth settled (finds views apart);
      }
    where
      all : IsLog (history views) log → (t : State) → IsLegal (flow_of plan inputs) (logged_events log) t → (vs : List (NodeView A T)) → Each True vs → Each (λ v. Each (IsSettled id views (id v.state)) v.ins) vs → Each (λ v. view_at id views (id v.state) ≡ Some v) vs →
          Each (λ p. stands plan inputs p.0 (t.nodes (id p.0))) (parts_of id vs)
      all whole t legal [] h s a = tt
      all whole t legal (v ∷ vs) h s a =
          let me = id v.state in
          let e = a.0 in
          let own : IsTrueNode (flow_of plan inputs) (BodyStands plan inputs) (Asks (flow_of plan inputs)) me (stands plan inputs v.state) (arrived views me) (sent views me) (history views me) =
          subst (λ (o : Option (NodeView A T)). IsTrueNode (flow_of plan inputs) (BodyStands plan inputs) (Asks (flow_of plan inputs)) me (stands plan inputs v.state) (arrived_by views o me) (sent_by o) (history_by o)) (sym e)
          (h.0 (arrived_by views (Some v) me) (fits views v s.0)).course in
          (nodes_stand stands plan inputs planned (arrived views) (sent views) (history views) (true_of views truth settled) (links views) log whole t legal me v.state own, all whole t legal vs h.1 s.1 a.1)

  -- the same from the nodes' names
  pub apart_of : (vs : List (NodeView A T)) → AreDistinct (map (name_of id) vs) → AreApart vs
  apart_of [] h = tt
  apart_of (v ∷ vs) h = (others vs h.0, apart_of vs h.1)
    where
      others : (ws : List (NodeView A T)) → Each (λ m. is_node (id v.state) m.id ≡ false) (map (name_of id) ws) → Each (λ w. is_node (id v.state) (id w.state) ≡ false) ws
      others [] k = tt
      others (w ∷ ws) k = (k.0, others ws k.1)
