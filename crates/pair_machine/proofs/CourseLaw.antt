-- The law of courses: where all courses are true and agree, the joint course is legal, and every node stands for its numbers.
use Rattle.std.proofs.Common.{◌≡◌, ◌⊎◌, inl, inr, ⊎_elim, ◌<◌, ◌≤◌, ℕ, zero, suc, Bool, true, false, List, [], ◌∷◌, ◌++◌, Option, None, Some, Result, Ok, Err, refl, sym, ap, ◌∙◌, subst, arith, append_assoc}
use Rattle.std.specs.Prelude.{if◌then◌else◌}
use Rattle.tuple_edge.specs.declared.event.Event.TheVariants as event
use Rattle.pair_machine.specs.Courses.{ActFor, ActsFor, Agree, AllAsked, AskedAt, IsTrueCourse, Moment, Pairwise, Replayed, TookSent, acted_on, also, given, given_back, onto, replay}
use Rattle.pair_machine.specs.Flow.{Flow, IsFlow}
use Rattle.pair_machine.specs.Joint.{AreInOrder, IsJoint, Stored, events_of, of_node}
use Rattle.pair_machine.specs.Legal.{IsLegalFrom}
use Rattle.pair_machine.specs.Links.{HasNode, IsThere, link}
use Rattle.pair_machine.specs.Lists.{Among, Each}
use Rattle.pair_machine.specs.Machine.{State, act_of, acted, after, at_node, changed, does, follow, messages_to, nth_from_one, opening, posted, step, taking_of}
use Rattle.pair_machine.specs.Messages.{Act, AsksBack, AsksStop, Dies, Envelope, Makes, Message, Refusal, Takes, Works}
use Rattle.pair_machine.specs.Numbers.{Node, is_node}
use Rattle.pair_machine.specs.Sound.{IsSound}
use Rattle.tuple_edge.specs.declared.event.Event.{Event}
use Rattle.tuple_edge.specs.declared.node.LinkId.{LinkId}
use Rattle.tuple_edge.specs.declared.node.NodeId.{NodeId}
use Rattle.tuple_edge.specs.declared.packet.Body.{Body}
use Rattle.tuple_edge.specs.declared.packet.Packet.{Packet}
use Rattle.pair_machine.proofs.Lists.{each_at, among_append}
use Rattle.pair_machine.proofs.ControllerTurns.{messages_to-append}
use Rattle.pair_machine.proofs.StepTurns.{HoldsOnOk, WasSent, ActSent, act_sent, at_there}
use Rattle.pair_machine.proofs.SoundKept.{sound_kept, opening_sound}
use Rattle.pair_machine.proofs.Names.{is_node-true, node_self}

-- lists -----------------------------------------------------------------------

nth_later : {X : Type 0} (v : X) (zs : List X) (j : ℕ) → nth_from_one zs j ≡ Some v → Among v zs
nth_later v zs zero e = cc
nth_later v [] (suc j) e = cc
nth_later v (z ∷ zs) (suc zero) e = inl (let y : z ≡ v = cc e in sym y)
nth_later v (z ∷ zs) (suc (suc j)) e = inr (nth_later v zs (suc j) e)

nth_append : {X : Type 0} (v : X) (xs ys : List X) (k : ℕ) → nth_from_one (xs ++ ys) k ≡ Some v → (nth_from_one xs k ≡ Some v) ⊎ Among v ys
nth_append v xs ys zero e = cc
nth_append v [] ys (suc k) e = inr (nth_later v ys (suc k) e)
nth_append v (x ∷ xs) ys (suc zero) e = inl e
nth_append v (x ∷ xs) ys (suc (suc k)) e = nth_append v xs ys (suc k) e

pairwise_nth : {X Y : Type 0} (R : X → Y → Type 0) (xs : List X) (ys : List Y) (k : ℕ) (v : X) → Pairwise R xs ys → nth_from_one xs k ≡ Some v → (m : Y) × (nth_from_one ys k ≡ Some m) × R v m
pairwise_nth R xs ys zero v h e = cc
pairwise_nth R [] ys (suc k) v h e = cc
pairwise_nth R (x ∷ xs) [] (suc k) v h e = absurd h
pairwise_nth R (x ∷ xs) (y ∷ ys) (suc zero) v h e = let same : x ≡ v = cc e in (y, refl, subst (λ z. R z y) same h.0)
pairwise_nth R (x ∷ xs) (y ∷ ys) (suc (suc k)) v h e = pairwise_nth R xs ys (suc k) v h.1 e

given_split : (to : NodeId) (pre post : List Moment) → given to (onto pre post) ≡ given_back to pre ++ given to post
given_split to [] post = refl
given_split to (m ∷ pre) post = given_split to pre (m ∷ post) ∙ sym (append_assoc (given_back to pre) (m.gave to) (given to post))

each_onto : (P : Moment → Type 0) (pre post : List Moment) → Each P (onto pre post) → Each P post
each_onto P [] post h = h
each_onto P (m ∷ pre) post h = (each_onto P pre (m ∷ post) h).1

-- clocks ------------------------------------------------------------------------

gave_at : (c : ℕ) (gs : List Packet) (p : Packet) → Each (λ g. g.at ≡ c) gs → Among p gs → p.at ≡ c
gave_at c gs p h k = each_at (λ g. g.at ≡ c) p gs k h

given_at : (n : NodeId) (c : ℕ) (ms : List Moment) (p : Packet) → Each (λ m. (to : NodeId) → Each (λ g. g.at ≡ m.clock) (m.gave to)) ms → Each (λ m. c ≤ m.clock) ms → Among p (given n ms) → c ≤ p.at
given_at n c [] p h l k = absurd k
given_at n c (m ∷ ms) p h l k = ⊎_elim (λ z. let e = gave_at m.clock (m.gave n) p (h.0 n) z in omega (arith, l.0)) (given_at n c ms p h.1 l.1) (among_append p (m.gave n) (given n ms) k)

of_node_each : (P : Moment → Type 0) (n : NodeId) (ss : List Stored) → Each (λ t. P t.moment) ss → Each P (of_node n ss)
of_node_each P n [] h = tt
of_node_each P n (s ∷ ss) h = go (is_node s.at n) (of_node_each P n ss h.1)
  where
    go : (b : Bool) → Each P (of_node n ss) → Each P (if b then s.moment ∷ of_node n ss else of_node n ss)
    go true old = (h.0, old)
    go false old = old

same_sym : (m n : NodeId) → is_node m n ≡ is_node n m
same_sym m n = go (is_node m n) refl (is_node n m) refl
  where
    go : (a : Bool) → is_node m n ≡ a → (b : Bool) → is_node n m ≡ b → a ≡ b
    go true e true inner = refl
    go false e false inner = refl
    go true e false inner = let same = is_node-true m n e in let z : is_node n n ≡ false = subst (λ k. is_node n k ≡ false) same inner in sym (node_self n) ∙ z
    go false e true inner = let same = is_node-true n m inner in let z : is_node m m ≡ false = subst (λ k. is_node m k ≡ false) same e in sym z ∙ node_self m

-- the law -------------------------------------------------------------------------

module _ (f : Flow) (ok : IsFlow f) (Stands : LinkId → Body → Message → Type 0) (Asks : NodeId → Node → Act → Type 0)
    (asks : (s : State) (n : NodeId) (a : Act) → HasNode f n → IsSound f s → WasSent f s n a → Asks n (s.nodes n) a)
    (courses : NodeId → List Moment) (truth : (n : NodeId) → IsTrueCourse f Stands Asks n (courses n)) (agree : Agree courses) where
  -- where the joint course stands: what is behind, and what is still to come
  pub record Stage (so_far : NodeId → List Moment) (todo : List Stored) (acts : NodeId → List Act) (s : State) : Type 0 where
    pub sound : IsSound f s
    pub split : (n : NodeId) → onto (so_far n) (of_node n todo) ≡ courses n
    pub acts_for : (n : NodeId) → ActsFor f Stands Asks n (so_far n) (acts n)
    pub asked : (n : NodeId) → AllAsked f Stands Asks n (acts n)
    pub replays : (n : NodeId) → (out : List Envelope) × (replay f n (acts n) ≡ Ok (s.nodes n, out)) × ((to : NodeId) → messages_to to out ≡ s.sent (link n to))

  abbrev extended : NodeId → Moment → (NodeId → List Moment) → NodeId → List Moment
  extended n m so_far k = if is_node n k then m ∷ so_far k else so_far k

  abbrev acting : NodeId → Act → (NodeId → List Act) → NodeId → List Act
  acting n a acts k = if is_node n k then a ∷ acts k else acts k

  -- the packet that was taken is on its link in the state
  found : (so_far : NodeId → List Moment) (todo : List Stored) (acts : NodeId → List Act) (s : State) (c : ℕ) → Stage so_far todo acts s → Each (λ t. c ≤ t.moment.clock) todo →
      (l : LinkId) (k : ℕ) (p : Packet) → nth_from_one (given l.to (courses l.from)) k ≡ Some p → p.at < c → (m : Message) × (nth_from_one (s.sent l) k ≡ Some m) × Stands l p.body m
  found so_far todo acts s c st late l k p e before =
      let parts = ap (given l.to) (sym (st.split l.from)) ∙ given_split l.to (so_far l.from) (of_node l.from todo) in
      let inner : nth_from_one (given_back l.to (so_far l.from) ++ given l.to (of_node l.from todo)) k ≡ Some p = subst (λ xs. nth_from_one xs k ≡ Some p) parts e in
      ⊎_elim here never (nth_append p (given_back l.to (so_far l.from)) (given l.to (of_node l.from todo)) k inner)
    where
      here : nth_from_one (given_back l.to (so_far l.from)) k ≡ Some p → (m : Message) × (nth_from_one (s.sent l) k ≡ Some m) × Stands l p.body m
      here e =
          let r = st.replays l.from in
          let right = (truth l.from).right (so_far l.from) (of_node l.from todo) (st.split l.from) (acts l.from) (st.acts_for l.from) (st.asked l.from) in
          let pairs : (to : NodeId) → Pairwise (λ p m. Stands (link l.from to) p.body m) (given_back to (so_far l.from)) (messages_to to r.0) = subst (Replayed f Stands Asks l.from (so_far l.from)) r.1 right in
          let pair = subst (Pairwise (λ p m. Stands (link l.from l.to) p.body m) (given_back l.to (so_far l.from))) (r.2 l.to) (pairs l.to) in
          pairwise_nth (λ p m. Stands (link l.from l.to) p.body m) (given_back l.to (so_far l.from)) (s.sent l) k p pair e

      never : Among p (given l.to (of_node l.from todo)) → (m : Message) × (nth_from_one (s.sent l) k ≡ Some m) × Stands l p.body m
      never z =
          let stamped = subst (Each (λ m. (to : NodeId) → Each (λ g. g.at ≡ m.clock) (m.gave to))) (sym (st.split l.from)) (truth l.from).stamped in
          let at = given_at l.to c (of_node l.from todo) p (each_onto (λ m. (to : NodeId) → Each (λ g. g.at ≡ m.clock) (m.gave to)) (so_far l.from) (of_node l.from todo) stamped) (of_node_each (λ m. c ≤ m.clock) l.from todo late) z in
          absurd (omega arith)

  -- the act of the next event
  chosen : (so_far : NodeId → List Moment) (todo : List Stored) (acts : NodeId → List Act) (s : State) (c : ℕ) → Stage so_far todo acts s → Each (λ t. c ≤ t.moment.clock) todo →
      (n : NodeId) (e : Event) (o : Option Packet) → TookSent courses c e o → (a : Act) × ActFor f Stands Asks n e o a × (act_of f s e ≡ Ok a)
  chosen so_far todo acts s c st late n (event.Take l k) None h = absurd h
  chosen so_far todo acts s c st late n (event.Take l k) (Some p) h =
      let g = found so_far todo acts s c st late l k p h.0 h.1 in
      (Takes l.from g.0, (g.0, refl, g.2), ap (taking_of l k (s.sent l)) g.1)
  chosen so_far todo acts s c st late n (event.Work k) o h = (Works, refl, refl)
  chosen so_far todo acts s c st late n event.Make o h = (Makes, refl, refl)
  chosen so_far todo acts s c st late n (event.Kill k) o h = (Dies, refl, refl)
  chosen so_far todo acts s c st late n (event.AskStop k) o h = (AsksStop, refl, refl)
  chosen so_far todo acts s c st late n (event.AskBack k) o h = (AsksBack, refl, refl)
  chosen so_far todo acts s c st late n (event.Pull from to) o h = absurd h

  -- one more event of the joint course
  abbrev put : NodeId → State → Node → List Envelope → State
  put n s x out = record { nodes = changed n x s.nodes; sent = posted n out s.sent }

  step_is : (s : State) (e : Event) (n : NodeId) (a : Act) (d : Node × List Envelope) → at_node e ≡ n → act_of f s e ≡ Ok a → does f n a (s.nodes n) ≡ Ok d → step f s e ≡ Ok (put n s d.0 d.1)
  unfolding step
  step_is s e n a d at act done =
      ap (λ k. acted f k s (act_of f s e)) at ∙ (ap (acted f n s) act ∙ ap (after n s) done)

  -- what the replay of the next act is
  replay_next : (n : NodeId) (a : Act) (acts : List Act) (x : Node) (out : List Envelope) (d : Node × List Envelope) → replay f n acts ≡ Ok (x, out) → does f n a x ≡ Ok d → replay f n (a ∷ acts) ≡ Ok (d.0, out ++ d.1)
  replay_next n a acts x out d e inner = ap (acted_on f n a) e ∙ ap (also out) inner

  not_refused : (n : NodeId) (a : Act) (acts : List Act) (pre : List Moment) (x : Node) (out : List Envelope) → replay f n acts ≡ Ok (x, out) → Replayed f Stands Asks n pre (replay f n (a ∷ acts)) →
      (d : Node × List Envelope) × (does f n a x ≡ Ok d)
  not_refused n a acts pre x out e h = go (does f n a x) refl
    where
      h_after : Replayed f Stands Asks n pre (also out (does f n a x))
      h_after = subst (λ r. Replayed f Stands Asks n pre (acted_on f n a r)) e h

      go : (r : Result (Node × List Envelope) Refusal) → does f n a x ≡ r → (d : Node × List Envelope) × (does f n a x ≡ Ok d)
      go (Ok d) q = (d, q)
      go (Err z) q = absurd (subst (λ r. Replayed f Stands Asks n pre (also out r)) q h_after)

  module _ (so_far : NodeId → List Moment) (n : NodeId) (m : Moment) (rest : List Stored) (acts : NodeId → List Act) (s : State)
      (st : Stage so_far (record { at = n; moment = m } ∷ rest) acts s) (late : Each (λ t. m.clock ≤ t.moment.clock) rest) where
    here_split : onto (m ∷ so_far n) (of_node n rest) ≡ courses n
    here_split = let z = st.split n in simp node_self at z

    each_here : (P : Moment → Type 0) → Each P (courses n) → P m
    each_here P h = (each_onto P (so_far n) (m ∷ of_node n rest) (subst (Each P) (sym here_split) h)).0

    at_here : at_node m.event ≡ n
    at_here = each_here (λ m. at_node m.event ≡ n) (truth n).here

    there : IsThere f m.event
    there = each_here (λ m. IsThere f m.event) (truth n).there

    took : TookSent courses m.clock m.event m.took
    took = each_here (λ m. TookSent courses m.clock m.event m.took) (agree n)

    choice : (a : Act) × ActFor f Stands Asks n m.event m.took a × (act_of f s m.event ≡ Ok a)
    choice = chosen so_far (record { at = n; moment = m } ∷ rest) acts s m.clock st (omega arith, late) n m.event m.took took

    -- everything that the next state rests on
    record Next : Type 0 where
      act : Act
      act_for : ActFor f Stands Asks n m.event m.took act
      asked : AllAsked f Stands Asks n (act ∷ acts n)
      done : Node × List Envelope
      stepped : step f s m.event ≡ Ok (put n s done.0 done.1)
      replayed : replay f n (act ∷ acts n) ≡ Ok (done.0, (st.replays n).0 ++ done.1)

    next : Next
    next =
        let c = choice in
        let r = st.replays n in
        let sent : WasSent f s (at_node m.event) c.0 = subst (ActSent f s (at_node m.event)) c.2 (act_sent f s m.event there) in
        let sent_after : WasSent f s n c.0 = subst (λ k. WasSent f s k c.0) at_here sent in
        let meets : AskedAt f Stands Asks n c.0 (replay f n (acts n)) = subst (AskedAt f Stands Asks n c.0) (sym r.1) (asks s n c.0 (subst (HasNode f) at_here (at_there f m.event there)) st.sound sent_after) in
        let right = (truth n).right (m ∷ so_far n) (of_node n rest) here_split (c.0 ∷ acts n) (c.1, st.acts_for n) (meets, st.asked n) in
        let d = not_refused n c.0 (acts n) (m ∷ so_far n) (s.nodes n) r.0 r.1 right in
        record { act = c.0; act_for = c.1; asked = (meets, st.asked n); done = d.0; stepped = step_is s m.event n c.0 d.0 at_here c.2 d.1; replayed = replay_next n c.0 (acts n) (s.nodes n) r.0 d.0 r.1 d.1 }

    abbrev state_after : Next → State
    state_after x = put n s x.done.0 x.done.1

    sound_next : (x : Next) → IsSound f (state_after x)
    sound_next x = subst (HoldsOnOk (IsSound f)) x.stepped (sound_kept f ok s m.event there st.sound)

    replays_next : (x : Next) (k : NodeId) → (out : List Envelope) × (replay f k (acting n x.act acts k) ≡ Ok ((state_after x).nodes k, out)) × ((to : NodeId) → messages_to to out ≡ (state_after x).sent (link k to))
    replays_next x k = go (is_node n k) refl
      where
        go : (c : Bool) → is_node n k ≡ c → (out : List Envelope) × (replay f k (if c then x.act ∷ acts k else acts k) ≡ Ok ((state_after x).nodes k, out)) × ((to : NodeId) → messages_to to out ≡ (state_after x).sent (link k to))
        go true e =
            let P : NodeId → Type 0 = λ k. (out : List Envelope) × (replay f k (x.act ∷ acts k) ≡ Ok ((state_after x).nodes k, out)) × ((to : NodeId) → messages_to to out ≡ (state_after x).sent (link k to)) in
            subst P (is_node-true n k e)
            ((st.replays n).0 ++ x.done.1, simp node_self x.replayed, λ to. simp node_self (messages_to-append to (st.replays n).0 x.done.1 ∙ ap (λ xs. xs ++ messages_to to x.done.1) ((st.replays n).2 to)))
        go false e = let z : is_node k n ≡ false = same_sym k n ∙ e in
            let r = st.replays k in (r.0, simp z r.1, λ to. simp z (r.2 to))

    stage_next : (x : Next) → Stage (extended n m so_far) rest (acting n x.act acts) (state_after x)
    stage_next x = record {
      sound = sound_next x;
      split = λ k. split k (is_node n k) refl;
      acts_for = λ k. acts_for k (is_node n k) (is_node-true n k);
      asked = λ k. asked k (is_node n k) (is_node-true n k);
      replays = replays_next x;
    }
      where
        split : (k : NodeId) (c : Bool) → is_node n k ≡ c → onto (if c then m ∷ so_far k else so_far k) (of_node k rest) ≡ courses k
        split k true e = let z = st.split k in simp e at z
        split k false e = let z = st.split k in simp e at z

        acts_for : (k : NodeId) (c : Bool) → (c ≡ true → n ≡ k) → ActsFor f Stands Asks k (if c then m ∷ so_far k else so_far k) (if c then x.act ∷ acts k else acts k)
        acts_for k true e = subst (λ k. ActsFor f Stands Asks k (m ∷ so_far k) (x.act ∷ acts k)) (e refl) (x.act_for, st.acts_for n)
        acts_for k false e = st.acts_for k

        asked : (k : NodeId) (c : Bool) → (c ≡ true → n ≡ k) → AllAsked f Stands Asks k (if c then x.act ∷ acts k else acts k)
        asked k true e = subst (λ k. AllAsked f Stands Asks k (x.act ∷ acts k)) (e refl) x.asked
        asked k false e = st.asked k

  -- the joint course is legal, and each node's replay gives its numbers in the state that it reaches
  pub record Reached (s : State) (front rest : List Stored) : Type 0 where
    pub so_far : NodeId → List Moment
    pub acts : NodeId → List Act
    pub state : State
    pub legal : IsLegalFrom f s (events_of front) state
    pub stage : Stage so_far rest acts state

  law : (so_far : NodeId → List Moment) (front rest : List Stored) (acts : NodeId → List Act) (s : State) → AreInOrder (front ++ rest) → Stage so_far (front ++ rest) acts s → Reached s front rest
  law so_far [] rest acts s order st = record { so_far = so_far; acts = acts; state = s; legal = record { there = tt; leads = refl }; stage = st }
  law so_far (t ∷ front) rest acts s order st =
      let n = t.at in let m = t.moment in
      let x = next so_far n m (front ++ rest) acts s st order.0 in
      let r = law (extended n m so_far) front rest (acting n x.act acts) (put n s x.done.0 x.done.1) order.1 (stage_next so_far n m (front ++ rest) acts s st order.0 x) in
      record {
        so_far = r.so_far;
        acts = r.acts;
        state = r.state;
        legal = record { there = (there so_far n m (front ++ rest) acts s st order.0, r.legal.there); leads = ap (follow f (events_of front)) x.stepped ∙ r.legal.leads };
        stage = r.stage;
      }

  pub law_of_courses : (joint : List Stored) → IsJoint courses joint → (front rest : List Stored) → front ++ rest ≡ joint → Reached opening front rest
  law_of_courses joint j front rest e = law (λ n. []) front rest (λ n. []) opening (subst AreInOrder (sym e) j.in_order) (record {
    sound = opening_sound f ok;
    split = λ n. subst (λ ss. of_node n ss ≡ courses n) (sym e) (j.whole n);
    acts_for = λ n. tt;
    asked = λ n. tt;
    replays = λ n. ([], refl, λ to. refl);
  })
