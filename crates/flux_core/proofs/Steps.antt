-- Where one node did what an event asks, the core stands for the machine's next state.
use Rattle.std.proofs.Common.{◌≡◌, ◌∙◌, inl, inr, List, [], ◌∷◌, ◌++◌, Ok, Err, Result, Bool, true, false, Option, None, Some, refl, sym, ap, subst, true≢false, nat_le, nat_lt, ◌&&◌, ℕ, if◌then◌else◌}
use Rattle.tuple_edge.specs.Input.{Input}
use Rattle.tuple_edge.specs.declared.event.Event.{Event}
use Rattle.tuple_edge.specs.declared.event.Event.TheVariants as event
use Rattle.tuple_edge.specs.declared.node.NodeId.{NodeId}
use Rattle.tuple_edge.specs.Node.{part_of}
use Rattle.plan_reader.specs.PlanView.{IsPlan, PlanView}
use Rattle.pair_machine.specs.Asked.{ActAsks, Asks}
use Rattle.pair_machine.specs.Contents.{BodyStands}
use Rattle.pair_machine.specs.Counts.{flow_of}
use Rattle.pair_machine.specs.Courses.{Pairwise}
use Rattle.pair_machine.specs.Flow.{Flow}
use Rattle.pair_machine.specs.Journal.{TakesNoMessage}
use Rattle.pair_machine.specs.Links.{HasNode, IsThere, link}
use Rattle.pair_machine.specs.Machine.{State, act_of, acted, after, at_node, buffer_of, changed, does, mark_of, messages_to, posted, pull_of, source_pulled, step}
use Rattle.pair_machine.specs.Machine as machine
use Rattle.pair_machine.specs.Messages.{Act, AsksBack, AsksStop, Dies, Envelope, Makes, Message, Pulls, Refusal, Works}
use Rattle.pair_machine.specs.Numbers.{Node, is_node}
use Rattle.pair_machine.proofs.MachineLaws.{sound_asks}
use Rattle.pair_machine.proofs.Names.{is_node-true, node_self}
use Rattle.pair_machine.proofs.StepTurns.{ActSent, act_sent, at_there}
use Rattle.pair_machine.proofs.Tests.{if_elim}
use Rattle.replica_node.specs.Course.{AreTimely}
use Rattle.plan_nodes.specs.States.{id_of}
use Rattle.plan_nodes.specs.declared.state.NodeState.{NodeState}
use Rattle.flux_core.specs.Acts.{ActsSo, IsActOf}
use Rattle.flux_core.specs.CoreView.{CoreView, Log, Standing, flow_in, inputs_of, station}
use Rattle.flux_core.specs.Sent.{bodies_to}
use Rattle.flux_core.specs.Stands.{ContentStands, PacketsStand, StandsFor, StationStands}
use Rattle.flux_core.specs.Steps.{GoesOn, IsTaskOf, MayStep}
use Rattle.flux_core.specs.declared.asked.Asked.{Asked}
use Rattle.flux_core.proofs.Placing.{inputs_same}
use Rattle.flux_core.proofs.Sendings.{bodies-append}
use Rattle.flux_core.proofs.Changes.{HasChanged}

-- ---- lists related one by one

pub pairwise-append : {X Y : Type 0} (R : X → Y → Type 0) (xs : List X) (as_ : List Y) (ys : List X) (bs : List Y) → Pairwise R xs as_ → Pairwise R ys bs → Pairwise R (xs ++ ys) (as_ ++ bs)
pairwise-append R [] [] ys bs h k = k
pairwise-append R [] (a ∷ more) ys bs h k = absurd h
pairwise-append R (x ∷ xs) [] ys bs h k = absurd h
pairwise-append R (x ∷ xs) (a ∷ more) ys bs h k = (h.0, pairwise-append R xs more ys bs h.1 k)

-- ---- what is asked

pull_asks : (f : Flow) (n : NodeId) (x : Node) (q : ℕ) (o : Option (machine.Buffer)) (m : Option ℕ) (a : Act) → pull_of q o m ≡ Ok a → ActAsks f n x a
pull_asks f n x q None m a e = let z : ⊥ = cc e in absurd z
pull_asks f n x q (Some o) None a e = let z : ⊥ = cc e in absurd z
pull_asks f n x q (Some o) (Some mark) a e =
    if_elim (λ (r : Result Act Refusal). r ≡ Ok a → ActAsks f n x a) (nat_le o.low mark && nat_lt mark o.produced) (Ok (Pulls q)) (Err _)
    (λ t h. let same : Pulls q ≡ a = cc h in subst (ActAsks f n x) same tt) (λ t h. let z : ⊥ = cc h in absurd z) e

-- an event that takes no message asks nothing of its act
free_asks : (f : Flow) (s : State) (e : Event) (n : NodeId) (x : Node) (a : Act) → TakesNoMessage e → act_of f s e ≡ Ok a → ActAsks f n x a
free_asks f s (event.Take l k) n x a free e = absurd free
free_asks f s (event.Work m) n x a free e = let same : Works ≡ a = cc e in subst (ActAsks f n x) same tt
free_asks f s event.Make n x a free e = let same : Makes ≡ a = cc e in subst (ActAsks f n x) same tt
free_asks f s (event.Kill m) n x a free e = let same : Dies ≡ a = cc e in subst (ActAsks f n x) same tt
free_asks f s (event.AskStop m) n x a free e = let same : AsksStop ≡ a = cc e in subst (ActAsks f n x) same tt
free_asks f s (event.AskBack m) n x a free e = let same : AsksBack ≡ a = cc e in subst (ActAsks f n x) same tt
free_asks f s (event.Pull from to) n x a free e =
    let q = source_pulled f from (s.nodes from) to (s.nodes to) in
    pull_asks f n x q (buffer_of f q (part_of to) from (s.nodes from)) (mark_of q to (s.nodes to)) a e

pub may_asks : (f : Flow) (s : State) (e : Event) (a : Act) → IsThere f e → MayStep f s e → act_of f s e ≡ Ok a → Asks f (at_node e) (s.nodes (at_node e)) a
may_asks f s e a there (inl sound) done = sound_asks f s (at_node e) a (at_there f e there) sound (subst (ActSent f s (at_node e)) done (act_sent f s e there))
may_asks f s e a there (inr free) done = (free.1.within (at_node e), free_asks f s e (at_node e) (s.nodes (at_node e)) a free.0 done)

-- ---- the next state

module _ (plan : PlanView) (inputs : List Input) where
  content_changed : (b : Bool) (m n : NodeId) (old new : Option NodeState) (x y : Node) → (b ≡ true → (m ≡ n) × ContentStands plan inputs n new y)
      → (b ≡ false → new ≡ old) → ContentStands plan inputs m old x → ContentStands plan inputs m new (if b then y else x)
  content_changed true m n old new x y here elsewhere h = let z = here refl in subst (λ k. ContentStands plan inputs k new y) (sym z.0) z.1
  content_changed false m n old new x y here elsewhere h = subst (λ c. ContentStands plan inputs m c x) (sym (elsewhere refl)) h

  sent_changed : (b : Bool) (m : NodeId) (old new more : Log) (sent out : NodeId → List Message) → (b ≡ true → (new ≡ old ++ more) × PacketsStand plan inputs m more out)
      → (b ≡ false → new ≡ old) → PacketsStand plan inputs m old sent → PacketsStand plan inputs m new (λ to. if b then sent to ++ out to else sent to)
  sent_changed true m old new more sent out here elsewhere h =
      let z = here refl in
      λ to. let R = BodyStands plan inputs (link m to) in
      subst (λ bodies. Pairwise R bodies (sent to ++ out to)) (sym (ap (bodies_to to) z.0 ∙ bodies-append to old more)) (pairwise-append R (bodies_to to old) (sent to) (bodies_to to more) (out to) (h to) (z.1 to))
  sent_changed false m old new more sent out here elsewhere h = λ to. subst (λ log. Pairwise (BodyStands plan inputs (link m to)) (bodies_to to log) (sent to)) (sym (elsewhere refl)) (h to)

  -- what a node does under its own name it does under any that is the same
  acts_here : (n : NodeId) (t : Asked) (old new : NodeState) (sent : Log) → id_of old ≡ n → id_of new ≡ id_of old → ActsSo plan t old new sent → IsPlan plan → AreTimely inputs → (x : Node) (a : Act) → IsActOf plan inputs n t x a
      → ContentStands plan inputs n (Some old) x → Asks (flow_of plan inputs) n x a
      → (d : Node × List Envelope) × (does (flow_of plan inputs) n a x ≡ Ok d) × ContentStands plan inputs n (Some new) d.0 × PacketsStand plan inputs n sent (λ to. messages_to to d.1)
  acts_here n t old new sent named same acts p timely x a is stands asks =
      let z = acts inputs p timely x a (subst (λ k. IsActOf plan inputs k t x a) (sym named) is) stands.1 (subst (λ k. Asks (flow_of plan inputs) k x a) (sym named) asks) in
      (z.0, subst (λ k. does (flow_of plan inputs) k a x ≡ Ok z.0) named z.1, (same ∙ named, z.2), subst (λ k. PacketsStand plan inputs k sent (λ to. messages_to to z.0.1)) named z.3)

-- the node did the task of an event at it: then the machine's step is one, and the core stands for the state after it
pub stepped : (old new : CoreView) (t : Asked) (e : Event) → IsPlan old.plan → AreTimely (inputs_of old) → HasNode (flow_in old) (at_node e) → HasChanged (at_node e) t old new
    → (s : State) → StandsFor old s → (a : Act) → act_of (flow_in old) s e ≡ Ok a → IsActOf old.plan (inputs_of old) (at_node e) t (s.nodes (at_node e)) a
    → Asks (flow_in old) (at_node e) (s.nodes (at_node e)) a → (u : State) × (step (flow_in old) s e ≡ Ok u) × StandsFor new u
unfolding step
stepped old new t e p timely has h s stands a act is asks =
    let n = at_node e in
    let plan = old.plan in
    let inputs = inputs_of old in
    let sent = h.acted.sent in
    let stood : ContentStands plan inputs n (Some h.before.node) (s.nodes n) = subst (λ (at : Standing). ContentStands plan inputs n at.content (s.nodes n)) h.was (stands n has).content in
    let d = acts_here plan inputs n t h.before.node h.after.node sent h.id h.acted.id (h.acted.acts plan) p timely (s.nodes n) a is stood asks in
    let u : State = record { nodes = changed n d.0.0 s.nodes; sent = posted n d.0.1 s.sent } in
    let done : step (flow_of plan inputs) s e ≡ Ok u = ap (acted (flow_of plan inputs) n s) act ∙ ap (after n s) d.1 in
    let stands_now : ContentStands plan inputs n (station new n).content d.0.0 = subst (λ (at : Standing). ContentStands plan inputs n at.content d.0.0) (sym h.now) d.2 in
    let log : (station new n).sent ≡ (station old n).sent ++ sent = ap (λ (at : Standing). at.sent) h.now ∙ h.acted.noted ∙ ap (λ (at : Standing). at.sent ++ sent) (sym h.was) in
    let Good : PlanView → List Input → Type 0 = λ P I. (m : NodeId) → HasNode (flow_of P I) m → StationStands P I m (station new m) u in
    let good : Good plan inputs = λ m has_m.
    let before = stands m has_m in
    let same : is_node m n ≡ true → m ≡ n = is_node-true m n in
    let apart : is_node m n ≡ false → station new m ≡ station old m = λ b. h.others m (λ eq. let z : true ≡ false = sym (ap (λ k. is_node k n) eq ∙ node_self n) ∙ b in absurd (true≢false z)) in
    record {
      content = content_changed plan inputs (is_node m n) m n (station old m).content (station new m).content (s.nodes m) d.0.0
          (λ b. (same b, subst (λ k. ContentStands plan inputs n (station new k).content d.0.0) (sym (same b)) stands_now))
          (λ b. ap (λ (at : Standing). at.content) (apart b)) before.content;
      sent = sent_changed plan inputs (is_node m n) m (station old m).sent (station new m).sent sent (λ to. s.sent (link m to)) (λ to. messages_to to d.0.1)
          (λ b. (subst (λ k. (station new k).sent ≡ (station old k).sent ++ sent) (sym (same b)) log, subst (λ k. PacketsStand plan inputs k sent (λ to. messages_to to d.0.1)) (sym (same b)) d.3))
          (λ b. ap (λ (at : Standing). at.sent) (apart b)) before.sent;
    } in
    (u, done, subst (λ P. Good P (inputs_of new)) (sym h.plan) (subst (λ I. Good plan I) (sym (inputs_same n t old new h)) good))

-- the core goes on as the machine does
pub goes_on : (old new : CoreView) (t : Asked) (e : Event) → IsPlan old.plan → AreTimely (inputs_of old) → IsThere (flow_in old) e → HasChanged (at_node e) t old new → IsTaskOf old e t → GoesOn old new e
goes_on old new t e p timely there h task s stands may =
    let f = flow_in old in
    let z = task s stands in
    stepped old new t e p timely (at_there f e there) h s stands z.0 z.1 z.2 (may_asks f s e z.0 there may z.1)
