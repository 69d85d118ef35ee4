-- Steps are at one node, the nodes alone decide of events that take no message, and lists of events go on.
use Rattle.std.proofs.Common.{◌≡◌, ◌≢◌, Bool, true, false, List, [], ◌∷◌, ◌++◌, Result, Ok, Err, refl, sym, ap, ◌∙◌, subst}
use Rattle.std.specs.Prelude.{if◌then◌else◌}
use Rattle.tuple_edge.specs.declared.event.Event.{Event}
use Rattle.tuple_edge.specs.declared.event.Event.TheVariants as event
use Rattle.tuple_edge.specs.declared.node.LinkId.{LinkId}
use Rattle.tuple_edge.specs.declared.node.NodeId.{NodeId}
use Rattle.pair_machine.specs.Flow.{Flow}
use Rattle.pair_machine.specs.Journal.{FrontsStayWithin, JournalsGoOn, ListsGoOn, NeedsNoOrder, NodesDecide, StepsAreAtOneNode, TakesNoMessage}
use Rattle.pair_machine.specs.Lists.{Each}
use Rattle.pair_machine.specs.Machine.{Leads, State, act_of, acted, after, at_node, changed, does, follow, opening, posted, step}
use Rattle.pair_machine.specs.Messages.{Act, Envelope, Message, Refusal}
use Rattle.pair_machine.specs.Numbers.{Node, is_node}
use Rattle.pair_machine.specs.Scripts.{AreAllowed, AreWithin, DoesNotRepeat, HappenOnce}
use Rattle.pair_machine.specs.declared.order.Order.{Order}
use Rattle.pair_machine.proofs.Legal.{follow_err, legal_join, legal_split, leads_one}
use Rattle.pair_machine.proofs.Lists.{each_append}
use Rattle.pair_machine.proofs.Names.{is_node-true}
use Rattle.pair_machine.proofs.Within.{within_front}

-- ---- a step is at one node

changed_elsewhere : (n m : NodeId) (x : Node) (nodes : NodeId → Node) → m ≢ n → changed n x nodes m ≡ nodes m
changed_elsewhere n m x nodes h = go (is_node m n) (is_node-true m n)
  where
    go : (c : Bool) → (c ≡ true → m ≡ n) → (if c then x else nodes m) ≡ nodes m
    go true e = absurd (h (e refl))
    go false e = refl

pub at_one_node : StepsAreAtOneNode
unfolding step
at_one_node f s t e done n apart = by_act (act_of f s e) done
  where
    by_done : (r : Result (Node × List Envelope) Refusal) → after (at_node e) s r ≡ Ok t → t.nodes n ≡ s.nodes n
    by_done (Ok d) q = let same : record { nodes = changed (at_node e) d.0 s.nodes; sent = posted (at_node e) d.1 s.sent } ≡ t = cc q in ap (λ (u : State). u.nodes n) (sym same) ∙ changed_elsewhere (at_node e) n d.0 s.nodes apart
    by_done (Err x) q = let z : ⊥ = cc q in absurd z

    by_act : (r : Result Act Refusal) → acted f (at_node e) s r ≡ Ok t → t.nodes n ≡ s.nodes n
    by_act (Ok a) q = by_done (does f (at_node e) a (s.nodes (at_node e))) q
    by_act (Err x) q = let z : ⊥ = cc q in absurd z

-- ---- the nodes alone decide

abbrev pub with_sent : (NodeId → Node) → (LinkId → List Message) → State
with_sent nodes sent = record { nodes = nodes; sent = sent }

-- a step from one state gives a step from the other, to the same nodes
abbrev pub StepsToo : Result State Refusal → State → Type 0
StepsToo r t = (v : State) × (r ≡ Ok v) × (v.nodes ≡ t.nodes)

acts_too : (f : Flow) (n : NodeId) (nodes : NodeId → Node) (one another : LinkId → List Message) (t : State) (r : Result Act Refusal) → acted f n (with_sent nodes one) r ≡ Ok t →
    StepsToo (acted f n (with_sent nodes another) r) t
acts_too f n nodes one another t (Err x) q = let z : ⊥ = cc q in absurd z
acts_too f n nodes one another t (Ok a) q = go (does f n a (nodes n)) q
  where
    go : (r : Result (Node × List Envelope) Refusal) → after n (with_sent nodes one) r ≡ Ok t → StepsToo (after n (with_sent nodes another) r) t
    go (Ok d) q = let same : record { nodes = changed n d.0 nodes; sent = posted n d.1 one } ≡ t = cc q in (record { nodes = changed n d.0 nodes; sent = posted n d.1 another }, refl, ap (λ (u : State). u.nodes) same)
    go (Err x) q = let z : ⊥ = cc q in absurd z

pub step_too : (f : Flow) (nodes : NodeId → Node) (one another : LinkId → List Message) (t : State) (e : Event) → TakesNoMessage e → step f (with_sent nodes one) e ≡ Ok t → StepsToo (step f (with_sent nodes another) e) t
unfolding step
step_too f nodes one another t (event.Take l k) h q = absurd h
step_too f nodes one another t (event.Work n) h q = acts_too f n nodes one another t (act_of f (with_sent nodes one) (event.Work n)) q
step_too f nodes one another t event.Make h q = acts_too f (at_node event.Make) nodes one another t (act_of f (with_sent nodes one) event.Make) q
step_too f nodes one another t (event.Kill n) h q = acts_too f n nodes one another t (act_of f (with_sent nodes one) (event.Kill n)) q
step_too f nodes one another t (event.AskStop n) h q = acts_too f n nodes one another t (act_of f (with_sent nodes one) (event.AskStop n)) q
step_too f nodes one another t (event.AskBack n) h q = acts_too f (at_node (event.AskBack n)) nodes one another t (act_of f (with_sent nodes one) (event.AskBack n)) q
step_too f nodes one another t (event.Pull from to) h q = acts_too f to nodes one another t (act_of f (with_sent nodes one) (event.Pull from to)) q

leads_too : (f : Flow) (es : List Event) (s t u : State) → Each TakesNoMessage es → u.nodes ≡ s.nodes → Leads f s es t → (v : State) × Leads f u es v × (v.nodes ≡ t.nodes)
leads_too f [] s t u h e l = let same : s ≡ t = cc l in (u, refl, e ∙ ap (λ (k : State). k.nodes) same)
leads_too f (x ∷ es) s t u h e l = go (step f s x) refl l (λ m. leads_too f es m t)
  where
    stepped : (m : State) → step f s x ≡ Ok m → StepsToo (step f u x) m
    stepped m q = subst (λ nodes. StepsToo (step f (with_sent nodes u.sent) x) m) (sym e) (step_too f s.nodes s.sent u.sent m x h.0 q)

    go : (r : Result State Refusal) → step f s x ≡ r → follow f es r ≡ Ok t → ((m k : State) → Each TakesNoMessage es → k.nodes ≡ m.nodes → Leads f m es t → (v : State) × Leads f k es v × (v.nodes ≡ t.nodes)) →
        (v : State) × Leads f u (x ∷ es) v × (v.nodes ≡ t.nodes)
    go (Ok m) q l later =
        let k = stepped m q in
        let z = later m k.0 h.1 k.2 l in
        (z.0, ap (follow f es) k.1 ∙ z.1, z.2)
    go (Err y) q l later = let z : Err y ≡ Ok t = sym (follow_err f es y) ∙ l in let w : ⊥ = cc z in absurd w

pub nodes_decide : NodesDecide
nodes_decide f s t u es h e l = let z = leads_too f es s t u h e l.leads in (z.0, record { there = l.there; leads = z.1 }, z.2)

-- ---- lists go on

pub go_on : ListsGoOn
go_on f = record { joined = legal_join f; split = legal_split f; one_end = λ s t u es a b. leads_one f s t u es a.leads b.leads }

no_order : (script : List Order) (f : Flow) (s : State) (e : Event) (es : List Event) → NeedsNoOrder e → AreAllowed f script es (step f s e) → AreAllowed f script (e ∷ es) (Ok s)
no_order script f s (event.Kill n) es h k = absurd h
no_order script f s (event.AskStop n) es h k = absurd h
no_order script f s (event.AskBack n) es h k = absurd h
no_order script f s (event.Take l j) es h k = (tt, k)
no_order script f s (event.Work n) es h k = (tt, k)
no_order script f s event.Make es h k = (tt, k)
no_order script f s (event.Pull from to) es h k = (tt, k)

allowed_free : (f : Flow) (script : List Order) (ys : List Event) (r : Result State Refusal) → Each NeedsNoOrder ys → AreAllowed f script ys r
allowed_free f script [] r h = tt
allowed_free f script (y ∷ ys) (Ok s) h = no_order script f s y ys h.0 (allowed_free f script ys (step f s y) h.1)
allowed_free f script (y ∷ ys) (Err x) h = tt

allowed_more : (f : Flow) (script : List Order) (xs ys : List Event) (r : Result State Refusal) → AreAllowed f script xs r → Each NeedsNoOrder ys → AreAllowed f script (xs ++ ys) r
allowed_more f script [] ys r h k = allowed_free f script ys r k
allowed_more f script (x ∷ xs) ys (Ok s) h k = (h.0, allowed_more f script xs ys (step f s x) h.1 k)
allowed_more f script (x ∷ xs) ys (Err e) h k = tt

-- an event that needs no order repeats none, and is repeated by any
free_later : (x y : Event) → NeedsNoOrder y → DoesNotRepeat x y
free_later (event.Kill n) y h = λ e. subst NeedsNoOrder e h
free_later (event.AskStop n) y h = λ e. subst NeedsNoOrder e h
free_later (event.AskBack n) y h = λ e. subst NeedsNoOrder e h
free_later (event.Take l k) y h = tt
free_later (event.Work n) y h = tt
free_later event.Make y h = tt
free_later (event.Pull from to) y h = tt

all_later : (x : Event) (ys : List Event) → Each NeedsNoOrder ys → Each (DoesNotRepeat x) ys
all_later x [] h = tt
all_later x (y ∷ ys) h = (free_later x y h.0, all_later x ys h.1)

once_free : (ys : List Event) → Each NeedsNoOrder ys → HappenOnce ys
once_free [] h = tt
once_free (y ∷ ys) h = (all_later y ys h.1, once_free ys h.1)

once_more : (xs ys : List Event) → HappenOnce xs → Each NeedsNoOrder ys → HappenOnce (xs ++ ys)
once_more [] ys h k = once_free ys k
once_more (x ∷ xs) ys h k = (each_append (DoesNotRepeat x) xs ys h.0 (all_later x ys k), once_more xs ys h.1 k)

within_more : (f : Flow) (script : List Order) (xs ys : List Event) → AreWithin f script xs → Each NeedsNoOrder ys → AreWithin f script (xs ++ ys)
within_more f script xs ys h k = record { allowed = allowed_more f script xs ys (Ok opening) h.allowed k; once = once_more xs ys h.once k }

pub stay_within : FrontsStayWithin
stay_within f script = record { front = within_front f script; more = within_more f script }

pub journals_go_on : JournalsGoOn
journals_go_on f script s t u xs ys legal within no_message no_need same l =
    let z = nodes_decide f u t s ys no_message (sym same) l in
    record { state = z.0; legal = legal_join f opening s z.0 xs ys legal z.1; within = within_more f script xs ys within no_need; nodes = z.2 }
