-- What happens at an event, by the machine's states before and after it: at the node that the event changes, and to that node's pair.
use Rattle.std.specs.Prelude.{ℕ, Bool, true, false, List, [], ◌∷◌, ◌++◌, Option, None, Some, ◌-◌, if◌then◌else◌, nat_lt}
use Rattle.tuple_edge.specs.declared.event.Event.{Event}
use Rattle.tuple_edge.specs.declared.event.Event.TheVariants as event
use Rattle.tuple_edge.specs.declared.node.NodeId.{NodeId}
use Rattle.tuple_edge.specs.declared.node.NodeId.TheVariants as node
use Rattle.tuple_edge.specs.declared.node.Which.{Which}
use Rattle.tuple_edge.specs.declared.node.Which.TheVariants.{A, B}
use Rattle.pair_machine.specs.Drain.{is_lost, partition}
use Rattle.pair_machine.specs.Flow.{Flow}
use Rattle.pair_machine.specs.Machine.{State, at_node, partner_node}
use Rattle.run_watch.specs.Glimpses.{glimpse_of, inc_of}
use Rattle.run_watch.specs.declared.glimpse.Glimpse.{Glimpse}
use Rattle.run_watch.specs.declared.glimpse.Glimpse.TheVariants as glimpse
use Rattle.run_watch.specs.declared.glimpse.Known.{Known}
use Rattle.run_watch.specs.declared.glimpse.Moving.{Moving}
use Rattle.run_watch.specs.declared.happening.Happening.{Happening}
use Rattle.run_watch.specs.declared.happening.Fell.TheVariants as fell
use Rattle.run_watch.specs.declared.happening.Happening.TheVariants as happening
use Rattle.run_watch.specs.declared.trace.Fall.{Fall}

-- ---- at a replica

-- a replica that runs took a message: it leads from then on, where its term rose
abbrev pub led : NodeId → (before after : ℕ) → Option Happening
led n before after = if nat_lt before after then Some (happening.Leads n after) else None

-- a replica that gathers took a message and gathers still: it began anew, where its incarnation rose
abbrev pub begun_again : NodeId → (before after : ℕ) → Option Happening
begun_again n before after = if nat_lt before after then Some (happening.Begun n after) else None

-- a node took a message: a replica is gone from then on, begins, leads, or has caught up
abbrev pub taken : NodeId → (before after : Glimpse) → Option Happening
taken n (glimpse.Running inc leads term moving) (glimpse.Running later still risen move) = led n term risen
taken n (glimpse.Running inc leads term moving) (glimpse.Gathering later entries held) = Some (happening.Begun n later)
taken n (glimpse.Running inc leads term moving) (glimpse.Gone later) = Some (happening.Stopped n later)
taken n (glimpse.Gathering inc entries held) (glimpse.Running later leads term moving) = Some (happening.CaughtUp n later entries held)
taken n (glimpse.Gathering inc entries held) (glimpse.Gathering later more kept) = begun_again n inc later
taken n (glimpse.Gathering inc entries held) (glimpse.Gone later) = Some (happening.Stopped n later)
taken n (glimpse.Gone inc) (glimpse.Gathering later entries held) = Some (happening.Begun n later)
taken n before after = None

-- a move is over, where there was one before a piece of work and is none after it
abbrev pub move_over : NodeId → (before after : Option Moving) → Option Happening
move_over n (Some m) None = Some (happening.Moved n m.target m.sent)
move_over n before after = None

-- a node did a piece of work: a replica has sent all of its state
abbrev pub worked : NodeId → (before after : Glimpse) → Option Happening
worked n (glimpse.Running inc leads term moving) (glimpse.Running later still risen move) = move_over n moving move
worked n before after = None

-- what happens at the event's own node
abbrev pub happened : Event → (before after : Glimpse) → Option Happening
happened (event.Take l k) before after = taken l.to before after
happened (event.Work n) before after = worked n before after
happened event.Make before after = None
happened (event.Kill n) before after = Some (happening.Failed n (inc_of before))
happened (event.AskStop n) before after = Some (happening.AskedStop n (inc_of before))
happened (event.AskBack n) before after = Some (happening.AskedBack n)
happened (event.Pull from to) before after = None

-- ---- at a controller

-- replica w of the pair whose controller a node is
abbrev pub member : NodeId → Which → NodeId
member (node.Control stage part) w = node.Replica stage part w
member n w = n

-- a replica that never fell
abbrev pub no_fall : Fall
no_fall = record { place = 0; how = fell.Never }

-- who is named leader at a place of the list, so many events after a fall of the partner
abbrev pub named_after : ℕ → Fall → (leader : NodeId) → (term : ℕ) → Happening
named_after place fall leader term = happening.Named leader term (place - fall.place) fall.how

-- who is named leader, at a place of the list: so many events after the partner last fell, and how it did
abbrev pub named_at : ℕ → (NodeId → Fall) → NodeId → (term : ℕ) → Option Which → Option Happening
named_at place falls n term None = None
named_at place falls n term (Some w) = let leader = member n w in Some (named_after place (falls (partner_node leader)) leader term)

-- a leader is named, where the controller's term rose
abbrev pub named : ℕ → (NodeId → Fall) → NodeId → (before after : Glimpse) → Option Happening
named place falls n (glimpse.Control term leader a b) (glimpse.Control risen next c d) = if nat_lt term risen then named_at place falls n risen next else None
named place falls n before after = None

-- a replica is to begin in a later incarnation
abbrev pub recalled_to : NodeId → (before after : Known) → Option Happening
recalled_to n before after = if nat_lt before.inc after.inc then Some (happening.Recalled n after.inc) else None

-- what a controller knows of a replica
abbrev pub known_in : Which → (a b : Known) → Known
known_in A a b = a
known_in B a b = b

-- replica w is brought back, where its controller's incarnation of it rose
abbrev pub recalled : NodeId → Which → (before after : Glimpse) → Option Happening
recalled n w (glimpse.Control term leader a b) (glimpse.Control risen next c d) = recalled_to (member n w) (known_in w a b) (known_in w c d)
recalled n w before after = None

-- ---- to the pair

-- a pair is lost from an event on, or serves again
abbrev pub loss : (stage part : ℕ) → (before after : Bool) → Option Happening
loss stage part false true = Some (happening.Lost stage part)
loss stage part true false = Some (happening.Regained stage part)
loss stage part before after = None

-- the same of the pair to which a node belongs; ingress and egress belong to none
abbrev pub pair_loss : NodeId → (before after : State) → Option Happening
pair_loss node.Ingress s t = None
pair_loss (node.Replica stage part which) s t = loss stage part (is_lost s (partition stage part)) (is_lost t (partition stage part))
pair_loss (node.Control stage part) s t = loss stage part (is_lost s (partition stage part)) (is_lost t (partition stage part))
pair_loss node.Egress s t = None

-- ---- all that happens at an event

-- what there is, as a list
abbrev pub each : {X : Type 0} → Option X → List X
each None = []
each (Some x) = x ∷ []

-- What happens at the event of this place, where a step leads from the one state to the other: at its node, then to its pair. `falls` has
-- where each replica fell last, and how.
abbrev pub happenings : Flow → (place : ℕ) → (falls : NodeId → Fall) → Event → (before after : State) → List Happening
happenings f place falls e s t =
    let n = at_node e in
    let x = glimpse_of f s n in
    let y = glimpse_of f t n in
    each (happened e x y) ++ each (named place falls n x y) ++ each (recalled n A x y) ++ each (recalled n B x y) ++ each (pair_loss n s t)
