-- What the controller of a pair does, in numbers. It hears its two replicas, brings back one that is down and stops one that asks for
-- it where the partner is up, and acknowledges each in-edge up to the least report of those that aren't down. It does all of this
-- after each message, whatever the message was.
use Rattle.std.specs.Prelude.{ℕ, zero, suc, Bool, true, false, List, [], ◌∷◌, ◌++◌, Option, None, Some, ◌+◌, ◌==◌, ◌&&◌, if◌then◌else◌, is_none, nat_lt, min, max}
use Rattle.tuple_edge.specs.declared.node.Which.{Which}
use Rattle.tuple_edge.specs.declared.node.Which.TheVariants.{A, B}
use Rattle.tuple_edge.specs.declared.status.Status.{Status}
use Rattle.tuple_edge.specs.declared.status.Status.TheVariants as status
use Rattle.pair_machine.specs.Numbers.{Controller, Partition, Watched, in_edge, is_which, other, replica_at}
use Rattle.pair_machine.specs.Messages.{Message, Ack, Report, Lead, Serve, Begin, Caught, Down, Stop, AskStop, AskBack, Envelope, envelope}
use Rattle.pair_machine.specs.Consumers.{with_at}
use Rattle.pair_machine.specs.Producers.{to_producers}

-- whether a replica is held down; one that is catching is not, and so may be counted
abbrev pub is_down : Status → Bool
is_down status.Up = false
is_down status.Catching = false
is_down status.Down = true

-- whether a replica is held up; one that is catching is not yet, and can't lead
abbrev pub is_up : Status → Bool
is_up status.Up = true
is_up status.Catching = false
is_up status.Down = false

-- whether a replica is held to be catching: it was brought back, and has not yet said that it has its partner's state
abbrev pub is_catching : Status → Bool
is_catching status.Up = false
is_catching status.Catching = true
is_catching status.Down = false

-- something of each replica, with another one of replica w
abbrev pub with_which : {X : Type 0} → (Which → X) → Which → X → Which → X
with_which g A x A = x
with_which g A x B = g B
with_which g B x A = g A
with_which g B x B = x

-- other knowledge of replica w; what is known of its partner stays, and all else that the controller has
abbrev pub with_watched : Controller → Which → Watched → Controller
with_watched c w h = record c { watched = with_which c.watched w h }

-- a replica in that incarnation is counted: it isn't down
abbrev pub counts : Watched → ℕ → Bool
counts h i = if is_down h.status then false else i == h.inc

-- ---- leaders

-- whether w is the leader; where none is named, neither replica is
abbrev pub leads_now : Option Which → Which → Bool
leads_now None w = false
leads_now (Some u) w = is_which u w

-- w is named leader
abbrev pub named : Partition → Which → Controller → (Controller × List Envelope)
named p w c =
    (record c { term = c.term + 1; leader = Some w }, envelope (replica_at p w) (Lead (c.watched w).inc (c.term + 1)) ∷ [])

-- w is held down, and a wanted stop of it is forgotten, but not a wanted back
abbrev pub downed : Which → Controller → Controller
downed w c = with_watched c w (record (c.watched w) { status = status.Down; stop = false })

-- w goes down; where it led, its partner leads if it is up
abbrev pub goes_down : Partition → Which → Controller → (Controller × List Envelope)
goes_down p w c =
    if leads_now c.leader w
    then (if is_up (c.watched (other w)).status then named p (other w) (downed w c) else (record (downed w c) { leader = None }, []))
    else (downed w c, [])

-- ---- what a message from w says

-- a message that no line names says nothing
abbrev pub controller_hears : Partition → Which → Message → Controller → (Controller × List Envelope)
controller_hears p w (Report i e k) c =
    if counts (c.watched w) i
    then (with_watched c w (record (c.watched w) { reports = with_at (c.watched w).reports e.from (max ((c.watched w).reports e.from) k) }), [])
    else (c, [])
controller_hears p w (Down i) c = if counts (c.watched w) i then goes_down p w c else (c, [])
controller_hears p w (AskStop i) c = if counts (c.watched w) i then (with_watched c w (record (c.watched w) { stop = true }), []) else (c, [])
controller_hears p w AskBack c = (with_watched c (other w) (record (c.watched (other w)) { back = true }), [])
controller_hears p w (Caught i) c =
    if (i == (c.watched w).inc) && is_catching (c.watched w).status
    then (let up = with_watched c w (record (c.watched w) { status = status.Up }) in if is_none c.leader then named p w up else (up, []))
    else (c, [])
controller_hears p w m c = (c, [])

-- ---- what follows after each message

-- w is brought back where that is wanted, it is down and its partner is up: it begins anew, and the partner serves it
abbrev pub backs : Partition → Which → Controller → (Controller × List Envelope)
backs p w c =
    if (c.watched w).back && (is_down (c.watched w).status && is_up (c.watched (other w)).status)
    then (
      with_watched c w (record { status = status.Catching; inc = (c.watched w).inc + 1; reports = (c.watched (other w)).reports; stop = (c.watched w).stop; back = false }),
      envelope (replica_at p w) (Begin ((c.watched w).inc + 1)) ∷ envelope (replica_at p (other w)) (Serve (c.watched (other w)).inc ((c.watched w).inc + 1)) ∷ [],
    )
    else (c, [])

-- w is stopped where that is wanted, and both are up
abbrev pub stops : Partition → Which → Controller → (Controller × List Envelope)
stops p w c =
    if (c.watched w).stop && (is_up (c.watched w).status && is_up (c.watched (other w)).status)
    then (let d = goes_down p w c in (d.0, envelope (replica_at p w) (Stop (c.watched w).inc) ∷ d.1))
    else (c, [])

-- the least of two reports, as far as their replicas aren't down, and k where both are
abbrev pub least_of : ℕ → Status → ℕ → Status → ℕ → ℕ
least_of k a_status a b_status b =
    if is_down a_status then (if is_down b_status then k else b) else (if is_down b_status then a else min a b)

-- the least report of in-edge q by the replicas that aren't down; what is acknowledged, where both are
abbrev pub least : Controller → ℕ → ℕ
least c q = least_of (c.acked q) (c.watched A).status ((c.watched A).reports q) (c.watched B).status ((c.watched B).reports q)

-- the acknowledgements of so many in-edges from q on, to both producers of an edge: of those whose least report has risen
abbrev pub acks_from : ℕ → ℕ → Partition → Controller → List Envelope
acks_from zero q p c = []
acks_from (suc n) q p c =
    (if nat_lt (c.acked q) (least c q) then to_producers p q (Ack (in_edge p q) (least c q)) else []) ++ acks_from n (q + 1) p c

-- each in-edge is acknowledged up to its least report, and never less far than before
abbrev pub acks : ℕ → Partition → Controller → (Controller × List Envelope)
acks edges p c = (record c { acked = λ q. max (c.acked q) (least c q) }, acks_from edges 0 p c)

-- ---- the whole step

-- one part of the step after another: the second begins at what the first left, and its messages follow those of the first
abbrev pub then_do : (Controller × List Envelope) → (Controller → (Controller × List Envelope)) → (Controller × List Envelope)
then_do d g = ((g d.0).0, d.1 ++ (g d.0).1)

-- what a message from w does to the controller of a pair with so many in-edges
abbrev pub controller_takes : ℕ → Partition → Which → Message → Controller → (Controller × List Envelope)
controller_takes edges p w m c =
    then_do (then_do (then_do (then_do (then_do (controller_hears p w m c) (backs p A)) (backs p B)) (stops p A)) (stops p B)) (acks edges p)
