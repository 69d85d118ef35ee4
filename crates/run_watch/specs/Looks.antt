-- What is seen of a node as contracts see it: of the numbers that it stands for, this is the glimpse.
use Rattle.std.specs.Prelude.{◌≡◌, ℕ, Option, None, Some, length}
use Rattle.tuple_edge.specs.declared.node.Which.{Which}
use Rattle.pair_machine.specs.Replicas.{sum_below}
use Rattle.pair_control.specs.ControllerView.{ControllerView, WatchedView}
use Rattle.state_mover.specs.MoverView.{MoverView}
use Rattle.catch_up.specs.NewcomerView.{NewcomerView, held_of}
use Rattle.replica_node.specs.declared.phase.Phase.{Phase}
use Rattle.replica_node.specs.declared.phase.Phase.TheVariants as phase
use Rattle.run_watch.specs.Happenings.{known_in}
use Rattle.run_watch.specs.declared.glimpse.Glimpse.{Glimpse}
use Rattle.run_watch.specs.declared.glimpse.Glimpse.TheVariants as glimpse
use Rattle.run_watch.specs.declared.glimpse.Known.{Known}
use Rattle.run_watch.specs.declared.glimpse.Moving.{Moving}

-- the move that a replica gives
abbrev pub mover_seen : Option MoverView → Option Moving
mover_seen None = None
mover_seen (Some m) = Some (record { target = m.target; sent = m.sent })

-- how many items a newcomer holds on its first in-edges
abbrev pub held_below : NewcomerView → ℕ → ℕ
held_below g n = sum_below n (λ q. length (held_of g q))

-- what is seen of a replica in this phase
abbrev pub phase_seen : Phase → Glimpse
phase_seen (phase.Running r) = glimpse.Running r.inc r.producer.leads r.producer.term (mover_seen r.mover)
phase_seen (phase.Gathering g) = glimpse.Gathering g.inc (length g.taken) (held_below g (length g.held))
phase_seen (phase.Gone inc) = glimpse.Gone inc

-- a newcomer has so many in-edges
abbrev pub HasHeld : ℕ → Phase → Type 0
HasHeld edges (phase.Running r) = Unit {0}
HasHeld edges (phase.Gathering g) = edges ≡ length g.held
HasHeld edges (phase.Gone inc) = Unit {0}

-- what a controller knows of a replica
abbrev pub watched_seen : WatchedView → Known
watched_seen h = record { status = h.status; inc = h.inc }

-- what is seen of a controller
abbrev pub control_seen : ControllerView → Glimpse
control_seen c = glimpse.Control c.term c.leader (watched_seen c.a) (watched_seen c.b)

-- the incarnation in which a replica runs, where it does
abbrev pub runs_as : Glimpse → Option ℕ
runs_as (glimpse.Running inc leads term moving) = Some inc
runs_as (glimpse.Gathering inc taken held) = None
runs_as (glimpse.Gone inc) = None
runs_as (glimpse.Control term leader a b) = None
runs_as glimpse.End = None

-- what a controller knows of a replica, where the node is one
abbrev pub knows : Glimpse → Which → Option Known
knows (glimpse.Running inc leads term moving) w = None
knows (glimpse.Gathering inc taken held) w = None
knows (glimpse.Gone inc) w = None
knows (glimpse.Control term leader a b) w = Some (known_in w a b)
knows glimpse.End w = None
