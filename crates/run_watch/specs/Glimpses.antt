-- The few numbers of a node of the machine by which one sees what happens to it.
use Rattle.std.specs.Prelude.{ℕ, Bool, true, false, Option, None, Some, length}
use Rattle.tuple_edge.specs.declared.node.NodeId.{NodeId}
use Rattle.tuple_edge.specs.declared.node.NodeId.TheVariants as node
use Rattle.tuple_edge.specs.declared.node.Which.TheVariants.{A, B}
use Rattle.pair_machine.specs.Flow.{Flow}
use Rattle.pair_machine.specs.Machine.{State, controller_in, replica_in}
use Rattle.pair_machine.specs.Numbers.{Controller, Gathering, Gone, Move, Replica, Running, Watched}
use Rattle.pair_machine.specs.Replicas.{sum_below}
use Rattle.run_watch.specs.declared.glimpse.Glimpse.{Glimpse}
use Rattle.run_watch.specs.declared.glimpse.Glimpse.TheVariants as glimpse
use Rattle.run_watch.specs.declared.glimpse.Known.{Known}
use Rattle.run_watch.specs.declared.glimpse.Moving.{Moving}
use Rattle.run_watch.specs.declared.mode.Mode.{Mode}
use Rattle.run_watch.specs.declared.mode.Mode.TheVariants as mode

-- the move that a replica gives, where it gives one
abbrev pub moving_of : Option Move → Option Moving
moving_of None = None
moving_of (Some m) = Some (record { target = m.target; sent = m.sent })

-- what is seen of a replica with so many in-edges; one that gathers holds the items that wait on any of them
abbrev pub replica_seen : (sources : ℕ) → Replica → Glimpse
replica_seen sources (Running x) = glimpse.Running x.inc x.producer.leads x.producer.term (moving_of x.move)
replica_seen sources (Gathering g) = glimpse.Gathering g.inc g.taken (sum_below sources (λ q. length (g.held q)))
replica_seen sources (Gone i) = glimpse.Gone i

-- what a controller knows of a replica, as it is seen
abbrev pub known_of : Watched → Known
known_of h = record { status = h.status; inc = h.inc }

-- what is seen of a controller
abbrev pub controller_seen : Controller → Glimpse
controller_seen c = glimpse.Control c.term c.leader (known_of (c.watched A)) (known_of (c.watched B))

-- what is seen of a node in a state
abbrev pub glimpse_of : Flow → State → NodeId → Glimpse
glimpse_of f s node.Ingress = glimpse.End
glimpse_of f s (node.Replica stage part which) = replica_seen (f.sources stage) (replica_in (s.nodes (node.Replica stage part which)))
glimpse_of f s (node.Control stage part) = controller_seen (controller_in (s.nodes (node.Control stage part)))
glimpse_of f s node.Egress = glimpse.End

-- the incarnation of a replica; of another node 0
abbrev pub inc_of : Glimpse → ℕ
inc_of (glimpse.Running inc leads term moving) = inc
inc_of (glimpse.Gathering inc taken held) = inc
inc_of (glimpse.Gone inc) = inc
inc_of (glimpse.Control term leader a b) = 0
inc_of glimpse.End = 0

-- whether a replica that runs leads
abbrev pub mode_running : (leads : Bool) → Mode
mode_running true = mode.Leads
mode_running false = mode.Runs

-- the mode of a replica; a node of another kind has that of one that is gone
abbrev pub mode_of : Glimpse → Mode
mode_of (glimpse.Running inc leads term moving) = mode_running leads
mode_of (glimpse.Gathering inc taken held) = mode.Gathers
mode_of (glimpse.Gone inc) = mode.Gone
mode_of (glimpse.Control term leader a b) = mode.Gone
mode_of glimpse.End = mode.Gone
