-- Whether a pair is lost, by what its controller knows of both replicas and by the incarnations in which they run.
use Rattle.std.specs.Prelude.{◌≡◌, ◌≢◌, ℕ, Bool, true, false, Option, None, Some, ◌==◌, if◌then◌else◌}
use Rattle.tuple_edge.specs.declared.node.NodeId.{NodeId}
use Rattle.tuple_edge.specs.declared.node.Which.{Which}
use Rattle.tuple_edge.specs.declared.node.Which.TheVariants.{A, B}
use Rattle.pair_machine.specs.Controllers.{is_down}
use Rattle.pair_machine.specs.Machine.{State}
use Rattle.run_watch.specs.declared.glimpse.Glimpse.{Glimpse}
use Rattle.run_watch.specs.declared.glimpse.Glimpse.TheVariants as glimpse
use Rattle.run_watch.specs.declared.glimpse.Known.{Known}

-- what a controller knows of both replicas, where the node is one
abbrev pub knows_both : Glimpse → Option (Known × Known)
knows_both (glimpse.Running inc leads term moving) = None
knows_both (glimpse.Gathering inc taken held) = None
knows_both (glimpse.Gone inc) = None
knows_both (glimpse.Control term leader a b) = Some (a, b)
knows_both glimpse.End = None

-- a replica that runs is counted by what is known of it
abbrev pub counted_as : Known → Option ℕ → Bool
counted_as k None = false
counted_as k (Some inc) = if is_down k.status then false else inc == k.inc

-- neither replica runs and is counted
abbrev pub lost_by : (a b : Known) → (runs_a runs_b : Option ℕ) → Bool
lost_by a b runs_a runs_b = if counted_as a runs_a then false else if counted_as b runs_b then false else true

-- something of the replicas A and B, of which replica w has the first and its partner the second
abbrev pub in_order : {X Y : Type 0} → Which → (X → X → Y) → X → X → Y
in_order A g own partner = g own partner
in_order B g own partner = g partner own

-- two states differ at this node alone
abbrev pub DifferAt : NodeId → State → State → Type 0
DifferAt n s t = (m : NodeId) → m ≢ n → t.nodes m ≡ s.nodes m
