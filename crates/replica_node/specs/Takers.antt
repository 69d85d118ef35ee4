-- What the calls on a phase ask of its edges.
use Rattle.std.specs.Prelude.{◌<◌, ◌≤◌, ℕ, length}
use Rattle.replica_node.specs.IsReplica.{IsPhase, IsRole}
use Rattle.replica_node.specs.declared.phase.Phase.{Phase}
use Rattle.replica_node.specs.declared.phase.Phase.TheVariants as phase
use Rattle.replica_node.specs.declared.role.Role.{Role}

-- the in-edge is there
abbrev pub HasInEdge : ℕ → Phase → Type 0
HasInEdge q (phase.Running r) = q < length r.consumer.merge.marks
HasInEdge q (phase.Gathering g) = q < length g.held
HasInEdge q (phase.Gone inc) = Unit {0}

-- the out-edge is there
abbrev pub HasOutEdge : ℕ → Phase → Type 0
HasOutEdge t (phase.Running r) = t < length r.producer.edges
HasOutEdge t (phase.Gathering g) = Unit {0}
HasOutEdge t (phase.Gone inc) = Unit {0}

-- each target has so many copies
abbrev pub HasCopy : ℕ → Phase → Type 0
HasCopy copy (phase.Running r) = copy < r.producer.copies
HasCopy copy (phase.Gathering g) = Unit {0}
HasCopy copy (phase.Gone inc) = Unit {0}

-- what gathers has an in-edge
abbrev pub HasSources : Phase → Type 0
HasSources (phase.Running r) = Unit {0}
HasSources (phase.Gathering g) = 1 ≤ length g.held
HasSources (phase.Gone inc) = Unit {0}

-- what runs is that of its role, and the role is one of a plan
abbrev pub IsReadyToWork : Role → Phase → Type 0
IsReadyToWork role p = IsRole role × IsPhase role p
