-- What is always true of a replica.
use Rattle.std.specs.Prelude.{◌≡◌, ◌<◌, ◌≤◌, ◌+◌, ℕ, List, Option, None, Some, length}
use Rattle.std.specs.List.{All}
use Rattle.tuple_edge.specs.declared.item.Item.{Item}
use Rattle.tuple_edge.specs.declared.packet.Entry.{Entry}
use Rattle.tuple_edge.specs.declared.packet.Entry.TheVariants as entry
use Rattle.tuple_edge.specs.Limits.{edge_limit}
use Rattle.op_spec.specs.Spec.{IsSpec}
use Rattle.op_spec.specs.Times.{IsTimely}
use Rattle.state_mover.specs.MoverView.{IsMidway, MoverView, total_of}
use Rattle.catch_up.specs.NewcomerView.{NewcomerView}
use Rattle.partition_step.specs.Answering.{HasParts}
use Rattle.replica_node.specs.ReplicaView.{ReplicaView, copies_of, targets_of}
use Rattle.replica_node.specs.declared.phase.Phase.{Phase}
use Rattle.replica_node.specs.declared.phase.Phase.TheVariants as phase
use Rattle.replica_node.specs.declared.phase.Running.{Running}
use Rattle.replica_node.specs.declared.role.Role.{Role}

-- all items that wait have times within their limits
abbrev pub AllTimely : List (List Item) → Type 0
AllTimely waiting = All (All IsTimely) waiting

-- so have all items that are held
abbrev pub AllHeldTimely : List (List (ℕ × Item)) → Type 0
AllHeldTimely held = All (All (λ (h : ℕ × Item). IsTimely h.1)) held

-- an item that an entry moves has a time within its limits
abbrev pub IsTimelyEntry : Entry → Type 0
IsTimelyEntry (entry.Head q number i) = IsTimely i
IsTimelyEntry (entry.Mark q upto) = Unit {0}
IsTimelyEntry (entry.Count count) = Unit {0}
IsTimelyEntry (entry.Low t low produced) = Unit {0}
IsTimelyEntry (entry.Kept t number i) = IsTimely i
IsTimelyEntry (entry.Keyed k slot a b c) = Unit {0}

-- while it moves its state the operator is watched, the mover goes by what was kept then, and has something to give; else it isn't
abbrev pub IsMoving : Option MoverView → Option (List Entry) → Type 0
IsMoving None old = old ≡ None
IsMoving (Some m) None = ⊥
IsMoving (Some m) (Some old) = IsMidway m old × (m.sent < total_of m)

-- what runs has the edges and the operator of its partition
pub record IsRunning (role : Role) (r : Running) : Type 0 where
  pub sources : length r.consumer.merge.marks ≡ role.sources
  pub stage : r.producer.stage ≡ role.stage
  pub from : r.producer.from ≡ role.part
  pub copies : r.producer.copies ≡ copies_of role.next
  pub targets : length r.producer.edges ≡ targets_of role.next
  pub op : r.state.spec ≡ role.op
  pub timely : AllTimely r.consumer.merge.waiting
  pub moving : IsMoving r.mover r.state.old

-- what gathers holds items of its partition's in-edges
pub record IsGathering (role : Role) (g : NewcomerView) : Type 0 where
  pub sources : length g.held ≡ role.sources
  pub held : AllHeldTimely g.held
  pub taken : All IsTimelyEntry g.taken

-- what a replica has in its mode is right for its partition
abbrev pub IsPhase : Role → Phase → Type 0
IsPhase role (phase.Running r) = IsRunning role r
IsPhase role (phase.Gathering g) = IsGathering role g
IsPhase role (phase.Gone inc) = Unit {0}

-- a partition of some stage, with an operator within its limits
pub record IsRole (role : Role) : Type 0 where
  pub stage : 1 ≤ role.stage
  pub last : role.stage + 1 < edge_limit
  pub some : 1 ≤ role.sources
  pub few : role.sources < edge_limit
  pub op : IsSpec role.op
  pub parts : HasParts role.next

-- a replica of some partition, with what is right for it there
abbrev pub IsReplica : ReplicaView → Type 0
IsReplica v = IsRole v.role × IsPhase v.role v.phase
