-- What orders stand on: who has merged so many items has merged fewer.
use Rattle.std.proofs.Common.{◌≡◌, ◌≤◌, ℕ, None, Some, refl, sym, arith}
use Rattle.failure_script.specs.Orders.{partner_of}
use Rattle.tuple_edge.specs.declared.node.NodeId.{NodeId}
use Rattle.tuple_edge.specs.declared.node.NodeId.TheVariants as node
use Rattle.pair_machine.specs.Machine.{partner_node}
use Rattle.pair_machine.specs.Numbers.{Gathering, Gone, Replica, Running, other}
use Rattle.pair_machine.specs.Courses.{Arrivals}
use Rattle.pair_machine.specs.Scripts.{HasMerged}
use Rattle.node_tasks.specs.Tasks.{packet_of}
use Rattle.node_tasks.specs.declared.task.Task.{Task}
use Rattle.node_tasks.specs.declared.task.Task.TheVariants as task

-- after the clock of what is taken
abbrev pub clock_of : Task → ℕ
clock_of (task.Take from index packet) = packet.at
clock_of t = 0

-- the packet that is to be taken came under its index
abbrev pub CameFor : Arrivals → Task → Type 0
CameFor arrived (task.Take from index packet) = arrived from index ≡ Some packet
CameFor arrived t = Unit {0}

pub has_fewer : (r : Replica) (a b : ℕ) → a ≤ b → HasMerged b r → HasMerged a r
has_fewer (Gone i) a b le h = h
has_fewer (Running x) a b le h = omega arith
has_fewer (Gathering g) a b le h = h

pub partner_is : (n p : NodeId) → partner_of n ≡ Some p → p ≡ partner_node n
partner_is node.Ingress p e = cc
partner_is (node.Replica s q w) p e = let z : node.Replica s q (other w) ≡ p = cc e in sym z
partner_is (node.Control s q) p e = cc
partner_is node.Egress p e = cc

-- a task that takes no packet waits for none, and is after any clock
pub untaken : (arrived : Arrivals) (t : Task) → packet_of t ≡ None → CameFor arrived t
untaken arrived (task.Take from index packet) e = cc
untaken arrived task.Work e = tt
untaken arrived task.Make e = tt
untaken arrived task.Kill e = tt
untaken arrived task.AskStop e = tt
untaken arrived task.AskBack e = tt

pub unclocked : (t : Task) → packet_of t ≡ None → clock_of t ≡ 0
unclocked (task.Take from index packet) e = cc
unclocked task.Work e = refl
unclocked task.Make e = refl
unclocked task.Kill e = refl
unclocked task.AskStop e = refl
unclocked task.AskBack e = refl
