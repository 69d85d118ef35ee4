-- What sending does to a node's links.
use Rattle.std.specs.Prelude.{ℕ, ◌+◌, List, [], ◌∷◌, ◌++◌, if◌then◌else◌}
use Rattle.pair_machine.specs.Numbers.{is_node}
use Rattle.tuple_edge.specs.declared.node.NodeId.{NodeId}
use Rattle.tuple_edge.specs.declared.packet.Body.{Body}
use Rattle.tuple_edge.specs.declared.packet.Packet.{Packet}
use Rattle.run_node.specs.Ends.{OutLink}

-- a packet was emitted on the link to a node; where no link leads there, nothing changes
abbrev pub with_sent : NodeId → Packet → List OutLink → List OutLink
with_sent to p [] = []
with_sent to p (l ∷ ls) = if is_node l.to to then (record l { emitted = l.emitted ++ p ∷ [] }) ∷ ls else l ∷ with_sent to p ls

-- packets were emitted in order, each with the clock
abbrev pub with_all_sent : ℕ → List (NodeId × Body) → List OutLink → List OutLink
with_all_sent clock [] ls = ls
with_all_sent clock (x ∷ xs) ls = with_all_sent clock xs (with_sent x.0 (record { at = clock; body = x.1 }) ls)

-- the packets of steps were emitted in order, those of each step with its clock, and the clocks follow on this one
abbrev pub with_steps_sent : ℕ → List (List (NodeId × Body)) → List OutLink → List OutLink
with_steps_sent clock [] ls = ls
with_steps_sent clock (xs ∷ later) ls = with_steps_sent (clock + 1) later (with_all_sent (clock + 1) xs ls)
