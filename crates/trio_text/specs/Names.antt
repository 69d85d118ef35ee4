-- The names of the nodes and links of groups.
use Rattle.std.specs.Prelude.{ℕ, Option, Some, None, codes, if◌then◌else◌}
use Rattle.std.specs.Str.{bytes_eq}
use Rattle.text_words.specs.Lines.{Word}
use Rattle.plan_reader.specs.Names.{◌>>=◌, cut_at, place_named}
use Rattle.trio_machine.specs.declared.node.TrioNode.{TrioNode}
use Rattle.trio_machine.specs.declared.node.TrioNode.TheVariants as node
use Rattle.trio_text.specs.declared.names.Ends.{Ends}

-- a node of the group that runs this partition of this stage
abbrev pub member_named : ℕ → ℕ → Word → Option TrioNode
member_named stage part word =
    if bytes_eq word (codes "0") then Some (node.Replica stage part 0)
    else if bytes_eq word (codes "1") then Some (node.Replica stage part 1)
    else if bytes_eq word (codes "2") then Some (node.Replica stage part 2)
    else if bytes_eq word (codes "c") then Some (node.Control stage part)
    else None

-- the replica or controller named by a stage, a partition and which node of the group it is, with points between them
unfoldable pub group_node_named : Word → Option TrioNode
group_node_named word = do
  by_stage ← cut_at 46 word
  by_part ← cut_at 46 by_stage.1
  stage ← place_named by_stage.0
  part ← place_named by_part.0
  member_named stage part by_part.1

-- the node that a word names
unfoldable pub trio_node_named : Word → Option TrioNode
trio_node_named word =
    if bytes_eq word (codes "in") then Some node.Ingress
    else if bytes_eq word (codes "out") then Some node.Egress
    else group_node_named word

-- the two nodes that a word names, with > between them
unfoldable pub ends_named : Word → Option Ends
ends_named word = do
  ends ← cut_at 62 word
  from ← trio_node_named ends.0
  to ← trio_node_named ends.1
  Some (record { from = from; to = to })
