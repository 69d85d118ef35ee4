-- What texts of groups write and name.
use Rattle.std.specs.Prelude.{◌≡◌, ◌≤◌, true, codes}
use Rattle.std.specs.Fmt.{decimal}
use Rattle.text_words.specs.Lines.{Word}
use Rattle.plan_reader.specs.PlanView.{PlanView}
use Rattle.run_journal.specs.Limits.{max_index}
use Rattle.run_journal.specs.Text.{member_name}
use Rattle.trio_machine.specs.declared.event.TrioEvent.{TrioEvent}
use Rattle.trio_machine.specs.declared.event.TrioEvent.TheVariants as event
use Rattle.trio_machine.specs.declared.node.TrioNode.{TrioNode}
use Rattle.trio_machine.specs.declared.node.TrioNode.TheVariants as node
use Rattle.trio_text.specs.Nodes.{has_trio_edge, has_trio_link, has_trio_node, has_trio_replica}

-- the name of a node
abbrev pub trio_node_name : TrioNode → Word
trio_node_name node.Ingress = codes "in"
trio_node_name (node.Replica stage part copy) = member_name stage part (decimal copy)
trio_node_name (node.Control stage part) = member_name stage part (codes "c")
trio_node_name node.Egress = codes "out"

-- an event names what a plan has
abbrev pub IsNamed : PlanView → TrioEvent → Type 0
IsNamed plan (event.Take from to index) = (has_trio_link plan from to ≡ true) × (index ≤ max_index)
IsNamed plan (event.Work n) = has_trio_node plan n ≡ true
IsNamed plan event.Make = Unit {0}
IsNamed plan (event.Kill n) = has_trio_replica plan n ≡ true
IsNamed plan (event.Pull from to) = has_trio_edge plan from to ≡ true
