-- The text of the groups of a state: for each group a line for its controller, and then one for each of its replicas.
use Rattle.std.specs.Prelude.{ℕ, List, ◌++◌, Option, None, Some, codes}
use Rattle.std.specs.Fmt.{decimal}
use Rattle.std.specs.List.{flat_map}
use Rattle.text_words.specs.Lines.{Word}
use Rattle.pair_machine.specs.Drain.{pairs_up_to}
use Rattle.pair_machine.specs.Flow.{Flow}
use Rattle.pair_machine.specs.Numbers.{Partition}
use Rattle.trio_machine.specs.Machine.{State, controller_in, replica_in}
use Rattle.trio_machine.specs.Numbers.{Controller, Gone, Replica, Running, control_at, replica_at}
use Rattle.trio_machine.specs.declared.node.TrioNode.{TrioNode}
use Rattle.trio_text.specs.Text.{trio_node_name}

-- the number of the replica that leads, where one does
abbrev pub leader_word : Option ℕ → Word
leader_word None = codes "none"
leader_word (Some copy) = decimal copy

-- a controller: its term, and who leads
abbrev pub control_line : Word → Controller → List ℕ
control_line name c = name ++ codes " term=" ++ decimal c.term ++ codes " lead=" ++ leader_word c.leader ++ codes "\n"

-- a replica that failed
abbrev pub gone_line : Word → List ℕ
gone_line name = name ++ codes " gone\n"

-- a replica that runs: how many items it has merged
abbrev pub running_line : Word → ℕ → List ℕ
running_line name count = name ++ codes " running count=" ++ decimal count ++ codes "\n"

-- a replica: how many items it has merged, or that it is gone
abbrev pub replica_line : Word → Replica → List ℕ
replica_line name Gone = gone_line name
replica_line name (Running x) = running_line name x.consumer.count

-- the line of a replica of a state, under its name
abbrev pub line_of_replica : State → TrioNode → List ℕ
line_of_replica s n = replica_line (trio_node_name n) (replica_in (s.nodes n))

-- the line of a controller of a state, under its name
abbrev pub line_of_control : State → TrioNode → List ℕ
line_of_control s n = control_line (trio_node_name n) (controller_in (s.nodes n))

-- a group: its controller, and then its three replicas
abbrev pub group_text : State → Partition → List ℕ
group_text s p = line_of_control s (control_at p) ++ line_of_replica s (replica_at p 0) ++ line_of_replica s (replica_at p 1) ++ line_of_replica s (replica_at p 2)

-- all groups of a plan, stage by stage
unfoldable pub groups_text : Flow → State → List ℕ
groups_text f s = flat_map (group_text s) (pairs_up_to f f.stages)
