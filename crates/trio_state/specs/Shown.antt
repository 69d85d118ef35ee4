-- The line of a replica, as its node has it.
use Rattle.std.specs.Prelude.{List, ℕ, Option, None, Some}
use Rattle.text_words.specs.Lines.{Word}
use Rattle.trio_nodes.specs.declared.running.TrioRunning.{TrioRunning}
use Rattle.trio_state.specs.GroupsText.{gone_line, running_line}

-- a replica in code: how many items it has merged, or that it is gone
abbrev pub replica_shown : Word → Option TrioRunning → List ℕ
replica_shown name None = gone_line name
replica_shown name (Some r) = running_line name r.consumer.merge.count
