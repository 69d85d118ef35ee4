-- Which replicas run.
use Rattle.std.specs.Prelude.{Bool, true, false}
use Rattle.replica_node.specs.declared.phase.Mode.{Mode}
use Rattle.replica_node.specs.declared.phase.Mode.TheVariants as mode

-- one that gathers or is gone doesn't
abbrev pub runs : Mode → Bool
runs mode.Running = true
runs mode.Gathering = false
runs mode.Gone = false
