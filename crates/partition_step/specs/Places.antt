-- The limits of a partition of a plan.
use Rattle.std.specs.Prelude.{◌<◌, ◌≤◌, ◌+◌, ℕ}
use Rattle.tuple_edge.specs.Limits.{edge_limit}
use Rattle.op_spec.specs.Spec.{IsSpec}
use Rattle.pair_machine.specs.Numbers.{Partition}
use Rattle.partition_step.specs.Answering.{HasParts}
use Rattle.partition_step.specs.declared.task.PartitionTask.{PartitionTask}

-- a partition of some stage, of so many sources, with an operator within its limits
pub record IsPlace (p : Partition) (sources : ℕ) (task : PartitionTask) : Type 0 where
  pub stage : 1 ≤ p.stage
  pub last : p.stage + 1 < edge_limit
  pub some : 1 ≤ sources
  pub few : sources < edge_limit
  pub op : IsSpec task.op
  pub parts : HasParts task.next
