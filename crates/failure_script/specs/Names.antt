-- The name of a replica.
use Rattle.std.specs.Prelude.{Option, Some, None, if◌then◌else◌}
use Rattle.tuple_edge.specs.declared.node.NodeId.{NodeId}
use Rattle.text_words.specs.Lines.{Word}
use Rattle.plan_reader.specs.Names.{◌>>=◌, node_named}
use Rattle.plan_reader.specs.Nodes.{is_replica}

-- the node that a word names, if it is a replica
unfoldable pub replica_named : Word → Option NodeId
replica_named word = do
  n ← node_named word
  if is_replica n then Some n else None
