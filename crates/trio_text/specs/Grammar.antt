-- The words of a line of events of groups, from the left: each gives a value or a fault, whose line isn't known here.
use Rattle.std.specs.Prelude.{List, Ok}
use Rattle.text_words.specs.Lines.{Word}
use Rattle.text_words.specs.Reading.{◌>>=◌, Read, word_or}
use Rattle.plan_reader.specs.PlanView.{PlanView}
use Rattle.run_journal.specs.Grammar.{there}
use Rattle.run_journal.specs.declared.error.Fault.{Fault}
use Rattle.run_journal.specs.declared.error.Fault.TheVariants as fault
use Rattle.trio_machine.specs.declared.node.TrioNode.{TrioNode}
use Rattle.trio_text.specs.Names.{ends_named, trio_node_named}
use Rattle.trio_text.specs.Nodes.{has_trio_edge, has_trio_link, has_trio_node, has_trio_replica}
use Rattle.trio_text.specs.declared.names.Ends.{Ends}

-- a node of the plan
unfoldable pub node_at : PlanView → List Word → Read TrioNode Fault
node_at plan words = do
  w ← word_or fault.Grammar words
  n ← there (has_trio_node plan) (trio_node_named w.0)
  Ok (n, w.1)

-- a replica of the plan
unfoldable pub replica_at : PlanView → List Word → Read TrioNode Fault
replica_at plan words = do
  w ← word_or fault.Grammar words
  n ← there (has_trio_replica plan) (trio_node_named w.0)
  Ok (n, w.1)

-- a node to which an edge leads from this one
unfoldable pub target_at : PlanView → TrioNode → List Word → Read TrioNode Fault
target_at plan from words = do
  w ← word_or fault.Grammar words
  n ← there (has_trio_edge plan from) (trio_node_named w.0)
  Ok (n, w.1)

-- the two nodes of a link of the plan
unfoldable pub ends_at : PlanView → List Word → Read Ends Fault
ends_at plan words = do
  w ← word_or fault.Grammar words
  ends ← there (λ ends. has_trio_link plan ends.from ends.to) (ends_named w.0)
  Ok (ends, w.1)
