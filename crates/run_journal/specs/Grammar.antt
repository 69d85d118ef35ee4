-- The words of a line of events, from the left: each gives a value or a fault, whose line isn't known here.
use Rattle.std.specs.Prelude.{ℕ, Bool, ◌&&◌, nat_le, List, [], ◌∷◌, Option, Some, None, Result, Ok, Err, if◌then◌else◌}
use Rattle.tuple_edge.specs.declared.node.LinkId.{LinkId}
use Rattle.tuple_edge.specs.declared.node.NodeId.{NodeId}
use Rattle.text_words.specs.Lines.{Word}
use Rattle.text_words.specs.Numbers.{number_of}
use Rattle.text_words.specs.Reading.{◌>>=◌, Read, end_or, word_or}
use Rattle.plan_reader.specs.Names.{node_named}
use Rattle.plan_reader.specs.Nodes.{has_edge, has_link, has_node, has_replica}
use Rattle.plan_reader.specs.PlanView.{PlanView}
use Rattle.run_journal.specs.Limits.{max_index, max_repeats}
use Rattle.run_journal.specs.Names.{link_named}
use Rattle.run_journal.specs.declared.error.Fault.{Fault}
use Rattle.run_journal.specs.declared.error.Fault.TheVariants as fault

-- ---- names

-- what a word names, which has to be there
abbrev pub there : {A : Type 0} → (A → Bool) → Option A → Result A Fault
there has None = Err fault.Grammar
there has (Some x) = if has x then Ok x else Err fault.NoSuchNode

-- the node of the plan that the next word names
unfoldable pub node_at : PlanView → List Word → Read NodeId Fault
node_at plan words = do
  w ← word_or fault.Grammar words
  n ← there (has_node plan) (node_named w.0)
  Ok (n, w.1)

-- the replica of the plan that the next word names
unfoldable pub replica_at : PlanView → List Word → Read NodeId Fault
replica_at plan words = do
  w ← word_or fault.Grammar words
  n ← there (has_replica plan) (node_named w.0)
  Ok (n, w.1)

-- a node to which an edge leads from this one
unfoldable pub target_at : PlanView → NodeId → List Word → Read NodeId Fault
target_at plan from words = do
  w ← word_or fault.Grammar words
  n ← there (has_edge plan from) (node_named w.0)
  Ok (n, w.1)

-- the link of the plan that the next word names
unfoldable pub link_at : PlanView → List Word → Read LinkId Fault
link_at plan words = do
  w ← word_or fault.Grammar words
  link ← there (has_link plan) (link_named w.0)
  Ok (link, w.1)

-- ---- numbers

-- a number from low to high
abbrev pub in_range : ℕ → ℕ → Option ℕ → Result ℕ Fault
in_range low high None = Err fault.Grammar
in_range low high (Some n) = if nat_le low n && nat_le n high then Ok n else Err fault.Range

-- a packet's place on its link
unfoldable pub index_at : List Word → Read ℕ Fault
index_at words = do
  w ← word_or fault.Grammar words
  n ← in_range 0 max_index (number_of w.0)
  Ok (n, w.1)

-- how often an event happens: a last word, or once where there is none
unfoldable pub times_at : List Word → Read ℕ Fault
times_at [] = Ok (1, [])
times_at (word ∷ words) = do
  n ← in_range 1 max_repeats (number_of word)
  end ← end_or fault.Grammar words
  Ok (n, end.1)
