-- The words of a script's lines, from the left: each gives a value or a fault, whose line isn't known here.
use Rattle.std.specs.Prelude.{ℕ, ◌&&◌, nat_le, Bool, true, false, List, Option, Some, None, Result, Ok, Err, codes, if◌then◌else◌}
use Rattle.std.specs.Option.{ok_or}
use Rattle.std.specs.Str.{bytes_eq}
use Rattle.tuple_edge.specs.declared.node.NodeId.{NodeId}
use Rattle.pair_machine.specs.declared.order.Order.{Order}
use Rattle.text_words.specs.Lines.{Word}
use Rattle.text_words.specs.Numbers.{number_of}
use Rattle.text_words.specs.Reading.{◌>>=◌, Read, end_or, fixed_or, word_or}
use Rattle.plan_reader.specs.Nodes.{has_node}
use Rattle.plan_reader.specs.PlanView.{PlanView}
use Rattle.failure_script.specs.Limits.{max_items}
use Rattle.failure_script.specs.Names.{replica_named}
use Rattle.failure_script.specs.declared.error.Fault.{Fault}
use Rattle.failure_script.specs.declared.error.Fault.TheVariants as fault

-- a value that has the form of its place, or none
abbrev pub formed : {A : Type 0} → Option A → Result A Fault
formed value = ok_or value fault.Grammar

-- ---- what happens, and to which replica

-- whether a first word is that of a failure; else it is that of a stop
abbrev pub is_kill : Word → Option Bool
is_kill word = if bytes_eq word (codes "kill") then Some true else if bytes_eq word (codes "stop") then Some false else None

-- whether the next word is that of a failure; else it is that of a stop
unfoldable pub kill_at : List Word → Read Bool Fault
kill_at words = do
  w ← word_or fault.Grammar words
  kill ← formed (is_kill w.0)
  Ok (kill, w.1)

-- a replica of the plan
unfoldable pub replica_at : PlanView → List Word → Read NodeId Fault
replica_at plan words = do
  w ← word_or fault.Grammar words
  n ← formed (replica_named w.0)
  if has_node plan n then Ok (n, w.1) else Err fault.NoSuchReplica

-- ---- after how many items

-- a number of items that a word says
unfoldable pub items_of : Word → Result ℕ Fault
items_of word = do
  n ← formed (number_of word)
  if nat_le 1 n && nat_le n max_items then Ok n else Err fault.Range

-- a number of items that the next word says
unfoldable pub items_at : List Word → Read ℕ Fault
items_at words = do
  w ← word_or fault.Grammar words
  n ← items_of w.0
  Ok (n, w.1)

-- a number of items, or `never`
abbrev pub back_of : Word → Result (Option ℕ) Fault
back_of word = if bytes_eq word (codes "never") then Ok None else (do
  n ← items_of word
  Ok (Some n))

-- a number of items, or `never`, that the next word says
unfoldable pub back_at : List Word → Read (Option ℕ) Fault
back_at words = do
  w ← word_or fault.Grammar words
  back ← back_of w.0
  Ok (back, w.1)

-- ---- a line

-- an order for a replica of the plan
unfoldable pub order_at : PlanView → List Word → Read Order Fault
order_at plan words = do
  kill ← kill_at words
  n ← replica_at plan kill.1
  at_word ← fixed_or fault.Grammar (codes "at") n.1
  items ← items_at at_word.1
  back_word ← fixed_or fault.Grammar (codes "back") items.1
  back ← back_at back_word.1
  end ← end_or fault.Grammar back.1
  Ok (record { node = n.0; kill = kill.0; at = items.0; back = back.0 }, end.1)
