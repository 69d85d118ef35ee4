-- The script that a text says.
use Rattle.std.specs.Prelude.{ℕ, ◌≡◌, nat_lt, List, [], ◌∷◌, ◌++◌, length, Result, Ok, Err, if◌then◌else◌}
use Rattle.std.specs.List.{list_any}
use Rattle.text_words.specs.Lines.{LineView, Word, counting_lines}
use Rattle.text_words.specs.Reading.{◌>>=◌, Read, at_line}
use Rattle.plan_reader.specs.PlanView.{PlanView}
use Rattle.pair_machine.specs.declared.order.Order.{Order}
use Rattle.failure_script.specs.Grammar.{order_at}
use Rattle.failure_script.specs.Limits.{max_script_bytes}
use Rattle.failure_script.specs.Messages.{fault_at}
use Rattle.failure_script.specs.Orders.{is_for}
use Rattle.failure_script.specs.declared.error.Fault.{Fault}
use Rattle.failure_script.specs.declared.error.Fault.TheVariants as fault
use Rattle.failure_script.specs.declared.error.ScriptError.{ScriptError}
use Rattle.failure_script.specs.declared.error.ScriptError.TheVariants as error

-- the order that a line says, where the lines before it say none for its replica
unfoldable pub next_order : PlanView → List Order → List Word → Read Order Fault
next_order plan before words = do
  order ← order_at plan words
  if list_any (is_for order.0.node) before then Err fault.Twice else Ok order

-- these orders with that of a further line
unfoldable pub with_line : PlanView → List Order → LineView → Result (List Order) ScriptError
with_line plan before line = do
  next ← at_line fault_at line.number (next_order plan before line.words)
  Ok (before ++ next ∷ [])

-- these orders and those of further lines, up to the first line that is refused
unfoldable pub orders_after : PlanView → List Order → List LineView → Result (List Order) ScriptError
orders_after plan before [] = Ok before
orders_after plan before (line ∷ lines) = do
  more ← with_line plan before line
  orders_after plan more lines

-- the script that a text says, for a plan
unfoldable pub script_of : PlanView → List ℕ → Result (List Order) ScriptError
script_of plan bytes =
    if nat_lt max_script_bytes (length bytes) then Err (error.TooLong (length bytes)) else orders_after plan [] (counting_lines bytes)

-- ---- what a call that reads answers

-- this fault is the first one, unless memory ran out
abbrev pub Fails : {A : Type 0} → ScriptError → Result A ScriptError → Type 0
Fails (error.Grammar line) read = read ≡ Err (error.Grammar line)
Fails (error.NoSuchReplica line) read = read ≡ Err (error.NoSuchReplica line)
Fails (error.Range line) read = read ≡ Err (error.Range line)
Fails (error.Twice line) read = read ≡ Err (error.Twice line)
Fails (error.TooLong bytes) read = read ≡ Err (error.TooLong bytes)
Fails error.OutOfMemory read = Unit {0}

-- what a call gave, seen by view, is what reading gives, unless memory ran out
abbrev pub Gives : {X A : Type 0} → (X → A) → Result X ScriptError → Result A ScriptError → Type 0
Gives view (Ok x) read = read ≡ Ok (view x)
Gives view (Err e) read = Fails e read
