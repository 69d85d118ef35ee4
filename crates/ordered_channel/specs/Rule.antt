-- The rule of the channel. What was received, and then what it holds, is what was sent.
use Rattle.std.specs.Prelude.{ℕ, ◌≡◌, ◌<◌, ◌^◌, Bool, true, List, [], ◌∷◌, ◌++◌, length}
use mathlib.Core.Option.{some}
use lib.ListN.{get_elem?}
use Rattle.ordered_channel.specs.declared.message.Log.{Log}
use Rattle.ordered_channel.specs.declared.message.Message.{Message}
use Rattle.ordered_channel.specs.declared.message.Message.TheVariants as message

module _ {T : Type 0} where
  -- the value of a message, if it has one
  abbrev pub value_of : Message T → List T
  value_of (message.Value value) = value ∷ []
  value_of message.Stop = []

  -- the values of messages, in order
  abbrev pub values_in : List (Message T) → List T
  values_in [] = []
  values_in (m ∷ ms) = value_of m ++ values_in ms

  -- what an end knows: whether it sends, whether it receives, and the values that it sent and received
  abbrev pub log : (sends gets : Bool) → (sent got : List T) → Log T
  log sends gets sent got = record { sends = sends; gets = gets; sent = sent; got = got }

  -- the end that sends knows what was sent, and the end that receives knows what was received
  abbrev pub Fits : (sender receiver : ℕ) → (sent got : List T) → ℕ → Log T → Type 0
  Fits sender receiver sent got pass v = (v.sends ≡ true → (pass ≡ sender) × (v.sent ≡ sent)) × (v.gets ≡ true → (pass ≡ receiver) × (v.got ≡ got))

  -- one end at most sends, one at most receives, and what was received, and then what the channel holds, is what was sent: fewer values than there are numbers
  abbrev pub IsInOrder : List (Message T) → List (Log T) → Type 0
  IsInOrder items views = (sender : ℕ) × (receiver : ℕ) × (sent : List T) × (got : List T) × (sent ≡ got ++ values_in items) × (length sent < 2 ^ 64)
      × ((pass : ℕ) (v : Log T) → get_elem? views pass ≡ some v → Fits sender receiver sent got pass v)

  -- an end knows what it knew, and a message that it sent
  abbrev pub HasSent : Log T → Message T → Log T → Type 0
  HasSent v m w = w ≡ log v.sends v.gets (v.sent ++ value_of m) v.got

  -- an end knows what it knew, and a message that it received
  abbrev pub HasGot : Log T → Message T → Log T → Type 0
  HasGot v m w = (w ≡ log v.sends v.gets v.sent (v.got ++ value_of m)) × (length w.got < 2 ^ 64)
