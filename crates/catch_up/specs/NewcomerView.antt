-- A newcomer: what it took of the move, and the tuples that it holds meanwhile.
use Rattle.std.specs.Prelude.{ℕ, zero, suc, ◌+◌, ◌==◌, Bool, List, [], ◌∷◌, ◌++◌, Option, None, nat_le, if◌then◌else◌, length, replicate, slice_get, slice_index_or, slice_set}
use Rattle.std.specs.BTreeMap.{insert_entry, is_at}
use Rattle.std.specs.Map.{lookup}
use Rattle.std.specs.Option.{is_some}
use Rattle.std.specs.Ordering.{nat_cmp}
use Rattle.tuple_edge.specs.declared.item.Item.{Item}
use Rattle.tuple_edge.specs.declared.packet.Entry.{Entry}
use Rattle.catch_up.specs.declared.newcomer.Hold.{Hold}
use Rattle.catch_up.specs.declared.newcomer.Hold.TheVariants as hold
use Rattle.catch_up.specs.declared.newcomer.Took.{Took}
use Rattle.catch_up.specs.declared.newcomer.Took.TheVariants as took

-- its incarnation, the entries that it took, in order, and for each in-edge the items that it holds, by rising number
pub record NewcomerView : Type 0 where
  pub inc : ℕ
  pub taken : List Entry
  pub held : List (List (ℕ × Item))

-- a newcomer that has nothing
abbrev pub begun : ℕ → ℕ → NewcomerView
begun inc edges = record { inc = inc; taken = []; held = replicate edges [] }

-- the items that a newcomer holds of an in-edge, each under its number
abbrev pub held_of : NewcomerView → ℕ → List (ℕ × Item)
held_of n edge = slice_index_or n.held edge []

-- the item that is held under a number
abbrev pub held_at : List (ℕ × Item) → ℕ → Option Item
held_at held number = lookup (is_at (nat_cmp number)) held

-- whether a newcomer holds an item of an in-edge under this number
abbrev pub is_held : NewcomerView → ℕ → ℕ → Bool
is_held n edge number = is_some (held_at (held_of n edge) number)

-- what becomes of a tuple: a newcomer keeps it, unless it holds one under its number
abbrev pub hold_of : NewcomerView → ℕ → ℕ → Hold
hold_of n edge number = if is_held n edge number then hold.Repeat else hold.Kept

-- the items that are held, with one more under its number
abbrev pub with_held : List (ℕ × Item) → ℕ → Item → List (ℕ × Item)
with_held held number item = insert_entry nat_cmp held number item

-- a newcomer after a tuple came: it holds the tuple, unless it held one under its number
abbrev pub after_hold : NewcomerView → ℕ → ℕ → Item → NewcomerView
after_hold n edge number item =
    if is_held n edge number then n else record n { held = slice_set n.held edge (with_held (held_of n edge) number item) }

-- whether this is the next entry of the newcomer's own move
abbrev pub took_of : NewcomerView → ℕ → ℕ → Took
took_of n inc number =
    if inc == n.inc
    then (if nat_le number (length n.taken) then took.Repeat else if number == length n.taken + 1 then took.Taken else took.Ahead)
    else took.OtherInc

-- a newcomer after an entry came of which it says this: the entry is taken where it is the next one, and else given up
abbrev pub taken_by : Took → NewcomerView → Entry → NewcomerView
taken_by took.Taken n entry = record n { taken = n.taken ++ entry ∷ [] }
taken_by took.Repeat n entry = n
taken_by took.Ahead n entry = n
taken_by took.OtherInc n entry = n

-- a newcomer after an entry of a move came: the entry is taken where it is the next one of its own move
abbrev pub after_chunk : NewcomerView → ℕ → ℕ → Entry → NewcomerView
after_chunk n inc number entry = taken_by (took_of n inc number) n entry

-- the entry that was taken under a number, from 1
abbrev pub entry_at : List Entry → ℕ → Option Entry
entry_at taken zero = None
entry_at taken (suc k) = slice_get taken k
