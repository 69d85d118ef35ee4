-- The join: what it keeps of the rows of each key, and how it answers a row.
use Rattle.std.specs.Prelude.{ℕ, ℤ, pos, neg_ℤ, ◌≡◌, ◌≤◌, ◌+◌, ◌-◌, ◌+ℤ◌, ◌++◌, ◌∷◌, Bool, true, false, not, List, [], flat_map, length, map, nat_lt, slice_get, Option, Some, None, if◌then◌else◌}
use Rattle.std.specs.Int.{int_max, int_min}
use Rattle.std.specs.List.{All, filter}
use Rattle.std.specs.Option.{IfSome, option_and_then, option_map}
use Rattle.std.specs.declared.ops.Bound.{Bound}
use Rattle.std.specs.declared.ops.Bound.TheVariants.{Excluded, Unbounded}
use Rattle.std.specs.BTreeMap.{insert_entry, is_at}
use Rattle.std.specs.Map.{lookup, values_of}
use Rattle.std.specs.Ordering.{int_cmp, int_eq, is_gt, nat_cmp, ordering_then}
use Rattle.std.specs.declared.cmp.Ordering.{Ordering}
use Rattle.circular_buffer.specs.Buffer.{Buffer, buffer, keep_last}
use Rattle.keyed_store.specs.Limits.{first_right_slot, max_join_rows}
use Rattle.keyed_store.specs.Store.{IsSorted, StoreView, changed, old_value}
use Rattle.keyed_store.specs.declared.rows.JoinKey.{JoinKey}
use Rattle.keyed_store.specs.declared.rows.Kept.{Kept}
use Rattle.keyed_store.specs.declared.rows.Pair.{Pair}
use Rattle.keyed_store.specs.declared.rows.SideRow.{SideRow}
use Rattle.keyed_store.specs.declared.rows.SidedRow.{SidedRow}
use Rattle.keyed_store.specs.declared.rows.Sides.{Sides}

-- a sum cut to plus and minus nine quintillions
abbrev pub saturating_sum : ℤ → ℤ → ℤ
saturating_sum a b = int_max (neg_ℤ (pos 9000000000000000000)) (int_min (a +ℤ b) (pos 9000000000000000000))

-- how many rows are kept of each side of a key, and the last rows of each key
pub record JoinView : Type 0 where
  pub rows : ℕ
  pub sides : StoreView JoinKey Sides

-- the order of keys: by account, and then by symbol
abbrev pub key_cmp : JoinKey → JoinKey → Ordering
key_cmp a b = ordering_then (int_cmp a.account b.account) (int_cmp a.symbol b.symbol)

-- the last rows of a side after one more
abbrev pub pushed : Buffer SideRow → SideRow → Buffer SideRow
pushed b r = buffer (keep_last b.capacity (b.items ++ r ∷ [])) b.capacity

-- both sides of a key after one more row
abbrev pub sides_after : Sides → SidedRow → Sides
sides_after s m = if m.left then record { left = pushed s.left m.row; right = s.right } else record { left = s.left; right = pushed s.right m.row }

-- both sides of a key without rows, with room for n on each
abbrev pub no_sides : ℕ → Sides
no_sides n = record { left = buffer [] n; right = buffer [] n }

-- both sides of a key after one more row; where the key had none before, each has room for n
abbrev pub sides_with : ℕ → Option Sides → SidedRow → Sides
sides_with n None m = sides_after (no_sides n) m
sides_with n (Some s) m = sides_after s m

-- the rows of one side, in order
abbrev pub rows_of_side : Bool → List SidedRow → List SideRow
rows_of_side left rows = map (λ m. m.row) (filter (λ m. if left then m.left else not m.left) rows)

-- the last n rows of each side, of all rows of a key
abbrev pub last_sides : ℕ → List SidedRow → Sides
last_sides n rows = record { left = buffer (keep_last n (rows_of_side true rows)) n; right = buffer (keep_last n (rows_of_side false rows)) n }

-- what is kept of all rows of a key: the last n rows of each side, and nothing where there is no row
abbrev pub sides_of : ℕ → List SidedRow → Option Sides
sides_of n [] = None
sides_of n (m ∷ rows) = Some (last_sides n (m ∷ rows))

-- whether the last rows of a side get one longer by one more
abbrev pub has_room : ℕ → Bool → Option Sides → Bool
has_room n left None = true
has_room n left (Some s) = if left then nat_lt (length s.left.items) n else nat_lt (length s.right.items) n

-- the rows that are kept of the other side
abbrev pub other_side : Bool → Option Sides → List SideRow
other_side left None = []
other_side left (Some s) = if left then s.right.items else s.left.items

-- the sums of two rows
abbrev pub pair_of : SideRow → SideRow → Pair
pair_of r other = record { qty = saturating_sum r.qty other.qty; value = saturating_sum r.value other.value }

-- a row is paired with those of the other side that lie in its window, oldest first
abbrev pub pairs_with : SideRow → List SideRow → List Pair
pairs_with r others = map (pair_of r) (filter (λ other. int_eq other.window r.window) others)

-- a join after one more row of a key
abbrev pub joined : JoinView → JoinKey → SidedRow → JoinView
joined s k m = record { rows = s.rows; sides = changed s.sides (insert_entry key_cmp s.sides.kept k (sides_with s.rows (lookup (is_at (key_cmp k)) s.sides.kept) m)) }

-- a kept row, at a slot of its key
abbrev pub kept_at : JoinKey → ℕ → SideRow → Kept
kept_at k slot r = record { key = k; slot = slot; qty = r.qty; value = r.value; window = r.window }

-- rows at slots one after another
abbrev pub run : JoinKey → ℕ → List SideRow → List Kept
run k slot [] = []
run k slot (r ∷ rows) = kept_at k slot r ∷ run k (slot + 1) rows

-- what is kept of a key: its last left rows from slot 0 on, and its last right rows from the first right slot on
abbrev pub told_sides : JoinKey → Sides → List Kept
told_sides k s = run k 0 s.left.items ++ run k first_right_slot s.right.items

-- what is kept of all keys, key by key
abbrev pub all_told : List (JoinKey × Sides) → List Kept
all_told kept = flat_map (λ e. told_sides e.0 e.1) kept

-- a kept row as it was taken: of the left side below the first right slot
abbrev pub row_of_kept : Kept → SidedRow
row_of_kept x = record { left = nat_lt x.slot first_right_slot; row = record { qty = x.qty; value = x.value; window = x.window } }

-- whether a kept row's key and slot are above these
abbrev pub is_after : Option (JoinKey × ℕ) → Kept → Bool
is_after None x = true
is_after (Some at) x = is_gt (ordering_then (key_cmp x.key at.0) (nat_cmp x.slot at.1))

-- each side of a key has at most n rows, and one of them has one
pub record AreSides (n : ℕ) (s : Sides) : Type 0 where
  pub left_room : s.left.capacity ≡ n
  pub right_room : s.right.capacity ≡ n
  pub left_fits : length s.left.items ≤ n
  pub right_fits : length s.right.items ≤ n
  pub some : 1 ≤ length s.left.items + length s.right.items

-- the keys are in order, and each has some rows, at most n on either side
abbrev pub AreRight : ℕ → List (JoinKey × Sides) → Type 0
AreRight n es = IsSorted key_cmp es × All (AreSides n) (values_of es)

-- no side of a key has more rows than a join keeps at most
abbrev pub IsShort : Sides → Type 0
IsShort s = (length s.left.items ≤ max_join_rows) × (length s.right.items ≤ max_join_rows)

-- the sides of an entry, if there is one, have no more rows than a join keeps at most
abbrev pub IsShortFirst : Option (JoinKey × Sides) → Type 0
IsShortFirst None = Unit {0}
IsShortFirst (Some e) = IsShort e.1

-- what is always true of a join
abbrev pub IsJoin : ℕ → StoreView JoinKey Sides → Type 0
IsJoin n s = (1 ≤ n) × (n ≤ max_join_rows) × AreRight n s.kept × IfSome s.old (AreRight n)

-- the first of two values that is there
abbrev pub or_else : {X : Type 0} → Option X → Option X → Option X
or_else None o = o
or_else (Some x) o = Some x

-- the first kept row of a key at a slot or above it
abbrev pub next_in : JoinKey → ℕ → Sides → Option Kept
next_in k from s = or_else (option_map (kept_at k from) (slice_get s.left.items from)) (option_map (kept_at k (from - first_right_slot + first_right_slot)) (slice_get s.right.items (from - first_right_slot)))

-- the keys above that of a place, and all keys where there is no place
abbrev pub bound_after : Option (JoinKey × ℕ) → Bound JoinKey
bound_after None = Unbounded
bound_after (Some at) = Excluded at.0

-- the next kept row of the same key
abbrev pub same_key_after : Option (JoinKey × ℕ) → List (JoinKey × Sides) → Option Kept
same_key_after None es = None
same_key_after (Some at) es = option_and_then (next_in at.0 (at.1 + 1)) (lookup (is_at (key_cmp at.0)) es)

-- the next row of the same key, of those that were kept when the watch began
abbrev pub same_key_before : Option (JoinKey × ℕ) → Option (List (JoinKey × Sides)) → Option Kept
same_key_before None old = None
same_key_before (Some at) old = option_and_then (next_in at.0 (at.1 + 1)) (old_value key_cmp at.0 old)
