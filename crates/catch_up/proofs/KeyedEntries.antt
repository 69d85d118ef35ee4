-- An operator's entries are of keys.
use Rattle.std.proofs.Common.{ℕ, ℤ, ◌+◌, List, [], ◌∷◌, ◌++◌, flat_map, refl}
use Rattle.tuple_edge.specs.declared.item.Item.{Item}
use Rattle.tuple_edge.specs.declared.packet.Entry.{Entry}
use Rattle.tuple_edge.specs.declared.row.Key.{Key}
use Rattle.tuple_edge.specs.declared.row.Row.{Row}
use Rattle.op_spec.specs.declared.spec.OpSpec.{OpSpec}
use Rattle.op_spec.specs.declared.spec.OpSpec.TheVariants as op
use Rattle.stream_ops.specs.Entries.{entries, key_entries, side_slots, slots}
use Rattle.stream_ops.specs.Kept.{keys_after}
use Rattle.stream_ops.specs.Limits.{first_right_slot}
use Rattle.stream_ops.specs.declared.sums.Sums.{Sums}
use Rattle.catch_up.proofs.Steps.{AllKeyed}

keyed_append : (xs ys : List Entry) → AllKeyed xs → AllKeyed ys → AllKeyed (xs ++ ys)
keyed_append [] ys left right = right
keyed_append (x ∷ xs) ys left right = (left.0, keyed_append xs ys left.1 right)

slots_keyed : (k : Key) (slot : ℕ) (xs : List Sums) → AllKeyed (slots k slot xs)
slots_keyed k slot [] = tt
slots_keyed k slot (x ∷ xs) = (refl, slots_keyed k (slot + 1) xs)

sides_keyed : (width : ℤ) (k : Key) (slot : ℕ) (rows : List Row) → AllKeyed (side_slots width k slot rows)
sides_keyed width k slot [] = tt
sides_keyed width k slot (r ∷ rows) = (refl, sides_keyed width k (slot + 1) rows)

both_keyed : (width : ℤ) (k : Key) (left right : List Row) → AllKeyed (side_slots width k 0 left ++ side_slots width k first_right_slot right)
both_keyed width k left right =
    keyed_append (side_slots width k 0 left) (side_slots width k first_right_slot right) (sides_keyed width k 0 left) (sides_keyed width k first_right_slot right)

key_keyed : (spec : OpSpec) (items : List Item) (k : Key) → AllKeyed (key_entries spec items k)
key_keyed (op.Keep column compare limit) items k = tt
key_keyed (op.Total by) items k = (refl, tt)
key_keyed (op.Last by n) items k = slots_keyed k 0 _
key_keyed (op.Window by width) items k = (refl, tt)
key_keyed (op.Crossing by limit) items k = (refl, tt)
key_keyed (op.Join by width n column compare limit) items k = both_keyed width k _ _

flat_keyed : (f : Key → List Entry) → ((k : Key) → AllKeyed (f k)) → (ks : List Key) → AllKeyed (flat_map f ks)
flat_keyed f each [] = tt
flat_keyed f each (k ∷ ks) = keyed_append (f k) (flat_map f ks) (each k) (flat_keyed f each ks)

pub entries_keyed : (spec : OpSpec) (items : List Item) → AllKeyed (entries spec items)
entries_keyed spec items = flat_keyed (key_entries spec items) (key_keyed spec items) (keys_after spec items)
