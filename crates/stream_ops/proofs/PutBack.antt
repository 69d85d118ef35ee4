-- What each operator keeps once the next entry is put back.
use Rattle.std.proofs.Common.{◌≡◌, ℕ, ℤ, ◌*ℤ◌, ◌+◌, ◌<◌, ◌≤◌, ◌≤ℤ◌, pos, List, [], ◌∷◌, ◌++◌, length, map, refl, sym, ap, ◌∙◌, subst, Option, Some, None, Bool, true, false, nat_lt, append_assoc, arith, length-append, FitsSigned, w64}
use Rattle.std.proofs.lemmas.Bool.Decides.{nat_tests}
use Rattle.std.proofs.lemmas.List.{append-nil}
use Rattle.std.proofs.lemmas.Int.{ints}
use Rattle.std.specs.BTreeMap.{insert_entry}
use Rattle.std.specs.List.{All, filter, flat_map}
use Rattle.std.specs.Map.{lookup}
use Rattle.std.specs.Option.{IfSome}
use Rattle.circular_buffer.specs.Buffer.{Buffer, keep_last}
use Rattle.keyed_store.specs.Join.{AreSides, JoinView, joined, sides_with}
use Rattle.keyed_store.specs.Store.{StoreView}
use Rattle.keyed_store.specs.declared.rows.SideRow.{SideRow}
use Rattle.keyed_store.specs.declared.rows.SidedRow.{SidedRow}
use Rattle.keyed_store.specs.declared.rows.Sides.{Sides}
use Rattle.keyed_store.proofs.Copied.{keep_last-fits}
use Rattle.keyed_store.proofs.JoinAfter.{sides_right}
use Rattle.tuple_edge.specs.declared.item.Item.{Item}
use Rattle.tuple_edge.specs.declared.packet.Entry.{Entry}
use Rattle.tuple_edge.specs.declared.packet.Entry.TheVariants as entry
use Rattle.tuple_edge.specs.declared.row.Key.{Key}
use Rattle.tuple_edge.specs.declared.row.Row.{Row}
use Rattle.op_spec.specs.Keys.{is_key, key_cmp}
use Rattle.op_spec.specs.Times.{IsTime, IsTimely}
use Rattle.op_spec.specs.declared.spec.By.{By}
use Rattle.op_spec.specs.declared.spec.OpSpec.{OpSpec}
use Rattle.op_spec.specs.declared.spec.OpSpec.TheVariants as op
use Rattle.stream_ops.specs.Entries.{all_told, entries, key_entries, side_slots, slots, sums_entry, told_last, told_total, told_window}
use Rattle.stream_ops.specs.Joins.{by_key, is_left, join_key, left_rows, right_rows, side_entry, side_row, sided_row, sides_of_rows, told_side, told_sides}
use Rattle.stream_ops.specs.Kept.{Keeps, last_of_rows, open_window, total_of_rows, window_of_rows}
use Rattle.stream_ops.specs.Rows.{keys_in, rows_with}
use Rattle.stream_ops.specs.Steps.{last_added, last_with, opened_by, total_with, window_with}
use Rattle.stream_ops.specs.Sums.{amounts, sums_of}
use Rattle.stream_ops.specs.View.{AreLast, AreRight, IsAnySums, IsWindow}
use Rattle.stream_ops.specs.Windows.{level}
use Rattle.stream_ops.specs.declared.sums.Sums.{Sums}
use Rattle.stream_ops.specs.declared.window.OpenWindow.{OpenWindow}
use Rattle.stream_ops.proofs.AnswerLaws.{level_timely, with_timely}
use Rattle.stream_ops.proofs.Lasts.{last-push, total-push}
use Rattle.stream_ops.proofs.Levels.{window-push}
use Rattle.stream_ops.proofs.Putting.{next_from, next_told, put_last, told_at}
use Rattle.stream_ops.proofs.Sided.{joined-push, sides_entries, sides_tell, sides_tells}
use Rattle.stream_ops.proofs.Standing.{kept_after, keyed-joined, kept_told, last_right, last_tell, last_tells, number_told, opened, others, right-found, total_tell, total_tells, window_right, window_tell, window_tells}
use Rattle.stream_ops.proofs.Told.{has_key}

-- all entries are of keys
abbrev pub IsKeyed : Entry → Type 0
IsKeyed (entry.Keyed k slot a b c) = Unit {0}
IsKeyed (entry.Mark edge upto) = ⊥
IsKeyed (entry.Count count) = ⊥
IsKeyed (entry.Head edge number item) = ⊥
IsKeyed (entry.Low edge upto produced) = ⊥
IsKeyed (entry.Kept edge number item) = ⊥

abbrev AllKeyed : List Entry → Type 0
AllKeyed [] = Unit {0}
AllKeyed (x ∷ xs) = IsKeyed x × AllKeyed xs

keyed_append : (xs ys : List Entry) → AllKeyed xs → AllKeyed ys → AllKeyed (xs ++ ys)
keyed_append [] ys left right = right
keyed_append (x ∷ xs) ys left right = (left.0, keyed_append xs ys left.1 right)

keyed_at : (xs : List Entry) (x : Entry) (ys : List Entry) → AllKeyed (xs ++ x ∷ ys) → IsKeyed x
keyed_at [] x ys all = all.0
keyed_at (z ∷ xs) x ys all = keyed_at xs x ys all.1

slots_are_keyed : (k : Key) (slot : ℕ) (xs : List Sums) → AllKeyed (slots k slot xs)
slots_are_keyed k slot [] = tt
slots_are_keyed k slot (x ∷ xs) = (tt, slots_are_keyed k (slot + 1) xs)

sides_are_keyed : (width : ℤ) (k : Key) (slot : ℕ) (rows : List Row) → AllKeyed (side_slots width k slot rows)
sides_are_keyed width k slot [] = tt
sides_are_keyed width k slot (r ∷ rows) = (tt, sides_are_keyed width k (slot + 1) rows)

keyed_flat : (f : Key → List Entry) → ((k : Key) → AllKeyed (f k)) → (ks : List Key) → AllKeyed (flat_map f ks)
keyed_flat f each [] = tt
keyed_flat f each (k ∷ ks) = keyed_append (f k) (flat_map f ks) (each k) (keyed_flat f each ks)

all_keyed : (spec : OpSpec) (items : List Item) → AllKeyed (entries spec items)
all_keyed (op.Keep column compare limit) items = tt
all_keyed (op.Total by) items = keyed_flat (key_entries (op.Total by) items) (λ k. (tt, tt)) (keys_in by items)
all_keyed (op.Last by n) items = keyed_flat (key_entries (op.Last by n) items) (λ k. slots_are_keyed k 0 (map amounts (keep_last n (rows_with by items k)))) (keys_in by items)
all_keyed (op.Window by width) items = keyed_flat (key_entries (op.Window by width) items) (λ k. (tt, tt)) (keys_in by items)
all_keyed (op.Crossing by limit) items = keyed_flat (key_entries (op.Crossing by limit) items) (λ k. (tt, tt)) (keys_in by items)
all_keyed (op.Join by width n column compare limit) items =
    keyed_flat (key_entries (op.Join by width n column compare limit) items)
    (λ k. keyed_append (side_slots width k 0 (keep_last n (left_rows (is_left column compare limit) (rows_with by items k)))) (side_slots width k 4 (keep_last n (right_rows (is_left column compare limit) (rows_with by items k))))
    (sides_are_keyed width k 0 (keep_last n (left_rows (is_left column compare limit) (rows_with by items k)))) (sides_are_keyed width k 4 (keep_last n (right_rows (is_left column compare limit) (rows_with by items k)))))
    (keys_in by items)

pub next_keyed : (spec : OpSpec) (items : List Item) (so_far : List Entry) (x : Entry) (later : List Entry) → entries spec items ≡ so_far ++ x ∷ later → IsKeyed x
next_keyed spec items so_far x later is = keyed_at so_far x later (subst AllKeyed is (all_keyed spec items))

-- the slot that the first entry tells
abbrev slot_told : List Entry → ℕ
slot_told [] = 0
slot_told (entry.Keyed k slot a b c ∷ es) = slot
slot_told (entry.Mark edge upto ∷ es) = 0
slot_told (entry.Count count ∷ es) = 0
slot_told (entry.Head edge number item ∷ es) = 0
slot_told (entry.Low edge upto produced ∷ es) = 0
slot_told (entry.Kept edge number item ∷ es) = 0

abbrev these : ℤ → ℤ → Sums
these a b = record { qty = a; value = b }

-- the next entry of a key of which one entry tells
total_next : (k : Key) (slot : ℕ) (a b c : ℤ) (had now : Option Sums) (rest : List Entry) → told_at told_total k now ≡ told_at told_total k had ++ entry.Keyed k slot a b c ∷ rest
    → told_total k (these a b) ≡ told_at told_total k had ++ entry.Keyed k slot a b c ∷ []
total_next k slot a b c None None rest is = cc
total_next k slot a b c (Some h) None rest is = cc
total_next k slot a b c (Some h) (Some s) rest is = let e : [] ≡ entry.Keyed k slot a b c ∷ rest = ap others is in cc
total_next k slot a b c None (Some s) rest is =
    ap (λ n. entry.Keyed k n a b (pos 0) ∷ []) (ap slot_told is) ∙ ap (λ z. entry.Keyed k slot a b z ∷ []) (ap number_told is)

window_next : (width : ℤ) (k : Key) (slot : ℕ) (a b c : ℤ) (had now : Option OpenWindow) (rest : List Entry) → told_at told_window k now ≡ told_at told_window k had ++ entry.Keyed k slot a b c ∷ rest
    → told_window k (opened width c (these a b)) ≡ told_at told_window k had ++ entry.Keyed k slot a b c ∷ []
window_next width k slot a b c None None rest is = cc
window_next width k slot a b c (Some h) None rest is = cc
window_next width k slot a b c (Some h) (Some s) rest is = let e : [] ≡ entry.Keyed k slot a b c ∷ rest = ap others is in cc
window_next width k slot a b c None (Some s) rest is = ap (λ n. entry.Keyed k n a b c ∷ []) (ap slot_told is)

-- its window is one of rows in time
window_time_by : (width : ℤ) (k : Key) (slot : ℕ) (a b c : ℤ) (had : Option OpenWindow) (rows : List Row) (rest : List Entry)
    → told_at told_window k (window_of_rows width rows) ≡ told_at told_window k had ++ entry.Keyed k slot a b c ∷ rest → c ≡ level width rows
window_time_by width k slot a b c None [] rest is = cc
window_time_by width k slot a b c (Some h) [] rest is = cc
window_time_by width k slot a b c (Some h) (r ∷ rows) rest is = let e : [] ≡ entry.Keyed k slot a b c ∷ rest = ap others is in cc
window_time_by width k slot a b c None (r ∷ rows) rest is = sym (ap number_told is)

-- the next entry of a key's last rows
slots_next : (k : Key) (n : ℕ) (xs ys : List Sums) (slot : ℕ) (a b c : ℤ) (rest : List Entry) → slots k n ys ≡ slots k n xs ++ entry.Keyed k slot a b c ∷ rest
    → (slot ≡ n + length xs) × (c ≡ pos 0) × (length xs < length ys)
slots_next k n [] [] slot a b c rest is = cc
slots_next k n [] (y ∷ ys) slot a b c rest is = let e : slot ≡ n = sym (ap slot_told is) in (omega arith, sym (ap number_told is), omega arith)
slots_next k n (x ∷ xs) [] slot a b c rest is = cc
slots_next k n (x ∷ xs) (y ∷ ys) slot a b c rest is =
    let next : (slot ≡ (n + 1) + length xs) × (c ≡ pos 0) × (length xs < length ys) = slots_next k (n + 1) xs ys slot a b c rest (ap others is) in
    let at : slot ≡ (n + 1) + length xs = next.0 in
    let less : length xs < length ys = next.2 in
    (omega arith, next.1, omega arith)

slots_push : (k : Key) (n : ℕ) (xs : List Sums) (s : Sums) → slots k n (xs ++ s ∷ []) ≡ slots k n xs ++ sums_entry k (n + length xs) s (pos 0) ∷ []
slots_push k n [] s = let e : n ≡ n + 0 = omega arith in ap (λ m. sums_entry k m s (pos 0) ∷ []) e
slots_push k n (x ∷ xs) s =
    let e : (n + 1) + length xs ≡ n + length (x ∷ xs) = omega arith in
    ap (λ es. sums_entry k n x (pos 0) ∷ es) (slots_push k (n + 1) xs s ∙ ap (λ m. slots k (n + 1) xs ++ sums_entry k m s (pos 0) ∷ []) e)

abbrev items_of : Option (Buffer Sums) → List Sums
items_of None = []
items_of (Some b) = b.items

last_told : (k : Key) (o : Option (Buffer Sums)) → told_at told_last k o ≡ slots k 0 (items_of o)
last_told k None = refl
last_told k (Some b) = refl

added_items : (n : ℕ) (had : Option (Buffer Sums)) (s : Sums) → IfSome had (AreLast n) → length (items_of had) < n → (last_added n had s).items ≡ items_of had ++ s ∷ []
added_items n None s right less = keep_last-fits n (s ∷ []) (omega arith)
added_items n (Some b) s right less =
    let size : length (b.items ++ s ∷ []) ≡ length b.items + 1 = simp length-append refl in
    let capacity : b.capacity ≡ n = right.0 in
    keep_last-fits b.capacity (b.items ++ s ∷ []) (omega arith)

within : (n : ℕ) (o : Option (Buffer Sums)) → IfSome o (AreLast n) → length (items_of o) ≤ n
within n None right = omega arith
within n (Some b) right = right.2

last_next : (n : ℕ) (k : Key) (slot : ℕ) (a b c : ℤ) (had now : Option (Buffer Sums)) (rest : List Entry) → IfSome had (AreLast n) → IfSome now (AreLast n)
    → told_at told_last k now ≡ told_at told_last k had ++ entry.Keyed k slot a b c ∷ rest
    → told_last k (last_added n had (these a b)) ≡ told_at told_last k had ++ entry.Keyed k slot a b c ∷ []
last_next n k slot a b c had now rest right_had right_now is =
    let next : (slot ≡ 0 + length (items_of had)) × (c ≡ pos 0) × (length (items_of had) < length (items_of now)) =
    slots_next k 0 (items_of had) (items_of now) slot a b c rest (sym (last_told k now) ∙ is ∙ ap (λ es. es ++ entry.Keyed k slot a b c ∷ rest) (last_told k had)) in
    let less : length (items_of had) < length (items_of now) = next.2 in
    let all : length (items_of now) ≤ n = within n now right_now in
    ap (slots k 0) (added_items n had (these a b) right_had (omega arith))
    ∙ slots_push k 0 (items_of had) (these a b)
    ∙ ap (λ es. es ++ entry.Keyed k (0 + length (items_of had)) a b (pos 0) ∷ []) (sym (last_told k had))
    ∙ ap (λ m. told_at told_last k had ++ entry.Keyed k m a b (pos 0) ∷ []) (sym next.0)
    ∙ ap (λ z. told_at told_last k had ++ entry.Keyed k slot a b z ∷ []) (sym next.1)

-- the next entry of a key's last rows of both sides
abbrev lefts : Option Sides → List SideRow
lefts None = []
lefts (Some s) = s.left.items

abbrev rights : Option Sides → List SideRow
rights None = []
rights (Some s) = s.right.items

both_told : (k : Key) (o : Option Sides) → told_at told_sides k o ≡ told_side k 0 (lefts o) ++ told_side k 4 (rights o)
both_told k None = refl
both_told k (Some s) = refl

side_push : (k : Key) (n : ℕ) (xs : List SideRow) (r : SideRow) → told_side k n (xs ++ r ∷ []) ≡ told_side k n xs ++ side_entry k (n + length xs) r ∷ []
side_push k n [] r = let e : n ≡ n + 0 = omega arith in ap (λ m. side_entry k m r ∷ []) e
side_push k n (x ∷ xs) r =
    let e : (n + 1) + length xs ≡ n + length (x ∷ xs) = omega arith in
    ap (λ es. side_entry k n x ∷ es) (side_push k (n + 1) xs r ∙ ap (λ m. told_side k (n + 1) xs ++ side_entry k m r ∷ []) e)

right_next : (k : Key) (n : ℕ) (xs ys : List SideRow) (slot : ℕ) (a b c : ℤ) (rest : List Entry) → told_side k n ys ≡ told_side k n xs ++ entry.Keyed k slot a b c ∷ rest
    → (slot ≡ n + length xs) × (length xs < length ys)
right_next k n [] [] slot a b c rest is = cc
right_next k n [] (y ∷ ys) slot a b c rest is = let e : slot ≡ n = sym (ap slot_told is) in (omega arith, omega arith)
right_next k n (x ∷ xs) [] slot a b c rest is = cc
right_next k n (x ∷ xs) (y ∷ ys) slot a b c rest is =
    let next : (slot ≡ (n + 1) + length xs) × (length xs < length ys) = right_next k (n + 1) xs ys slot a b c rest (ap others is) in
    let at : slot ≡ (n + 1) + length xs = next.0 in
    let less : length xs < length ys = next.1 in
    (omega arith, omega arith)

-- it is of the left side, where there are no right rows yet, or of the right one
side_next : (P : Type 0) (k : Key) (s : ℕ) (xs ys us vs : List SideRow) (slot : ℕ) (a b c : ℤ) (rest : List Entry) → s + length xs ≤ 4 → s + length ys ≤ 4
    → told_side k s ys ++ told_side k 4 vs ≡ told_side k s xs ++ (told_side k 4 us ++ entry.Keyed k slot a b c ∷ rest)
    → (slot ≡ s + length xs → s + length xs < 4 → us ≡ [] → length xs < length ys → P)
    → (slot ≡ 4 + length us → length us < length vs → P) → P
side_next P k s [] [] us vs slot a b c rest fits fits_too is of_left of_right =
    let next : (slot ≡ 4 + length us) × (length us < length vs) = right_next k 4 us vs slot a b c rest is in
    of_right next.0 next.1
side_next P k s [] (y ∷ ys) [] vs slot a b c rest fits fits_too is of_left of_right =
    let e : slot ≡ s = sym (ap slot_told is) in
    of_left (omega arith) (omega arith) refl (omega arith)
side_next P k s [] (y ∷ ys) (u ∷ us) vs slot a b c rest fits fits_too is of_left of_right = absurd (let e : s ≡ 4 = ap slot_told is in omega arith)
side_next P k s (x ∷ xs) [] us [] slot a b c rest fits fits_too is of_left of_right = cc
side_next P k s (x ∷ xs) [] us (v ∷ vs) slot a b c rest fits fits_too is of_left of_right = absurd (let e : 4 ≡ s = ap slot_told is in omega arith)
side_next P k s (x ∷ xs) (y ∷ ys) us vs slot a b c rest fits fits_too is of_left of_right =
    side_next P k (s + 1) xs ys us vs slot a b c rest (omega arith) (omega arith) (ap others is)
    (λ at below none less. of_left (omega arith) (omega arith) none (omega arith)) of_right

with_left : (n : ℕ) (k : Key) (o : Option Sides) (r : SideRow) → 1 ≤ n → IfSome o (AreSides n) → length (lefts o) < n
    → told_sides k (sides_with n o (record { left = true; row = r })) ≡ told_side k 0 (lefts o ++ r ∷ []) ++ told_side k 4 (rights o)
with_left n k None r some sides room = ap (λ rs. told_side k 0 rs ++ []) (keep_last-fits n (r ∷ []) (omega arith))
with_left n k (Some s) r some sides room =
    let size : length (s.left.items ++ r ∷ []) ≡ length s.left.items + 1 = simp length-append refl in
    let capacity : s.left.capacity ≡ n = sides.left_room in
    ap (λ rs. told_side k 0 rs ++ told_side k 4 s.right.items) (keep_last-fits s.left.capacity (s.left.items ++ r ∷ []) (omega arith))

with_right : (n : ℕ) (k : Key) (o : Option Sides) (r : SideRow) → 1 ≤ n → IfSome o (AreSides n) → length (rights o) < n
    → told_sides k (sides_with n o (record { left = false; row = r })) ≡ told_side k 0 (lefts o) ++ told_side k 4 (rights o ++ r ∷ [])
with_right n k None r some sides room = ap (λ rs. told_side k 4 rs) (keep_last-fits n (r ∷ []) (omega arith))
with_right n k (Some s) r some sides room =
    let size : length (s.right.items ++ r ∷ []) ≡ length s.right.items + 1 = simp length-append refl in
    let capacity : s.right.capacity ≡ n = sides.right_room in
    ap (λ rs. told_side k 0 s.left.items ++ told_side k 4 rs) (keep_last-fits s.right.capacity (s.right.items ++ r ∷ []) (omega arith))

sides_within : (n : ℕ) (o : Option Sides) → IfSome o (AreSides n) → (length (lefts o) ≤ n) × (length (rights o) ≤ n)
sides_within n None sides = (omega arith, omega arith)
sides_within n (Some s) sides = (sides.left_fits, sides.right_fits)

abbrev pub side_put : ℕ → ℤ → ℤ → ℤ → SidedRow
side_put slot a b c = record { left = nat_lt slot 4; row = record { qty = a; value = b; window = c } }

sides_next : (n : ℕ) (k : Key) (slot : ℕ) (a b c : ℤ) (had now : Option Sides) (rest : List Entry) → 1 ≤ n → n ≤ 4 → IfSome had (AreSides n) → IfSome now (AreSides n)
    → told_at told_sides k now ≡ told_at told_sides k had ++ entry.Keyed k slot a b c ∷ rest
    → told_sides k (sides_with n had (side_put slot a b c)) ≡ told_at told_sides k had ++ entry.Keyed k slot a b c ∷ []
sides_next n k slot a b c had now rest some few right_had right_now is =
    let row : SideRow = record { qty = a; value = b; window = c } in
    let fits : (length (lefts had) ≤ n) × (length (rights had) ≤ n) = sides_within n had right_had in
    let fits_now : (length (lefts now) ≤ n) × (length (rights now) ≤ n) = sides_within n now right_now in
    let left_had : length (lefts had) ≤ n = fits.0 in
    let left_now : length (lefts now) ≤ n = fits_now.0 in
    let right_fits : length (rights now) ≤ n = fits_now.1 in
    let split : told_side k 0 (lefts now) ++ told_side k 4 (rights now) ≡ told_side k 0 (lefts had) ++ (told_side k 4 (rights had) ++ entry.Keyed k slot a b c ∷ rest) =
    sym (both_told k now) ∙ is ∙ ap (λ es. es ++ entry.Keyed k slot a b c ∷ rest) (both_told k had) ∙ append_assoc (told_side k 0 (lefts had)) (told_side k 4 (rights had)) (entry.Keyed k slot a b c ∷ rest) in
    side_next (told_sides k (sides_with n had (side_put slot a b c)) ≡ told_at told_sides k had ++ entry.Keyed k slot a b c ∷ []) k 0 (lefts had) (lefts now) (rights had) (rights now) slot a b c rest
    (omega arith) (omega arith) split
    (λ at below none less.
    let test : nat_lt slot 4 ≡ true = grind (arith, nat_tests, at, below) in
    ap (λ t. told_sides k (sides_with n had (record { left = t; row = row }))) test
    ∙ with_left n k had row some right_had (omega arith)
    ∙ ap (λ rs. told_side k 0 (lefts had ++ row ∷ []) ++ told_side k 4 rs) none
    ∙ append-nil (told_side k 0 (lefts had ++ row ∷ []))
    ∙ side_push k 0 (lefts had) row
    ∙ ap (λ m. told_side k 0 (lefts had) ++ side_entry k m row ∷ []) (sym at)
    ∙ ap (λ es. es ++ entry.Keyed k slot a b c ∷ []) (sym (append-nil (told_side k 0 (lefts had))) ∙ ap (λ rs. told_side k 0 (lefts had) ++ told_side k 4 rs) (sym none) ∙ sym (both_told k had)))
    (λ at less.
    let test : nat_lt slot 4 ≡ false = grind (arith, nat_tests, at) in
    ap (λ t. told_sides k (sides_with n had (record { left = t; row = row }))) test
    ∙ with_right n k had row some right_had (omega arith)
    ∙ ap (λ es. told_side k 0 (lefts had) ++ es) (side_push k 4 (rights had) row ∙ ap (λ m. told_side k 4 (rights had) ++ side_entry k m row ∷ []) (sym at))
    ∙ sym (append_assoc (told_side k 0 (lefts had)) (told_side k 4 (rights had)) (entry.Keyed k slot a b c ∷ []))
    ∙ ap (λ es. es ++ entry.Keyed k slot a b c ∷ []) (sym (both_told k had)))

-- what is put back is told last
pub put_total : (by : By) (es : List (Key × Sums)) (k : Key) (slot : ℕ) (a b c : ℤ) (items : List Item) (later : List Entry) → AreRight IsAnySums es
    → flat_map (λ k. sums_entry k 0 (sums_of (rows_with by items k)) (pos 0) ∷ []) (keys_in by items) ≡ all_told told_total es ++ entry.Keyed k slot a b c ∷ later
    → all_told told_total (insert_entry key_cmp es k (these a b)) ≡ all_told told_total es ++ entry.Keyed k slot a b c ∷ []
put_total by es k slot a b c items later right is =
    let after = kept_after total_of_rows total_with total-push refl IsAnySums (λ o r had. tt) by items in
    let same : all_told told_total es ++ entry.Keyed k slot a b c ∷ later ≡ all_told told_total after.0 =
    sym is ∙ sym (kept_told total_of_rows told_total (λ k rows. sums_entry k 0 (sums_of rows) (pos 0) ∷ []) total_tell by after.0 items after.2.0 after.1) in
    put_last total_tells k (these a b) (entry.Keyed k slot a b c) es right.0 (next_from total_tells es after.0 k slot a b c later right after.2 same)
    (total_next k slot a b c (lookup (is_key k) es) (lookup (is_key k) after.0) (filter (has_key k) later) (next_told total_tells es after.0 k slot a b c later right.0 after.2.0 same))

pub put_window : (by : By) (width : ℤ) (es : List (Key × OpenWindow)) (k : Key) (slot : ℕ) (a b c : ℤ) (items : List Item) (later : List Entry) → AreRight (IsWindow width) es
    → flat_map (λ k. sums_entry k 0 (open_window width (rows_with by items k)).sums (open_window width (rows_with by items k)).number ∷ []) (keys_in by items) ≡ all_told told_window es ++ entry.Keyed k slot a b c ∷ later
    → all_told told_window (insert_entry key_cmp es k (opened width c (these a b))) ≡ all_told told_window es ++ entry.Keyed k slot a b c ∷ []
put_window by width es k slot a b c items later right is =
    let after = kept_after (window_of_rows width) (λ had r. window_with had (opened_by width r) r) (window-push width) refl (IsWindow width) (window_right width) by items in
    let same : all_told told_window es ++ entry.Keyed k slot a b c ∷ later ≡ all_told told_window after.0 =
    sym is ∙ sym (kept_told (window_of_rows width) told_window (λ k rows. sums_entry k 0 (open_window width rows).sums (open_window width rows).number ∷ []) (window_tell width) by after.0 items after.2.0 after.1) in
    put_last (window_tells width) k (opened width c (these a b)) (entry.Keyed k slot a b c) es right.0 (next_from (window_tells width) es after.0 k slot a b c later right after.2 same)
    (window_next width k slot a b c (lookup (is_key k) es) (lookup (is_key k) after.0) (filter (has_key k) later) (next_told (window_tells width) es after.0 k slot a b c later right.0 after.2.0 same))

time_fits : (z : ℤ) → IsTime z → FitsSigned w64 z
time_fits z time =
    let low : pos 0 ≤ℤ z = time.0 in
    let high : z ≤ℤ pos 9999999999 = time.1 in
    omega (arith, ints)

pub put_window_fits : (by : By) (width : ℤ) (es : List (Key × OpenWindow)) (k : Key) (slot : ℕ) (a b c : ℤ) (items : List Item) (later : List Entry) → AreRight (IsWindow width) es → pos 1 ≤ℤ width → All IsTimely items
    → flat_map (λ k. sums_entry k 0 (open_window width (rows_with by items k)).sums (open_window width (rows_with by items k)).number ∷ []) (keys_in by items) ≡ all_told told_window es ++ entry.Keyed k slot a b c ∷ later
    → FitsSigned w64 (c *ℤ width)
put_window_fits by width es k slot a b c items later right wide timely is =
    let after = kept_after (window_of_rows width) (λ had r. window_with had (opened_by width r) r) (window-push width) refl (IsWindow width) (window_right width) by items in
    let same : all_told told_window es ++ entry.Keyed k slot a b c ∷ later ≡ all_told told_window after.0 =
    sym is ∙ sym (kept_told (window_of_rows width) told_window (λ k rows. sums_entry k 0 (open_window width rows).sums (open_window width rows).number ∷ []) (window_tell width) by after.0 items after.2.0 after.1) in
    let had : Keeps (window_of_rows width) by after.0 items = after.1 in
    let number : c ≡ level width (rows_with by items k) =
    window_time_by width k slot a b c (lookup (is_key k) es) (rows_with by items k) (filter (has_key k) later)
    (ap (told_at told_window k) (sym (had.values k)) ∙ next_told (window_tells width) es after.0 k slot a b c later right.0 after.2.0 same) in
    time_fits (c *ℤ width) (subst (λ (n : ℤ). IsTime (n *ℤ width)) (sym number) (level_timely width (rows_with by items k) wide (with_timely by items k timely)))

pub put_last_rows : (by : By) (n : ℕ) (es : List (Key × Buffer Sums)) (k : Key) (slot : ℕ) (a b c : ℤ) (items : List Item) (later : List Entry) → 1 ≤ n → AreRight (AreLast n) es
    → flat_map (λ k. slots k 0 (map amounts (keep_last n (rows_with by items k)))) (keys_in by items) ≡ all_told told_last es ++ entry.Keyed k slot a b c ∷ later
    → all_told told_last (insert_entry key_cmp es k (last_added n (lookup (is_key k) es) (these a b))) ≡ all_told told_last es ++ entry.Keyed k slot a b c ∷ []
put_last_rows by n es k slot a b c items later some right is =
    let after = kept_after (last_of_rows n) (last_with n) (last-push n) refl (AreLast n) (λ o r had. last_right n some o (amounts r) had) by items in
    let same : all_told told_last es ++ entry.Keyed k slot a b c ∷ later ≡ all_told told_last after.0 =
    sym is ∙ sym (kept_told (last_of_rows n) told_last (λ k rows. slots k 0 (map amounts (keep_last n rows))) (last_tell n) by after.0 items after.2.0 after.1) in
    put_last (last_tells n) k (last_added n (lookup (is_key k) es) (these a b)) (entry.Keyed k slot a b c) es right.0 (next_from (last_tells n) es after.0 k slot a b c later right after.2 same)
    (last_next n k slot a b c (lookup (is_key k) es) (lookup (is_key k) after.0) (filter (has_key k) later) (right-found (AreLast n) k es right) (right-found (AreLast n) k after.0 after.2)
    (next_told (last_tells n) es after.0 k slot a b c later right.0 after.2.0 same))

pub put_sides : (by : By) (width : ℤ) (n : ℕ) (left : Row → Bool) (es : List (Key × Sides)) (k : Key) (slot : ℕ) (a b c : ℤ) (items : List Item) (later : List Entry) → 1 ≤ n → n ≤ 4 → AreRight (AreSides n) es
    → flat_map (λ k. sides_entries width n left k (rows_with by items k)) (keys_in by items) ≡ all_told told_sides es ++ entry.Keyed k slot a b c ∷ later
    → all_told told_sides (insert_entry key_cmp es k (sides_with n (lookup (is_key k) es) (side_put slot a b c))) ≡ all_told told_sides es ++ entry.Keyed k slot a b c ∷ []
put_sides by width n left es k slot a b c items later some few right is =
    let after = kept_after (sides_of_rows width n left) (λ o r. sides_with n o (sided_row width left r)) (joined-push width n left) refl (AreSides n) (λ o r had. sides_right n o (side_row width r) (left r) some had) by items in
    let same : all_told told_sides es ++ entry.Keyed k slot a b c ∷ later ≡ all_told told_sides after.0 =
    sym is ∙ sym (kept_told (sides_of_rows width n left) told_sides (sides_entries width n left) (sides_tell width n left) by after.0 items after.2.0 after.1) in
    put_last (sides_tells n few) k (sides_with n (lookup (is_key k) es) (side_put slot a b c)) (entry.Keyed k slot a b c) es right.0 (next_from (sides_tells n few) es after.0 k slot a b c later right after.2 same)
    (sides_next n k slot a b c (lookup (is_key k) es) (lookup (is_key k) after.0) (filter (has_key k) later) some few (right-found (AreSides n) k es right) (right-found (AreSides n) k after.0 after.2)
    (next_told (sides_tells n few) es after.0 k slot a b c later right.0 after.2.0 same))

-- the same of a join, by the keys of rows
pub put_joined : (by : By) (width : ℤ) (left : Row → Bool) (s new : JoinView) (k : Key) (slot : ℕ) (a b c : ℤ) (items : List Item) (later : List Entry) → 1 ≤ s.rows → s.rows ≤ 4 → AreRight (AreSides s.rows) (by_key s.sides.kept)
    → flat_map (λ k. sides_entries width s.rows left k (rows_with by items k)) (keys_in by items) ≡ all_told told_sides (by_key s.sides.kept) ++ entry.Keyed k slot a b c ∷ later
    → new ≡ joined s (join_key k) (side_put slot a b c) → all_told told_sides (by_key new.sides.kept) ≡ all_told told_sides (by_key s.sides.kept) ++ entry.Keyed k slot a b c ∷ []
put_joined by width left s new k slot a b c items later some few right is put =
    ap (λ (v : JoinView). all_told told_sides (by_key v.sides.kept)) put
    ∙ ap (λ (v : StoreView Key Sides). all_told told_sides v.kept) (keyed-joined s k (side_put slot a b c))
    ∙ put_sides by width s.rows left (by_key s.sides.kept) k slot a b c items later some few right is

-- an entry of a key has one
pub keyed_is : (x : Entry) → IsKeyed x → ((k : Key) (slot : ℕ) (a b c : ℤ) → x ≡ entry.Keyed k slot a b c → ⊥) → ⊥
keyed_is (entry.Keyed k slot a b c) keyed never = never k slot a b c refl
keyed_is (entry.Mark edge upto) keyed never = keyed
keyed_is (entry.Count count) keyed never = keyed
keyed_is (entry.Head edge number item) keyed never = keyed
keyed_is (entry.Low edge upto produced) keyed never = keyed
keyed_is (entry.Kept edge number item) keyed never = keyed
