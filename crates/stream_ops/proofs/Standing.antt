-- A state that stands for items keeps what its operator keeps of them, and the other way round.
use Rattle.std.proofs.Common.{◌≡◌, ℕ, ℤ, ◌*ℤ◌, ◌+◌, ◌-◌, ◌≤◌, pos, Bool, true, false, cond, List, [], ◌∷◌, ◌++◌, map, drop, length, refl, sym, ap, ◌∙◌, subst, Option, Some, None, append_assoc, arith, length-append, length-drop, int_lt}
use Rattle.std.proofs.lemmas.List.{append-nil, drop-map, length-map}
use Rattle.std.proofs.lemmas.List.Elements.{All-nil}
use Rattle.std.proofs.lemmas.Map.Keys.{sorted_head, sorted_tail}
use Rattle.std.proofs.lemmas.Map.Views.{All-values-insert_entry, IfSome-lookup_from_All}
use Rattle.std.specs.BTreeMap.{insert_entry, is_at}
use Rattle.std.specs.List.{AllByRecursion, flat_map}
use Rattle.std.specs.List.Sorted.{IsStrictlySortedBy}
use Rattle.std.specs.Map.{keys_of, lookup}
use Rattle.std.specs.Option.{IfSome}
use Rattle.std.specs.declared.cmp.Ordering.{Ordering}
use Rattle.std.specs.declared.cmp.Ordering.TheVariants.{Less, Equal, Greater}
use Rattle.circular_buffer.specs.Buffer.{Buffer, buffer, keep_last}
use Rattle.keyed_store.specs.Join as join
use Rattle.keyed_store.specs.Join.{AreSides, JoinView, joined, sides_with}
use Rattle.keyed_store.specs.Store.{IsSorted, StoreView, changed}
use Rattle.keyed_store.specs.declared.rows.SideRow.{SideRow}
use Rattle.keyed_store.specs.declared.rows.SidedRow.{SidedRow}
use Rattle.keyed_store.specs.declared.rows.Sides.{Sides}
use Rattle.keyed_store.proofs.JoinAfter.{sides_right}
use Rattle.tuple_edge.specs.declared.item.Item.{Item}
use Rattle.tuple_edge.specs.declared.item.Item.TheVariants as item
use Rattle.tuple_edge.specs.declared.packet.Entry.{Entry}
use Rattle.tuple_edge.specs.declared.packet.Entry.TheVariants as entry
use Rattle.tuple_edge.specs.declared.row.Column.{Column}
use Rattle.tuple_edge.specs.declared.row.Key.{Key}
use Rattle.tuple_edge.specs.declared.row.Row.{Row}
use Rattle.op_spec.specs.Keys.{is_key, key_cmp, key_of}
use Rattle.op_spec.specs.Spec.{IsSpec}
use Rattle.op_spec.specs.declared.spec.By.{By}
use Rattle.op_spec.specs.declared.spec.Compare.{Compare}
use Rattle.op_spec.specs.declared.spec.OpSpec.TheVariants as op
use Rattle.stream_ops.specs.Entries.{all_told, entries, slots, sums_entry, told_last, told_total, told_window}
use Rattle.stream_ops.specs.Joins.{by_key, is_left, join_key, keyed, side_row, sided_row, sides_of_rows, told_sides}
use Rattle.stream_ops.specs.Kept.{Keeps, last_of_rows, open_window, total_of_rows, window_of_rows}
use Rattle.stream_ops.specs.Rows.{keys_in, rows_of, rows_with}
use Rattle.stream_ops.specs.Steps.{last_added, last_with, no_sums, opened_by, total_with, window_with}
use Rattle.stream_ops.specs.Sums.{amounts, sums_of, sums_with}
use Rattle.stream_ops.specs.State.{StandsFor, StateView}
use Rattle.stream_ops.specs.View.{AreLast, AreRight, IsAnySums, IsRight, IsSound, IsWindow, KeepsOf, entries_of, seen, spec_of}
use Rattle.stream_ops.specs.declared.operator.Operator.{Operator}
use Rattle.stream_ops.specs.declared.operator.Operator.TheVariants as operator
use Rattle.stream_ops.specs.declared.sums.Sums.{Sums}
use Rattle.stream_ops.specs.declared.window.OpenWindow.{OpenWindow}
use Rattle.stream_ops.proofs.Counts.{Keeps-insert, Keeps-same, rows_of-end, rows_of-mark}
use Rattle.stream_ops.proofs.Sided.{by_key-insert, joined-push, lookup-by_key, sides_entries, sides_tell, sides_tells}
use Rattle.stream_ops.proofs.Keyed.{key_cmp_total, self_key}
use Rattle.stream_ops.proofs.Lasts.{last-push, total-push}
use Rattle.stream_ops.proofs.Levels.{window-push}
use Rattle.stream_ops.proofs.Told.{AllOf, Tells, told_exact}

-- an open window with a row that opens no later one
abbrev pub window_late : OpenWindow → Row → OpenWindow
window_late opened r = record { number = opened.number; start = opened.start; sums = sums_with opened.sums (amounts r) }

-- each entry is what a look-up finds
abbrev AllFound : {X : Type 0} → List (Key × X) → List (Key × X) → Type 0
AllFound all [] = Unit {0}
AllFound all (e ∷ es) = (lookup (is_key e.0) all ≡ Some e.1) × AllFound all es

found_later : {X : Type 0} (e : Key × X) (all es : List (Key × X)) → AllByRecursion (λ q. key_cmp e.0 q ≡ Less) (keys_of es) → AllFound all es → AllFound (e ∷ all) es
found_later e all [] below found = tt
found_later e all (f ∷ es) below found =
    let apart : is_key f.0 e.0 ≡ false = rw (key_cmp_total.antisymm f.0 e.0, below.0) refl in
    (rw apart found.0, found_later e all es below.1 found.1)

all_found : {X : Type 0} (es : List (Key × X)) → IsSorted key_cmp es → AllFound es es
all_found [] sorted = tt
all_found (e ∷ es) sorted = (rw (self_key e.0) refl, found_later e es es (sorted_head key_cmp e.0 (keys_of es) sorted) (all_found es (sorted_tail key_cmp e.0 (keys_of es) sorted)))

-- the entries of what is kept are those of the rows of each key
listed : {X : Type 0} (kept_of : List Row → Option X) (told : Key → X → List Entry) (of_rows : Key → List Row → List Entry)
    → ((k : Key) (rows : List Row) (x : X) → kept_of rows ≡ Some x → told k x ≡ of_rows k rows)
    → (rows_for : Key → List Row) (all : List (Key × X)) → ((k : Key) → lookup (is_key k) all ≡ kept_of (rows_for k))
    → (es : List (Key × X)) → AllFound all es → all_told told es ≡ flat_map (λ k. of_rows k (rows_for k)) (keys_of es)
listed kept_of told of_rows tells rows_for all has [] found = refl
listed kept_of told of_rows tells rows_for all has (e ∷ es) found =
    ap (λ front. front ++ all_told told es) (tells e.0 (rows_for e.0) e.1 (sym (has e.0) ∙ found.0))
    ∙ ap (λ rest. of_rows e.0 (rows_for e.0) ++ rest) (listed kept_of told of_rows tells rows_for all has es found.1)

pub kept_told : {X : Type 0} (kept_of : List Row → Option X) (told : Key → X → List Entry) (of_rows : Key → List Row → List Entry)
    → ((k : Key) (rows : List Row) (x : X) → kept_of rows ≡ Some x → told k x ≡ of_rows k rows)
    → (by : By) (es : List (Key × X)) (items : List Item) → IsSorted key_cmp es → Keeps kept_of by es items
    → all_told told es ≡ flat_map (λ k. of_rows k (rows_with by items k)) (keys_in by items)
kept_told kept_of told of_rows tells by es items sorted had =
    listed kept_of told of_rows tells (rows_with by items) es had.values es (all_found es sorted) ∙ ap (flat_map (λ k. of_rows k (rows_with by items k))) had.keys

-- one more key stays in order
below-insert_by : {X : Type 0} (q k : Key) (v : X) (e : Key × X) (es : List (Key × X)) (o : Ordering) → key_cmp k e.0 ≡ o → key_cmp q k ≡ Less → AllByRecursion (λ z. key_cmp q z ≡ Less) (keys_of (e ∷ es))
    → AllByRecursion (λ z. key_cmp q z ≡ Less) (keys_of (insert_entry key_cmp es k v)) → AllByRecursion (λ z. key_cmp q z ≡ Less) (keys_of (insert_entry key_cmp (e ∷ es) k v))
below-insert_by q k v e es Less is here below later = rw is (here, below)
below-insert_by q k v e es Equal is here below later = rw is below
below-insert_by q k v e es Greater is here below later = rw is (below.0, later)

below-insert : {X : Type 0} (q k : Key) (v : X) (es : List (Key × X)) → key_cmp q k ≡ Less → AllByRecursion (λ z. key_cmp q z ≡ Less) (keys_of es)
    → AllByRecursion (λ z. key_cmp q z ≡ Less) (keys_of (insert_entry key_cmp es k v))
below-insert q k v [] here below = (here, tt)
below-insert q k v (e ∷ es) here below = below-insert_by q k v e es (key_cmp k e.0) refl here below (below-insert q k v es here below.1)

sorted-insert_by : {X : Type 0} (k : Key) (v : X) (e : Key × X) (es : List (Key × X)) (o : Ordering) → key_cmp k e.0 ≡ o → IsSorted key_cmp (e ∷ es) → IsSorted key_cmp (insert_entry key_cmp es k v)
    → IsSorted key_cmp (insert_entry key_cmp (e ∷ es) k v)
unfolding IsStrictlySortedBy
sorted-insert_by k v e es Less is sorted later = rw is ((is, trans_all k e.0 (keys_of es) is (sorted_head key_cmp e.0 (keys_of es) sorted)), sorted)
  where
    trans_all : (k q : Key) (ks : List Key) → key_cmp k q ≡ Less → AllByRecursion (λ z. key_cmp q z ≡ Less) ks → AllByRecursion (λ z. key_cmp k z ≡ Less) ks
    trans_all k q [] less below = tt
    trans_all k q (z ∷ ks) less below = (key_cmp_total.trans k q z less below.0, trans_all k q ks less below.1)
sorted-insert_by k v e es Equal is sorted later = rw is sorted
sorted-insert_by k v e es Greater is sorted later =
    rw is (below-insert e.0 k v es (key_cmp_total.antisymm e.0 k ∙ rw is refl) (sorted_head key_cmp e.0 (keys_of es) sorted), later)

pub sorted-insert : {X : Type 0} (k : Key) (v : X) (es : List (Key × X)) → IsSorted key_cmp es → IsSorted key_cmp (insert_entry key_cmp es k v)
unfolding IsStrictlySortedBy
sorted-insert k v [] sorted = (tt, tt)
sorted-insert k v (e ∷ es) sorted = sorted-insert_by k v e es (key_cmp k e.0) refl sorted (sorted-insert k v es (sorted_tail key_cmp e.0 (keys_of es) sorted))

pub right-insert : {X : Type 0} (right : X → Type 0) (k : Key) (v : X) (es : List (Key × X)) → AreRight right es → right v → AreRight right (insert_entry key_cmp es k v)
right-insert right k v es had here = (sorted-insert k v es had.0, All-values-insert_entry key_cmp k v right es had.1 here)

pub right-changed : {X : Type 0} (right : X → Type 0) (s n : StoreView Key X) (k : Key) (v : X) → IsRight right s → n ≡ changed s (insert_entry key_cmp s.kept k v) → right v → IsRight right n
right-changed right s n k v had is here = subst (IsRight right) (sym is) (right-insert right k v s.kept had.0 here, had.1)

pub right-found : {X : Type 0} (right : X → Type 0) (k : Key) (es : List (Key × X)) → AreRight right es → IfSome (lookup (is_key k) es) right
right-found right k es had = IfSome-lookup_from_All right (is_key k) es had.1

-- for any items there is what is kept of them
kept_through : {X : Type 0} (kept_of : List Row → Option X) (next : Option X → Row → X) → ((rows : List Row) (r : Row) → kept_of (rows ++ r ∷ []) ≡ Some (next (kept_of rows) r))
    → (right : X → Type 0) → ((o : Option X) (r : Row) → IfSome o right → right (next o r))
    → (by : By) (es : List (Key × X)) (before items : List Item) → Keeps kept_of by es before → AreRight right es
    → (fs : List (Key × X)) × Keeps kept_of by fs (before ++ items) × AreRight right fs
kept_through kept_of next push right stays by es before [] had are_right = (es, subst (Keeps kept_of by es) (sym (append-nil before)) had, are_right)
kept_through {X} kept_of next push right stays by es before (item.Row stamp r ∷ items) had are_right =
    let v : X = next (lookup (is_key (key_of by r)) es) r in
    let later = kept_through kept_of next push right stays by (insert_entry key_cmp es (key_of by r) v) (before ++ item.Row stamp r ∷ []) items
    (Keeps-insert kept_of next push by es (insert_entry key_cmp es (key_of by r) v) before stamp r (key_of by r) refl had refl)
    (right-insert right (key_of by r) v es are_right (stays (lookup (is_key (key_of by r)) es) r (IfSome-lookup_from_All right (is_key (key_of by r)) es are_right.1))) in
    (later.0, subst (Keeps kept_of by later.0) (append_assoc before (item.Row stamp r ∷ []) items) later.1, later.2)
kept_through kept_of next push right stays by es before (item.Mark stamp ∷ items) had are_right =
    let later = kept_through kept_of next push right stays by es (before ++ item.Mark stamp ∷ []) items (Keeps-same kept_of by es before (before ++ item.Mark stamp ∷ []) (rows_of-mark before stamp) had) are_right in
    (later.0, subst (Keeps kept_of by later.0) (append_assoc before (item.Mark stamp ∷ []) items) later.1, later.2)
kept_through kept_of next push right stays by es before (item.End stamp ∷ items) had are_right =
    let later = kept_through kept_of next push right stays by es (before ++ item.End stamp ∷ []) items (Keeps-same kept_of by es before (before ++ item.End stamp ∷ []) (rows_of-end before stamp) had) are_right in
    (later.0, subst (Keeps kept_of by later.0) (append_assoc before (item.End stamp ∷ []) items) later.1, later.2)

pub kept_after : {X : Type 0} (kept_of : List Row → Option X) (next : Option X → Row → X) → ((rows : List Row) (r : Row) → kept_of (rows ++ r ∷ []) ≡ Some (next (kept_of rows) r))
    → kept_of [] ≡ None → (right : X → Type 0) → ((o : Option X) (r : Row) → IfSome o right → right (next o r))
    → (by : By) (items : List Item) → (fs : List (Key × X)) × Keeps kept_of by fs items × AreRight right fs
unfolding IsStrictlySortedBy
kept_after {X} kept_of next push none right stays by items =
    kept_through kept_of next push right stays by [] [] items (record { values = λ k. sym none; keys = refl }) (tt, All-nil right)

-- what tells the entries after items is kept of them
told_kept : {X : Type 0} (kept_of : List Row → Option X) (next : Option X → Row → X) → ((rows : List Row) (r : Row) → kept_of (rows ++ r ∷ []) ≡ Some (next (kept_of rows) r))
    → kept_of [] ≡ None → (right : X → Type 0) → ((o : Option X) (r : Row) → IfSome o right → right (next o r))
    → (told : Key → X → List Entry) → Tells told right → (of_rows : Key → List Row → List Entry)
    → ((k : Key) (rows : List Row) (x : X) → kept_of rows ≡ Some x → told k x ≡ of_rows k rows)
    → (by : By) (es : List (Key × X)) (items : List Item) → AreRight right es
    → all_told told es ≡ flat_map (λ k. of_rows k (rows_with by items k)) (keys_in by items) → Keeps kept_of by es items
told_kept kept_of next push none right stays told tells of_rows tell by es items are_right stood =
    let after = kept_after kept_of next push none right stays by items in
    subst (λ fs. Keeps kept_of by fs items)
    (told_exact tells after.0 es after.2 are_right (kept_told kept_of told of_rows tell by after.0 items after.2.0 after.1 ∙ sym stood)) after.1

-- what an entry tells
abbrev pub sums_told : List Entry → Sums
sums_told [] = no_sums
sums_told (entry.Keyed k slot a b c ∷ es) = record { qty = a; value = b }
sums_told (entry.Mark edge upto ∷ es) = no_sums
sums_told (entry.Count count ∷ es) = no_sums
sums_told (entry.Head edge number item ∷ es) = no_sums
sums_told (entry.Low edge upto produced ∷ es) = no_sums
sums_told (entry.Kept edge number item ∷ es) = no_sums

abbrev pub number_told : List Entry → ℤ
number_told [] = pos 0
number_told (entry.Keyed k slot a b c ∷ es) = c
number_told (entry.Mark edge upto ∷ es) = pos 0
number_told (entry.Count count ∷ es) = pos 0
number_told (entry.Head edge number item ∷ es) = pos 0
number_told (entry.Low edge upto produced ∷ es) = pos 0
number_told (entry.Kept edge number item ∷ es) = pos 0

-- a list but for its first
abbrev pub others : List Entry → List Entry
others [] = []
others (e ∷ es) = es

pub total_tells : Tells told_total IsAnySums
total_tells = record {
  keyed = λ k x. (self_key k, tt);
  some = λ k x right. (sums_entry k 0 x (pos 0), [], refl);
  exact = λ k x y right_x right_y same. ap sums_told same;
}

abbrev pub opened : ℤ → ℤ → Sums → OpenWindow
opened width number sums = record { number = number; start = number *ℤ width; sums = sums }

window_is : (width : ℤ) (o : OpenWindow) → IsWindow width o → o ≡ opened width o.number o.sums
window_is width o right = ap (λ (start : ℤ). let w : OpenWindow = record { number = o.number; start = start; sums = o.sums } in w) right

pub window_tells : (width : ℤ) → Tells told_window (IsWindow width)
window_tells width = record {
  keyed = λ k x. (self_key k, tt);
  some = λ k x right. (sums_entry k 0 x.sums x.number, [], refl);
  exact = λ k x y right_x right_y same. window_is width x right_x ∙ ap (λ (n : ℤ). opened width n x.sums) (ap number_told same) ∙ ap (λ (s : Sums). opened width y.number s) (ap sums_told same) ∙ sym (window_is width y right_y);
}

slots_keyed : (k : Key) (slot : ℕ) (xs : List Sums) → AllOf k (slots k slot xs)
slots_keyed k slot [] = tt
slots_keyed k slot (x ∷ xs) = (self_key k, slots_keyed k (slot + 1) xs)

pub slots_exact : (k : Key) (slot : ℕ) (xs ys : List Sums) → slots k slot xs ≡ slots k slot ys → xs ≡ ys
slots_exact k slot [] [] same = refl
slots_exact k slot [] (y ∷ ys) same = cc
slots_exact k slot (x ∷ xs) [] same = cc
slots_exact k slot (x ∷ xs) (y ∷ ys) same =
    ap (λ z. z ∷ xs) (ap sums_told same) ∙ ap (λ zs. y ∷ zs) (slots_exact k (slot + 1) xs ys (ap others same))

slots_some : (k : Key) (xs : List Sums) → 1 ≤ length xs → (first : Entry) × (later : List Entry) × (slots k 0 xs ≡ first ∷ later)
slots_some k [] long = absurd (omega arith)
slots_some k (x ∷ xs) long = (sums_entry k 0 x (pos 0), slots k 1 xs, refl)

pub last_tells : (n : ℕ) → Tells told_last (AreLast n)
last_tells n = record {
  keyed = λ k b. slots_keyed k 0 b.items;
  some = λ k b right. slots_some k b.items right.1;
  exact = λ k x y right_x right_y same.
      ap (λ items. buffer items x.capacity) (slots_exact k 0 x.items y.items same) ∙ ap (buffer y.items) (right_x.0 ∙ sym right_y.0);
}

-- what is kept tells the rows' entries
pub total_tell : (k : Key) (rows : List Row) (s : Sums) → total_of_rows rows ≡ Some s → told_total k s ≡ sums_entry k 0 (sums_of rows) (pos 0) ∷ []
total_tell k [] s is = cc
total_tell k (r ∷ rows) s is =
    let e : s ≡ sums_of (r ∷ rows) = cc in
    ap (told_total k) e

pub window_tell : (width : ℤ) (k : Key) (rows : List Row) (o : OpenWindow) → window_of_rows width rows ≡ Some o
    → told_window k o ≡ sums_entry k 0 (open_window width rows).sums (open_window width rows).number ∷ []
window_tell width k [] o is = cc
window_tell width k (r ∷ rows) o is =
    let e : o ≡ open_window width (r ∷ rows) = cc in
    ap (told_window k) e

pub last_tell : (n : ℕ) (k : Key) (rows : List Row) (b : Buffer Sums) → last_of_rows n rows ≡ Some b → told_last k b ≡ slots k 0 (map amounts (keep_last n rows))
last_tell n k [] b is = cc
last_tell n k (r ∷ rows) b is =
    let e : b ≡ buffer (keep_last n (map amounts (r ∷ rows))) n = cc in
    let size : length (map amounts (r ∷ rows)) ≡ length (r ∷ rows) = simp length-map refl in
    ap (told_last k) e
    ∙ ap (λ m. slots k 0 (drop (m - n) (map amounts (r ∷ rows)))) size
    ∙ ap (slots k 0) (drop-map amounts (length (r ∷ rows) - n) (r ∷ rows))

-- what is kept stays right
pub last_right : (n : ℕ) → 1 ≤ n → (o : Option (Buffer Sums)) (s : Sums) → IfSome o (AreLast n) → AreLast n (last_added n o s)
last_right n some None s had = (refl, one_long n s some, one_fits n s some)
  where
    one_long : (n : ℕ) (s : Sums) → 1 ≤ n → 1 ≤ length (keep_last n (s ∷ []))
    one_long n s some = let e : length (keep_last n (s ∷ [])) ≡ 1 - (1 - n) = simp length-drop refl in omega arith

    one_fits : (n : ℕ) (s : Sums) → 1 ≤ n → length (keep_last n (s ∷ [])) ≤ n
    one_fits n s some = let e : length (keep_last n (s ∷ [])) ≡ 1 - (1 - n) = simp length-drop refl in omega arith
last_right n some (Some b) s had =
    let e : length (keep_last b.capacity (b.items ++ s ∷ [])) ≡ length (b.items ++ s ∷ []) - (length (b.items ++ s ∷ []) - b.capacity) = simp length-drop refl in
    let size : length (b.items ++ s ∷ []) ≡ length b.items + 1 = simp length-append refl in
    let is : b.capacity ≡ n = had.0 in
    (had.0, omega arith, omega arith)

pub window_right : (width : ℤ) (o : Option OpenWindow) (r : Row) → IfSome o (IsWindow width) → IsWindow width (window_with o (opened_by width r) r)
window_right width None r had = refl
window_right width (Some o) r had = by_level (int_lt o.number (opened_by width r).number)
  where
    by_level : (t : Bool) → IsWindow width (cond t (opened_by width r) (window_late o r))
    by_level true = refl
    by_level false = had

-- what an operator keeps of items is told by their entries
pub entries_stand : (o : Operator) (items : List Item) → IsSound o → KeepsOf o items → entries_of o ≡ entries (spec_of o) items
entries_stand (operator.Keep column compare limit watched) items sound had = refl
entries_stand (operator.Total by totals) items sound had = kept_told total_of_rows told_total (λ k rows. sums_entry k 0 (sums_of rows) (pos 0) ∷ []) total_tell by totals.kept items sound.0.0 had
entries_stand (operator.Last by n last_rows count) items sound had = kept_told (last_of_rows n) told_last (λ k rows. slots k 0 (map amounts (keep_last n rows))) (last_tell n) by last_rows.kept items sound.1.0.0 had
entries_stand (operator.Window by width windows) items sound had =
    kept_told (window_of_rows width) told_window (λ k rows. sums_entry k 0 (open_window width rows).sums (open_window width rows).number ∷ []) (window_tell width) by windows.kept items sound.1.0.0 had
entries_stand (operator.Crossing by limit totals) items sound had = kept_told total_of_rows told_total (λ k rows. sums_entry k 0 (sums_of rows) (pos 0) ∷ []) total_tell by totals.kept items sound.1.0.0 had
entries_stand (operator.Join by width column compare limit join) items sound had =
    let left : Row → Bool = is_left column compare limit in
    kept_told (sides_of_rows width join.rows left) told_sides (sides_entries width join.rows left) (sides_tell width join.rows left) by (by_key join.sides.kept) items sound.1.0.0 had

-- what tells the entries of items is kept of them
pub keeps_stand : (o : Operator) (items : List Item) → IsSound o → entries_of o ≡ entries (spec_of o) items → KeepsOf o items
keeps_stand (operator.Keep column compare limit watched) items sound stood = tt
keeps_stand (operator.Total by totals) items sound stood =
    told_kept total_of_rows total_with total-push refl IsAnySums (λ o r had. tt) told_total total_tells (λ k rows. sums_entry k 0 (sums_of rows) (pos 0) ∷ []) total_tell by totals.kept items sound.0 stood
keeps_stand (operator.Last by n last_rows count) items sound stood =
    told_kept (last_of_rows n) (last_with n) (last-push n) refl (AreLast n) (λ o r had. last_right n sound.0.0 o (amounts r) had) told_last (last_tells n) (λ k rows. slots k 0 (map amounts (keep_last n rows))) (last_tell n)
    by last_rows.kept items sound.1.0 stood
keeps_stand (operator.Window by width windows) items sound stood =
    told_kept (window_of_rows width) (λ had r. window_with had (opened_by width r) r) (window-push width) refl (IsWindow width) (window_right width) told_window (window_tells width)
    (λ k rows. sums_entry k 0 (open_window width rows).sums (open_window width rows).number ∷ []) (window_tell width) by windows.kept items sound.1.0 stood
keeps_stand (operator.Crossing by limit totals) items sound stood =
    told_kept total_of_rows total_with total-push refl IsAnySums (λ o r had. tt) told_total total_tells (λ k rows. sums_entry k 0 (sums_of rows) (pos 0) ∷ []) total_tell by totals.kept items sound.1.0 stood
keeps_stand (operator.Join by width column compare limit join) items sound stood =
    let left : Row → Bool = is_left column compare limit in
    told_kept (sides_of_rows width join.rows left) (λ o r. sides_with join.rows o (sided_row width left r)) (joined-push width join.rows left) refl (AreSides join.rows)
    (λ o r had. sides_right join.rows o (side_row width r) (left r) sound.0.2 had) told_sides (sides_tells join.rows sound.0.3) (sides_entries width join.rows left) (sides_tell width join.rows left)
    by (by_key join.sides.kept) items sound.1.0 stood

-- the same of what contracts see
pub keeps_now : (o : Operator) (s : StateView) (items : List Item) → seen o ≡ s → IsSound o → StandsFor s items → KeepsOf o items
keeps_now o s items is sound stood = keeps_stand o items sound (subst (λ (s : StateView). StandsFor s items) (sym is) stood)

-- items that are no rows change nothing
keeps-same : (o : Operator) (xs ys : List Item) → rows_of ys ≡ rows_of xs → KeepsOf o xs → KeepsOf o ys
keeps-same (operator.Keep column compare limit watched) xs ys same had = tt
keeps-same (operator.Total by totals) xs ys same had = Keeps-same total_of_rows by totals.kept xs ys same had
keeps-same (operator.Last by n last_rows count) xs ys same had = Keeps-same (last_of_rows n) by last_rows.kept xs ys same had
keeps-same (operator.Window by width windows) xs ys same had = Keeps-same (window_of_rows width) by windows.kept xs ys same had
keeps-same (operator.Crossing by limit totals) xs ys same had = Keeps-same total_of_rows by totals.kept xs ys same had
keeps-same (operator.Join by width column compare limit join) xs ys same had = Keeps-same (sides_of_rows width join.rows (is_left column compare limit)) by (by_key join.sides.kept) xs ys same had

pub keeps-mark : (o : Operator) (before : List Item) (stamp : ℕ) → KeepsOf o before → KeepsOf o (before ++ item.Mark stamp ∷ [])
keeps-mark o before stamp had = keeps-same o before (before ++ item.Mark stamp ∷ []) (rows_of-mark before stamp) had

pub keeps-end : (o : Operator) (before : List Item) (stamp : ℕ) → KeepsOf o before → KeepsOf o (before ++ item.End stamp ∷ [])
keeps-end o before stamp had = keeps-same o before (before ++ item.End stamp ∷ []) (rows_of-end before stamp) had

pub stands_now : (o : Operator) (s : StateView) (items : List Item) → seen o ≡ s → IsSound o → KeepsOf o items → StandsFor s items
stands_now o s items is sound had = subst (λ (s : StateView). StandsFor s items) is (entries_stand o items sound had)

-- ---- a join with one row more

-- what is kept by the keys of rows
pub keyed-joined : (s : JoinView) (k : Key) (m : SidedRow)
    → keyed (joined s (join_key k) m).sides ≡ changed (keyed s.sides) (insert_entry key_cmp (by_key s.sides.kept) k (sides_with s.rows (lookup (is_key k) (by_key s.sides.kept)) m))
keyed-joined s k m =
    ap (λ (es : List (Key × Sides)). changed (keyed s.sides) es)
    (by_key-insert (join_key k) (sides_with s.rows (lookup (is_at (join.key_cmp (join_key k))) s.sides.kept) m) s.sides.kept
    ∙ ap (λ o. insert_entry key_cmp (by_key s.sides.kept) k (sides_with s.rows o m)) (lookup-by_key (join_key k) s.sides.kept))

pub joined_sound : (by : By) (width : ℤ) (column : Column) (compare : Compare) (limit : ℤ) (s n : JoinView) (k : Key) (left : Bool) (r : SideRow)
    → IsSound (operator.Join by width column compare limit s) → n ≡ joined s (join_key k) (record { left = left; row = r }) → IsSound (operator.Join by width column compare limit n)
joined_sound by width column compare limit s n k left r sound is =
    let m : SidedRow = record { left = left; row = r } in
    let right : IsRight (AreSides s.rows) (keyed (joined s (join_key k) m).sides) =
    right-changed (AreSides s.rows) (keyed s.sides) (keyed (joined s (join_key k) m).sides) k (sides_with s.rows (lookup (is_key k) (by_key s.sides.kept)) m) sound.1 (keyed-joined s k m)
    (sides_right s.rows (lookup (is_key k) (by_key s.sides.kept)) r left sound.0.2 (right-found (AreSides s.rows) k (by_key s.sides.kept) sound.1.0)) in
    subst (λ (n : JoinView). IsSound (operator.Join by width column compare limit n)) (sym is) (sound.0, right)

pub joined_keeps : (by : By) (width : ℤ) (left : Row → Bool) (s n : JoinView) (before : List Item) (stamp : ℕ) (r : Row) (k : Key) (side : Bool)
    → Keeps (sides_of_rows width s.rows left) by (by_key s.sides.kept) before → k ≡ key_of by r → side ≡ left r → n ≡ joined s (join_key k) (record { left = side; row = side_row width r })
    → Keeps (sides_of_rows width n.rows left) by (by_key n.sides.kept) (before ++ item.Row stamp r ∷ [])
joined_keeps by width left s n before stamp r k side had key_is side_is is =
    let m : SidedRow = record { left = side; row = side_row width r } in
    let there : m ≡ sided_row width left r = ap (λ (t : Bool). let m : SidedRow = record { left = t; row = side_row width r } in m) side_is in
    let new : JoinView = joined s (join_key k) m in
    let keeps : Keeps (sides_of_rows width new.rows left) by (by_key new.sides.kept) (before ++ item.Row stamp r ∷ []) =
    Keeps-insert (sides_of_rows width s.rows left) (λ o r. sides_with s.rows o (sided_row width left r)) (joined-push width s.rows left) by (by_key s.sides.kept) (by_key new.sides.kept) before stamp r k key_is had
    (ap (λ (v : StoreView Key Sides). v.kept) (keyed-joined s k m) ∙ ap (λ m. insert_entry key_cmp (by_key s.sides.kept) k (sides_with s.rows (lookup (is_key k) (by_key s.sides.kept)) m)) there) in
    subst (λ (n : JoinView). Keeps (sides_of_rows width n.rows left) by (by_key n.sides.kept) (before ++ item.Row stamp r ∷ [])) (sym is) keeps

-- a join that was given nothing
pub joined_none : (by : By) (width : ℤ) (column : Column) (compare : Compare) (limit : ℤ) (n : ℕ) → IsSpec (op.Join by width n column compare limit)
    → IsSound (operator.Join by width column compare limit (record { rows = n; sides = record { kept = []; old = None } }))
unfolding IsStrictlySortedBy
joined_none by width column compare limit n limits = (limits, ((tt, All-nil (AreSides n)), tt))
