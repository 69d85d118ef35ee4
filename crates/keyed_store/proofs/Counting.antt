-- How many entries tell of what is kept, with one more.
use Rattle.std.proofs.Common.{◌≡◌, ℕ, ◌+◌, ◌-◌, ◌<◌, ◌≤◌, Bool, true, false, cond, List, [], ◌∷◌, ◌++◌, length, suc, refl, ap, Option, Some, None, arith, length-append, length-drop, nat_lt}
use Rattle.std.proofs.lemmas.Bool.Decides.{nat_tests}
use Rattle.std.proofs.lemmas.Map.{lookup-none}
use Rattle.std.proofs.lemmas.Map.Entries.{none_below_head}
use Rattle.std.proofs.lemmas.Map.Keys.{sorted_tail}
use Rattle.std.specs.BTreeMap.{insert_entry, is_at}
use Rattle.std.specs.Cmp.{IsTotalOrder}
use Rattle.std.specs.List.{flat_map}
use Rattle.std.specs.Map.{keys_of, lookup}
use Rattle.std.specs.Option.{IfSome}
use Rattle.std.specs.declared.cmp.Ordering.{Ordering}
use Rattle.std.specs.declared.cmp.Ordering.TheVariants.{Less, Equal, Greater}
use Rattle.circular_buffer.specs.Buffer.{Buffer, keep_last}
use Rattle.keyed_store.specs.Join.{AreSides, IsJoin, all_told, has_room, key_cmp, no_sides, run, sides_after, sides_with, told_sides}
use Rattle.keyed_store.specs.Store.{IsSorted, StoreView}
use Rattle.keyed_store.specs.declared.rows.JoinKey.{JoinKey}
use Rattle.keyed_store.specs.declared.rows.SideRow.{SideRow}
use Rattle.keyed_store.specs.declared.rows.SidedRow.{SidedRow}
use Rattle.keyed_store.specs.declared.rows.Sides.{Sides}
use Rattle.keyed_store.proofs.JoinAfter.{found_right, key_cmp_total}

-- the size of what is kept for a key, if anything is
abbrev pub size_at : {X : Type 0} → (X → ℕ) → Option X → ℕ
size_at size None = 0
size_at size (Some x) = size x

module _ {K X E : Type 0} {cmp : K → K → Ordering} (total : IsTotalOrder cmp) (told : K → X → List E) (size : X → ℕ) (sized : (k : K) (x : X) → length (told k x) ≡ size x) where
  abbrev all : List (K × X) → List E
  all es = flat_map (λ e. told e.0 e.1) es

  told_more : (e : K × X) (es : List (K × X)) → length (all (e ∷ es)) ≡ size e.1 + length (all es)
  told_more e es = let here : length (told e.0 e.1) ≡ size e.1 = sized e.0 e.1 in simp length-append (omega arith)

  insert_length_by : (k : K) (v : X) (e : K × X) (es : List (K × X)) (o : Ordering) → cmp k e.0 ≡ o → IsSorted cmp (e ∷ es)
      → length (all (insert_entry cmp es k v)) + size_at size (lookup (is_at (cmp k)) es) ≡ length (all es) + size v
      → length (all (insert_entry cmp (e ∷ es) k v)) + size_at size (lookup (is_at (cmp k)) (e ∷ es)) ≡ length (all (e ∷ es)) + size v
  insert_length_by k v e es Less is sorted later =
      let none : lookup (is_at (cmp k)) (e ∷ es) ≡ None = lookup-none (is_at (cmp k)) (e ∷ es) (none_below_head total k e es sorted is) in
      let here : length (all ((k, v) ∷ e ∷ es)) ≡ size v + length (all (e ∷ es)) = told_more (k, v) (e ∷ es) in
      rw none (rw is (omega arith))
  insert_length_by k v e es Equal is sorted later =
      let here : length (all ((e.0, v) ∷ es)) ≡ size v + length (all es) = told_more (e.0, v) es in
      let there : length (all (e ∷ es)) ≡ size e.1 + length (all es) = told_more e es in
      rw is (omega arith)
  insert_length_by k v e es Greater is sorted later =
      let here : length (all (e ∷ insert_entry cmp es k v)) ≡ size e.1 + length (all (insert_entry cmp es k v)) = told_more e (insert_entry cmp es k v) in
      let there : length (all (e ∷ es)) ≡ size e.1 + length (all es) = told_more e es in
      rw is (omega arith)

  -- the number of entries that tell of all keys, once a key's value is put
  pub insert_length : (k : K) (v : X) (es : List (K × X)) → IsSorted cmp es
      → length (all (insert_entry cmp es k v)) + size_at size (lookup (is_at (cmp k)) es) ≡ length (all es) + size v
  insert_length k v [] sorted = let here : length (all ((k, v) ∷ [])) ≡ size v + length (all []) = told_more (k, v) [] in omega arith
  insert_length k v (e ∷ es) sorted = insert_length_by k v e es (cmp k e.0) refl sorted (insert_length k v es (sorted_tail cmp e.0 (keys_of es) sorted))

-- a run of last rows gets one longer where there is room
pub length-kept : {X : Type 0} (n : ℕ) (b : Buffer X) (x : X) → 1 ≤ n → b.capacity ≡ n → length b.items ≤ n → (t : Bool) → nat_lt (length b.items) n ≡ t
    → length (keep_last b.capacity (b.items ++ x ∷ [])) ≡ length b.items + cond t 1 0
length-kept n b x some capacity fits true is =
    let e : length (keep_last b.capacity (b.items ++ x ∷ [])) ≡ length (b.items ++ x ∷ []) - (length (b.items ++ x ∷ []) - b.capacity) = simp length-drop refl in
    let size : length (b.items ++ x ∷ []) ≡ length b.items + 1 = simp length-append refl in
    let below : length b.items < n = grind (arith, nat_tests, is) in
    omega arith
length-kept n b x some capacity fits false is =
    let e : length (keep_last b.capacity (b.items ++ x ∷ [])) ≡ length (b.items ++ x ∷ []) - (length (b.items ++ x ∷ []) - b.capacity) = simp length-drop refl in
    let size : length (b.items ++ x ∷ []) ≡ length b.items + 1 = simp length-append refl in
    let above : n ≤ length b.items = grind (arith, nat_tests, is) in
    omega arith

length-run : (k : JoinKey) (slot : ℕ) (rows : List SideRow) → length (run k slot rows) ≡ length rows
length-run k slot [] = refl
length-run k slot (r ∷ rows) = ap (λ n. suc n) (length-run k (slot + 1) rows)

-- how many rows are kept of both sides
abbrev pub side_count : Sides → ℕ
side_count s = length s.left.items + length s.right.items

length-told : (k : JoinKey) (s : Sides) → length (told_sides k s) ≡ side_count s
length-told k s =
    let left : length (run k 0 s.left.items) ≡ length s.left.items = length-run k 0 s.left.items in
    let other : length (run k 4 s.right.items) ≡ length s.right.items = length-run k 4 s.right.items in
    simp length-append (omega arith)

after_count : (n : ℕ) (s : Sides) (r : SideRow) (left : Bool) → 1 ≤ n → AreSides n s
    → side_count (sides_after s (record { left = left; row = r })) ≡ side_count s + cond (has_room n left (Some s)) 1 0
after_count n s r true some sides =
    let longer : length (keep_last s.left.capacity (s.left.items ++ r ∷ [])) ≡ length s.left.items + cond (nat_lt (length s.left.items) n) 1 0 =
    length-kept n s.left r some sides.left_room sides.left_fits (nat_lt (length s.left.items) n) refl in
    omega arith
after_count n s r false some sides =
    let longer : length (keep_last s.right.capacity (s.right.items ++ r ∷ [])) ≡ length s.right.items + cond (nat_lt (length s.right.items) n) 1 0 =
    length-kept n s.right r some sides.right_room sides.right_fits (nat_lt (length s.right.items) n) refl in
    omega arith

first_count : (n : ℕ) (r : SideRow) (left : Bool) → 1 ≤ n → side_count (sides_after (no_sides n) (record { left = left; row = r })) ≡ 1
first_count n r true some = let e : length (keep_last n (r ∷ [])) ≡ 1 - (1 - n) = simp length-drop refl in omega arith
first_count n r false some = let e : length (keep_last n (r ∷ [])) ≡ 1 - (1 - n) = simp length-drop refl in omega arith

with_count : (n : ℕ) (o : Option Sides) (m : SidedRow) → 1 ≤ n → IfSome o (AreSides n) → side_count (sides_with n o m) ≡ size_at side_count o + cond (has_room n m.left o) 1 0
with_count n None m some had = first_count n m.row m.left some
with_count n (Some s) m some had = after_count n s m.row m.left some had

-- the number of kept rows, with one more
pub kept_count : (n : ℕ) (s : StoreView JoinKey Sides) (k : JoinKey) (m : SidedRow) → IsJoin n s
    → length (all_told (insert_entry key_cmp s.kept k (sides_with n (lookup (is_at (key_cmp k)) s.kept) m))) ≡ length (all_told s.kept) + cond (has_room n m.left (lookup (is_at (key_cmp k)) s.kept)) 1 0
kept_count n s k m join =
    let o : Option Sides = lookup (is_at (key_cmp k)) s.kept in
    let v : Sides = sides_with n o m in
    let more : length (all_told (insert_entry key_cmp s.kept k v)) + size_at side_count o ≡ length (all_told s.kept) + side_count v =
    insert_length key_cmp_total told_sides side_count length-told k v s.kept join.2.0 in
    let longer : side_count v ≡ size_at side_count o + cond (has_room n m.left o) 1 0 = with_count n o m join.0 (found_right n k s.kept join.2) in
    omega arith
