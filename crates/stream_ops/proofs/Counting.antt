-- How many entries tell of what is kept, with one more.
use Rattle.std.proofs.Common.{◌≡◌, ℕ, suc, ◌+◌, ◌-◌, ◌≤◌, cond, List, [], ◌∷◌, length, refl, ap, Option, Some, None, arith, length-drop, nat_lt}
use Rattle.std.specs.BTreeMap.{insert_entry}
use Rattle.std.specs.Map.{lookup}
use Rattle.std.specs.Option.{IfSome}
use Rattle.circular_buffer.specs.Buffer.{Buffer, keep_last}
use Rattle.keyed_store.proofs.Counting.{insert_length, length-kept, size_at}
use Rattle.tuple_edge.specs.declared.row.Key.{Key}
use Rattle.op_spec.specs.Keys.{is_key, key_cmp}
use Rattle.stream_ops.specs.Entries.{all_told, slots, told_last, told_total, told_window}
use Rattle.stream_ops.specs.Steps.{has_room, last_added}
use Rattle.stream_ops.specs.View.{AreLast, AreRight}
use Rattle.stream_ops.specs.declared.sums.Sums.{Sums}
use Rattle.stream_ops.specs.declared.window.OpenWindow.{OpenWindow}
use Rattle.stream_ops.proofs.Keyed.{key_cmp_total}
use Rattle.stream_ops.proofs.Standing.{right-found}

pub length-slots : (k : Key) (slot : ℕ) (xs : List Sums) → length (slots k slot xs) ≡ length xs
length-slots k slot [] = refl
length-slots k slot (x ∷ xs) = ap (λ n. suc n) (length-slots k (slot + 1) xs)

added_size : (n : ℕ) (o : Option (Buffer Sums)) (s : Sums) → 1 ≤ n → IfSome o (AreLast n) → length (last_added n o s).items ≡ size_at (λ (b : Buffer Sums). length b.items) o + cond (has_room n o) 1 0
added_size n None s some had = let e : length (keep_last n (s ∷ [])) ≡ 1 - (1 - n) = simp length-drop refl in omega arith
added_size n (Some b) s some had = length-kept n b s some had.0 had.2 (nat_lt (length b.items) n) refl

-- the number of last rows, with one more
pub last_count : (n : ℕ) (es : List (Key × Buffer Sums)) (k : Key) (s : Sums) → 1 ≤ n → AreRight (AreLast n) es
    → length (all_told told_last (insert_entry key_cmp es k (last_added n (lookup (is_key k) es) s))) ≡ length (all_told told_last es) + cond (has_room n (lookup (is_key k) es)) 1 0
last_count n es k s some right =
    let more = insert_length key_cmp_total told_last (λ (b : Buffer Sums). length b.items) (λ k b. length-slots k 0 b.items) k (last_added n (lookup (is_key k) es) s) es right.0 in
    let added : length (last_added n (lookup (is_key k) es) s).items ≡ size_at (λ (b : Buffer Sums). length b.items) (lookup (is_key k) es) + cond (has_room n (lookup (is_key k) es)) 1 0 =
    added_size n (lookup (is_key k) es) s some (right-found (AreLast n) k es right) in
    omega arith

-- one entry for each key
pub total_length : (es : List (Key × Sums)) → length (all_told told_total es) ≡ length es
total_length [] = refl
total_length (e ∷ es) = ap (λ n. suc n) (total_length es)

pub window_length : (es : List (Key × OpenWindow)) → length (all_told told_window es) ≡ length es
window_length [] = refl
window_length (e ∷ es) = ap (λ n. suc n) (window_length es)
