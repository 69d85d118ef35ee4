-- What a buffer holds of all that was produced on its edge, after each of its changes.
use Rattle.std.proofs.Common.{ℕ, zero, suc, ◌≡◌, ◌+◌, ◌-◌, ◌<◌, ◌≤◌, Bool, true, false, List, [], ◌∷◌, ◌++◌, length, drop, max, refl, sym, ap, ◌∙◌, arith, length-append}
use Rattle.std.specs.Prelude.{None, nat_le, slice_get, if◌then◌else◌}
use Rattle.std.proofs.lemmas.List.{drop-append-le, drop-drop, drop_all}
use borrow.Author.Tests.{leb-true, leb-false}
use Rattle.tuple_edge.specs.declared.item.Item.{Item}
use Rattle.ack_buffer.specs.Buffer.{BufferView, StandsFor, item_at, produced_on, trimmed}

-- one more item was produced
one_more : (b : BufferView) (all : List Item) (item : Item) → StandsFor b all → b.produced + 1 ≡ length (all ++ item ∷ [])
one_more b all item stands = simp length-append (ap (λ n. n + 1) stands.produced)

produced_by : (b : BufferView) (all : List Item) (item : Item) (t : Bool) → nat_le (b.produced + 1) b.low ≡ t → StandsFor b all
    → StandsFor (if t then record b { produced = b.produced + 1 } else record b { produced = b.produced + 1; items = b.items ++ item ∷ []; spare = b.spare - 1 }) (all ++ item ∷ [])
produced_by b all item true test stands =
    let past : b.produced + 1 ≤ b.low = leb-true _ _ test in
    let count : b.produced ≡ length all = stands.produced in
    let more : b.produced + 1 ≡ length (all ++ item ∷ []) = one_more b all item stands in
    record {
      produced = more;
      items = stands.items ∙ drop_all b.low all (omega arith) ∙ sym (drop_all b.low (all ++ item ∷ []) (omega arith));
    }
produced_by b all item false test stands =
    let within : b.low < b.produced + 1 = leb-false _ _ test in
    let count : b.produced ≡ length all = stands.produced in
    record {
      produced = one_more b all item stands;
      items = ap (λ items. items ++ item ∷ []) stands.items ∙ sym (drop-append-le b.low all (item ∷ []) (omega arith));
    }

pub produced_stands : (b : BufferView) (all : List Item) (item : Item) → StandsFor b all → StandsFor (produced_on b item) (all ++ item ∷ [])
produced_stands b all item stands = produced_by b all item (nat_le (b.produced + 1) b.low) refl stands

-- items were acknowledged
pub trimmed_stands : (b : BufferView) (all : List Item) (upto : ℕ) → StandsFor b all → StandsFor (trimmed b upto) all
trimmed_stands b all upto stands = record {
  produced = stands.produced;
  items = ap (drop (upto - b.low)) stands.items ∙ drop-drop (upto - b.low) b.low all
      ∙ ap (λ n. drop n all) (let higher : b.low + (upto - b.low) ≡ max b.low upto = omega arith in higher);
}

-- what stands at a place of the rest of a list
slice_get-drop : (n k : ℕ) (items : List Item) → slice_get (drop n items) k ≡ slice_get items (n + k)
slice_get-drop zero k items = ap (slice_get items) (let same : k ≡ 0 + k = omega arith in same)
slice_get-drop (suc n) k [] = refl
slice_get-drop (suc n) k (x ∷ items) = slice_get-drop n k items ∙ ap (slice_get (x ∷ items)) (let same : suc (n + k) ≡ suc n + k = omega arith in same)

-- what is found under a number above low is the item that was produced with it
found_by : (b : BufferView) (all : List Item) (number : ℕ) (t : Bool) → nat_le number b.low ≡ t → StandsFor b all → b.low < number
    → (if t then None else slice_get b.items (number - b.low - 1)) ≡ slice_get all (number - 1)
found_by b all number true test stands above = let past : number ≤ b.low = leb-true _ _ test in absurd (omega arith)
found_by b all number false test stands above =
    ap (λ items. slice_get items (number - b.low - 1)) stands.items ∙ slice_get-drop b.low (number - b.low - 1) all
    ∙ ap (slice_get all) (let same : b.low + (number - b.low - 1) ≡ number - 1 = omega arith in same)

pub item_at-stands : (b : BufferView) (all : List Item) (number : ℕ) → StandsFor b all → b.low < number → item_at b number ≡ slice_get all (number - 1)
item_at-stands b all number stands above = found_by b all number (nat_le number b.low) refl stands above
