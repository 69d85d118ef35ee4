-- One out-edge, after each of its changes, stands for the numbers that the machine then has.
use Rattle.std.proofs.Common.{◌≡◌, ◌<◌, ◌≤◌, ◌+◌, ◌-◌, ℕ, zero, suc, Bool, true, false, List, [], ◌∷◌, ◌++◌, None, Some, drop, take, max, refl, sym, ap, ◌∙◌, subst, arith}
use Rattle.std.specs.Prelude.{◌==◌, if◌then◌else◌, min, map, nat_le, slice_get, slice_index, slice_set}
use Rattle.std.proofs.lemmas.Bool.{leb-true, leb-false}
use Rattle.std.proofs.lemmas.List.{drop-drop}
use Rattle.tuple_edge.specs.declared.item.Item.{Item}
use Rattle.flux_producer.specs.Limits.{max_copies}
use Rattle.ack_buffer.specs.Buffer.{BufferView, produced_on, trimmed}
use Rattle.ack_buffer.specs.Buffer as buffer
use Rattle.flux_producer.specs.OutEdge.{OutEdgeView, acknowledged, cursor_of, over, rewound, sent, wanted, with_item}
use Rattle.merge_order.specs.Edges.{item_at}
use Rattle.merge_order.proofs.AfterNext.{front_more}
use Rattle.pair_machine.specs.Contents.{between}
use Rattle.std.proofs.Common.{length}
use Rattle.node_edges.specs.OutEdges.{EdgeStands, with_items}
use Rattle.flux_producer.specs.ProducerView.{without_room}
use Rattle.std.proofs.lemmas.Option.{slice_get_within}
use Rattle.std.proofs.lemmas.List.{append-nil, length-take-le, append_assoc}

-- ---- lists

take_none : {X : Type 0} (k : ℕ) (xs : List X) → xs ≡ [] → take k xs ≡ []
take_none zero xs e = refl
take_none (suc k) xs e = ap (take (suc k)) e

-- the front of a list, without its first items
drop_take : {X : Type 0} (n m : ℕ) (xs : List X) → drop n (take m xs) ≡ take (m - n) (drop n xs)
drop_take zero m xs = let e : m ≡ m - 0 = omega arith in ap (λ k. take k xs) e
drop_take (suc n) zero xs = let e : zero - suc n ≡ 0 = omega arith in rw e refl
drop_take (suc n) (suc m) [] = sym (take_none (suc m - suc n) [] refl)
drop_take (suc n) (suc m) (x ∷ xs) = let e : suc m - suc n ≡ m - n = omega arith in drop_take n m xs ∙ ap (λ k. take k (drop n xs)) (sym e)

-- what stands at a place of the rest, and of the front
at_drop : {X : Type 0} (n k : ℕ) (xs : List X) → slice_get (drop n xs) k ≡ slice_get xs (n + k)
at_drop zero k xs = ap (slice_get xs) (let same : k ≡ 0 + k = omega arith in same)
at_drop (suc n) k [] = refl
at_drop (suc n) k (x ∷ xs) = at_drop n k xs ∙ ap (slice_get (x ∷ xs)) (let same : suc (n + k) ≡ suc n + k = omega arith in same)

at_take : {X : Type 0} (n k : ℕ) (xs : List X) (x : X) → slice_get (take n xs) k ≡ Some x → slice_get xs k ≡ Some x
at_take zero k xs x e = let z : ⊥ = cc e in absurd z
at_take (suc n) k [] x e = e
at_take (suc n) zero (y ∷ xs) x e = e
at_take (suc n) (suc k) (y ∷ xs) x e = at_take n k xs x e

-- ---- acknowledging

between_acked : (low upto made : ℕ) (edge : List Item) → drop (upto - low) (between low made edge) ≡ between (max low upto) made edge
between_acked low upto made edge =
    let further : low + (upto - low) ≡ max low upto = omega arith in
    let left : (made - low) - (upto - low) ≡ made - max low upto = omega arith in
    drop_take (upto - low) (made - low) (drop low edge) ∙ ap (λ n. take n (drop (upto - low) (drop low edge))) left
    ∙ ap (take (made - max low upto)) (drop-drop (upto - low) low edge ∙ ap (λ n. drop n edge) further)

pub acked_stands : (edge : List Item) (made low upto : ℕ) (cursors : ℕ → ℕ) (e : OutEdgeView) → EdgeStands edge made low cursors e
    → EdgeStands edge made (max low upto) (λ c. max (cursors c) (max low upto + 1)) (acknowledged e upto)
acked_stands edge made low upto cursors e s = record {
  low = ap (λ n. max n upto) s.low;
  produced = s.produced;
  kept = (λ i. drop (upto - s.low i) (s.kept i)) ∙ between_acked low upto made edge;
  cursors = (λ i. map (max (max (s.low i) upto + 1)) (s.cursors i)) ∙ (λ i. swapped 0 i ∷ swapped 1 i ∷ swapped 2 i ∷ []);
}
  where
    swapped : (c : ℕ) → max (max low upto + 1) (cursors c) ≡ max (cursors c) (max low upto + 1)
    swapped c = omega arith

-- ---- a want

pub wanted_stands : (edge : List Item) (made low from : ℕ) (cursors : ℕ → ℕ) (c : ℕ) (e : OutEdgeView) → c < max_copies → EdgeStands edge made low cursors e
    → EdgeStands edge made low (λ d. if d == c then min (cursors c) (max from (low + 1)) else cursors d) (wanted e c from)
wanted_stands edge made low from cursors zero e l s = record {
  low = s.low;
  produced = s.produced;
  kept = s.kept;
  cursors = λ i. slice_set (s.cursors i) 0 (min (cursor_of (record e { cursors = s.cursors i }) 0) (max from (s.low i + 1)));
}
wanted_stands edge made low from cursors (suc zero) e l s = record {
  low = s.low;
  produced = s.produced;
  kept = s.kept;
  cursors = λ i. slice_set (s.cursors i) 1 (min (cursor_of (record e { cursors = s.cursors i }) 1) (max from (s.low i + 1)));
}
wanted_stands edge made low from cursors (suc (suc zero)) e l s = record {
  low = s.low;
  produced = s.produced;
  kept = s.kept;
  cursors = λ i. slice_set (s.cursors i) 2 (min (cursor_of (record e { cursors = s.cursors i }) 2) (max from (s.low i + 1)));
}
wanted_stands edge made low from cursors (suc (suc (suc c))) e l s = absurd (omega arith)

-- ---- a new leader

pub rewound_stands : (edge : List Item) (made low : ℕ) (cursors : ℕ → ℕ) (e : OutEdgeView) → EdgeStands edge made low cursors e
    → EdgeStands edge made low (λ c. low + 1) (rewound e)
rewound_stands edge made low cursors e s = record {
  low = s.low;
  produced = s.produced;
  kept = s.kept;
  cursors = λ i. (s.low i + 1) ∷ (s.low i + 1) ∷ (s.low i + 1) ∷ [];
}

-- ---- starting

-- an edge over a buffer that holds what is above low of the items made
pub over_stands : (edge : List Item) (made low : ℕ) (b : BufferView) → b.low ≡ low → made ≤ length edge → buffer.StandsFor b (take made edge)
    → EdgeStands edge made low (λ c. low + 1) (over b)
over_stands edge made low b at most s = record {
  low = at;
  produced = s.produced ∙ length-take-le made edge most;
  kept = s.items ∙ ap (λ n. drop n (take made edge)) at ∙ drop_take low made edge;
  cursors = λ i. (at i + 1) ∷ (at i + 1) ∷ (at i + 1) ∷ [];
}

-- ---- sending

pub sent_stands : (edge : List Item) (made low : ℕ) (cursors : ℕ → ℕ) (c : ℕ) (e : OutEdgeView) → c < max_copies → EdgeStands edge made low cursors e
    → EdgeStands edge made low (λ d. if d == c then cursors c + 1 else cursors d) (sent e c)
sent_stands edge made low cursors zero e l s = record {
  low = s.low;
  produced = s.produced;
  kept = s.kept;
  cursors = λ i. slice_set (s.cursors i) 0 (cursor_of (record e { cursors = s.cursors i }) 0 + 1);
}
sent_stands edge made low cursors (suc zero) e l s = record {
  low = s.low;
  produced = s.produced;
  kept = s.kept;
  cursors = λ i. slice_set (s.cursors i) 1 (cursor_of (record e { cursors = s.cursors i }) 1 + 1);
}
sent_stands edge made low cursors (suc (suc zero)) e l s = record {
  low = s.low;
  produced = s.produced;
  kept = s.kept;
  cursors = λ i. slice_set (s.cursors i) 2 (cursor_of (record e { cursors = s.cursors i }) 2 + 1);
}
sent_stands edge made low cursors (suc (suc (suc c))) e l s = absurd (omega arith)

-- the number to send next to a replica
pub cursor_is : (next : ℕ → ℕ) (e : OutEdgeView) (c : ℕ) → c < max_copies → e.cursors ≡ next 0 ∷ next 1 ∷ next 2 ∷ [] → cursor_of e c ≡ next c
cursor_is next e zero l s = ap (λ cs. slice_index cs 0) s
cursor_is next e (suc zero) l s = ap (λ cs. slice_index cs 1) s
cursor_is next e (suc (suc zero)) l s = ap (λ cs. slice_index cs 2) s
cursor_is next e (suc (suc (suc c))) l s = absurd (omega arith)

-- what a buffer holds under a number is the item of that number
number_in : (low made number : ℕ) (edge : List Item) (b : Bool) → nat_le number low ≡ b → (i : Item)
    → (if b then None else slice_get (between low made edge) (number - low - 1)) ≡ Some i → item_at edge number ≡ Some i
number_in low made number edge true test i e = let z : ⊥ = cc e in absurd z
number_in low made zero edge false test i e = let above : low < zero = leb-false zero low test in absurd (omega arith)
number_in low made (suc n) edge false test i e =
    let above : low < suc n = leb-false (suc n) low test in
    let place : low + (suc n - low - 1) ≡ n = omega arith in
    sym (at_drop low (suc n - low - 1) edge ∙ ap (slice_get edge) place) ∙ at_take (made - low) (suc n - low - 1) (drop low edge) i e

pub held_is : (edge : List Item) (made low : ℕ) (cursors : ℕ → ℕ) (e : OutEdgeView) (number : ℕ) (i : Item) → EdgeStands edge made low cursors e
    → buffer.item_at e.buffer number ≡ Some i → item_at edge number ≡ Some i
held_is edge made low cursors e number i s found =
    number_in low made number edge (nat_le number low) refl i
    (subst (λ o. o ≡ Some i) (λ j. if nat_le number (s.low j) then None else slice_get (s.kept j) (number - s.low j - 1)) found)

-- ---- making

made_by_test : (edge : List Item) (made low : ℕ) (cursors : ℕ → ℕ) (e : OutEdgeView) (i : Item) (b : Bool) → nat_le (made + 1) low ≡ b → EdgeStands edge made low cursors e
    → slice_get edge made ≡ Some i
    → EdgeStands edge (made + 1) low cursors (record e {
      buffer = if b then record e.buffer { produced = e.buffer.produced + 1 }
          else record e.buffer { produced = e.buffer.produced + 1; items = e.buffer.items ++ i ∷ []; spare = e.buffer.spare - 1 };
    })
made_by_test edge made low cursors e i true test s at =
    let past : made + 1 ≤ low = leb-true (made + 1) low test in
    let none : made - low ≡ 0 = omega arith in
    let none_still : made + 1 - low ≡ 0 = omega arith in
    record {
      low = s.low;
      produced = ap (λ n. n + 1) s.produced;
      kept = s.kept ∙ ap (λ n. take n (drop low edge)) (none ∙ sym none_still);
      cursors = s.cursors;
    }
made_by_test edge made low cursors e i false test s at =
    let within : low < made + 1 = leb-false (made + 1) low test in
    let place : low + (made - low) ≡ made = omega arith in
    let one_more : suc (made - low) ≡ made + 1 - low = omega arith in
    record {
      low = s.low;
      produced = ap (λ n. n + 1) s.produced;
      kept = ap (λ items. items ++ i ∷ []) s.kept
          ∙ sym (front_more (made - low) (drop low edge) i (at_drop low (made - low) edge ∙ ap (slice_get edge) place ∙ at))
          ∙ ap (λ n. take n (drop low edge)) one_more;
      cursors = s.cursors;
    }

pub made_stands : (edge : List Item) (made low : ℕ) (cursors : ℕ → ℕ) (e : OutEdgeView) (i : Item) → EdgeStands edge made low cursors e
    → item_at edge (made + 1) ≡ Some i → EdgeStands edge (made + 1) low cursors (with_item e i)
made_stands edge made low cursors e i s at =
    let next : made + 1 ≡ suc made = omega arith in
    let here : slice_get edge made ≡ Some i = subst (λ n. item_at edge n ≡ Some i) next at in
    subst (λ b. EdgeStands edge (made + 1) low cursors (record e {
      buffer = if b then record e.buffer { produced = e.buffer.produced + 1 }
          else record e.buffer { produced = e.buffer.produced + 1; items = e.buffer.items ++ i ∷ []; spare = e.buffer.spare - 1 };
    }))
    (λ j. nat_le (sym s.produced j + 1) (sym s.low j)) (made_by_test edge made low cursors e i (nat_le (made + 1) low) refl s here)

-- ---- several items

-- edges that differ in room alone stand for the same
pub without_stands : (edge : List Item) (made low : ℕ) (cursors : ℕ → ℕ) (e other : OutEdgeView) → without_room other ≡ without_room e → EdgeStands edge made low cursors e
    → EdgeStands edge made low cursors other
without_stands edge made low cursors e other same s = record {
  low = ap (λ (z : OutEdgeView). z.buffer.low) same ∙ s.low;
  produced = ap (λ (z : OutEdgeView). z.buffer.produced) same ∙ s.produced;
  kept = ap (λ (z : OutEdgeView). z.buffer.items) same ∙ s.kept;
  cursors = ap (λ (z : OutEdgeView). z.cursors) same ∙ s.cursors;
}

-- each next item stands at its number
front_at : (items front news : List Item) (i : Item) (later : ℕ) → take later items ≡ front ++ i ∷ news → slice_get items (length front) ≡ Some i
front_at items [] news i zero e = let z : ⊥ = cc e in absurd z
front_at [] [] news i (suc later) e = let z : ⊥ = cc e in absurd z
front_at (x ∷ items) [] news i (suc later) e = let z : x ≡ i = cc e in ap (λ y. Some y) z
front_at items (y ∷ front) news i zero e = let z : ⊥ = cc e in absurd z
front_at [] (y ∷ front) news i (suc later) e = let z : ⊥ = cc e in absurd z
front_at (x ∷ items) (y ∷ front) news i (suc later) e = front_at items front news i later (let z : take later items ≡ front ++ i ∷ news = cc e in z)

pub more_stands : (edge : List Item) (made later low : ℕ) (cursors : ℕ → ℕ) (e : OutEdgeView) (news : List Item) → made ≤ length edge → later ≤ length edge
    → take later edge ≡ take made edge ++ news → EdgeStands edge made low cursors e → EdgeStands edge later low cursors (with_items e news)
more_stands edge made later low cursors e [] some most front s =
    let same : later ≡ made = omega (arith, length-take-le later edge most, length-take-le made edge some, ap length (front ∙ append-nil (take made edge))) in
    subst (λ n. EdgeStands edge n low cursors e) (sym same) s
more_stands edge made later low cursors e (i ∷ news) some most front s =
    let at_front = front_at edge (take made edge) news i later front in
    let at : slice_get edge made ≡ Some i = subst (λ n. slice_get edge n ≡ Some i) (length-take-le made edge some) at_front in
    let next : made + 1 ≡ suc made = omega arith in
    let within = slice_get_within edge made i at in
    more_stands edge (made + 1) later low cursors (with_item e i) news (omega arith) most
    (front ∙ sym (append_assoc (take made edge) (i ∷ []) news) ∙ ap (λ xs. xs ++ news) (sym (front_more made edge i at) ∙ ap (λ n. take n edge) (sym next)))
    (made_stands edge made low cursors e i s (subst (λ n. item_at edge n ≡ Some i) (sym next) at))

-- ---- what is held

some_at : {X : Type 0} (xs : List X) (k : ℕ) → k < length xs → (x : X) × (slice_get xs k ≡ Some x)
some_at [] k l = absurd (omega arith)
some_at (x ∷ xs) zero l = (x, refl)
some_at (x ∷ xs) (suc k) l = some_at xs k (omega arith)

into_take : {X : Type 0} (n k : ℕ) (xs : List X) (x : X) → k < n → slice_get xs k ≡ Some x → slice_get (take n xs) k ≡ Some x
into_take zero k xs x l e = absurd (omega arith)
into_take (suc n) k [] x l e = e
into_take (suc n) zero (y ∷ xs) x l e = e
into_take (suc n) (suc k) (y ∷ xs) x l e = into_take n k xs x (omega arith) e

held_there : (edge : List Item) (made low number : ℕ) (b : Bool) → nat_le number low ≡ b → low < number → number ≤ made → made ≤ length edge
    → (i : Item) × ((if b then None else slice_get (between low made edge) (number - low - 1)) ≡ Some i)
held_there edge made low number true test above below long = let at_most = leb-true number low test in absurd (omega arith)
held_there edge made low number false test above below long =
    let one = some_at edge (number - 1) (omega arith) in
    let place : low + (number - low - 1) ≡ number - 1 = omega arith in
    (one.0, into_take (made - low) (number - low - 1) (drop low edge) one.0 (omega arith) (at_drop low (number - low - 1) edge ∙ ap (slice_get edge) place ∙ one.1))

pub is_held : (edge : List Item) (made low : ℕ) (cursors : ℕ → ℕ) (e : OutEdgeView) (number : ℕ) → EdgeStands edge made low cursors e → low < number → number ≤ made → made ≤ length edge
    → (i : Item) × (buffer.item_at e.buffer number ≡ Some i)
is_held edge made low cursors e number s above below long =
    let h = held_there edge made low number (nat_le number low) refl above below long in
    (h.0, (λ j. if nat_le number (s.low j) then None else slice_get (s.kept j) (number - s.low j - 1)) ∙ h.1)
