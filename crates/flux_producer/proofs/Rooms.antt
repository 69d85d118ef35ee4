-- Edges that were given more room.
use Rattle.std.proofs.Common.{◌≡◌, ℕ, zero, suc, ◌+◌, ◌-◌, ◌<◌, ◌≤◌, ◌⊎◌, inl, inr, Bool, true, false, refl, sym, ◌∙◌, ap, subst, arith, length-append}
use Rattle.std.specs.Prelude.{List, [], ◌∷◌, ◌++◌, drop, if◌then◌else◌, length, map, nat_le, take, slice_index_or}
use Rattle.std.proofs.lemmas.List.{length-map}
use Rattle.tuple_edge.specs.declared.item.Item.{Item}
use Rattle.ack_buffer.specs.Buffer as buffer
use Rattle.flux_producer.specs.OutEdge.{OutEdgeView, unused, with_item}
use Rattle.flux_producer.specs.ProducerView.{EachMayHave, HasRoom, HaveMoreRoom, MayGrow, MayHave, without_room}

-- the first so many edges were given room for so many more items, and stand in `roomy`
pub record HaveMore (edges roomy : List OutEdgeView) (count items : ℕ) : Type 0 where
  pub len : length roomy ≡ count
  pub contents : map without_room roomy ≡ map without_room (take count edges)
  pub room : (t : ℕ) → t < count → items ≤ (slice_index_or roomy t unused).buffer.spare
  pub kept : (t : ℕ) → t < count → (slice_index_or edges t unused).buffer.spare ≤ (slice_index_or roomy t unused).buffer.spare

-- what stands at a place of a list with one more
at_end : {A : Type 0} (xs : List A) (x : A) (t : ℕ) (d : A) → t < length xs + 1
    → ((t < length xs) × (slice_index_or (xs ++ x ∷ []) t d ≡ slice_index_or xs t d)) ⊎ ((t ≡ length xs) × (slice_index_or (xs ++ x ∷ []) t d ≡ x))
at_end [] x zero d h = inr (refl, refl)
at_end [] x (suc t) d h = absurd (omega arith)
at_end (y ∷ xs) x zero d h = inl (omega arith, refl)
at_end (y ∷ xs) x (suc t) d h = elim (at_end xs x t d (omega arith)) [ inl l ↦ inl (omega (arith, l.0), l.1) | inr e ↦ inr (ap suc e.0, e.1) ]

-- the front of a list with the next one
front_next : {A : Type 0} (xs : List A) (n : ℕ) (d : A) → n < length xs → take (n + 1) xs ≡ take n xs ++ slice_index_or xs n d ∷ []
front_next [] n d h = absurd (omega arith)
front_next (x ∷ xs) zero d h = refl
front_next (x ∷ xs) (suc n) d h =
    ap (λ k. take k (x ∷ xs)) (let e : suc n + 1 ≡ suc (n + 1) = omega arith in e) ∙ ap (λ ys. x ∷ ys) (front_next xs n d (omega arith))

map_end : {A B : Type 0} (f : A → B) (xs : List A) (x : A) → map f (xs ++ x ∷ []) ≡ map f xs ++ f x ∷ []
map_end f [] x = refl
map_end f (y ∷ xs) x = ap (λ ys. f y ∷ ys) (map_end f xs x)

-- one more edge is given room
pub HaveMore-next : (edges roomy : List OutEdgeView) (count items : ℕ) (e : OutEdgeView) → HaveMore edges roomy count items → count < length edges
    → without_room e ≡ without_room (slice_index_or edges count unused) → items ≤ e.buffer.spare → (slice_index_or edges count unused).buffer.spare ≤ e.buffer.spare
    → HaveMore edges (roomy ++ e ∷ []) (count + 1) items
HaveMore-next edges roomy count items e had inside same enough more = record {
  len = omega (arith, length-append roomy (e ∷ []), had.len);
  contents = map_end without_room roomy e ∙ (λ i. had.contents i ++ same i ∷ [])
      ∙ sym (map_end without_room (take count edges) (slice_index_or edges count unused)) ∙ ap (map without_room) (sym (front_next edges count unused inside));
  room = λ t below. elim (at_end roomy e t unused (omega (arith, had.len))) [
    | inl l ↦ subst (λ (z : OutEdgeView). items ≤ z.buffer.spare) (sym l.1) (had.room t (omega (arith, l.0, had.len)))
    | inr h ↦ subst (λ (z : OutEdgeView). items ≤ z.buffer.spare) (sym h.1) enough
  ];
  kept = λ t below. elim (at_end roomy e t unused (omega (arith, had.len))) [
    | inl l ↦ subst (λ (z : OutEdgeView). (slice_index_or edges t unused).buffer.spare ≤ z.buffer.spare) (sym l.1) (had.kept t (omega (arith, l.0, had.len)))
    | inr h ↦ subst (λ (z : OutEdgeView). (slice_index_or edges t unused).buffer.spare ≤ z.buffer.spare) (sym h.1)
        (subst (λ n. (slice_index_or edges n unused).buffer.spare ≤ e.buffer.spare) (let here : count ≡ t = omega (arith, h.0, had.len) in here) more)
  ];
}

-- ---- standing for what was produced

-- edges that differ in room alone hold the same
edge_without : (one other : List OutEdgeView) → map without_room one ≡ map without_room other → (t : ℕ)
    → without_room (slice_index_or one t unused) ≡ without_room (slice_index_or other t unused)
edge_without [] [] e t = refl
edge_without [] (y ∷ other) e t = let z : ⊥ = cc e in absurd z
edge_without (x ∷ one) [] e t = let z : ⊥ = cc e in absurd z
edge_without (x ∷ one) (y ∷ other) e zero = let z : without_room x ≡ without_room y = cc e in z
edge_without (x ∷ one) (y ∷ other) e (suc t) = edge_without one other (let z : map without_room one ≡ map without_room other = cc e in z) t

without_stands : (one other : OutEdgeView) (all : List Item) → without_room other ≡ without_room one → buffer.StandsFor one.buffer all → buffer.StandsFor other.buffer all
without_stands one other all same s = record {
  produced = ap (λ (z : OutEdgeView). z.buffer.produced) same ∙ s.produced;
  items = ap (λ (z : OutEdgeView). z.buffer.items) same ∙ s.items ∙ ap (λ (z : OutEdgeView). drop z.buffer.low all) (sym same);
}

pub roomy_stands : (edges roomy : List OutEdgeView) (items : ℕ) (all : ℕ → List Item) → HaveMoreRoom edges roomy items
    → ((t : ℕ) → t < length edges → buffer.StandsFor (slice_index_or edges t unused).buffer (all t))
    → (t : ℕ) → t < length roomy → buffer.StandsFor (slice_index_or roomy t unused).buffer (all t)
roomy_stands edges roomy items all more stands t below =
    without_stands (slice_index_or edges t unused) (slice_index_or roomy t unused) (all t) (edge_without roomy edges more.contents t) (stands t (omega (arith, more.len)))

-- ---- the room that a producer knows of

-- where each edge has room for some items and may produce them, it may have them
pub each_may : (edges : List OutEdgeView) (items : ℕ) → HasRoom edges items → MayGrow edges items → EachMayHave edges items
each_may edges items room grows t below = record { room = room t below; fits = λ some. grows t below }

-- the edges, each of which changes
pub each_after : (f : OutEdgeView → OutEdgeView) (edges : List OutEdgeView) (items less : ℕ) → EachMayHave edges items
    → ((e : OutEdgeView) → MayHave e items → MayHave (f e) less) → EachMayHave (map f edges) less
each_after f [] items less each after t below = absurd (omega arith)
each_after f (x ∷ edges) items less each after zero below = after x (each zero (omega arith))
each_after f (x ∷ edges) items less each after (suc t) below = each_after f edges items less (λ u l. each (suc u) (omega arith)) after t (omega arith)

one_fewer_by : (e : OutEdgeView) (item : Item) (items : ℕ) (acknowledged : Bool) → MayHave e items
    → MayHave (record e {
      buffer =
          if acknowledged
          then record e.buffer { produced = e.buffer.produced + 1 }
          else record e.buffer { produced = e.buffer.produced + 1; items = e.buffer.items ++ item ∷ []; spare = e.buffer.spare - 1 };
    }) (items - 1)
one_fewer_by e item items true may = record { room = let h = may.room in omega arith; fits = λ some. let h = may.fits (omega arith) in omega arith }
one_fewer_by e item items false may = record { room = let h = may.room in omega arith; fits = λ some. let h = may.fits (omega arith) in omega arith }

-- after an item was produced an edge may have one fewer
pub one_fewer : (e : OutEdgeView) (item : Item) (items : ℕ) → MayHave e items → MayHave (with_item e item) (items - 1)
one_fewer e item items may = one_fewer_by e item items (nat_le (e.buffer.produced + 1) e.buffer.low) may

-- edges that differ in room alone have produced the same
same_made : (one other : List OutEdgeView) → map without_room other ≡ map without_room one → (t : ℕ) → (slice_index_or other t unused).buffer.produced ≡ (slice_index_or one t unused).buffer.produced
same_made one other same t = ap (λ (e : OutEdgeView). e.buffer.produced) (edge_without other one same t)

-- edges that were given more room
pub each_kept : (edges roomy : List OutEdgeView) (more items : ℕ) → HaveMoreRoom edges roomy more → EachMayHave edges items → EachMayHave roomy items
each_kept edges roomy more items given each t below =
    let made = same_made edges roomy given.contents t in
    let may = each t (omega (arith, given.len)) in
    record {
      room = let enough = may.room in let kept = given.kept t (omega (arith, given.len)) in omega arith;
      fits = λ some. let grows = may.fits some in omega arith;
    }

-- edges that differ in room alone may grow alike
pub grows_alike : (one other : List OutEdgeView) (items : ℕ) → map without_room other ≡ map without_room one → MayGrow one items → MayGrow other items
grows_alike one other items same grows t below =
    let many : length other ≡ length one = sym (length-map other without_room) ∙ ap length same ∙ length-map one without_room in
    let made = same_made one other same t in
    let may = grows t (omega arith) in omega arith
