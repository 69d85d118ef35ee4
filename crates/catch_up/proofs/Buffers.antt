-- Buffers, their room left aside.
use Rattle.std.proofs.Common.{◌≡◌, ℕ, zero, suc, ◌+◌, Bool, true, false, List, [], ◌∷◌, map, refl, sym, ap, ◌∙◌, ◌<◌, length, arith, slice_index_or, slice_set}
use Rattle.std.specs.Prelude.{nat_le}
use Rattle.tuple_edge.specs.declared.item.Item.{Item}
use Rattle.ack_buffer.specs.Buffer.{BufferView, produced_on}
use Rattle.flux_producer.specs.OutEdge.{over}
use Rattle.flux_producer.specs.ProducerView.{without_room}
use Rattle.catch_up.specs.Rebuild.{buffer_of, without_spare}

produced_same : (b : BufferView) (item : Item) → without_spare (produced_on b item) ≡ without_spare (produced_on (without_spare b) item)
produced_same b item = by_test (nat_le (b.produced + 1) b.low) refl
  where
    by_test : (t : Bool) → nat_le (b.produced + 1) b.low ≡ t → without_spare (produced_on b item) ≡ without_spare (produced_on (without_spare b) item)
    by_test true is = rw is refl
    by_test false is = rw is refl

map_set : {X Y : Type 0} (f : X → Y) (xs : List X) (i : ℕ) (y : X) → map f (slice_set xs i y) ≡ slice_set (map f xs) i (f y)
map_set f [] i y = refl
map_set f (x ∷ xs) zero y = refl
map_set f (x ∷ xs) (suc i) y = ap (λ zs. f x ∷ zs) (map_set f xs i y)

map_at : (bs : List BufferView) (t : ℕ) → buffer_of (map without_spare bs) t ≡ without_spare (buffer_of bs t)
map_at [] zero = refl
map_at [] (suc t) = refl
map_at (b ∷ bs) zero = refl
map_at (b ∷ bs) (suc t) = map_at bs t

-- an item produced on one of them
pub set_buffer : (bs : List BufferView) (t : ℕ) (new : BufferView) (item : Item) → without_spare new ≡ without_spare (produced_on (buffer_of bs t) item)
    → map without_spare (slice_set bs t new) ≡ slice_set (map without_spare bs) t (without_spare (produced_on (buffer_of (map without_spare bs) t) item))
set_buffer bs t new item is =
    map_set without_spare bs t new
    ∙ ap (slice_set (map without_spare bs) t)
    (is ∙ produced_same (buffer_of bs t) item ∙ ap (λ b. without_spare (produced_on b item)) (sym (map_at bs t)))

-- a buffer that was found at its place
pub found : (bs : List BufferView) (t : ℕ) (b : BufferView) → t < length (map without_spare bs) → b ≡ slice_index_or bs t b → b ≡ buffer_of bs t
found [] t b inside is = absurd (omega (arith, inside))
found (x ∷ bs) zero b inside is = is
found (x ∷ bs) (suc t) b inside is = found bs t b (omega (arith, inside)) is

-- a producer's contents say nothing of room
pub contents_over : (bs cs : List BufferView) → map without_spare bs ≡ cs → map without_room (map over bs) ≡ map without_room (map over cs)
contents_over bs cs is = each bs ∙ ap (λ xs. map without_room (map over xs)) is
  where
    each : (bs : List BufferView) → map without_room (map over bs) ≡ map without_room (map over (map without_spare bs))
    each [] = refl
    each (b ∷ bs) = ap (λ es. without_room (over b) ∷ es) (each bs)
