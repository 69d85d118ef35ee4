-- Rows of a key, with their places and without.
use Rattle.std.proofs.Common.{◌≡◌, Bool, true, false, List, [], ◌∷◌, map, refl, ap, ◌∙◌}
use Rattle.std.specs.Prelude.{All}
use Rattle.std.specs.List.{filter}
use Rattle.std.proofs.lemmas.List.Elements.{All-head, All-tail, filter_passes}
use Rattle.tuple_edge.specs.declared.item.Item.TheVariants as item
use Rattle.tuple_edge.specs.declared.row.Key.{Key}
use Rattle.tuple_edge.specs.declared.row.Row.{Row}
use Rattle.op_spec.specs.Keys.{is_key, key_of}
use Rattle.op_spec.specs.declared.spec.By.{By}
use Rattle.stream_ops.specs.Rows.{rows_of, rows_with}
use Rattle.row_cause.specs.Causes.{items_in, of_key, rows_in}
use Rattle.row_cause.specs.declared.placed.Placed.{Placed}

-- a filter of what a function gives
filter_map_by : {X Y : Type 0} (f : X → Y) (p : Y → Bool) (x : X) (xs : List X) (t : Bool) → p (f x) ≡ t → filter p (map f xs) ≡ map f (filter (λ x. p (f x)) xs)
    → filter p (map f (x ∷ xs)) ≡ map f (filter (λ x. p (f x)) (x ∷ xs))
filter_map_by f p x xs true is later = rw is (ap (λ ys. f x ∷ ys) later)
filter_map_by f p x xs false is later = rw is later

pub filter_mapped : {X Y : Type 0} (f : X → Y) (p : Y → Bool) (xs : List X) → filter p (map f xs) ≡ map f (filter (λ x. p (f x)) xs)
filter_mapped f p [] = refl
filter_mapped f p (x ∷ xs) = filter_map_by f p x xs (p (f x)) refl (filter_mapped f p xs)

-- where all pass, all stay
pub all_stay : {X : Type 0} (p : X → Bool) (xs : List X) → All (λ x. p x ≡ true) xs → filter p xs ≡ xs
all_stay p [] h = refl
all_stay p (x ∷ xs) h = rw (All-head (λ x. p x ≡ true) x xs h) (ap (λ ys. x ∷ ys) (all_stay p xs (All-tail (λ x. p x ≡ true) x xs h)))

-- a row is of a key
abbrev pub IsOfKey : By → Key → Placed → Type 0
IsOfKey by k x = is_key (key_of by x.row) k ≡ true

pub all_of_key : (by : By) (k : Key) (placed : List Placed) → All (IsOfKey by k) (of_key by k placed)
all_of_key by k placed = filter_passes (λ x. is_key (key_of by x.row) k) placed

pub rows_of-items : (rows : List Row) → rows_of (map (item.Row 0) rows) ≡ rows
rows_of-items [] = refl
rows_of-items (r ∷ rows) = ap (λ x. r ∷ x) (rows_of-items rows)

-- the rows of a key are those of the placed ones of that key
pub with_key : (by : By) (k : Key) (placed : List Placed) → rows_with by (items_in placed) k ≡ rows_in (of_key by k placed)
with_key by k placed =
    ap (filter (λ r. is_key (key_of by r) k)) (rows_of-items (rows_in placed)) ∙ filter_mapped (λ (x : Placed). x.row) (λ r. is_key (key_of by r) k) placed

-- among rows of one key these are all
pub with_own_key : (by : By) (k : Key) (placed : List Placed) → All (IsOfKey by k) placed → rows_with by (items_in placed) k ≡ rows_in placed
with_own_key by k placed h = with_key by k placed ∙ ap rows_in (all_stay (λ x. is_key (key_of by x.row) k) placed h)
