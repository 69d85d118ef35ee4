-- Each row that answers the end is the answer over the rows of its cause alone.
use Rattle.std.proofs.Common.{ℤ, ◌≡◌, ◌⊎◌, Bool, true, false, List, [], ◌∷◌, fold, map, refl, sym, ap, subst, ◌∙◌, inl, inr}
use Rattle.std.specs.Prelude.{All}
use Rattle.std.specs.declared.cmp.Ordering.{Ordering}
use Rattle.std.specs.declared.cmp.Ordering.TheVariants.{Less, Equal, Greater}
use Rattle.std.proofs.lemmas.List.Elements.{All-cons, All-head, All-nil, All-tail}
use Rattle.tuple_edge.specs.declared.row.Key.{Key}
use Rattle.tuple_edge.specs.declared.row.Row.{Row}
use Rattle.op_spec.specs.Keys.{is_key, key_cmp, key_of}
use Rattle.op_spec.specs.declared.spec.By.{By}
use Rattle.op_spec.specs.declared.spec.OpSpec.TheVariants as op
use Rattle.stream_ops.specs.Answers.{window_row}
use Rattle.stream_ops.specs.Rows.{keys_among, keys_in, rows_of, rows_with, with_key}
use Rattle.stream_ops.specs.Windows.{level, rows_at}
use Rattle.stream_ops.proofs.Keyed.{same_key, self_key}
use Rattle.row_cause.specs.Causes.{alone, items_in, of_key, open_rows, rows_in, said_at_end}
use Rattle.row_cause.specs.Laws.{EndsRestOnCauses, one_by_one}
use Rattle.row_cause.specs.declared.placed.Placed.{Placed}
use Rattle.row_cause.proofs.Filters as f
use Rattle.row_cause.proofs.Filters.{IsOfKey, all_of_key, rows_of-items, with_own_key}
use Rattle.row_cause.proofs.Windows.{open_all, open_placed, open_some, row_alone}

-- ---- keys of rows have rows

-- some row is of this key
abbrev HasKey : By → List Row → Key → Type 0
HasKey by [] k = ⊥
HasKey by (r ∷ rows) k = (is_key (key_of by r) k ≡ true) ⊎ HasKey by rows k

put_by : (P : Key → Type 0) (k q : Key) (keys : List Key) (o : Ordering) → key_cmp k q ≡ o → P k → All P (q ∷ keys) → All P (with_key k keys) → All P (with_key k (q ∷ keys))
put_by P k q keys Less is here had later = rw is (All-cons P k (q ∷ keys) here had)
put_by P k q keys Equal is here had later = rw is had
put_by P k q keys Greater is here had later = rw is (All-cons P q (with_key k keys) (All-head P q keys had) later)

put_all : (P : Key → Type 0) (k : Key) (keys : List Key) → P k → All P keys → All P (with_key k keys)
put_all P k [] here had = All-cons P k [] here had
put_all P k (q ∷ keys) here had = put_by P k q keys (key_cmp k q) refl here had (put_all P k keys here (All-tail P q keys had))

all_put : (P : Key → Type 0) (by : By) (rows : List Row) (keys : List Key) → All (λ (r : Row). P (key_of by r)) rows → All P keys → All P (fold (λ keys r. with_key (key_of by r) keys) keys rows)
all_put P by [] keys here had = had
all_put P by (r ∷ rows) keys here had =
    all_put P by rows (with_key (key_of by r) keys) (All-tail (λ (r : Row). P (key_of by r)) r rows here) (put_all P (key_of by r) keys (All-head (λ (r : Row). P (key_of by r)) r rows here) had)

later_keys : (by : By) (x : Row) (rows some : List Row) → All (λ (r : Row). HasKey by rows (key_of by r)) some → All (λ (r : Row). HasKey by (x ∷ rows) (key_of by r)) some
later_keys by x rows [] h = All-nil (λ (r : Row). HasKey by (x ∷ rows) (key_of by r))
later_keys by x rows (r ∷ some) h =
    All-cons (λ (r : Row). HasKey by (x ∷ rows) (key_of by r)) r some (inr (All-head (λ (r : Row). HasKey by rows (key_of by r)) r some h))
    (later_keys by x rows some (All-tail (λ (r : Row). HasKey by rows (key_of by r)) r some h))

own_keys : (by : By) (rows : List Row) → All (λ (r : Row). HasKey by rows (key_of by r)) rows
own_keys by [] = All-nil (λ (r : Row). HasKey by [] (key_of by r))
own_keys by (r ∷ rows) = All-cons (λ (z : Row). HasKey by (r ∷ rows) (key_of by z)) r rows (inl (self_key (key_of by r))) (later_keys by r rows rows (own_keys by rows))

-- so each key among those of rows has one
all_have : (by : By) (rows : List Row) → All (HasKey by rows) (keys_among by rows)
all_have by rows = all_put (HasKey by rows) by rows [] (own_keys by rows) (All-nil (HasKey by rows))

-- and the rows with it are some
some_by : (by : By) (k : Key) (x : Placed) (placed : List Placed) (t : Bool) → is_key (key_of by x.row) k ≡ t → HasKey by (rows_in (x ∷ placed)) k
    → (HasKey by (rows_in placed) k → (head : Placed) × (tail : List Placed) × (of_key by k placed ≡ head ∷ tail))
    → (head : Placed) × (tail : List Placed) × (of_key by k (x ∷ placed) ≡ head ∷ tail)
some_by by k x placed true is has later = (x, of_key by k placed, rw is refl)
some_by by k x placed false is (inl here) later = absurd (let wrong : false ≡ true = sym is ∙ here in cc)
some_by by k x placed false is (inr there) later = let found = later there in (found.0, found.1, rw is found.2)

some_of_key : (by : By) (k : Key) (placed : List Placed) → HasKey by (rows_in placed) k → (head : Placed) × (tail : List Placed) × (of_key by k placed ≡ head ∷ tail)
some_of_key by k [] has = absurd has
some_of_key by k (x ∷ placed) has = some_by by k x placed (is_key (key_of by x.row) k) refl has (λ h. some_of_key by k placed h)

-- ---- rows of one key have this key alone

key_stays : (by : By) (k : Key) (placed : List Placed) → All (IsOfKey by k) placed → fold (λ keys r. with_key (key_of by r) keys) (k ∷ []) (rows_in placed) ≡ k ∷ []
key_stays by k [] h = refl
key_stays by k (x ∷ placed) h =
    let is : key_of by x.row ≡ k = same_key (key_of by x.row) k (All-head (IsOfKey by k) x placed h) in
    ap (λ (keys : List Key). fold (λ keys r. with_key (key_of by r) keys) keys (rows_in placed)) (ap (λ q. with_key q (k ∷ [])) is ∙ once k) ∙ key_stays by k placed (All-tail (IsOfKey by k) x placed h)
  where
    equal_by : (k : Key) (o : Ordering) → key_cmp k k ≡ o → is_key k k ≡ true → with_key k (k ∷ []) ≡ k ∷ []
    equal_by k Less is self = absurd (let wrong : false ≡ true = rw is at self in cc)
    equal_by k Equal is self = rw is refl
    equal_by k Greater is self = absurd (let wrong : false ≡ true = rw is at self in cc)

    once : (k : Key) → with_key k (k ∷ []) ≡ k ∷ []
    once k = equal_by k (key_cmp k k) refl (self_key k)

one_key : (by : By) (k : Key) (head : Placed) (tail placed : List Placed) → placed ≡ head ∷ tail → All (IsOfKey by k) placed → keys_in by (items_in placed) ≡ k ∷ []
one_key by k head tail placed whole h =
    let mine : All (IsOfKey by k) (head ∷ tail) = subst (All (IsOfKey by k)) whole h in
    let is : key_of by head.row ≡ k = same_key (key_of by head.row) k (All-head (IsOfKey by k) head tail mine) in
    ap (keys_among by) (rows_of-items (rows_in placed))
    ∙ (ap (λ (xs : List Placed). keys_among by (rows_in xs)) whole
    ∙ (ap (λ (q : Key). fold (λ keys r. with_key (key_of by r) keys) (q ∷ []) (rows_in tail)) is ∙ key_stays by k tail (All-tail (IsOfKey by k) head tail mine)))

-- ---- a window at the end

end_from : (by : By) (width : ℤ) (k : Key) (x : Placed) (rest keyed : List Placed) → keyed ≡ x ∷ rest → All (IsOfKey by k) keyed
    → window_row width k (rows_in keyed) ∷ [] ≡ alone (op.Window by width) (said_at_end (open_rows width keyed))
end_from by width k x rest keyed whole mine =
    let opened = open_rows width keyed in
    let opens : rows_in opened ≡ rows_at width (level width (x.row ∷ rows_in rest)) (x.row ∷ rows_in rest) =
    open_placed width keyed ∙ ap (λ (xs : List Placed). rows_at width (level width (rows_in xs)) (rows_in xs)) whole in
    let of_k : All (IsOfKey by k) opened = open_all (IsOfKey by k) width keyed mine in
    let some = open_some width x.row (rows_in rest) in
    let key : keys_in by (items_in opened) ≡ k ∷ [] = keyed_once opened of_k some.0 some.1 (opens ∙ some.2) in
    sym (ap (λ (keys : List Key). map (λ q. window_row width q (rows_with by (items_in opened) q)) keys) key
    ∙ ap (λ (row : Row). row ∷ []) (ap (window_row width k) (with_own_key by k opened of_k ∙ opens) ∙ (row_alone width k x.row (rows_in rest) ∙ ap (λ (xs : List Placed). window_row width k (rows_in xs)) (sym whole))))
  where
    keyed_once : (placed : List Placed) → All (IsOfKey by k) placed → (head : Row) (tail : List Row) → rows_in placed ≡ head ∷ tail → keys_in by (items_in placed) ≡ k ∷ []
    keyed_once [] h head tail is = absurd cc
    keyed_once (y ∷ ys) h head tail is = one_key by k y ys (y ∷ ys) refl h

windows_alone : (by : By) (width : ℤ) (before : List Placed) (keys : List Key) → All (HasKey by (rows_in before)) keys
    → one_by_one (map (λ k. window_row width k (rows_with by (items_in before) k)) keys) ≡ map (alone (op.Window by width)) (map (λ k. said_at_end (open_rows width (of_key by k before))) keys)
windows_alone by width before [] h = refl
windows_alone by width before (k ∷ keys) h =
    let some = some_of_key by k before (All-head (HasKey by (rows_in before)) k keys h) in
    ap (λ (rows : List Row). rows ∷ one_by_one (map (λ k. window_row width k (rows_with by (items_in before) k)) keys))
    (ap (λ (rows : List Row). window_row width k rows ∷ []) (f.with_key by k before) ∙ end_from by width k some.0 some.1 (of_key by k before) some.2 (all_of_key by k before))
    ∙ ap (λ (rest : List (List Row)). alone (op.Window by width) (said_at_end (open_rows width (of_key by k before))) ∷ rest) (windows_alone by width before keys (All-tail (HasKey by (rows_in before)) k keys h))

pub ends_rest : EndsRestOnCauses
ends_rest (op.Keep column compare limit) before limits = refl
ends_rest (op.Total by) before limits = refl
ends_rest (op.Last by n) before limits = refl
ends_rest (op.Window by width) before limits =
    windows_alone by width before (keys_in by (items_in before)) (subst (λ (rows : List Row). All (HasKey by (rows_in before)) (keys_among by rows)) (sym (rows_of-items (rows_in before))) (all_have by (rows_in before)))
ends_rest (op.Crossing by limit) before limits = refl
ends_rest (op.Join by width n column compare limit) before limits = refl
