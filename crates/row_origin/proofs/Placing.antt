-- Rows with their places, with one row more.
use Rattle.std.proofs.Common.{ℕ, ◌≡◌, ◌<◌, ◌+◌, Bool, true, false, cond, not, ◌&&◌, List, [], ◌∷◌, ◌++◌, drop, get_or, length, map, refl, sym, take, ap, ◌∙◌, arith}
use Rattle.std.specs.Prelude.{◌==◌, filter}
use Rattle.std.proofs.lemmas.List.{append-nil, drop_more, length-take-le, take_more}
use Rattle.std.proofs.lemmas.List.Elements.{filter-append}
use Rattle.tuple_edge.specs.Row.{route_of}
use Rattle.tuple_edge.specs.declared.row.Key.{Key}
use Rattle.tuple_edge.specs.declared.row.Row.{Row}
use Rattle.op_spec.specs.Keys.{is_key, key_of}
use Rattle.op_spec.specs.declared.spec.By.{By}
use Rattle.plan_reader.specs.declared.stage.Stage.{Stage}
use Rattle.evaluation.specs.StageRows.{alike, rows_to}
use Rattle.row_cause.specs.Causes.{across, items_in, of_key, rows_in}
use Rattle.row_cause.specs.declared.placed.Placed.{Placed}
use Rattle.row_cause.proofs.Filters.{filter_mapped}
use Rattle.row_origin.specs.Stages.{placed_from, placed_to}

pub placed-append : (n : ℕ) (xs ys : List Row) → placed_from n (xs ++ ys) ≡ placed_from n xs ++ placed_from (n + length xs) ys
placed-append n [] ys = ap (λ (m : ℕ). placed_from m ys) (let e : n ≡ n + 0 = omega arith in e)
placed-append n (x ∷ xs) ys =
    let at : Placed = record { place = n; row = x } in
    let size : n + 1 + length xs ≡ n + length (x ∷ xs) = omega arith in
    ap (λ (rest : List Placed). at ∷ rest) (placed-append (n + 1) xs ys ∙ ap (λ (m : ℕ). placed_from (n + 1) xs ++ placed_from m ys) size)

pub rows_in-placed : (n : ℕ) (rows : List Row) → rows_in (placed_from n rows) ≡ rows
rows_in-placed n [] = refl
rows_in-placed n (r ∷ rows) = ap (λ (rest : List Row). r ∷ rest) (rows_in-placed (n + 1) rows)

pub items_placed : (stage : Stage) (q : ℕ) (rows : List Row) → items_in (placed_to stage q (placed_from 0 rows)) ≡ alike (rows_to stage q rows)
items_placed stage q rows =
    ap alike (sym (filter_mapped (λ (x : Placed). x.row) (λ r. route_of r stage.by stage.parts == q) (placed_from 0 rows)) ∙ ap (rows_to stage q) (rows_in-placed 0 rows))

-- one row more
pub placed-more : (rows : List Row) (k : ℕ) (d : Row) → k < length rows → placed_from 0 (take (k + 1) rows) ≡ placed_from 0 (take k rows) ++ record { place = k; row = get_or rows k d } ∷ []
placed-more rows k d l =
    let size : 0 + length (take k rows) ≡ k = omega (arith, length-take-le k rows (omega arith)) in
    ap (placed_from 0) (take_more rows k d l) ∙ (placed-append 0 (take k rows) (get_or rows k d ∷ []) ∙ ap (λ (n : ℕ). placed_from 0 (take k rows) ++ record { place = n; row = get_or rows k d } ∷ []) size)

-- and those that are left
pub placed-left : (rows : List Row) (k : ℕ) (d : Row) → k < length rows → placed_from k (drop k rows) ≡ record { place = k; row = get_or rows k d } ∷ placed_from (k + 1) (drop (k + 1) rows)
placed-left rows k d l = ap (placed_from k) (drop_more rows k d l)

to_by : (stage : Stage) (q : ℕ) (xs : List Placed) (x : Placed) (t : Bool) → (route_of x.row stage.by stage.parts == q) ≡ t → placed_to stage q (xs ++ x ∷ []) ≡ placed_to stage q xs ++ cond t (x ∷ []) []
to_by stage q xs x t is = filter-append (λ (x : Placed). route_of x.row stage.by stage.parts == q) xs (x ∷ []) ∙ ap (λ (b : Bool). placed_to stage q xs ++ cond b (x ∷ []) []) is

pub to_here : (stage : Stage) (q : ℕ) (xs : List Placed) (x : Placed) → (route_of x.row stage.by stage.parts == q) ≡ true → placed_to stage q (xs ++ x ∷ []) ≡ placed_to stage q xs ++ x ∷ []
to_here stage q xs x is = to_by stage q xs x true is

pub to_other : (stage : Stage) (q : ℕ) (xs : List Placed) (x : Placed) → (route_of x.row stage.by stage.parts == q) ≡ false → placed_to stage q (xs ++ x ∷ []) ≡ placed_to stage q xs
to_other stage q xs x is = to_by stage q xs x false is ∙ append-nil (placed_to stage q xs)

-- of a key
one_wanted : (by : By) (k : Key) (stage : Stage) (q : ℕ) (x : Placed) (a b : Bool) → (route_of x.row stage.by stage.parts == q) ≡ a → is_key (key_of by x.row) k ≡ b
    → of_key by k (placed_to stage q (x ∷ [])) ≡ cond (a && b) (x ∷ []) []
one_wanted by k stage q x true true e f = rw e (rw f refl)
one_wanted by k stage q x true false e f = rw e (rw f refl)
one_wanted by k stage q x false b e f = rw e refl

pub keyed-more : (by : By) (k : Key) (stage : Stage) (q : ℕ) (rows : List Row) (i : ℕ) (d : Row) (t : Bool) → i < length rows
    → t ≡ ((route_of (get_or rows i d) stage.by stage.parts == q) && is_key (key_of by (get_or rows i d)) k)
    → of_key by k (placed_to stage q (placed_from 0 (take (i + 1) rows))) ≡ of_key by k (placed_to stage q (placed_from 0 (take i rows))) ++ cond t (record { place = i; row = get_or rows i d } ∷ []) []
keyed-more by k stage q rows i d t l is =
    let x : Placed = record { place = i; row = get_or rows i d } in
    let had = placed_from 0 (take i rows) in
    ap (λ (xs : List Placed). of_key by k (placed_to stage q xs)) (placed-more rows i d l)
    ∙ (ap (of_key by k) (filter-append (λ (x : Placed). route_of x.row stage.by stage.parts == q) had (x ∷ []))
    ∙ (filter-append (λ (x : Placed). is_key (key_of by x.row) k) (placed_to stage q had) (placed_to stage q (x ∷ []))
    ∙ ap (λ (more : List Placed). of_key by k (placed_to stage q had) ++ more) (one_wanted by k stage q x (route_of x.row stage.by stage.parts == q) (is_key (key_of by x.row) k) refl refl ∙ ap (λ (b : Bool). cond b (x ∷ []) []) (sym is))))

-- the other side
pub across_is : (left : Row → Bool) (r : Placed) (placed : List Placed) (t : Bool) → t ≡ left r.row → filter (λ (x : Placed). cond t (not (left x.row)) (left x.row)) placed ≡ across left r placed
across_is left r placed true is = rw (sym is) refl
across_is left r placed false is = rw (sym is) refl
