-- The causes of answers: how many there are, and what the nth one is.
use Rattle.std.proofs.Common.{ℕ, ℤ, zero, suc, ◌≡◌, ◌<◌, ◌-◌, ◌+◌, Bool, true, false, cond, List, [], ◌∷◌, ◌++◌, Option, None, Some, length, map, drop, refl, sym, ap, ◌∙◌, subst, arith}
use Rattle.std.specs.Prelude.{IfOk, Result, Ok, Err, slice_get}
use Rattle.std.proofs.lemmas.List.{length-map}
use Rattle.circular_buffer.specs.Buffer.{keep_last}
use Rattle.tuple_edge.specs.Row.{column_of}
use Rattle.tuple_edge.specs.declared.row.Column.{Column}
use Rattle.tuple_edge.specs.declared.row.Key.{Key}
use Rattle.tuple_edge.specs.declared.row.Row.{Row}
use Rattle.op_spec.specs.Compares.{holds}
use Rattle.op_spec.specs.Spec.{IsSpec, is_join}
use Rattle.op_spec.specs.declared.spec.Compare.{Compare}
use Rattle.op_spec.specs.declared.spec.By.{By}
use Rattle.op_spec.specs.declared.spec.OpSpec.{OpSpec}
use Rattle.op_spec.specs.declared.spec.OpSpec.TheVariants as op
use Rattle.stream_ops.specs.Answers.{answer, end_answer, window_row}
use Rattle.stream_ops.specs.Joins.{is_left}
use Rattle.stream_ops.specs.Rows.{keys_in, rows_with}
use Rattle.stream_ops.specs.Sums.{crosses, sums_of}
use Rattle.row_cause.specs.Causes.{Cause, alone, end_causes, items_in, of_its_key, of_key, open_rows, partners, row_causes, rows_in, said_at_end, said_by, spoke, spoken, window_causes}
use Rattle.row_cause.specs.Laws.{one_by_one}
use Rattle.row_cause.specs.declared.placed.Placed.{Placed}
use Rattle.row_cause.proofs.Alone.{rows_rest}
use Rattle.row_cause.proofs.Ends.{ends_rest}
use Rattle.cause_finder.specs.Found.{RestsOn}
use Rattle.cause_finder.specs.Trails.{keyed_by, resting}
use Rattle.row_origin.specs.Stages.{causes_of}

-- what an operator answers to what made it speak, after these rows
abbrev pub answers_of : OpSpec → List Placed → Option Placed → List Row
answers_of op before speaker = answer op (items_in before) (spoken speaker)

-- ---- how many

one_each : (op : OpSpec) (before : List Placed) (speaker : Option Placed) → IsSpec op → one_by_one (answers_of op before speaker) ≡ map (alone op) (causes_of op before speaker)
one_each op before None limits = ends_rest op before limits
one_each op before (Some r) limits = rows_rest op before r limits

-- as many causes as answers
pub as_many : (op : OpSpec) (before : List Placed) (speaker : Option Placed) → IsSpec op → length (causes_of op before speaker) ≡ length (answers_of op before speaker)
as_many op before speaker limits =
    sym (length-map (causes_of op before speaker) (alone op))
    ∙ (ap length (sym (one_each op before speaker limits)) ∙ length-map (answers_of op before speaker) (λ (r : Row). let rows : List Row = r ∷ [] in rows))

-- ---- the nth

pub none_some : {X : Type 0} (x : X) → None ≡ Some x → ⊥
none_some x e = cc

pub of_some : {X : Type 0} (x y : X) → Some x ≡ Some y → x ≡ y
of_some x y e = cc

-- the nth of at most one
pub one_found : {X : Type 0} (t : Bool) (x y : X) (n : ℕ) → slice_get (cond t (x ∷ []) []) n ≡ Some y → x ≡ y
one_found true x y zero e = of_some x y e
one_found true x y (suc n) e = absurd (none_some y e)
one_found false x y n e = absurd (none_some y e)

pub mapped_found : {X Y : Type 0} (f : X → Y) (xs : List X) (n : ℕ) (y : Y) → slice_get (map f xs) n ≡ Some y → (x : X) × (slice_get xs n ≡ Some x) × (f x ≡ y)
mapped_found f [] n y e = absurd (none_some y e)
mapped_found f (x ∷ xs) zero y e = (x, refl, of_some (f x) y e)
mapped_found f (x ∷ xs) (suc n) y e = mapped_found f xs n y e

-- what is there
pub there : {X : Type 0} (xs : List X) (k : ℕ) → k < length xs → (x : X) × (slice_get xs k ≡ Some x) × (drop k xs ≡ x ∷ drop (k + 1) xs)
there [] k l = absurd (omega arith)
there (x ∷ xs) zero l = (x, refl, refl)
there (x ∷ xs) (suc k) l =
    let t = there xs k (omega arith) in
    (t.0, t.1, t.2 ∙ ap (λ (m : ℕ). t.0 ∷ drop m (x ∷ xs)) (let e : suc (k + 1) ≡ suc k + 1 = omega arith in e))

-- ---- who spoke

window_speaker : (width : ℤ) (placed : List Placed) (r : Placed) (n : ℕ) (c : Cause) → slice_get (window_causes width placed r) n ≡ Some c → said_by r (open_rows width placed) ≡ c
window_speaker width [] r n c e = absurd (none_some c e)
window_speaker width (x ∷ placed) r n c e = one_found _ (said_by r (open_rows width (x ∷ placed))) c n e

-- what the nth cause of an answer to a row is, by its rows before
pub row_is : (op : OpSpec) (before : List Placed) (r : Placed) (n : ℕ) (c : Cause) → slice_get (row_causes op before r) n ≡ Some c → said_by r c.before ≡ c
row_is (op.Keep column compare limit) before r n c e = let is = one_found _ (said_by r []) c n e in ap (λ (d : Cause). said_by r d.before) (sym is) ∙ is
row_is (op.Total by) before r n c e = let is = one_found true (said_by r (of_its_key by r before)) c n e in ap (λ (d : Cause). said_by r d.before) (sym is) ∙ is
row_is (op.Last by m) before r n c e = let is = one_found true _ c n e in ap (λ (d : Cause). said_by r d.before) (sym is) ∙ is
row_is (op.Window by width) before r n c e = let is = window_speaker width (of_its_key by r before) r n c e in ap (λ (d : Cause). said_by r d.before) (sym is) ∙ is
row_is (op.Crossing by limit) before r n c e = let is = one_found _ (said_by r (of_its_key by r before)) c n e in ap (λ (d : Cause). said_by r d.before) (sym is) ∙ is
row_is (op.Join by width m column compare limit) before r n c e =
    let found = mapped_found (λ other. said_by r (other ∷ [])) _ n c e in
    ap (λ (d : Cause). said_by r d.before) (sym found.2) ∙ found.2

pub end_is : (op : OpSpec) (before : List Placed) (n : ℕ) (c : Cause) → slice_get (end_causes op before) n ≡ Some c → said_at_end c.before ≡ c
end_is (op.Keep column compare limit) before n c e = absurd (none_some c e)
end_is (op.Total by) before n c e = absurd (none_some c e)
end_is (op.Last by m) before n c e = absurd (none_some c e)
end_is (op.Window by width) before n c e =
    let found = mapped_found (λ k. said_at_end (open_rows width (of_key by k before))) _ n c e in
    ap (λ (d : Cause). said_at_end d.before) (sym found.2) ∙ found.2
end_is (op.Crossing by limit) before n c e = absurd (none_some c e)
end_is (op.Join by width m column compare limit) before n c e = absurd (none_some c e)

pub speaker_is : (op : OpSpec) (before : List Placed) (speaker : Option Placed) (n : ℕ) (c : Cause) → slice_get (causes_of op before speaker) n ≡ Some c → c.speaker ≡ speaker
speaker_is op before None n c e = ap (λ (d : Cause). d.speaker) (sym (end_is op before n c e))
speaker_is op before (Some r) n c e = ap (λ (d : Cause). d.speaker) (sym (row_is op before r n c e))

-- the rows before of the nth cause of each operator
pub keep_rests : (t : Bool) (r : Placed) (rows : List Placed) (n : ℕ) → RestsOn (cond t (said_by r rows ∷ []) []) n rows
keep_rests t r rows n c e = ap (λ (d : Cause). d.before) (one_found t (said_by r rows) c n e)

pub window_rests : (width : ℤ) (placed : List Placed) (r : Placed) (n : ℕ) → RestsOn (window_causes width placed r) n (open_rows width placed)
window_rests width placed r n c e = ap (λ (d : Cause). d.before) (window_speaker width placed r n c e)

pub join_rests : (r : Placed) (others : List Placed) (n : ℕ) (before : List Placed) → ((x : Placed) → slice_get others n ≡ Some x → before ≡ x ∷ []) → RestsOn (map (λ other. said_by r (other ∷ [])) others) n before
join_rests r others n before h c e =
    let found = mapped_found (λ other. said_by r (other ∷ [])) others n c e in
    h found.0 found.1 ∙ ap (λ (d : Cause). d.before) found.2

-- a window at the end is that of the key that its row tells
pub end_rests : (by : By) (width : ℤ) (placed : List Placed) (keys : List Key) (n : ℕ) (row : Row) (k : Key) → k.account ≡ row.account → k.symbol ≡ row.symbol
    → slice_get (map (λ k. window_row width k (rows_with by (items_in placed) k)) keys) n ≡ Some row
    → RestsOn (map (λ k. said_at_end (open_rows width (of_key by k placed))) keys) n (open_rows width (of_key by k placed))
end_rests by width placed [] n row k a s told c e = absurd (none_some c e)
end_rests by width placed (q ∷ keys) zero row k a s told c e =
    let is : window_row width q (rows_with by (items_in placed) q) ≡ row = of_some _ row told in
    let same : k ≡ q = key_is k q (a ∙ ap (λ (r : Row). r.account) (sym is)) (s ∙ ap (λ (r : Row). r.symbol) (sym is)) in
    ap (λ (p : Key). open_rows width (of_key by p placed)) same ∙ ap (λ (d : Cause). d.before) (of_some (said_at_end (open_rows width (of_key by q placed))) c e)
  where
    key_is : (k q : Key) → k.account ≡ q.account → k.symbol ≡ q.symbol → k ≡ q
    key_is k q x y = λ i. record { account = x i; symbol = y i }
end_rests by width placed (q ∷ keys) (suc n) row k a s told c e = end_rests by width placed keys n row k a s told c e

-- ---- the rows before of the nth cause, by operator

pub ok_then : {A E : Type 0} {P Q : A → Type 0} → (r : Result A E) → ((a : A) → P a → Q a) → IfOk r P → IfOk r Q
ok_then (Ok a) f p = f a p
ok_then (Err e) f p = tt

-- where a row spoke to no join, and where it spoke to one
pub row_rests : (spec : OpSpec) (B : List Placed) (r : Placed) (n : ℕ) → is_join spec ≡ false → RestsOn (row_causes spec B r) n (resting spec (of_its_key (keyed_by spec) r B))
row_rests (op.Keep column compare limit) B r n other = keep_rests (holds compare (column_of column r.row) limit) r [] n
row_rests (op.Total by) B r n other = keep_rests true r (of_its_key by r B) n
row_rests (op.Last by m) B r n other = keep_rests true r (keep_last (m - 1) (of_its_key by r B)) n
row_rests (op.Window by width) B r n other = window_rests width (of_its_key by r B) r n
row_rests (op.Crossing by limit) B r n other =
    keep_rests (crosses limit (sums_of (rows_in (of_its_key by r B))).value (sums_of (rows_in (of_its_key by r B) ++ r.row ∷ [])).value) r (of_its_key by r B) n
row_rests (op.Join by width m column compare limit) B r n other = absurd (joins other)
  where
    joins : true ≡ false → ⊥
    joins e = cc

pub join_found : (spec : OpSpec) (by : By) (width : ℤ) (m : ℕ) (column : Column) (compare : Compare) (limit : ℤ) (B : List Placed) (r : Placed) (n : ℕ) (one : Option Placed) → spec ≡ op.Join by width m column compare limit
    → one ≡ slice_get (partners width m (is_left column compare limit) (of_its_key by r B) r) n → RestsOn (row_causes spec B r) n (spoke one)
join_found spec by width m column compare limit B r n one is e =
    subst (λ (o : OpSpec). RestsOn (row_causes o B r) n (spoke one)) (sym is)
    (join_rests r (partners width m (is_left column compare limit) (of_its_key by r B) r) n (spoke one) (λ x at. ap spoke (e ∙ at)))

-- where the end spoke, the answer tells the key
pub ended_rests : (spec : OpSpec) (B : List Placed) (n : ℕ) (row : Row) (k : Key) → k.account ≡ row.account → k.symbol ≡ row.symbol → slice_get (end_answer spec (items_in B)) n ≡ Some row
    → RestsOn (end_causes spec B) n (resting spec (of_key (keyed_by spec) k B))
ended_rests (op.Keep column compare limit) B n row k a s told = absurd (none_some row told)
ended_rests (op.Total by) B n row k a s told = absurd (none_some row told)
ended_rests (op.Last by m) B n row k a s told = absurd (none_some row told)
ended_rests (op.Window by width) B n row k a s told = end_rests by width B (keys_in by (items_in B)) n row k a s told
ended_rests (op.Crossing by limit) B n row k a s told = absurd (none_some row told)
ended_rests (op.Join by width m column compare limit) B n row k a s told = absurd (none_some row told)
