-- Buckets after one more feed.
use Rattle.std.proofs.Common.{ℕ, ◌≡◌, ◌<◌, ◌≤◌, ◌+◌, true, List, [], ◌∷◌, ◌++◌, length, refl, sym, ap, subst, ◌∙◌, append_assoc, arith, length-append, Vec, Global}
use Rattle.std.specs.Prelude.{flat_map, slice_get, slice_set}
use Rattle.std.specs.Option.{option_to_list}
use Rattle.std.specs.Vec.{with_items}
use Rattle.std.proofs.lemmas.Bool.{false≢true}
use Rattle.std.proofs.lemmas.List.{append-nil, length-map, with_items_is}
use Rattle.std.proofs.lemmas.List.Elements.{All-get_or}
use Rattle.tuple_edge.specs.declared.item.Item.{Item}
use Rattle.tuple_edge.specs.declared.item.Item.TheVariants as item
use Rattle.tuple_edge.specs.declared.row.Row.{Row}
use Rattle.op_spec.specs.Spec.{most_rows}
use Rattle.op_spec.specs.declared.spec.OpSpec.{OpSpec}
use Rattle.op_spec.specs.declared.spec.OpSpec.TheVariants as op
use Rattle.stream_ops.specs.Answers.{answer, answers, row_answer}
use Rattle.stream_ops.proofs.AnswerLaws.{length-answer_row}
use Rattle.plan_reader.specs.declared.stage.Stage.{Stage}
use Rattle.bucket_move.specs.BucketsView.{BucketsView, Call, Feeds, IsAfter, IsRight, Moves, fed, opening_table, part_of, state_after, state_at, table_after}
use Rattle.bucket_move.specs.ByKey.{is_keyed}
use Rattle.bucket_move.specs.Limits.{buckets}
use Rattle.bucket_move.specs.Rows.{items_of, rows_in}
use Rattle.bucket_move.specs.Working.{AllHold, first_answers, kept_in, places_of}
use Rattle.bucket_move.specs.declared.partition.Partition.{Partition}
use Rattle.bucket_move.specs.declared.partition.Place.{Place}
use Rattle.bucket_move.proofs.StatesAfter.{items_of-push}

-- ---- calls

pub fed-push : (calls : List Call) (rows : List Row) → fed (calls ++ Feeds rows ∷ []) ≡ fed calls ++ rows
fed-push [] rows = append-nil rows
fed-push (Feeds more ∷ calls) rows = ap (λ (back : List Row). more ++ back) (fed-push calls rows) ∙ sym (append_assoc more (fed calls) rows)
fed-push (Moves bucket to ∷ calls) rows = fed-push calls rows

pub fed-move : (calls : List Call) (bucket to : ℕ) → fed (calls ++ Moves bucket to ∷ []) ≡ fed calls
fed-move [] bucket to = refl
fed-move (Feeds more ∷ calls) bucket to = ap (λ (back : List Row). more ++ back) (fed-move calls bucket to)
fed-move (Moves other there ∷ calls) bucket to = fed-move calls bucket to

pub table-push : (table : List ℕ) (calls : List Call) (rows : List Row) → table_after table (calls ++ Feeds rows ∷ []) ≡ table_after table calls
unfolding table_after
table-push table [] rows = refl
table-push table (Feeds more ∷ calls) rows = table-push table calls rows
table-push table (Moves bucket to ∷ calls) rows = table-push (slice_set table bucket to) calls rows

pub table-move : (table : List ℕ) (calls : List Call) (bucket to : ℕ) → table_after table (calls ++ Moves bucket to ∷ []) ≡ slice_set (table_after table calls) bucket to
unfolding table_after
table-move table [] bucket to = refl
table-move table (Feeds more ∷ calls) bucket to = table-move table calls bucket to
table-move table (Moves other there ∷ calls) bucket to = table-move (slice_set table other there) calls bucket to

-- ---- answers

one_row : (c : _) (spec : OpSpec) → is_keyed c spec ≡ true → most_rows spec ≡ 1
one_row c (op.Keep column compare limit) keyed = refl
one_row c (op.Total by) keyed = refl
one_row c (op.Last by n) keyed = refl
one_row c (op.Window by width) keyed = absurd (false≢true keyed)
one_row c (op.Crossing by limit) keyed = refl
one_row c (op.Join by width n column compare limit) keyed = absurd (false≢true keyed)

-- a list of one element at most is its first
first_only : (rows : List Row) → length rows ≤ 1 → option_to_list (slice_get rows 0) ≡ rows
first_only [] few = refl
first_only (r ∷ []) few = refl
first_only (r ∷ x ∷ rows) few = absurd (omega arith)

first_answers_tell : (spec : OpSpec) (before rows : List Row) → most_rows spec ≡ 1 → flat_map option_to_list (first_answers spec before rows) ≡ answers spec (items_of before) (items_of rows)
unfolding first_answers
first_answers_tell spec before [] one = refl
first_answers_tell spec before (r ∷ rows) one =
    let few : length (row_answer spec (items_of before) r) ≤ 1 = subst (λ (n : ℕ). length (row_answer spec (items_of before) r) ≤ n) one (length-answer_row spec (items_of before) 0 r) in
    ap (λ (front : List Row). front ++ flat_map option_to_list (first_answers spec (before ++ r ∷ []) rows)) (first_only (row_answer spec (items_of before) r) few)
    ∙ ap (λ (back : List Row). row_answer spec (items_of before) r ++ back)
    (first_answers_tell spec (before ++ r ∷ []) rows one ∙ ap (λ (had : List Item). answers spec had (items_of rows)) (items_of-push before r))

pub answers-append : (spec : OpSpec) (before xs ys : List Item) → answers spec before (xs ++ ys) ≡ answers spec before xs ++ answers spec (before ++ xs) ys
answers-append spec before [] ys = ap (λ (had : List Item). answers spec had ys) (sym (append-nil before))
answers-append spec before (x ∷ xs) ys =
    ap (λ (back : List Row). answer spec before x ++ back)
    (answers-append spec (before ++ x ∷ []) xs ys
    ∙ ap (λ (had : List Item). answers spec (before ++ x ∷ []) xs ++ answers spec had ys) (append_assoc before (x ∷ []) xs))
    ∙ sym (append_assoc (answer spec before x) (answers spec (before ++ x ∷ []) xs) (answers spec (before ++ x ∷ xs) ys))

items_of-append : (xs ys : List Row) → items_of (xs ++ ys) ≡ items_of xs ++ items_of ys
items_of-append [] ys = refl
items_of-append (x ∷ xs) ys = ap (λ items. item.Row 0 x ∷ items) (items_of-append xs ys)

answers_more : (c : _) (spec : OpSpec) (before rows : List Row) → is_keyed c spec ≡ true
    → answers spec [] (items_of before) ++ flat_map option_to_list (first_answers spec before rows) ≡ answers spec [] (items_of (before ++ rows))
answers_more c spec before rows keyed =
    ap (λ (back : List Row). answers spec [] (items_of before) ++ back) (first_answers_tell spec before rows (one_row c spec keyed))
    ∙ sym (answers-append spec [] (items_of before) (items_of rows)) ∙ ap (λ (items : List Item). answers spec [] items) (sym (items_of-append before rows))

-- the partitions in a Vec once they were lent to those that work
pub lent_still : (v : Vec Partition Global) (lent new : List Partition) → length new ≡ length lent → length lent ≡ v.len → (with_items v new).items ≡ new
lent_still v lent new as_many long = with_items_is v new (as_many ∙ long)

pub lent_as_many : (v : Vec Partition Global) (lent new : List Partition) → length new ≡ length lent → lent ≡ v.items → length lent ≡ v.len
    → length (kept_in (with_items v new).items) ≡ length (kept_in v.items)
lent_as_many v lent new as_many were long =
    ap (λ (ps : List Partition). length (kept_in ps)) (lent_still v lent new as_many long) ∙ length-map new (λ (p : Partition). p.states.items)
    ∙ as_many ∙ ap length were ∙ sym (length-map v.items (λ (p : Partition). p.states.items))

-- ---- a feed

module _ (b new : BucketsView) (stage : Stage) (calls : List Call) (rows : List Row) (places : List Place) (right : IsRight b) (is : IsAfter stage calls b)
    (same_stage : new.stage ≡ b.stage) (same_table : new.table ≡ b.table) (whole : new.failed ≡ b.failed) (counted : new.count ≡ b.count + length rows)
    (placed : places ≡ places_of b.stage.by b.table rows) (parts : length new.kept ≡ length b.kept)
    (works : (s : Stage) (table : List ℕ) (before : List Row) → is_keyed s.by s.op ≡ true → places ≡ places_of s.by table rows → AllHold s table before b.kept
    → AllHold s table (before ++ rows) new.kept × (new.emitted ≡ b.emitted ++ flat_map option_to_list (first_answers s.op before rows))) where
  held : AllHold b.stage b.table (fed calls) b.kept
  held part below = record {
    each = λ bucket inside there.
        ap (λ (p : ℕ). state_at b.stage.op b.kept p bucket) (sym there) ∙ is.states bucket inside;
  }

  done : AllHold b.stage b.table (fed calls ++ rows) new.kept × (new.emitted ≡ b.emitted ++ flat_map option_to_list (first_answers b.stage.op (fed calls) rows))
  done = works b.stage b.table (fed calls) right.keyed placed held

  emitted_more : new.emitted ≡ answers b.stage.op [] (items_of (fed calls ++ rows))
  emitted_more =
      done.1 ∙ ap (λ (front : List Row). front ++ flat_map option_to_list (first_answers b.stage.op (fed calls) rows)) is.emitted
      ∙ answers_more b.stage.by b.stage.op (fed calls) rows right.keyed

  states_more : (bucket : ℕ) → bucket < buckets → state_at b.stage.op new.kept (part_of b.table bucket) bucket ≡ state_after b.stage.op (rows_in b.stage.by bucket (fed calls ++ rows))
  states_more bucket below =
      let there : part_of b.table bucket < b.stage.parts = All-get_or (λ part. part < b.stage.parts) b.table bucket 0 (subst (λ (n : ℕ). bucket < n) (sym right.table) below) right.within in
      let inside : part_of b.table bucket < length new.kept = subst (λ (n : ℕ). part_of b.table bucket < n) (sym (parts ∙ right.parts)) there in
      (done.0 (part_of b.table bucket) inside).each bucket below refl

  pub fed_further : IsAfter stage (calls ++ Feeds rows ∷ []) new
  fed_further = record {
    of_plan = same_stage ∙ is.of_plan;
    whole = whole ∙ is.whole;
    table = same_table ∙ is.table ∙ ap (λ (s : Stage). table_after (opening_table s.parts) calls) (sym same_stage) ∙ sym (table-push (opening_table new.stage.parts) calls rows);
    emitted = emitted_more ∙ ap (λ (s : Stage). answers s.op [] (items_of (fed calls ++ rows))) (sym same_stage) ∙ ap (λ (all : List Row). answers new.stage.op [] (items_of all)) (sym (fed-push calls rows));
    states = λ bucket below.
        ap (λ (s : Stage). state_at s.op new.kept (part_of new.table bucket) bucket) same_stage
        ∙ ap (λ (t : List ℕ). state_at b.stage.op new.kept (part_of t bucket) bucket) same_table
        ∙ states_more bucket below
        ∙ ap (λ (s : Stage). state_after s.op (rows_in s.by bucket (fed calls ++ rows))) (sym same_stage)
        ∙ ap (λ (all : List Row). state_after new.stage.op (rows_in new.stage.by bucket all)) (sym (fed-push calls rows));
    count = counted ∙ ap (λ (n : ℕ). n + length rows) is.count ∙ sym (length-append (fed calls) rows) ∙ ap length (sym (fed-push calls rows));
  }
