-- A bucket that goes to another partition.
use Rattle.std.proofs.Common.{ℕ, ◌≡◌, ◌≢◌, ◌<◌, ◌^◌, false, List, [], ◌∷◌, ◌++◌, length, sym, ap, subst, ◌∙◌, get_or, get_or-set_same, get_or-set_other, length-set, inl, inr, Vec, Global}
use Rattle.std.specs.Prelude.{◌==◌, slice_set}
use Rattle.std.specs.List.{All}
use Rattle.std.specs.Vec.{with_items}
use Rattle.std.proofs.lemmas.Bool.{cases_Bool, eq-eqb, eqb-true, false≢true}
use Rattle.std.proofs.lemmas.List.{get_or-map, length-map, map-set, with_items_is}
use Rattle.std.proofs.lemmas.List.Elements.{All-get_or, All-map, All-set}
use Rattle.tuple_edge.specs.declared.row.Row.{Row}
use Rattle.op_spec.specs.declared.spec.OpSpec.{OpSpec}
use Rattle.stream_ops.specs.Answers.{answers}
use Rattle.stream_ops.specs.State.{StateView, unseen}
use Rattle.plan_reader.specs.PlanView.{IsStage}
use Rattle.plan_reader.specs.declared.stage.Stage.{Stage}
use Rattle.bucket_move.specs.ByKey.{is_keyed}
use Rattle.bucket_move.specs.BucketsView.{BucketsView, Call, IsAfter, IsRight, Moves, fed, opening_table, part_of, state_after, state_at, table_after}
use Rattle.bucket_move.specs.Limits.{buckets}
use Rattle.bucket_move.specs.Rows.{items_of, rows_in}
use Rattle.bucket_move.specs.Working.{handed_over, kept_in, with_state}
use Rattle.bucket_move.specs.declared.partition.Partition.{Partition}
use Rattle.bucket_move.proofs.Feeding.{fed-move, table-move}
use Rattle.bucket_move.proofs.Together.{all_from}

abbrev pub AllLong : List (List StateView) → Type 0
AllLong kept = All (λ states. length states ≡ buckets) kept

-- what partitions keep, one by one and together
pub kept_long : (parts : List Partition) → All (λ p. length p.states.items ≡ buckets) parts → AllLong (kept_in parts)
kept_long parts long = All-map (λ (states : List StateView). length states ≡ buckets) (λ (p : Partition). p.states.items) parts long

pub each_long : (parts : List Partition) (i : ℕ) (d : Partition) → i < length parts → AllLong (kept_in parts) → length (get_or parts i d).states.items ≡ buckets
each_long parts i d below long =
    ap length (sym (get_or-map (λ (p : Partition). p.states.items) parts i d [] below))
    ∙ All-get_or (λ (states : List StateView). length states ≡ buckets) (kept_in parts) i [] (subst (λ (n : ℕ). i < n) (sym (length-map parts (λ (p : Partition). p.states.items))) below) long

pub parts_long : (parts : List Partition) → AllLong (kept_in parts) → All (λ p. length p.states.items ≡ buckets) parts
parts_long parts long = all_from (λ (p : Partition). length p.states.items ≡ buckets) parts (λ i d below. each_long parts i d below long)

-- a partition that keeps something else of one bucket
pub exchanged : (parts : List Partition) (part : ℕ) (d new : Partition) (bucket : ℕ) (state : StateView) → part < length parts → new.states.items ≡ slice_set (get_or parts part d).states.items bucket state
    → kept_in (slice_set parts part new) ≡ with_state (kept_in parts) part bucket state
exchanged parts part d new bucket state below is =
    map-set (λ (p : Partition). p.states.items) parts part new
    ∙ ap (λ (states : List StateView). slice_set (kept_in parts) part states)
    (is ∙ ap (λ (states : List StateView). slice_set states bucket state) (sym (get_or-map (λ (p : Partition). p.states.items) parts part d [] below)))

pub with_state-long : (kept : List (List StateView)) (part bucket : ℕ) (state : StateView) → part < length kept → AllLong kept → AllLong (with_state kept part bucket state)
with_state-long kept part bucket state below long =
    All-set (λ (states : List StateView). length states ≡ buckets) kept part (slice_set (get_or kept part []) bucket state)
    (length-set (get_or kept part []) bucket state ∙ All-get_or (λ (states : List StateView). length states ≡ buckets) kept part [] below long) long

pub length-with_state : (kept : List (List StateView)) (part bucket : ℕ) (state : StateView) → length (with_state kept part bucket state) ≡ length kept
length-with_state kept part bucket state = length-set kept part (slice_set (get_or kept part []) bucket state)

apart_by : (a b : ℕ) → (a == b) ≡ false → b ≢ a
apart_by a b other e = false≢true (sym other ∙ eq-eqb a b (sym e))

-- of that bucket the partition keeps the new state
state_here : (spec : OpSpec) (kept : List (List StateView)) (part bucket : ℕ) (state : StateView) → part < length kept → bucket < length (get_or kept part []) → state_at spec (with_state kept part bucket state) part bucket ≡ state
state_here spec kept part bucket state below inside =
    ap (λ (states : List StateView). get_or states bucket (unseen spec)) (get_or-set_same kept part (slice_set (get_or kept part []) bucket state) [] below)
    ∙ get_or-set_same (get_or kept part []) bucket state (unseen spec) inside

-- of other buckets each partition keeps what it kept
state_elsewhere : (spec : OpSpec) (kept : List (List StateView)) (part bucket : ℕ) (state : StateView) (at other : ℕ) → part < length kept → other ≢ bucket
    → state_at spec (with_state kept part bucket state) at other ≡ state_at spec kept at other
state_elsewhere spec kept part bucket state at other below apart = elim (cases_Bool (part == at)) [
  | inl same ↦
      let here : part ≡ at = eqb-true part at same in
      subst (λ (p : ℕ). state_at spec (with_state kept part bucket state) p other ≡ state_at spec kept p other) here
      (ap (λ (states : List StateView). get_or states other (unseen spec)) (get_or-set_same kept part (slice_set (get_or kept part []) bucket state) [] below)
      ∙ get_or-set_other (get_or kept part []) bucket other state (unseen spec) apart)
  | inr away ↦ ap (λ (states : List StateView). get_or states other (unseen spec)) (get_or-set_other kept part at (slice_set (get_or kept part []) bucket state) [] (apart_by part at away))
]

-- what the partitions in a Vec keep once they were lent to the one that hands over
pub handed_in : (v : Vec Partition Global) (lent new : List Partition) (table : List ℕ) (bucket from to : ℕ) (spec : OpSpec) (state : StateView)
    → length new ≡ length lent → lent ≡ v.items → length lent ≡ v.len → from ≡ part_of table bucket → state ≡ unseen spec
    → kept_in new ≡ handed_over (kept_in lent) bucket from to state
    → kept_in (with_items v new).items ≡ handed_over (kept_in v.items) bucket (part_of table bucket) to (unseen spec)
handed_in v lent new table bucket from to spec state as_many were long is_from is_unseen handed =
    ap kept_in (with_items_is v new (as_many ∙ long)) ∙ handed
    ∙ ap (λ (parts : List Partition). handed_over (kept_in parts) bucket from to state) were
    ∙ ap (λ (p : ℕ). handed_over (kept_in v.items) bucket p to state) is_from
    ∙ ap (λ (s : StateView). handed_over (kept_in v.items) bucket (part_of table bucket) to s) is_unseen

-- ---- a move

module _ (b new : BucketsView) (bucket to : ℕ) (right : IsRight b) (inside : bucket < buckets) (there : to < b.stage.parts) (same_stage : new.stage ≡ b.stage)
    (moved_table : new.table ≡ slice_set b.table bucket to) (handed : new.kept ≡ handed_over b.kept bucket (part_of b.table bucket) to (unseen b.stage.op)) (count : new.count ≡ b.count) where
  abbrev from : ℕ
  from = part_of b.table bucket

  in_table : bucket < length b.table
  in_table = subst (λ (n : ℕ). bucket < n) (sym right.table) inside

  from_below : from < length b.kept
  from_below = subst (λ (n : ℕ). from < n) (sym right.parts) (All-get_or (λ part. part < b.stage.parts) b.table bucket 0 in_table right.within)

  abbrev taken : List (List StateView)
  taken = with_state b.kept from bucket (unseen b.stage.op)

  to_below : to < length taken
  to_below = subst (λ (n : ℕ). to < n) (sym (length-with_state b.kept from bucket (unseen b.stage.op) ∙ right.parts)) there

  taken_long : AllLong taken
  taken_long = with_state-long b.kept from bucket (unseen b.stage.op) from_below right.slots

  abbrev state : StateView
  state = state_at b.stage.op b.kept from bucket

  pub moved_right : IsRight new
  moved_right = record {
    stage = subst IsStage (sym same_stage) right.stage;
    keyed = ap (λ (s : Stage). is_keyed s.by s.op) same_stage ∙ right.keyed;
    table = ap length moved_table ∙ length-set b.table bucket to ∙ right.table;
    within = subst (λ (s : Stage). All (λ part. part < s.parts) new.table) (sym same_stage)
        (subst (λ (t : List ℕ). All (λ part. part < b.stage.parts) t) (sym moved_table) (All-set (λ part. part < b.stage.parts) b.table bucket to there right.within));
    parts = ap length handed ∙ length-with_state taken to bucket state ∙ length-with_state b.kept from bucket (unseen b.stage.op) ∙ right.parts ∙ ap (λ (s : Stage). s.parts) (sym same_stage);
    slots = subst AllLong (sym handed) (with_state-long taken to bucket state to_below taken_long);
    count = subst (λ (n : ℕ). n < 2 ^ 64) (sym count) right.count;
  }

  module _ (stage : Stage) (calls : List Call) (is : IsAfter stage calls b) (whole : new.failed ≡ b.failed) (emitted : new.emitted ≡ b.emitted) where
    states_moved : (other : ℕ) → other < buckets → state_at b.stage.op (with_state taken to bucket state) (part_of (slice_set b.table bucket to) other) other ≡ state_after b.stage.op (rows_in b.stage.by other (fed calls))
    states_moved other below = elim (cases_Bool (bucket == other)) [
      | inl same ↦
          let here : bucket ≡ other = eqb-true bucket other same in
          let long : bucket < length (get_or taken to []) = subst (λ (n : ℕ). bucket < n) (sym (All-get_or (λ (states : List StateView). length states ≡ buckets) taken to [] to_below taken_long)) inside in
          subst (λ (k : ℕ). state_at b.stage.op (with_state taken to bucket state) (part_of (slice_set b.table bucket to) k) k ≡ state_after b.stage.op (rows_in b.stage.by k (fed calls))) here
          (ap (λ (p : ℕ). state_at b.stage.op (with_state taken to bucket state) p bucket) (get_or-set_same b.table bucket to 0 in_table)
          ∙ state_here b.stage.op taken to bucket state to_below long
          ∙ is.states bucket inside)
      | inr away ↦
          let apart : other ≢ bucket = apart_by bucket other away in
          ap (λ (p : ℕ). state_at b.stage.op (with_state taken to bucket state) p other) (get_or-set_other b.table bucket other to 0 apart)
          ∙ state_elsewhere b.stage.op taken to bucket state (part_of b.table other) other to_below apart
          ∙ state_elsewhere b.stage.op b.kept from bucket (unseen b.stage.op) (part_of b.table other) other from_below apart
          ∙ is.states other below
    ]

    pub moved_further : IsAfter stage (calls ++ Moves bucket to ∷ []) new
    moved_further = record {
      of_plan = same_stage ∙ is.of_plan;
      whole = whole ∙ is.whole;
      table = moved_table ∙ ap (λ (t : List ℕ). slice_set t bucket to) is.table ∙ ap (λ (s : Stage). slice_set (table_after (opening_table s.parts) calls) bucket to) (sym same_stage)
          ∙ sym (table-move (opening_table new.stage.parts) calls bucket to);
      emitted = emitted ∙ is.emitted ∙ ap (λ (s : Stage). answers s.op [] (items_of (fed calls))) (sym same_stage) ∙ ap (λ (all : List Row). answers new.stage.op [] (items_of all)) (sym (fed-move calls bucket to));
      states = λ other below.
          ap (λ (s : Stage). state_at s.op new.kept (part_of new.table other) other) same_stage
          ∙ ap (λ (t : List ℕ). state_at b.stage.op new.kept (part_of t other) other) moved_table
          ∙ ap (λ (ks : List (List StateView)). state_at b.stage.op ks (part_of (slice_set b.table bucket to) other) other) handed
          ∙ states_moved other below
          ∙ ap (λ (s : Stage). state_after s.op (rows_in s.by other (fed calls))) (sym same_stage)
          ∙ ap (λ (all : List Row). state_after new.stage.op (rows_in new.stage.by other all)) (sym (fed-move calls bucket to));
      count = count ∙ is.count ∙ ap length (sym (fed-move calls bucket to));
    }
