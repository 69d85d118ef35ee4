-- One more row in a partition: it takes the row where its place is here, and passes it over otherwise.
use Rattle.std.proofs.Common.{ℕ, ◌≡◌, ◌<◌, ◌+◌, Bool, true, false, cond, List, [], ◌∷◌, ◌++◌, length, sym, ap, subst, ◌∙◌, append_assoc, get_or, take, min, inl, inr, pos}
use Rattle.std.specs.Prelude.{◌==◌, Option, slice_get, slice_set}
use Rattle.std.proofs.lemmas.Bool.{cases_Bool, eq-eqb, eqb-true}
use Rattle.std.proofs.lemmas.List.{append-nil, get_or-map, length-take, take_more}
use Rattle.tuple_edge.specs.declared.row.Row.{Row}
use Rattle.op_spec.specs.declared.spec.OpSpec.{OpSpec}
use Rattle.stream_ops.specs.State.{StateView}
use Rattle.plan_reader.specs.declared.stage.Stage.{Stage}
use Rattle.bucket_move.specs.BucketsView.{part_of, state_after, state_in}
use Rattle.bucket_move.specs.ByKey.{is_keyed}
use Rattle.bucket_move.specs.Limits.{buckets}
use Rattle.bucket_move.specs.Rows.{bucket_of, rows_in}
use Rattle.bucket_move.specs.Working.{Holds, first_answer, first_answers, picked, place_of, places_of}
use Rattle.bucket_move.specs.declared.partition.Place.{Place}
use Rattle.bucket_move.proofs.ByKeyAnswers.{row_answer-bucket}
use Rattle.bucket_move.proofs.Picking.{first_answers-push, length-first_answers, picked-push}
use Rattle.bucket_move.proofs.StatesAfter.{holds-elsewhere, holds-here}

-- after some rows of a call a partition holds its buckets' states, and has the answers to its own rows
abbrev pub Worked : Stage → List ℕ → ℕ → List Row → List Place → List Row → List StateView → List (Option Row) → Type 0
Worked stage table part before places rows states answers =
    Holds stage table part (before ++ rows) states × (answers ≡ picked part places (first_answers stage.op before rows))

-- none of them
pub worked_none : (stage : Stage) (table : List ℕ) (part : ℕ) (before : List Row) (states : List StateView) (answers : List (Option Row)) → answers ≡ []
    → Holds stage table part before states → Worked stage table part before [] [] states answers
unfolding picked first_answers
worked_none stage table part before states answers none holds = (subst (λ (rows : List Row). Holds stage table part rows states) (sym (append-nil before)) holds, none)

module _ (stage : Stage) (table : List ℕ) (part : ℕ) (before : List Row) (places : List Place) (rows : List Row) (states : List StateView) (answers : List (Option Row)) (place : Place) (r : Row)
    (same : length places ≡ length rows) (is : place ≡ place_of stage.by table r) (worked : Worked stage table part before places rows states answers) where
  answers_more : (t : Bool) → (place.part == part) ≡ t
      → picked part (places ++ place ∷ []) (first_answers stage.op before (rows ++ r ∷ [])) ≡ answers ++ cond t (first_answer stage.op (before ++ rows) r ∷ []) []
  answers_more t test =
      ap (picked part (places ++ place ∷ [])) (first_answers-push stage.op before rows r)
      ∙ picked-push part places (first_answers stage.op before rows) place (first_answer stage.op (before ++ rows) r) (same ∙ sym (length-first_answers stage.op before rows))
      ∙ ap (λ (front : List (Option Row)). front ++ cond (place.part == part) (first_answer stage.op (before ++ rows) r ∷ []) []) (sym worked.1)
      ∙ ap (λ (b : Bool). answers ++ cond b (first_answer stage.op (before ++ rows) r ∷ []) []) test

  regrouped : (new : List StateView) → Holds stage table part ((before ++ rows) ++ r ∷ []) new → Holds stage table part (before ++ (rows ++ r ∷ [])) new
  regrouped new holds = subst (λ (all : List Row). Holds stage table part all new) (append_assoc before rows (r ∷ [])) holds

  pub passed : (place.part == part) ≡ false → Worked stage table part before (places ++ place ∷ []) (rows ++ r ∷ []) states answers
  passed test = (
    regrouped states (holds-elsewhere stage table part (before ++ rows) r states (ap (λ (p : Place). p.part == part) (sym is) ∙ test) worked.0),
    sym (answers_more false test ∙ append-nil answers),
  )

  pub taken : is_keyed stage.by stage.op ≡ true → (place.part == part) ≡ true → place.bucket < buckets → length states ≡ buckets → (new : List StateView) (told : List (Option Row))
      → ((spec : OpSpec) (of_bucket : List Row) → state_in spec states place.bucket ≡ state_after spec of_bucket → new ≡ slice_set states place.bucket (state_after spec (of_bucket ++ r ∷ [])))
      → ((spec : OpSpec) (of_bucket : List Row) → state_in spec states place.bucket ≡ state_after spec of_bucket → told ≡ answers ++ first_answer spec of_bucket r ∷ [])
      → Worked stage table part before (places ++ place ∷ []) (rows ++ r ∷ []) new told
  taken keyed test below long new told steps answered =
      let of_bucket : List Row = rows_in stage.by place.bucket (before ++ rows) in
      let bucket : place.bucket ≡ bucket_of stage.by r = ap (λ (p : Place). p.bucket) is in
      let here : part_of table place.bucket ≡ part = ap (part_of table) bucket ∙ ap (λ (p : Place). p.part) (sym is) ∙ eqb-true place.part part test in
      let was : state_in stage.op states place.bucket ≡ state_after stage.op of_bucket = worked.0.each place.bucket below here in
      let first : first_answer stage.op of_bucket r ≡ first_answer stage.op (before ++ rows) r =
      ap (λ (b : ℕ). first_answer stage.op (rows_in stage.by b (before ++ rows)) r) bucket
      ∙ ap (λ (xs : List Row). slice_get xs 0) (row_answer-bucket stage.by stage.op (before ++ rows) r keyed) in
      let stepped : new ≡ slice_set states (bucket_of stage.by r) (state_after stage.op (rows_in stage.by (bucket_of stage.by r) (before ++ rows) ++ r ∷ [])) =
      steps stage.op of_bucket was ∙ ap (λ (b : ℕ). slice_set states b (state_after stage.op (rows_in stage.by b (before ++ rows) ++ r ∷ []))) bucket in (
        regrouped new (subst (λ (s : List StateView). Holds stage table part ((before ++ rows) ++ r ∷ []) s) (sym stepped) (holds-here stage table part (before ++ rows) r states long worked.0)),
        answered stage.op of_bucket was ∙ ap (λ (a : Option Row). answers ++ a ∷ []) first ∙ sym (answers_more true test),
      )

-- a row, to name where a list has none
abbrev pub no_row : Row
no_row = record { time = pos 0; account = pos 0; symbol = pos 0; qty = pos 0; value = pos 0 }

not_tested : (a b : ℕ) → (a ≡ b → ⊥) → (a == b) ≡ false
not_tested a b apart = elim (cases_Bool (a == b)) [
  | inl same ↦ absurd (apart (eqb-true a b same))
  | inr other ↦ other
]

-- the same at a place of the call's rows
module _ (stage : Stage) (table : List ℕ) (part : ℕ) (before : List Row) (places : List Place) (rows : List Row) (i : ℕ) (no_place : Place) (no_row : Row) (states : List StateView) (answers : List (Option Row))
    (inside : i < length rows) (same : length places ≡ length rows) (placed : places ≡ places_of stage.by table rows)
    (worked : Worked stage table part before (take i places) (take i rows) states answers) where
  abbrev place_at : Place
  place_at = get_or places i no_place

  abbrev row_at : Row
  row_at = get_or rows i no_row

  placed_at : place_at ≡ place_of stage.by table row_at
  placed_at = ap (λ (ps : List Place). get_or ps i no_place) placed ∙ get_or-map (place_of stage.by table) rows i no_row no_place inside

  as_many : length (take i places) ≡ length (take i rows)
  as_many = length-take i places ∙ ap (λ (n : ℕ). min i n) same ∙ sym (length-take i rows)

  further : (new : List StateView) (told : List (Option Row)) → Worked stage table part before (take i places ++ place_at ∷ []) (take i rows ++ row_at ∷ []) new told
      → Worked stage table part before (take (i + 1) places) (take (i + 1) rows) new told
  further new told done =
      let within : i < length places = subst (λ (n : ℕ). i < n) (sym same) inside in
      let more_rows : Worked stage table part before (take i places ++ place_at ∷ []) (take (i + 1) rows) new told =
      subst (λ (rs : List Row). Worked stage table part before (take i places ++ place_at ∷ []) rs new told) (sym (take_more rows i no_row inside)) done in
      subst (λ (ps : List Place). Worked stage table part before ps (take (i + 1) rows) new told) (sym (take_more places i no_place within)) more_rows

  pub passed_at : (place_at.part ≡ part → ⊥) → Worked stage table part before (take (i + 1) places) (take (i + 1) rows) states answers
  passed_at away = further states answers (passed stage table part before (take i places) (take i rows) states answers place_at row_at as_many placed_at worked (not_tested place_at.part part away))

  pub taken_at : is_keyed stage.by stage.op ≡ true → place_at.part ≡ part → place_at.bucket < buckets → length states ≡ buckets → (new : List StateView) (told : List (Option Row))
      → ((spec : OpSpec) (of_bucket : List Row) → state_in spec states place_at.bucket ≡ state_after spec of_bucket → new ≡ slice_set states place_at.bucket (state_after spec (of_bucket ++ row_at ∷ [])))
      → ((spec : OpSpec) (of_bucket : List Row) → state_in spec states place_at.bucket ≡ state_after spec of_bucket → told ≡ answers ++ first_answer spec of_bucket row_at ∷ [])
      → Worked stage table part before (take (i + 1) places) (take (i + 1) rows) new told
  taken_at keyed here below long new told steps answered =
      further new told (taken stage table part before (take i places) (take i rows) states answers place_at row_at as_many placed_at worked keyed (eq-eqb place_at.part part here) below long new told steps answered)
