-- What a partition keeps after one more row.
use Rattle.std.proofs.Common.{ℕ, ◌≡◌, ◌≢◌, ◌<◌, Bool, true, false, cond, List, [], ◌∷◌, ◌++◌, length, refl, sym, ap, subst, ◌∙◌, Option, None, get_or-set_same, get_or-set_other, inl, inr, ◌⊎◌}
use Rattle.std.specs.Prelude.{◌==◌, slice_set}
use Rattle.std.specs.List.{filter}
use Rattle.std.proofs.lemmas.Bool.{cases_Bool, eq-eqb, eqb-true, false≢true}
use Rattle.std.proofs.lemmas.List.{append-nil}
use Rattle.std.proofs.lemmas.List.Elements.{filter-append}
use Rattle.tuple_edge.specs.declared.item.Item.{Item}
use Rattle.tuple_edge.specs.declared.item.Item.TheVariants as item
use Rattle.tuple_edge.specs.declared.packet.Entry.{Entry}
use Rattle.tuple_edge.specs.declared.row.Column.{Column}
use Rattle.tuple_edge.specs.declared.row.Row.{Row}
use Rattle.op_spec.specs.declared.spec.OpSpec.{OpSpec}
use Rattle.stream_ops.specs.Answers.{IsOpen}
use Rattle.stream_ops.specs.Entries.{entries}
use Rattle.stream_ops.specs.State.{StandsFor, StateView, unseen}
use Rattle.plan_reader.specs.declared.stage.Stage.{Stage}
use Rattle.bucket_move.specs.BucketsView.{part_of, state_after, state_in}
use Rattle.bucket_move.specs.Limits.{buckets}
use Rattle.bucket_move.specs.Rows.{bucket_of, items_of, rows_in}
use Rattle.bucket_move.specs.Working.{Holds}

pub items_of-push : (rows : List Row) (r : Row) → items_of (rows ++ r ∷ []) ≡ items_of rows ++ item.Row 0 r ∷ []
items_of-push [] r = refl
items_of-push (x ∷ rows) r = ap (λ items. item.Row 0 x ∷ items) (items_of-push rows r)

pub items_open : (rows : List Row) → IsOpen (items_of rows)
items_open [] = tt
items_open (r ∷ rows) = items_open rows

-- an operator that was given rows stands for them
pub stood : (spec : OpSpec) (rows : List Row) (s : StateView) → s ≡ state_after spec rows → StandsFor s (items_of rows)
stood spec rows s is = subst (λ (x : StateView). StandsFor x (items_of rows)) (sym is) refl

-- a step takes the state after rows to that after one more
pub stepped : (spec : OpSpec) (rows : List Row) (r : Row) (old new : StateView) → old ≡ state_after spec rows → new.spec ≡ old.spec → new.old ≡ old.old
    → ((before : List Item) → IsOpen before → StandsFor old before → StandsFor new (before ++ item.Row 0 r ∷ []))
    → new ≡ state_after spec (rows ++ r ∷ [])
stepped spec rows r old new is same_spec same_old stands =
    let e : new.spec ≡ spec = same_spec ∙ ap (λ (s : StateView). s.spec) is in
    let unwatched : new.old ≡ None = same_old ∙ ap (λ (s : StateView). s.old) is in
    let told : new.entries ≡ entries spec (items_of (rows ++ r ∷ [])) =
    stands (items_of rows) (items_open rows) (stood spec rows old is) ∙ ap (λ (s : OpSpec). entries s (items_of rows ++ item.Row 0 r ∷ [])) e ∙ ap (entries spec) (sym (items_of-push rows r)) in
    ap (λ (s : OpSpec). let x : StateView = record { spec = s; entries = new.entries; old = new.old } in x) e
    ∙ ap (λ (es : List Entry). let x : StateView = record { spec = spec; entries = es; old = new.old } in x) told
    ∙ ap (λ (o : Option (List Entry)). let x : StateView = record { spec = spec; entries = entries spec (items_of (rows ++ r ∷ [])); old = o } in x) unwatched

-- one more row is of its own bucket, and of no other
pub rows_in-push_here : (c : Column) (bucket : ℕ) (rows : List Row) (r : Row) → bucket_of c r ≡ bucket → rows_in c bucket (rows ++ r ∷ []) ≡ rows_in c bucket rows ++ r ∷ []
rows_in-push_here c bucket rows r is =
    let test : Row → Bool = λ x. bucket_of c x == bucket in
    filter-append test rows (r ∷ []) ∙ ap (λ t. filter test rows ++ cond t (r ∷ []) []) (eq-eqb (bucket_of c r) bucket is)

pub rows_in-push_elsewhere : (c : Column) (bucket : ℕ) (rows : List Row) (r : Row) → (bucket_of c r == bucket) ≡ false → rows_in c bucket (rows ++ r ∷ []) ≡ rows_in c bucket rows
rows_in-push_elsewhere c bucket rows r is =
    let test : Row → Bool = λ x. bucket_of c x == bucket in
    filter-append test rows (r ∷ []) ∙ ap (λ t. filter test rows ++ cond t (r ∷ []) []) is ∙ append-nil (filter test rows)

-- a row that a partition takes
pub holds-here : (stage : Stage) (table : List ℕ) (part : ℕ) (rows : List Row) (r : Row) (states : List StateView) → length states ≡ buckets
    → Holds stage table part rows states
    → Holds stage table part (rows ++ r ∷ []) (slice_set states (bucket_of stage.by r) (state_after stage.op (rows_in stage.by (bucket_of stage.by r) rows ++ r ∷ [])))
holds-here stage table part rows r states long holds = record { each = each }
  where
    each : (bucket : ℕ) → bucket < buckets → part_of table bucket ≡ part
        → state_in stage.op (slice_set states (bucket_of stage.by r) (state_after stage.op (rows_in stage.by (bucket_of stage.by r) rows ++ r ∷ []))) bucket
        ≡ state_after stage.op (rows_in stage.by bucket (rows ++ r ∷ []))
    each bucket below there = elim (cases_Bool (bucket_of stage.by r == bucket)) [
      | inl same ↦
          let is : bucket_of stage.by r ≡ bucket = eqb-true (bucket_of stage.by r) bucket same in
          let inside : bucket < length states = subst (λ (n : ℕ). bucket < n) (sym long) below in
          ap (λ (b : ℕ). state_in stage.op (slice_set states b (state_after stage.op (rows_in stage.by b rows ++ r ∷ []))) bucket) is
          ∙ get_or-set_same states bucket (state_after stage.op (rows_in stage.by bucket rows ++ r ∷ [])) (unseen stage.op) inside
          ∙ ap (state_after stage.op) (sym (rows_in-push_here stage.by bucket rows r is))
      | inr other ↦
          let apart : bucket ≢ bucket_of stage.by r = λ e. false≢true (sym other ∙ eq-eqb (bucket_of stage.by r) bucket (sym e)) in
          get_or-set_other states (bucket_of stage.by r) bucket (state_after stage.op (rows_in stage.by (bucket_of stage.by r) rows ++ r ∷ [])) (unseen stage.op) apart
          ∙ holds.each bucket below there
          ∙ ap (state_after stage.op) (sym (rows_in-push_elsewhere stage.by bucket rows r other))
    ]

-- a row that it does not take
pub holds-elsewhere : (stage : Stage) (table : List ℕ) (part : ℕ) (rows : List Row) (r : Row) (states : List StateView) → (part_of table (bucket_of stage.by r) == part) ≡ false
    → Holds stage table part rows states → Holds stage table part (rows ++ r ∷ []) states
holds-elsewhere stage table part rows r states away holds = record { each = each }
  where
    apart : (bucket : ℕ) → part_of table bucket ≡ part → ((bucket_of stage.by r == bucket) ≡ true) ⊎ ((bucket_of stage.by r == bucket) ≡ false) → (bucket_of stage.by r == bucket) ≡ false
    apart bucket there (inl same) =
        absurd (false≢true (sym away ∙ eq-eqb (part_of table (bucket_of stage.by r)) part (ap (part_of table) (eqb-true (bucket_of stage.by r) bucket same) ∙ there)))
    apart bucket there (inr other) = other

    each : (bucket : ℕ) → bucket < buckets → part_of table bucket ≡ part → state_in stage.op states bucket ≡ state_after stage.op (rows_in stage.by bucket (rows ++ r ∷ []))
    each bucket below there =
        let other : (bucket_of stage.by r == bucket) ≡ false = apart bucket there (cases_Bool (bucket_of stage.by r == bucket)) in
        holds.each bucket below there ∙ ap (state_after stage.op) (sym (rows_in-push_elsewhere stage.by bucket rows r other))
