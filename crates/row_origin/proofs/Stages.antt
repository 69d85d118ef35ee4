-- The rows that a stage passes on are, one by one, the answers over the rows of their causes alone.
use Rattle.std.proofs.Common.{ℕ, zero, suc, ◌≡◌, ◌+◌, List, [], ◌∷◌, ◌++◌, length, map, refl, sym, ap, ◌∙◌}
use Rattle.std.specs.Prelude.{◌==◌}
use Rattle.std.proofs.lemmas.List.{append-nil, length-map, map-append}
use Rattle.tuple_edge.specs.Row.{route_of}
use Rattle.tuple_edge.specs.declared.item.Item.{Item}
use Rattle.tuple_edge.specs.declared.item.Item.TheVariants as item
use Rattle.tuple_edge.specs.declared.row.Row.{Row}
use Rattle.op_spec.specs.Spec.{IsSpec}
use Rattle.op_spec.specs.declared.spec.OpSpec.{OpSpec}
use Rattle.stream_ops.specs.Answers.{answers, end_answer, row_answer}
use Rattle.plan_reader.specs.declared.stage.Stage.{Stage}
use Rattle.evaluation.specs.StageRows.{alike, early_replies, late_replies, part_replies, row_replies, rows_to}
use Rattle.row_cause.specs.Causes.{Cause, alone, items_in, row_causes, rows_in}
use Rattle.row_cause.specs.Laws.{one_by_one}
use Rattle.row_cause.specs.declared.placed.Placed.{Placed}
use Rattle.row_cause.proofs.Alone.{rows_rest}
use Rattle.row_cause.proofs.Ends.{ends_rest}
use Rattle.row_cause.proofs.Filters.{filter_mapped}
use Rattle.row_origin.specs.Laws.{PassedRowsRestOnCauses}
use Rattle.row_origin.specs.Stages.{early_causes, late_causes, part_causes, placed_from, placed_to}
use Rattle.row_origin.proofs.Placing.{rows_in-placed}

-- a list of one row
abbrev one : Row → List Row
one r = r ∷ []

rows_more : (B : List Placed) (x : Placed) → rows_in (B ++ x ∷ []) ≡ rows_in B ++ x.row ∷ []
rows_more B x = map-append (λ (x : Placed). x.row) B (x ∷ [])

items_more : (B : List Placed) (x : Placed) → items_in (B ++ x ∷ []) ≡ items_in B ++ item.Row 0 x.row ∷ []
items_more B x = ap (map (item.Row 0)) (rows_more B x) ∙ map-append (item.Row 0) (rows_in B) (x.row ∷ [])

rows_placed_to : (stage : Stage) (q : ℕ) (B : List Placed) → rows_in (placed_to stage q B) ≡ rows_to stage q (rows_in B)
rows_placed_to stage q B = sym (filter_mapped (λ (x : Placed). x.row) (λ r. route_of r stage.by stage.parts == q) B)

-- those that come first, and then others
both_rest : (op : OpSpec) (xs ys : List Row) (cs ds : List Cause) → one_by_one xs ≡ map (alone op) cs → one_by_one ys ≡ map (alone op) ds → one_by_one (xs ++ ys) ≡ map (alone op) (cs ++ ds)
both_rest op xs ys cs ds e f =
    map-append one xs ys ∙ (ap (λ (z : List (List Row)). z ++ one_by_one ys) e ∙ (ap (λ (z : List (List Row)). map (alone op) cs ++ z) f ∙ sym (map-append (alone op) cs ds)))

part_rest : (op : OpSpec) (B P : List Placed) → IsSpec op → one_by_one (answers op (items_in B) (items_in P ++ item.End 0 ∷ [])) ≡ map (alone op) (part_causes op B P)
part_rest op B [] limits = ap one_by_one (append-nil (end_answer op (items_in B))) ∙ ends_rest op B limits
part_rest op B (x ∷ P) limits =
    both_rest op (row_answer op (items_in B) x.row) (answers op (items_in B ++ item.Row 0 x.row ∷ []) (items_in P ++ item.End 0 ∷ [])) (row_causes op B x) (part_causes op (B ++ x ∷ []) P)
    (rows_rest op B x limits)
    (ap (λ (is : List Item). one_by_one (answers op is (items_in P ++ item.End 0 ∷ []))) (sym (items_more B x)) ∙ part_rest op (B ++ x ∷ []) P limits)

-- what a partition passes on of late rows
pub replies_rest : (stage : Stage) (E L : List Placed) (q : ℕ) → IsSpec stage.op → one_by_one (part_replies stage (rows_in E) (rows_in L) q) ≡ map (alone stage.op) (part_causes stage.op (placed_to stage q E) (placed_to stage q L))
replies_rest stage E L q limits =
    ap (λ (rows : List Row). one_by_one (answers stage.op (alike rows) (alike (rows_to stage q (rows_in L)) ++ item.End 0 ∷ []))) (sym (rows_placed_to stage q E))
    ∙ (ap (λ (rows : List Row). one_by_one (answers stage.op (items_in (placed_to stage q E)) (alike rows ++ item.End 0 ∷ []))) (sym (rows_placed_to stage q L))
    ∙ part_rest stage.op (placed_to stage q E) (placed_to stage q L) limits)

pub late_rest : (stage : Stage) (E L : List Placed) (q n : ℕ) → IsSpec stage.op → one_by_one (late_replies stage (rows_in E) (rows_in L) q n) ≡ map (alone stage.op) (late_causes stage E L q n)
late_rest stage E L q zero limits = refl
late_rest stage E L q (suc n) limits =
    both_rest stage.op (part_replies stage (rows_in E) (rows_in L) q) (late_replies stage (rows_in E) (rows_in L) (q + 1) n) (part_causes stage.op (placed_to stage q E) (placed_to stage q L)) (late_causes stage E L (q + 1) n)
    (replies_rest stage E L q limits) (late_rest stage E L (q + 1) n limits)

pub early_rest : (stage : Stage) (B P : List Placed) → IsSpec stage.op → one_by_one (early_replies stage (rows_in B) (rows_in P)) ≡ map (alone stage.op) (early_causes stage B P)
early_rest stage B [] limits = refl
early_rest stage B (x ∷ P) limits =
    let q = route_of x.row stage.by stage.parts in
    both_rest stage.op (row_replies stage (rows_in B) x.row) (early_replies stage (rows_in B ++ x.row ∷ []) (rows_in P)) (row_causes stage.op (placed_to stage q B) x) (early_causes stage (B ++ x ∷ []) P)
    (ap (λ (rows : List Row). one_by_one (row_answer stage.op (alike rows) x.row)) (sym (rows_placed_to stage q B)) ∙ rows_rest stage.op (placed_to stage q B) x limits)
    (ap (λ (rows : List Row). one_by_one (early_replies stage rows (rows_in P))) (sym (rows_more B x)) ∙ early_rest stage (B ++ x ∷ []) P limits)

pub passed_rest : PassedRowsRestOnCauses
passed_rest stage early late limits =
    let E = placed_from 0 early in
    let L = placed_from (length early) late in
    let is_early : rows_in E ≡ early = rows_in-placed 0 early in
    let is_late : rows_in L ≡ late = rows_in-placed (length early) late in
    both_rest stage.op (early_replies stage [] early) (late_replies stage early late 0 stage.parts) (early_causes stage [] E) (late_causes stage E L 0 stage.parts)
    (ap (λ (rows : List Row). one_by_one (early_replies stage [] rows)) (sym is_early) ∙ early_rest stage [] E limits.op)
    (ap (λ (rows : List Row). one_by_one (late_replies stage rows late 0 stage.parts)) (sym is_early)
    ∙ (ap (λ (rows : List Row). one_by_one (late_replies stage (rows_in E) rows 0 stage.parts)) (sym is_late) ∙ late_rest stage E L 0 stage.parts limits.op))

-- so there are as many causes of a partition's answers as it passes on
pub part_many : (stage : Stage) (E L : List Placed) (q : ℕ) → IsSpec stage.op → length (part_causes stage.op (placed_to stage q E) (placed_to stage q L)) ≡ length (part_replies stage (rows_in E) (rows_in L) q)
part_many stage E L q limits =
    sym (length-map (part_causes stage.op (placed_to stage q E) (placed_to stage q L)) (alone stage.op))
    ∙ (ap length (sym (replies_rest stage E L q limits)) ∙ length-map (part_replies stage (rows_in E) (rows_in L) q) one)
