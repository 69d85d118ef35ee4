-- What a stage passes on: its rows are those that it answers with, and their marks tell which are reached.
use Rattle.std.proofs.Common.{ℕ, zero, suc, ◌≡◌, ◌+◌, Bool, true, false, cond, List, [], ◌∷◌, ◌++◌, length, map, refl, sym, ap, ◌∙◌, arith, append_assoc, length-append}
use Rattle.std.specs.Prelude.{◌==◌, slice_index_or}
use Rattle.std.proofs.lemmas.List.{append-nil, length-map, map-append}
use Rattle.tuple_edge.specs.Row.{route_of}
use Rattle.tuple_edge.specs.declared.item.Item.{Item}
use Rattle.tuple_edge.specs.declared.item.Item.TheVariants as item
use Rattle.tuple_edge.specs.declared.row.Row.{Row}
use Rattle.op_spec.specs.Spec.{IsSpec}
use Rattle.op_spec.specs.declared.spec.OpSpec.{OpSpec}
use Rattle.stream_ops.specs.Answers.{answers, end_answer, row_answer}
use Rattle.plan_reader.specs.PlanView.{IsStage}
use Rattle.plan_reader.specs.declared.stage.Stage.{Stage}
use Rattle.evaluation.specs.StageRows.{alike, early_replies, late_replies, part_replies, row_replies, rows_to}
use Rattle.evaluation.proofs.Taking.{alike_more}
use Rattle.row_cause.specs.Causes.{Cause, end_causes, items_in, row_causes}
use Rattle.row_cause.specs.Causes.{rows_in as placed_rows}
use Rattle.row_cause.specs.declared.placed.Placed.{Placed}
use Rattle.row_cause.proofs.Filters.{filter_mapped}
use Rattle.row_origin.specs.Stages.{early_causes, late_causes, part_causes, placed_from, placed_to}
use Rattle.row_reach.specs.Reach.{reached, touched}
use Rattle.reach_finder.specs.Shades.{marking, shaded, traced, traced_by}
use Rattle.reach_finder.specs.Traced.{marks_in, rows_in, traced_early, traced_end, traced_late, traced_part, traced_reply, traced_row, traced_to}
use Rattle.reach_finder.specs.declared.shades.Traced.{Traced}
use Rattle.reach_finder.proofs.Marks.{end_marks, row_marks, shade_at, traced_at}

-- ---- rows

pub rows_by : (op : OpSpec) (spoke : Bool) (rows shades : List Row) → rows_in (traced_by op spoke rows shades) ≡ rows
rows_by op spoke [] shades = refl
rows_by op spoke (r ∷ rows) [] = ap (λ (rs : List Row). r ∷ rs) (rows_by op spoke rows [])
rows_by op spoke (r ∷ rows) (s ∷ shades) = ap (λ (rs : List Row). r ∷ rs) (rows_by op spoke rows shades)

rows_more : (xs : List Traced) (x : Traced) → rows_in (xs ++ x ∷ []) ≡ rows_in xs ++ x.row ∷ []
rows_more xs x = map-append (λ (x : Traced). x.row) xs (x ∷ [])

rows_both : (xs ys : List Traced) → rows_in (xs ++ ys) ≡ rows_in xs ++ rows_in ys
rows_both xs ys = map-append (λ (x : Traced). x.row) xs ys

to_rows : (stage : Stage) (q : ℕ) (xs : List Traced) → rows_in (traced_to stage q xs) ≡ rows_to stage q (rows_in xs)
to_rows stage q xs = sym (filter_mapped (λ (x : Traced). x.row) (λ r. route_of r stage.by stage.parts == q) xs)

reply_rows : (stage : Stage) (before : List Traced) (x : Traced) → rows_in (traced_reply stage before x) ≡ row_replies stage (rows_in before) x.row
reply_rows stage before x =
    let q = route_of x.row stage.by stage.parts in
    let mine = traced_to stage q before in
    rows_by stage.op x.reached (row_answer stage.op (alike (rows_in mine)) x.row) (row_answer (marking stage.op) (alike (map (shaded stage.op) mine)) (shaded stage.op x))
    ∙ ap (λ (rows : List Row). row_answer stage.op (alike rows) x.row) (to_rows stage q before)

early_rows : (stage : Stage) (before xs : List Traced) → rows_in (traced_early stage before xs) ≡ early_replies stage (rows_in before) (rows_in xs)
early_rows stage before [] = refl
early_rows stage before (x ∷ xs) =
    rows_both (traced_reply stage before x) (traced_early stage (before ++ x ∷ []) xs)
    ∙ (ap (λ (rows : List Row). rows ++ rows_in (traced_early stage (before ++ x ∷ []) xs)) (reply_rows stage before x)
    ∙ ap (λ (rows : List Row). row_replies stage (rows_in before) x.row ++ rows)
    (early_rows stage (before ++ x ∷ []) xs ∙ ap (λ (rows : List Row). early_replies stage rows (rows_in xs)) (rows_more before x)))

end_rows : (op : OpSpec) (before : List Traced) → rows_in (traced_end op before) ≡ end_answer op (alike (rows_in before))
end_rows op before = rows_by op false (end_answer op (alike (rows_in before))) (end_answer (marking op) (alike (map (shaded op) before)))

-- what a partition answers to late rows and the end
abbrev left_answers : Stage → ℕ → List Row → List Row → List Row
left_answers stage q before late = answers stage.op (alike before) (alike (rows_to stage q late) ++ item.End 0 ∷ [])

part_case : (stage : Stage) (q : ℕ) (before : List Traced) (x : Traced) (late : List Traced) (t : Bool) → (route_of x.row stage.by stage.parts == q) ≡ t
    → rows_in (traced_part stage q (before ++ x ∷ []) late) ≡ left_answers stage q (rows_in (before ++ x ∷ [])) (rows_in late)
    → rows_in (traced_part stage q before late) ≡ left_answers stage q (rows_in before) (rows_in late)
    → rows_in (cond t (traced_row stage.op before x ++ traced_part stage q (before ++ x ∷ []) late) (traced_part stage q before late))
    ≡ answers stage.op (alike (rows_in before)) (alike (cond t (x.row ∷ rows_to stage q (rows_in late)) (rows_to stage q (rows_in late))) ++ item.End 0 ∷ [])
part_case stage q before x late true is more same =
    rows_both (traced_row stage.op before x) (traced_part stage q (before ++ x ∷ []) late)
    ∙ (ap (λ (rows : List Row). rows ++ rows_in (traced_part stage q (before ++ x ∷ []) late))
    (rows_by stage.op x.reached (row_answer stage.op (alike (rows_in before)) x.row) (row_answer (marking stage.op) (alike (map (shaded stage.op) before)) (shaded stage.op x)))
    ∙ ap (λ (rows : List Row). row_answer stage.op (alike (rows_in before)) x.row ++ rows)
    (more ∙ ap (λ (is : List Item). answers stage.op is (alike (rows_to stage q (rows_in late)) ++ item.End 0 ∷ [])) (ap alike (rows_more before x) ∙ alike_more (rows_in before) x.row)))
part_case stage q before x late false is more same = same

part_rows : (stage : Stage) (q : ℕ) (before late : List Traced) → rows_in (traced_part stage q before late) ≡ left_answers stage q (rows_in before) (rows_in late)
part_rows stage q before [] = end_rows stage.op before ∙ sym (append-nil (end_answer stage.op (alike (rows_in before))))
part_rows stage q before (x ∷ late) =
    let goes = route_of x.row stage.by stage.parts == q in
    part_case stage q before x late goes refl (part_rows stage q (before ++ x ∷ []) late) (part_rows stage q before late)
    ∙ ap (λ (rows : List Row). answers stage.op (alike (rows_in before)) (alike rows ++ item.End 0 ∷ [])) (to_case x.row (rows_in late) goes refl)
  where
    to_case : (r : Row) (rows : List Row) (t : Bool) → (route_of r stage.by stage.parts == q) ≡ t → cond t (r ∷ rows_to stage q rows) (rows_to stage q rows) ≡ rows_to stage q (r ∷ rows)
    to_case r rows true is = rw is refl
    to_case r rows false is = rw is refl

late_rows : (stage : Stage) (early late : List Traced) (q n : ℕ) → rows_in (traced_late stage early late q n) ≡ late_replies stage (rows_in early) (rows_in late) q n
late_rows stage early late q zero = refl
late_rows stage early late q (suc n) =
    rows_both (traced_part stage q (traced_to stage q early) late) (traced_late stage early late (q + 1) n)
    ∙ (ap (λ (rows : List Row). rows ++ rows_in (traced_late stage early late (q + 1) n))
    (part_rows stage q (traced_to stage q early) late ∙ ap (λ (rows : List Row). left_answers stage q rows (rows_in late)) (to_rows stage q early))
    ∙ ap (λ (rows : List Row). part_replies stage (rows_in early) (rows_in late) q ++ rows) (late_rows stage early late (q + 1) n))

-- ---- marks, of rows with their places

abbrev traced_all : List Bool → List Placed → List Traced
traced_all marks placed = map (traced_at marks) placed

rows_placed : (marks : List Bool) (B : List Placed) → rows_in (traced_all marks B) ≡ placed_rows B
rows_placed marks [] = refl
rows_placed marks (x ∷ B) = ap (λ (rows : List Row). x.row ∷ rows) (rows_placed marks B)

shades_placed : (op : OpSpec) (marks : List Bool) (B : List Placed) → map (shaded op) (traced_all marks B) ≡ map (shade_at op marks) B
shades_placed op marks [] = refl
shades_placed op marks (x ∷ B) = ap (λ (rows : List Row). shade_at op marks x ∷ rows) (shades_placed op marks B)

marks_both : (xs ys : List Traced) → marks_in (xs ++ ys) ≡ marks_in xs ++ marks_in ys
marks_both xs ys = map-append (λ (x : Traced). x.reached) xs ys

-- those that come first, and then others
both_touched : (marks : List Bool) (xs ys : List Traced) (cs ds : List Cause) → marks_in xs ≡ map (touched marks) cs → marks_in ys ≡ map (touched marks) ds → marks_in (xs ++ ys) ≡ map (touched marks) (cs ++ ds)
both_touched marks xs ys cs ds e h =
    marks_both xs ys ∙ (ap (λ (bs : List Bool). bs ++ marks_in ys) e ∙ (ap (λ (bs : List Bool). map (touched marks) cs ++ bs) h ∙ sym (map-append (touched marks) cs ds)))

row_touched : (op : OpSpec) (marks : List Bool) (B : List Placed) (r : Placed) → IsSpec op → marks_in (traced_row op (traced_all marks B) (traced_at marks r)) ≡ map (touched marks) (row_causes op B r)
row_touched op marks B r limits =
    let spoke = (traced_at marks r).reached in
    let s = shade_at op marks r in
    ap (λ (rows : List Row). marks_in (traced_by op spoke (row_answer op (alike rows) r.row) (row_answer (marking op) (alike (map (shaded op) (traced_all marks B))) s))) (rows_placed marks B)
    ∙ (ap (λ (rows : List Row). marks_in (traced_by op spoke (row_answer op (items_in B) r.row) (row_answer (marking op) (alike rows) s))) (shades_placed op marks B)
    ∙ row_marks op marks B r limits)

end_touched : (op : OpSpec) (marks : List Bool) (B : List Placed) → marks_in (traced_end op (traced_all marks B)) ≡ map (touched marks) (end_causes op B)
end_touched op marks B =
    ap (λ (rows : List Row). marks_in (traced_by op false (end_answer op (alike rows)) (end_answer (marking op) (alike (map (shaded op) (traced_all marks B)))))) (rows_placed marks B)
    ∙ (ap (λ (rows : List Row). marks_in (traced_by op false (end_answer op (items_in B)) (end_answer (marking op) (alike rows)))) (shades_placed op marks B)
    ∙ end_marks op marks B)

to_placed : (stage : Stage) (q : ℕ) (marks : List Bool) (B : List Placed) → traced_to stage q (traced_all marks B) ≡ traced_all marks (placed_to stage q B)
to_placed stage q marks B = filter_mapped (traced_at marks) (λ (x : Traced). route_of x.row stage.by stage.parts == q) B

all_more : (marks : List Bool) (B : List Placed) (x : Placed) → traced_all marks B ++ traced_at marks x ∷ [] ≡ traced_all marks (B ++ x ∷ [])
all_more marks B x = sym (map-append (traced_at marks) B (x ∷ []))

early_touched : (stage : Stage) (marks : List Bool) (B P : List Placed) → IsSpec stage.op → marks_in (traced_early stage (traced_all marks B) (traced_all marks P)) ≡ map (touched marks) (early_causes stage B P)
early_touched stage marks B [] limits = refl
early_touched stage marks B (x ∷ P) limits =
    let q = route_of x.row stage.by stage.parts in
    both_touched marks (traced_reply stage (traced_all marks B) (traced_at marks x)) (traced_early stage (traced_all marks B ++ traced_at marks x ∷ []) (traced_all marks P))
    (row_causes stage.op (placed_to stage q B) x) (early_causes stage (B ++ x ∷ []) P)
    (ap (λ (xs : List Traced). marks_in (traced_row stage.op xs (traced_at marks x))) (to_placed stage q marks B) ∙ row_touched stage.op marks (placed_to stage q B) x limits)
    (ap (λ (xs : List Traced). marks_in (traced_early stage xs (traced_all marks P))) (all_more marks B x) ∙ early_touched stage marks (B ++ x ∷ []) P limits)

part_touched_case : (stage : Stage) (q : ℕ) (marks : List Bool) (B : List Placed) (x : Placed) (L : List Placed) (t : Bool) → IsSpec stage.op
    → marks_in (traced_part stage q (traced_all marks (B ++ x ∷ [])) (traced_all marks L)) ≡ map (touched marks) (part_causes stage.op (B ++ x ∷ []) (placed_to stage q L))
    → marks_in (traced_part stage q (traced_all marks B) (traced_all marks L)) ≡ map (touched marks) (part_causes stage.op B (placed_to stage q L))
    → marks_in (cond t (traced_row stage.op (traced_all marks B) (traced_at marks x) ++ traced_part stage q (traced_all marks B ++ traced_at marks x ∷ []) (traced_all marks L))
    (traced_part stage q (traced_all marks B) (traced_all marks L)))
    ≡ map (touched marks) (part_causes stage.op B (cond t (x ∷ placed_to stage q L) (placed_to stage q L)))
part_touched_case stage q marks B x L true limits more same =
    both_touched marks (traced_row stage.op (traced_all marks B) (traced_at marks x)) (traced_part stage q (traced_all marks B ++ traced_at marks x ∷ []) (traced_all marks L))
    (row_causes stage.op B x) (part_causes stage.op (B ++ x ∷ []) (placed_to stage q L)) (row_touched stage.op marks B x limits)
    (ap (λ (xs : List Traced). marks_in (traced_part stage q xs (traced_all marks L))) (all_more marks B x) ∙ more)
part_touched_case stage q marks B x L false limits more same = same

part_touched : (stage : Stage) (q : ℕ) (marks : List Bool) (B L : List Placed) → IsSpec stage.op
    → marks_in (traced_part stage q (traced_all marks B) (traced_all marks L)) ≡ map (touched marks) (part_causes stage.op B (placed_to stage q L))
part_touched stage q marks B [] limits = end_touched stage.op marks B
part_touched stage q marks B (x ∷ L) limits =
    part_touched_case stage q marks B x L (route_of x.row stage.by stage.parts == q) limits (part_touched stage q marks (B ++ x ∷ []) L limits) (part_touched stage q marks B L limits)
    ∙ ap (λ (placed : List Placed). map (touched marks) (part_causes stage.op B placed)) (to_case x L (route_of x.row stage.by stage.parts == q) refl)
  where
    to_case : (x : Placed) (L : List Placed) (t : Bool) → (route_of x.row stage.by stage.parts == q) ≡ t → cond t (x ∷ placed_to stage q L) (placed_to stage q L) ≡ placed_to stage q (x ∷ L)
    to_case x L true is = rw is refl
    to_case x L false is = rw is refl

late_touched : (stage : Stage) (marks : List Bool) (E L : List Placed) (q n : ℕ) → IsSpec stage.op → marks_in (traced_late stage (traced_all marks E) (traced_all marks L) q n) ≡ map (touched marks) (late_causes stage E L q n)
late_touched stage marks E L q zero limits = refl
late_touched stage marks E L q (suc n) limits =
    both_touched marks (traced_part stage q (traced_to stage q (traced_all marks E)) (traced_all marks L)) (traced_late stage (traced_all marks E) (traced_all marks L) (q + 1) n)
    (part_causes stage.op (placed_to stage q E) (placed_to stage q L)) (late_causes stage E L (q + 1) n)
    (ap (λ (xs : List Traced). marks_in (traced_part stage q xs (traced_all marks L))) (to_placed stage q marks E) ∙ part_touched stage q marks (placed_to stage q E) L limits)
    (late_touched stage marks E L (q + 1) n limits)

-- ---- places

mark_there : (front : List Bool) (b : Bool) (back : List Bool) → slice_index_or (front ++ b ∷ back) (length front) false ≡ b
mark_there [] b back = refl
mark_there (a ∷ front) b back = mark_there front b back

same_traced : (x : Traced) (b : Bool) → b ≡ x.reached → traced x.row b ≡ x
same_traced x b e = ap (traced x.row) e

-- rows and their marks make up what is traced
placed_are : (front : List Bool) (xs : List Traced) (back : List Bool) (n : ℕ) → length front ≡ n → traced_all (front ++ (marks_in xs ++ back)) (placed_from n (rows_in xs)) ≡ xs
placed_are front [] back n e = refl
placed_are front (x ∷ xs) back n e =
    let marks : List Bool = front ++ (x.reached ∷ (marks_in xs ++ back)) in
    let here : slice_index_or marks n false ≡ x.reached = ap (λ (m : ℕ). slice_index_or marks m false) (sym e) ∙ mark_there front x.reached (marks_in xs ++ back) in
    let longer : length (front ++ x.reached ∷ []) ≡ n + 1 = omega (arith, length-append front (x.reached ∷ [])) in
    let split : marks ≡ (front ++ x.reached ∷ []) ++ (marks_in xs ++ back) = sym (append_assoc front (x.reached ∷ []) (marks_in xs ++ back)) in
    ap (λ (first : Traced). first ∷ traced_all marks (placed_from (n + 1) (rows_in xs))) (same_traced x (slice_index_or marks n false) here)
    ∙ ap (λ (rest : List Traced). x ∷ rest) (ap (λ (bs : List Bool). traced_all bs (placed_from (n + 1) (rows_in xs))) split ∙ placed_are (front ++ x.reached ∷ []) xs back (n + 1) longer)

-- ---- a stage

pub passed_early : (stage : Stage) (early out : List Traced) → out ≡ traced_early stage [] early → rows_in out ≡ early_replies stage [] (rows_in early)
passed_early stage early out e = ap rows_in e ∙ early_rows stage [] early

pub passed_late : (stage : Stage) (early late out : List Traced) → out ≡ traced_late stage early late 0 stage.parts → rows_in out ≡ late_replies stage (rows_in early) (rows_in late) 0 stage.parts
passed_late stage early late out e = ap rows_in e ∙ late_rows stage early late 0 stage.parts

pub passed_marks : (stage : Stage) (early late out_early out_late : List Traced) → IsStage stage → out_early ≡ traced_early stage [] early → out_late ≡ traced_late stage early late 0 stage.parts
    → marks_in (out_early ++ out_late) ≡ reached stage (rows_in early) (rows_in late) (marks_in (early ++ late))
passed_marks stage early late out_early out_late limits e l =
    let marks = marks_in (early ++ late) in
    let E = placed_from 0 (rows_in early) in
    let L = placed_from (length (rows_in early)) (rows_in late) in
    let E_is : traced_all marks E ≡ early = ap (λ (bs : List Bool). traced_all bs E) (marks_both early late) ∙ placed_are [] early (marks_in late) 0 refl in
    let size : length (marks_in early) ≡ length (rows_in early) = length-map early (λ (x : Traced). x.reached) ∙ sym (length-map early (λ (x : Traced). x.row)) in
    let L_is : traced_all marks L ≡ late =
    ap (λ (bs : List Bool). traced_all bs L) (marks_both early late ∙ ap (λ (bs : List Bool). marks_in early ++ bs) (sym (append-nil (marks_in late)))) ∙ placed_are (marks_in early) late [] (length (rows_in early)) size in
    both_touched marks out_early out_late (early_causes stage [] E) (late_causes stage E L 0 stage.parts)
    (ap marks_in (e ∙ ap (traced_early stage []) (sym E_is)) ∙ early_touched stage marks [] E limits.op)
    (ap marks_in (l ∙ (ap (λ (xs : List Traced). traced_late stage xs late 0 stage.parts) (sym E_is) ∙ ap (λ (xs : List Traced). traced_late stage (traced_all marks E) xs 0 stage.parts) (sym L_is)))
    ∙ late_touched stage marks E L 0 stage.parts limits.op)
