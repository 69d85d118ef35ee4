-- What came to stages, one stage on.
use Rattle.std.proofs.Common.{ℕ, ◌≡◌, ◌<◌, ◌+◌, Bool, List, [], ◌∷◌, ◌++◌, drop, get_or, length, sym, ap, ◌∙◌, append_assoc}
use Rattle.std.specs.Prelude.{All}
use Rattle.std.proofs.lemmas.List.{drop_more, map-append}
use Rattle.std.proofs.lemmas.List.Elements.{All-cons, All-head, All-nil, All-tail}
use Rattle.tuple_edge.specs.declared.row.Row.{Row}
use Rattle.plan_reader.specs.declared.stage.Stage.{Stage}
use Rattle.evaluation.specs.StageRows.{HasTime, early_replies, late_replies}
use Rattle.row_reach.specs.Reach.{Passage, passage, passages, reached}
use Rattle.reach_finder.specs.Traced.{marks_in, rows_in}
use Rattle.reach_finder.specs.declared.shades.Traced.{Traced}

pub traced_times : (xs : List Traced) → All HasTime (rows_in xs) → All (λ (x : Traced). HasTime x.row) xs
traced_times [] h = All-nil (λ (x : Traced). HasTime x.row)
traced_times (x ∷ xs) h = All-cons (λ (x : Traced). HasTime x.row) x xs (All-head HasTime x.row (rows_in xs) h) (traced_times xs (All-tail HasTime x.row (rows_in xs) h))

-- early and late rows in one list
pub joined_is : (early late all : List Traced) → all ≡ early ++ late → passage (rows_in all) (marks_in all) ≡ passage (rows_in early ++ rows_in late) (marks_in (early ++ late))
joined_is early late all e =
    ap (λ (xs : List Traced). passage (rows_in xs) (marks_in xs)) e ∙ ap (λ (rows : List Row). passage rows (marks_in (early ++ late))) (map-append (λ (x : Traced). x.row) early late)

pub one_stage_on : (stages : List Stage) (k : ℕ) (d : Stage) (early late new_early new_late : List Row) (marks new_marks : List Bool) (had has whole : List Passage) → k < length stages
    → has ≡ had ++ passage (early ++ late) marks ∷ []
    → new_early ≡ early_replies (get_or stages k d) [] early → new_late ≡ late_replies (get_or stages k d) early late 0 (get_or stages k d).parts → new_marks ≡ reached (get_or stages k d) early late marks
    → had ++ passages (drop k stages) early late marks ≡ whole → has ++ passages (drop (k + 1) stages) new_early new_late new_marks ≡ whole
one_stage_on stages k d early late new_early new_late marks new_marks had has whole l put e f m before =
    let stage = get_or stages k d in
    let rest = drop (k + 1) stages in
    let p = passage (early ++ late) marks in
    let next : passages rest new_early new_late new_marks ≡ passages rest (early_replies stage [] early) (late_replies stage early late 0 stage.parts) (reached stage early late marks) =
    ap (λ (rows : List Row). passages rest rows new_late new_marks) e
    ∙ (ap (λ (rows : List Row). passages rest (early_replies stage [] early) rows new_marks) f ∙ ap (passages rest (early_replies stage [] early) (late_replies stage early late 0 stage.parts)) m) in
    ap (λ (ps : List Passage). ps ++ passages rest new_early new_late new_marks) put
    ∙ (append_assoc had (p ∷ []) (passages rest new_early new_late new_marks)
    ∙ (ap (λ (ps : List Passage). had ++ p ∷ ps) next ∙ (ap (λ (ss : List Stage). had ++ passages ss early late marks) (sym (drop_more stages k d l)) ∙ before)))
