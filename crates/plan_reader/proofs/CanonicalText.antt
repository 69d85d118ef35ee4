-- The canonical text of a plan reads back as the plan.
use Rattle.std.proofs.Common.{ℕ, suc, ◌≡◌, ◌<◌, ◌≤◌, ◌+◌, ◌*◌, ◌==◌, nat_lt, true, false, List, [], ◌∷◌, ◌++◌, length, map, refl, sym, ap, subst, ◌∙◌, arith, append_assoc, append-nil, length-append}
use Rattle.std.specs.Prelude.{Option, Some, None, Ok, nat_le, All, codes}
use Rattle.std.specs.Fmt.{decimal}
use Rattle.std.specs.List.{list_any}
use Rattle.std.proofs.lemmas.Bool.Decides.{nat_tests}
use Rattle.std.proofs.lemmas.List.Elements.{All-head, All-tail}
use Rattle.tuple_edge.specs.declared.row.Column.{Column}
use Rattle.text_words.specs.Lines.{Word, counting_lines}
use Rattle.text_words.specs.Reading.{fixed_or}
use Rattle.text_words.proofs.Spelling.{counting_spelled, length_text, spelled}
use Rattle.plan_reader.specs.Plan.{Said, body_of, hold_at, mark_at, next_stage_at, plan_of, plan_of_lines, plan_said, routing_at, said_in, setting_at, stage_at, stage_number_at, stages_in, statement_at, statements_of, version_at, whole}
use Rattle.plan_reader.specs.PlanView.{IsJoinLast, IsPlan, IsStage, PlanView, edges, is_joining}
use Rattle.plan_reader.specs.Text.{column_name, op_words, plan_lines, plan_text, stage_lines, stage_words}
use Rattle.plan_reader.specs.Limits.{edges_per_mark, max_hold, max_mark, max_parts, max_plan_bytes, max_stages, max_version, min_hold}
use Rattle.plan_reader.specs.declared.stage.Stage.{Stage}
use Rattle.plan_reader.specs.declared.statement.Statement.{Statement}
use Rattle.plan_reader.specs.declared.statement.Statement.TheVariants as says
use Rattle.plan_reader.proofs.Joins.{none_before}
use Rattle.plan_reader.proofs.PlainText.{plan_plain}
use Rattle.plan_reader.proofs.ReadBack.{column_back, number_back, number_within_back, op_back}

-- ---- lines

-- the words of a stage's line after its first
abbrev pub stage_rest : ℕ → Stage → List Word
stage_rest number s = decimal number ∷ codes "parts" ∷ decimal s.parts ∷ codes "by" ∷ column_name s.by ∷ op_words s.op

stage_number_back : (before : List Stage) (rest : List Word) → length before < max_stages → list_any is_joining before ≡ false
    → stage_number_at before (decimal (length before + 1) ∷ rest) ≡ Ok (tt, rest)
unfolding stage_number_at
stage_number_back before rest room none =
    let test : nat_le max_stages (length before) ≡ false = grind (arith, nat_tests) in
    let same : (length before + 1 == length before + 1) ≡ true = grind (arith, nat_tests) in
    rw (test, none, number_back (length before + 1) rest (omega (arith, room)), same) refl

routing_back : (parts : ℕ) (by : Column) (rest : List Word) → 1 ≤ parts → parts ≤ max_parts
    → routing_at (codes "parts" ∷ decimal parts ∷ codes "by" ∷ column_name by ∷ rest) ≡ Ok ((parts, by), rest)
unfolding routing_at fixed_or
routing_back parts by rest some few =
    rw (number_within_back 1 max_parts parts (codes "by" ∷ column_name by ∷ rest) some few (omega arith), column_back by rest) refl

stage_back : (before : List Stage) (s : Stage) → length before < max_stages → list_any is_joining before ≡ false → IsStage s
    → stage_at before (stage_rest (length before + 1) s) ≡ Ok (s, [])
unfolding stage_at
stage_back before s room none within =
    let op = op_words s.op in
    rw (
      stage_number_back before (codes "parts" ∷ decimal s.parts ∷ codes "by" ∷ column_name s.by ∷ op) room none,
      routing_back s.parts s.by op within.some within.few,
      op_back s.op within.op within.limit,
    ) refl

next_stage_back : (said : Said) (number : ℕ) (s : Stage) → number ≡ length said.stages + 1 → length said.stages < max_stages
    → list_any is_joining said.stages ≡ false → IsStage s
    → statement_at said (stage_words number s) ≡ Ok (says.Stage s, [])
unfolding statement_at next_stage_at
next_stage_back said number s number_is room none within = rw (number_is, stage_back said.stages s room none within) refl

setting_back : (low high n : ℕ) → low ≤ n → n ≤ high → high < 10000000000000000000 → setting_at None [] low high (decimal n ∷ []) ≡ Ok (n, [])
unfolding setting_at
setting_back low high n above below small = rw (number_within_back low high n [] above below small) refl

mark_back : (hold : Option ℕ) (n : ℕ) → 1 ≤ n → n ≤ max_mark → statement_at (record { mark = None; hold = hold; stages = [] }) (codes "mark" ∷ decimal n ∷ []) ≡ Ok (says.Mark n, [])
unfolding statement_at mark_at
mark_back hold n low high = rw (setting_back 1 max_mark n low high (omega arith)) refl

hold_back : (mark : Option ℕ) (n : ℕ) → min_hold ≤ n → n ≤ max_hold → statement_at (record { mark = mark; hold = None; stages = [] }) (codes "hold" ∷ decimal n ∷ []) ≡ Ok (says.Hold n, [])
unfolding statement_at hold_at
hold_back mark n low high = rw (setting_back min_hold max_hold n low high (omega arith)) refl

version_back : (n : ℕ) → 1 ≤ n → n ≤ max_version → version_at (codes "flux" ∷ decimal n ∷ []) ≡ Ok (n, [])
unfolding version_at fixed_or
version_back n low high = rw (number_within_back 1 max_version n [] low high (omega arith)) refl

-- ---- stages, one after the other

stages_in-append : (before after : List Statement) → stages_in (before ++ after) ≡ stages_in before ++ stages_in after
stages_in-append [] after = refl
stages_in-append (says.Mark n ∷ before) after = stages_in-append before after
stages_in-append (says.Hold n ∷ before) after = stages_in-append before after
stages_in-append (says.Stage s ∷ before) after = ap (λ stages. s ∷ stages) (stages_in-append before after)

stages_in-map : (stages : List Stage) → stages_in (map says.Stage stages) ≡ stages
stages_in-map [] = refl
stages_in-map (s ∷ stages) = ap (λ more. s ∷ more) (stages_in-map stages)

stages_back : (before : List Statement) (number next : ℕ) (stages : List Stage)
    → next ≡ length (stages_in before) + 1 → length (stages_in before) + length stages ≤ max_stages → IsJoinLast (stages_in before ++ stages) → All IsStage stages
    → statements_of before (spelled number (stage_lines next stages)) ≡ Ok (before ++ map says.Stage stages)
unfolding statements_of
stages_back before number next [] next_is room last within = ap Ok (sym (append-nil before))
stages_back before number next (s ∷ stages) next_is room last within =
    let here : length (stages_in before) < max_stages = omega (arith, room) in
    let pushed = stages_in-append before (says.Stage s ∷ []) in
    let one_more : length (stages_in (before ++ says.Stage s ∷ [])) ≡ length (stages_in before) + 1
    = ap length pushed ∙ length-append (stages_in before) (s ∷ []) in
    let same : stages_in before ++ s ∷ stages ≡ stages_in (before ++ says.Stage s ∷ []) ++ stages
    = sym (append_assoc (stages_in before) (s ∷ []) stages) ∙ ap (λ xs. xs ++ stages) (sym pushed) in
    rw (next_stage_back (said_in before) next s next_is here (none_before (stages_in before) s stages last) (All-head IsStage s stages within))
    (stages_back (before ++ says.Stage s ∷ []) (number + 1) (next + 1) stages (omega (arith, one_more, next_is)) (omega (arith, one_more, room)) (subst IsJoinLast same last)
    (All-tail IsStage s stages within)
    ∙ ap Ok (append_assoc before (says.Stage s ∷ []) (map says.Stage stages)))

-- ---- the plan

settings_back : (plan : PlanView) → IsPlan plan
    → statements_of [] (spelled 2 ((codes "mark" ∷ decimal plan.mark ∷ []) ∷ (codes "hold" ∷ decimal plan.hold ∷ []) ∷ stage_lines 1 plan.stages))
    ≡ Ok (says.Mark plan.mark ∷ says.Hold plan.hold ∷ map says.Stage plan.stages)
unfolding statements_of
settings_back plan within =
    rw (mark_back None plan.mark within.mark_low within.mark_high, hold_back (Some plan.mark) plan.hold within.hold_low within.hold_high)
    (stages_back (says.Mark plan.mark ∷ says.Hold plan.hold ∷ []) 4 1 plan.stages refl (omega (arith, within.few)) within.join_last within.stages)

whole_back : (plan : PlanView) → IsPlan plan → whole plan ≡ Ok plan
whole_back plan within =
    let some : (length plan.stages == 0) ≡ false = grind (arith, nat_tests, within.some) in
    let uncrowded : nat_lt (edges_per_mark * plan.mark) (edges plan.version plan.stages) ≡ false = grind (arith, nat_tests, within.edges) in
    rw (some, uncrowded) refl

said_back : (plan : PlanView) → plan_said plan.version (said_in (says.Mark plan.mark ∷ says.Hold plan.hold ∷ map says.Stage plan.stages)) ≡ plan
said_back plan = rw (stages_in-map plan.stages) refl

lines_back : (plan : PlanView) → IsPlan plan → plan_of_lines (spelled 1 (plan_lines plan)) ≡ Ok plan
unfolding plan_of_lines body_of
lines_back plan within = rw (version_back plan.version within.version_low within.version_high, settings_back plan within) (ap whole (said_back plan) ∙ whole_back plan within)

stage_lines_length : (number : ℕ) (stages : List Stage) → length (stage_lines number stages) ≡ length stages
stage_lines_length number [] = refl
stage_lines_length number (s ∷ stages) = ap suc (stage_lines_length (number + 1) stages)

-- the canonical text is not too long
text_length : (plan : PlanView) → IsPlan plan → length (plan_text plan) ≤ max_plan_bytes
unfolding plan_text
text_length plan within =
    omega (arith, length_text (plan_lines plan) (plan_plain plan within), stage_lines_length 1 plan.stages, within.few)

text_lines : (plan : PlanView) → IsPlan plan → counting_lines (plan_text plan) ≡ spelled 1 (plan_lines plan)
unfolding plan_text
text_lines plan within = counting_spelled 1 (plan_lines plan) (plan_plain plan within)

-- the canonical text of a plan reads back as the plan
pub plan_text_reads_back : (plan : PlanView) → IsPlan plan → plan_of (plan_text plan) ≡ Ok plan
unfolding plan_of
plan_text_reads_back plan within =
    let short : nat_lt max_plan_bytes (length (plan_text plan)) ≡ false = grind (arith, nat_tests, text_length plan within) in
    rw (short, text_lines plan within) (lines_back plan within)
