-- What is kept of the lines so far is what their statements say.
use Rattle.std.proofs.Common.{ℕ, ◌≡◌, ◌≤◌, false, nat_lt, length, arith, List, [], ◌∷◌, ◌++◌, refl, ap, ◌∙◌, sym}
use Rattle.std.specs.Prelude.{Result, Ok, Err}
use Rattle.std.proofs.lemmas.Bool.Decides.{nat_tests}
use Rattle.text_words.specs.Lines.{LineView, counting_lines}
use Rattle.text_words.specs.Reading.{◌>>=◌, at_line}
use Rattle.plan_reader.specs.Draft.{drafted_plan, nothing_said, said_after, said_with, said_with_line}
use Rattle.plan_reader.specs.Messages.{fault_at}
use Rattle.plan_reader.specs.Plan.{Said, body_of, hold_in, mark_in, plan_of, plan_of_lines, plan_said, said_in, stages_in, statement_at, statements_of, whole}
use Rattle.plan_reader.specs.declared.error.PlanError.{PlanError}
use Rattle.plan_reader.specs.Limits.{max_plan_bytes}
use Rattle.plan_reader.specs.declared.statement.Statement.{Statement}
use Rattle.plan_reader.specs.declared.statement.Statement.TheVariants as says

mark_in-push : (before : List Statement) (next : Statement) → mark_in (before ++ next ∷ []) ≡ (said_with (said_in before) next).mark
mark_in-push [] (says.Mark n) = refl
mark_in-push [] (says.Hold n) = refl
mark_in-push [] (says.Stage s) = refl
mark_in-push (says.Mark m ∷ before) (says.Mark n) = refl
mark_in-push (says.Mark m ∷ before) (says.Hold n) = refl
mark_in-push (says.Mark m ∷ before) (says.Stage s) = refl
mark_in-push (says.Hold m ∷ before) (says.Mark n) = mark_in-push before (says.Mark n)
mark_in-push (says.Hold m ∷ before) (says.Hold n) = mark_in-push before (says.Hold n)
mark_in-push (says.Hold m ∷ before) (says.Stage s) = mark_in-push before (says.Stage s)
mark_in-push (says.Stage t ∷ before) (says.Mark n) = mark_in-push before (says.Mark n)
mark_in-push (says.Stage t ∷ before) (says.Hold n) = mark_in-push before (says.Hold n)
mark_in-push (says.Stage t ∷ before) (says.Stage s) = mark_in-push before (says.Stage s)

hold_in-push : (before : List Statement) (next : Statement) → hold_in (before ++ next ∷ []) ≡ (said_with (said_in before) next).hold
hold_in-push [] (says.Mark n) = refl
hold_in-push [] (says.Hold n) = refl
hold_in-push [] (says.Stage s) = refl
hold_in-push (says.Hold m ∷ before) (says.Mark n) = refl
hold_in-push (says.Hold m ∷ before) (says.Hold n) = refl
hold_in-push (says.Hold m ∷ before) (says.Stage s) = refl
hold_in-push (says.Mark m ∷ before) (says.Mark n) = hold_in-push before (says.Mark n)
hold_in-push (says.Mark m ∷ before) (says.Hold n) = hold_in-push before (says.Hold n)
hold_in-push (says.Mark m ∷ before) (says.Stage s) = hold_in-push before (says.Stage s)
hold_in-push (says.Stage t ∷ before) (says.Mark n) = hold_in-push before (says.Mark n)
hold_in-push (says.Stage t ∷ before) (says.Hold n) = hold_in-push before (says.Hold n)
hold_in-push (says.Stage t ∷ before) (says.Stage s) = hold_in-push before (says.Stage s)

stages_in-push : (before : List Statement) (next : Statement) → stages_in (before ++ next ∷ []) ≡ (said_with (said_in before) next).stages
stages_in-push [] (says.Mark n) = refl
stages_in-push [] (says.Hold n) = refl
stages_in-push [] (says.Stage s) = refl
stages_in-push (says.Mark m ∷ before) (says.Mark n) = stages_in-push before (says.Mark n)
stages_in-push (says.Mark m ∷ before) (says.Hold n) = stages_in-push before (says.Hold n)
stages_in-push (says.Mark m ∷ before) (says.Stage s) = stages_in-push before (says.Stage s)
stages_in-push (says.Hold m ∷ before) (says.Mark n) = stages_in-push before (says.Mark n)
stages_in-push (says.Hold m ∷ before) (says.Hold n) = stages_in-push before (says.Hold n)
stages_in-push (says.Hold m ∷ before) (says.Stage s) = stages_in-push before (says.Stage s)
stages_in-push (says.Stage t ∷ before) (says.Mark n) = ap (λ stages. t ∷ stages) (stages_in-push before (says.Mark n))
stages_in-push (says.Stage t ∷ before) (says.Hold n) = ap (λ stages. t ∷ stages) (stages_in-push before (says.Hold n))
stages_in-push (says.Stage t ∷ before) (says.Stage s) = ap (λ stages. t ∷ stages) (stages_in-push before (says.Stage s))

said_in-push : (before : List Statement) (next : Statement) → said_in (before ++ next ∷ []) ≡ said_with (said_in before) next
said_in-push before (says.Mark n) = cc (mark_in-push before (says.Mark n), hold_in-push before (says.Mark n), stages_in-push before (says.Mark n))
said_in-push before (says.Hold n) = cc (mark_in-push before (says.Hold n), hold_in-push before (says.Hold n), stages_in-push before (says.Hold n))
said_in-push before (says.Stage s) = cc (mark_in-push before (says.Stage s), hold_in-push before (says.Stage s), stages_in-push before (says.Stage s))

-- what is kept after a list of lines, from the statements before it
abbrev pub kept_after : Result (List Statement) PlanError → Result Said PlanError
kept_after read = read >>= λ statements. Ok (said_in statements)

-- one line and the lines after it, however the line reads
after_line : (before : List Statement) (lines : List LineView) (read : Result Statement PlanError)
    → ((b : List Statement) → said_after (said_in b) lines ≡ kept_after (statements_of b lines))
    → ((read >>= λ next. Ok (said_with (said_in before) next)) >>= λ more. said_after more lines)
    ≡ kept_after (read >>= λ next. statements_of (before ++ next ∷ []) lines)
after_line before lines (Ok next) later = ap (λ s. said_after s lines) (sym (said_in-push before next)) ∙ later (before ++ next ∷ [])
after_line before lines (Err e) later = refl

pub said_after-statements : (before : List Statement) (lines : List LineView) → said_after (said_in before) lines ≡ kept_after (statements_of before lines)
unfolding said_after said_with_line statements_of
said_after-statements before [] = refl
said_after-statements before (line ∷ lines) =
    after_line before lines (at_line fault_at line.number (statement_at (said_in before) line.words)) (λ b. said_after-statements b lines)

whole_after : (version : ℕ) (read : Result (List Statement) PlanError) → (kept_after read >>= λ said. whole (plan_said version said)) ≡ (read >>= λ statements. whole (plan_said version (said_in statements)))
whole_after version (Ok statements) = refl
whole_after version (Err e) = refl

drafted_after : (read : Result (ℕ × List LineView) PlanError)
    → (read >>= λ body. said_after nothing_said body.1 >>= λ said. whole (plan_said body.0 said))
    ≡ (read >>= λ body. statements_of [] body.1 >>= λ statements. whole (plan_said body.0 (said_in statements)))
drafted_after (Ok body) = ap (λ r. r >>= λ said. whole (plan_said body.0 said)) (said_after-statements [] body.1) ∙ whole_after body.0 (statements_of [] body.1)
drafted_after (Err e) = refl

-- the plan that is drafted line by line is that of the lines' statements
drafted_plan_is : (lines : List LineView) → drafted_plan lines ≡ plan_of_lines lines
unfolding drafted_plan plan_of_lines
drafted_plan_is lines = drafted_after (body_of lines)

-- a text that is not too long says what its lines say
plan_of_short : (bytes : List ℕ) → length bytes ≤ max_plan_bytes → plan_of bytes ≡ plan_of_lines (counting_lines bytes)
unfolding plan_of
plan_of_short bytes short =
    let test : nat_lt max_plan_bytes (length bytes) ≡ false = grind (arith, nat_tests) in
    rw test refl

pub drafted_plan_of : (bytes : List ℕ) (lines : List LineView) → length bytes ≤ max_plan_bytes → lines ≡ counting_lines bytes → drafted_plan lines ≡ plan_of bytes
drafted_plan_of bytes lines short lines_are = ap drafted_plan lines_are ∙ drafted_plan_is (counting_lines bytes) ∙ sym (plan_of_short bytes short)
