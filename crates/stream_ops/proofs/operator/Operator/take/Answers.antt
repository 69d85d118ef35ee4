use Rattle.std.proofs.Common.{◌≡◌, rules, refl, ◌∙◌, ◌++◌, List, Option, sym, ap, subst, to_z, of_z, w64, arith, unwrap_or}
use Rattle.std.specs.Prelude.{Result, Ok, Err, OnOk, OnErr}
use Rattle.std.proofs.lemmas.Int.{ints}
use Rattle.std.proofs.lemmas.Result.{on_ok_weaker}
use Rattle.std.specs.Map.{lookup}
use Rattle.circular_buffer.specs.Buffer.{Buffer}
use Rattle.keyed_store.specs.Join.{JoinView}
use Rattle.keyed_store.specs.Store.{StoreView}
use Rattle.tuple_edge.specs.declared.row.Key.{Key}
use Rattle.tuple_edge.specs.declared.row.Row.{Row}
use Rattle.op_spec.specs.Keys.{is_key}
use Rattle.op_spec.specs.Spec.{IsSpec}
use Rattle.stream_ops.specs.Answers.{row_answer}
use Rattle.stream_ops.specs.Joins.{is_left}
use Rattle.stream_ops.specs.Kept.{Keeps, last_of_rows, total_of_rows, window_of_rows}
use Rattle.stream_ops.specs.Steps.{closed_by, last_with, no_sums, opened_by, sums_last, total_with, window_with}
use Rattle.stream_ops.specs.View.{IsSound, KeepsOf, spec_of}
use Rattle.stream_ops.specs.declared.operator.Operator.{Operator}
use Rattle.stream_ops.specs.declared.operator.Operator.TheVariants as operator
use Rattle.stream_ops.specs.declared.sums.Sums.{Sums}
use Rattle.stream_ops.specs.declared.window.OpenWindow.{OpenWindow}
use Rattle.stream_ops.proofs.Counts.{Keeps-insert}
use Rattle.stream_ops.proofs.Lasts.{last-push, total-push}
use Rattle.stream_ops.proofs.Levels.{window-push}
use Rattle.stream_ops.proofs.Standing.{joined_keeps, joined_sound}
use Rattle.stream_ops.proofs.Takes.{crossing_answers, joined_answers, last_answers, window_answered}
use Rattle.stream_ops.proofs.operator.Operator.take.Goals as goal

-- two facts of a call that gave a value
both_on_ok : {A E P Q R : Type 0} (r : Result A E) → (P → Q → R) → OnOk r P → OnOk r Q → OnOk r R
both_on_ok (Ok x) both p q = both p q
both_on_ok (Err e) both p q = tt

-- what held before a call, and holds where it gave a value, holds after it where a refusal changes nothing
settled : {A E X : Type 0} (Q : Type 0) (holds : X → Type 0) (r : Result A E) (s n : X) → holds s → OnOk r (holds n) → OnErr r ((n ≡ s) × Q) → holds n
settled Q holds (Ok x) s n had now err = now
settled Q holds (Err e) s n had now err = subst holds (sym err.0) had

pub returns-in-Total-clause-keeps : goal.returns-in-Total-clause-keeps
returns-in-Total-clause-keeps c = on_ok_weaker c.take_total.result (λ kept before stamp keeps.
    let had : Keeps total_of_rows c.in-Total.by c.in-Total.totals.kept before = subst (λ (o : Operator). KeepsOf o before) c.in-Total.is keeps in
    Keeps-insert total_of_rows total_with total-push c.in-Total.by c.in-Total.totals.kept c.take_total.new.totals.kept before stamp c.args.row.now c.key.result c.key.ensures had
    (ap (λ (s : StoreView Key Sums). s.kept) kept)) c.take_total.ensures.keeps

pub returns-in-Last-clause-answers : goal.returns-in-Last-clause-answers
returns-in-Last-clause-answers c = both_on_ok c.take_last.result (λ answers kept before keeps.
    let had : Keeps (last_of_rows c.in-Last.rows) c.in-Last.by c.in-Last.last_rows.kept before = subst (λ (o : Operator). KeepsOf o before) c.in-Last.is keeps in
    answers
    ∙ ap (λ (rows : List Row). c.args.out.now.items ++ rows) (last_answers c.in-Last.by c.in-Last.rows c.in-Last.last_rows.kept c.take_last.new.last_rows.kept before c.args.row.now c.key-in-Last.result (sums_last (lookup (is_key c.key-in-Last.result) c.take_last.new.last_rows.kept)) had c.key-in-Last.ensures
    (ap (λ (s : StoreView Key (Buffer Sums)). s.kept) kept) refl)
    ∙ ap (λ (o : Operator). c.args.out.now.items ++ row_answer (spec_of o) before c.args.row.now) (sym c.in-Last.is)) c.take_last.ensures.answers c.take_last.ensures.keeps

pub returns-in-Last-clause-keeps : goal.returns-in-Last-clause-keeps
returns-in-Last-clause-keeps c = on_ok_weaker c.take_last.result (λ kept before stamp keeps.
    let had : Keeps (last_of_rows c.in-Last.rows) c.in-Last.by c.in-Last.last_rows.kept before = subst (λ (o : Operator). KeepsOf o before) c.in-Last.is keeps in
    Keeps-insert (last_of_rows c.in-Last.rows) (last_with c.in-Last.rows) (last-push c.in-Last.rows) c.in-Last.by c.in-Last.last_rows.kept c.take_last.new.last_rows.kept before stamp c.args.row.now c.key-in-Last.result c.key-in-Last.ensures had
    (ap (λ (s : StoreView Key (Buffer Sums)). s.kept) kept)) c.take_last.ensures.keeps

pub returns-in-Window-clause-answers : goal.returns-in-Window-clause-answers
returns-in-Window-clause-answers c =
    let limits : IsSpec (spec_of (operator.Window c.in-Window.by c.in-Window.width c.in-Window.windows)) = (subst (λ (o : Operator). IsSound o) c.in-Window.is c.requires.sound).0 in
    let back : to_z w64 (of_z w64 c.in-Window.width) ≡ c.in-Window.width = omega (arith, ints) in
    let closed : Option OpenWindow = closed_by (lookup (is_key c.key-in-Window.result) c.in-Window.windows.kept) (opened_by c.in-Window.width c.args.row.now) in
    on_ok_weaker c.take_window.result (λ answers before keeps.
    let had : Keeps (window_of_rows c.in-Window.width) c.in-Window.by c.in-Window.windows.kept before = subst (λ (o : Operator). KeepsOf o before) c.in-Window.is keeps in
    answers
    ∙ ap (λ (rows : List Row). c.args.out.now.items ++ rows) (window_answered c.in-Window.by c.in-Window.width c.in-Window.windows.kept before c.args.row.now c.key-in-Window.result closed had c.key-in-Window.ensures refl)
    ∙ ap (λ (o : Operator). c.args.out.now.items ++ row_answer (spec_of o) before c.args.row.now) (sym c.in-Window.is)) (rw back at c.take_window.ensures.answers)

pub returns-in-Window-clause-keeps : goal.returns-in-Window-clause-keeps
returns-in-Window-clause-keeps c =
    let limits : IsSpec (spec_of (operator.Window c.in-Window.by c.in-Window.width c.in-Window.windows)) = (subst (λ (o : Operator). IsSound o) c.in-Window.is c.requires.sound).0 in
    let back : to_z w64 (of_z w64 c.in-Window.width) ≡ c.in-Window.width = omega (arith, ints) in
    on_ok_weaker c.take_window.result (λ kept before stamp keeps.
    let had : Keeps (window_of_rows c.in-Window.width) c.in-Window.by c.in-Window.windows.kept before = subst (λ (o : Operator). KeepsOf o before) c.in-Window.is keeps in
    Keeps-insert (window_of_rows c.in-Window.width) (λ had r. window_with had (opened_by c.in-Window.width r) r) (window-push c.in-Window.width) c.in-Window.by c.in-Window.windows.kept c.take_window.new.windows.kept before stamp c.args.row.now c.key-in-Window.result c.key-in-Window.ensures had
    (ap (λ (s : StoreView Key OpenWindow). s.kept) kept)) (rw back at c.take_window.ensures.keeps)

pub returns-in-Crossing-clause-answers : goal.returns-in-Crossing-clause-answers
returns-in-Crossing-clause-answers c =
    let limits : IsSpec (spec_of (operator.Crossing c.in-Crossing.by c.in-Crossing.limit c.in-Crossing.totals)) = (subst (λ (o : Operator). IsSound o) c.in-Crossing.is c.requires.sound).0 in
    let back : to_z w64 (of_z w64 c.in-Crossing.limit) ≡ c.in-Crossing.limit = omega (arith, ints) in
    let found : Option Sums = lookup (is_key c.key-in-Crossing.result) c.in-Crossing.totals.kept in
    on_ok_weaker c.take_crossing.result (λ answers before keeps.
    let had : Keeps total_of_rows c.in-Crossing.by c.in-Crossing.totals.kept before = subst (λ (o : Operator). KeepsOf o before) c.in-Crossing.is keeps in
    answers
    ∙ ap (λ (rows : List Row). c.args.out.now.items ++ rows) (crossing_answers c.in-Crossing.by c.in-Crossing.limit c.in-Crossing.totals.kept before c.args.row.now c.key-in-Crossing.result (unwrap_or found no_sums) (total_with found c.args.row.now) had c.key-in-Crossing.ensures refl refl)
    ∙ ap (λ (o : Operator). c.args.out.now.items ++ row_answer (spec_of o) before c.args.row.now) (sym c.in-Crossing.is)) (rw back at c.take_crossing.ensures.answers)

pub returns-in-Crossing-clause-keeps : goal.returns-in-Crossing-clause-keeps
returns-in-Crossing-clause-keeps c = on_ok_weaker c.take_crossing.result (λ kept before stamp keeps.
    let had : Keeps total_of_rows c.in-Crossing.by c.in-Crossing.totals.kept before = subst (λ (o : Operator). KeepsOf o before) c.in-Crossing.is keeps in
    Keeps-insert total_of_rows total_with total-push c.in-Crossing.by c.in-Crossing.totals.kept c.take_crossing.new.totals.kept before stamp c.args.row.now c.key-in-Crossing.result c.key-in-Crossing.ensures had
    (ap (λ (s : StoreView Key Sums). s.kept) kept)) c.take_crossing.ensures.keeps

pub returns-in-Join-clause-answers : goal.returns-in-Join-clause-answers
returns-in-Join-clause-answers c =
    let o : Operator = operator.Join c.in-Join.by c.in-Join.width c.in-Join.column c.in-Join.compare c.in-Join.limit c.in-Join.join in
    let limits : IsSpec (spec_of o) = (subst (λ (o : Operator). IsSound o) c.in-Join.is c.requires.sound).0 in
    let back : to_z w64 (of_z w64 c.in-Join.width) ≡ c.in-Join.width = omega (arith, ints) in
    let left_is : c.holds-left.result ≡ is_left c.in-Join.column c.in-Join.compare c.in-Join.limit c.args.row.now = search rules in
    on_ok_weaker c.take_joined.result (λ answers before keeps.
    let had : KeepsOf o before = subst (λ (o : Operator). KeepsOf o before) c.in-Join.is keeps in
    answers
    ∙ ap (λ (rows : List Row). c.args.out.now.items ++ rows)
    (joined_answers c.in-Join.by c.in-Join.width c.in-Join.join.rows c.in-Join.column c.in-Join.compare c.in-Join.limit c.in-Join.join.sides.kept before c.args.row.now c.key-in-Join.result c.holds-left.result had c.key-in-Join.ensures left_is)
    ∙ ap (λ (o : Operator). c.args.out.now.items ++ row_answer (spec_of o) before c.args.row.now) (sym c.in-Join.is)) (rw back at c.take_joined.ensures.answers)

pub returns-in-Join-clause-keeps : goal.returns-in-Join-clause-keeps
returns-in-Join-clause-keeps c =
    let o : Operator = operator.Join c.in-Join.by c.in-Join.width c.in-Join.column c.in-Join.compare c.in-Join.limit c.in-Join.join in
    let limits : IsSpec (spec_of o) = (subst (λ (o : Operator). IsSound o) c.in-Join.is c.requires.sound).0 in
    let back : to_z w64 (of_z w64 c.in-Join.width) ≡ c.in-Join.width = omega (arith, ints) in
    let left_is : c.holds-left.result ≡ is_left c.in-Join.column c.in-Join.compare c.in-Join.limit c.args.row.now = search rules in
    on_ok_weaker c.take_joined.result (λ kept before stamp keeps.
    let had : KeepsOf o before = subst (λ (o : Operator). KeepsOf o before) c.in-Join.is keeps in
    joined_keeps c.in-Join.by c.in-Join.width (is_left c.in-Join.column c.in-Join.compare c.in-Join.limit) c.in-Join.join c.take_joined.new.join before stamp c.args.row.now c.key-in-Join.result c.holds-left.result had c.key-in-Join.ensures left_is kept)
    (rw back at c.take_joined.ensures.keeps)

pub returns-in-Join-clause-sound : goal.returns-in-Join-clause-sound
returns-in-Join-clause-sound c =
    let is_sound : JoinView → Type 0 = λ join. IsSound (operator.Join c.in-Join.by c.in-Join.width c.in-Join.column c.in-Join.compare c.in-Join.limit join) in
    let had : is_sound c.in-Join.join = subst (λ (o : Operator). IsSound o) c.in-Join.is c.requires.sound in
    settled _ is_sound c.take_joined.result c.in-Join.join c.take_joined.new.join had
    (on_ok_weaker c.take_joined.result (λ kept. joined_sound c.in-Join.by c.in-Join.width c.in-Join.column c.in-Join.compare c.in-Join.limit c.in-Join.join c.take_joined.new.join c.key-in-Join.result c.holds-left.result _ had kept) c.take_joined.ensures.keeps)
    c.take_joined.ensures.err
