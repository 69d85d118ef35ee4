use Rattle.std.proofs.Common.{◌≡◌, ◌+◌, ◌++◌, ◌∙◌, List, length, length-append, map, sym, ap, subst, arith}
use Rattle.std.proofs.lemmas.List.{length-map}
use Rattle.tuple_edge.specs.declared.row.Row.{Row}
use Rattle.stream_ops.specs.Answers.{end_answer}
use Rattle.stream_ops.specs.Kept.{Keeps, window_of_rows}
use Rattle.stream_ops.specs.Steps.{told_window_row}
use Rattle.stream_ops.specs.View.{KeepsOf, entries_of, spec_of}
use Rattle.stream_ops.specs.declared.operator.Operator.{Operator}
use Rattle.stream_ops.proofs.Counting.{window_length}
use Rattle.stream_ops.proofs.Takes.{window_ends}
use Rattle.stream_ops.proofs.operator.Operator.finish.Goals as goal

pub returns-in_ok-write_windows-in-Window-clause-answers : goal.returns-in_ok-write_windows-in-Window-clause-answers
returns-in_ok-write_windows-in-Window-clause-answers c = λ before keeps.
    let had : Keeps (window_of_rows c.in-Window.width) c.in-Window.by c.in-Window.windows.kept before = subst (λ (o : Operator). KeepsOf o before) c.in-Window.is keeps in
    c.in_ok-write_windows-in-Window.ensures.rows
    ∙ ap (λ (rows : List Row). c.args.out.now.items ++ rows)
    (window_ends c.in-Window.by c.in-Window.width c.in-Window.windows.kept before had c.in_ok-write_windows-in-Window.ensures.found
    ∙ ap (λ (o : Operator). end_answer (spec_of o) before) (sym c.in-Window.is))

pub returns-in_ok-write_windows-in-Window-clause-few : goal.returns-in_ok-write_windows-in-Window-clause-few
returns-in_ok-write_windows-in-Window-clause-few c =
    let rows : List Row = map (λ e. told_window_row e.0 e.1) c.in-Window.windows.kept in
    let long : length c.write_windows.new.out.items ≡ length (c.args.out.now.items ++ rows) = ap length c.in_ok-write_windows-in-Window.ensures.rows in
    let both : length (c.args.out.now.items ++ rows) ≡ length c.args.out.now.items + length rows = length-append c.args.out.now.items rows in
    let each : length rows ≡ length c.in-Window.windows.kept = length-map c.in-Window.windows.kept (λ e. told_window_row e.0 e.1) in
    let told : length (entries_of c.args.self.now) ≡ length c.in-Window.windows.kept = ap (λ (o : Operator). length (entries_of o)) c.in-Window.is ∙ window_length c.in-Window.windows.kept in
    omega (arith, long, both, each, told)
