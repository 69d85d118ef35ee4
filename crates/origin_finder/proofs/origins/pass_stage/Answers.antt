use Rattle.std.proofs.Common.{◌≡◌, ◌++◌, ◌∙◌, [], ℕ, List, ap, drop, length, subst, sym, take}
use Rattle.std.specs.Prelude.{All}
use Rattle.std.proofs.lemmas.List.{append-nil, length-take-le, take-append-drop}
use Rattle.std.proofs.lemmas.List.Elements.{All-append, All-drop, All-nil, All-take}
use Rattle.tuple_edge.specs.declared.row.Row.{Row}
use Rattle.evaluation.specs.StageRows.{HasTime, early_replies, late_replies}
use Rattle.row_cause.specs.Causes.{Cause}
use Rattle.row_origin.specs.Stages.{early_causes, late_causes, placed_from}
use Rattle.origin_finder.specs.Said.{HasNoted, IsLeft}
use Rattle.origin_finder.specs.declared.said.Speaker.{Speaker}
use Rattle.origin_finder.proofs.Saying.{all_noted, none_noted}
use Rattle.evaluation.proofs.Times.{early_timely, late_timely}
use Rattle.origin_finder.proofs.origins.pass_stage.Goals as goal

pub returns-clause-times : goal.returns-clause-times
returns-clause-times c =
    let stage = c.args.stage.now in
    let E = take c.args.early c.args.rows.now in
    let L = drop c.args.early c.args.rows.now in
    let early = All-take HasTime c.args.early c.args.rows.now c.requires.times in
    let late = All-drop HasTime c.args.early c.args.rows.now c.requires.times in
    let all : c.pass_late.new.out.items ≡ early_replies stage [] E ++ late_replies stage E L 0 stage.parts =
    c.in_ok-pass_late.ensures.answers ∙ ap (λ (rows : List Row). rows ++ late_replies stage E L 0 stage.parts) c.in_ok-pass_early.ensures.answers in
    subst (All HasTime) (sym all)
    (All-append HasTime (early_replies stage [] E) (late_replies stage E L 0 stage.parts) (early_timely stage [] E c.requires.stage.op (All-nil HasTime) early) (late_timely stage E L 0 stage.parts c.requires.stage.op early late))

pub returns-clause-said : goal.returns-clause-said
returns-clause-said c =
    let stage = c.args.stage.now in
    let rows = c.args.rows.now in
    let E = take c.args.early rows in
    let L = drop c.args.early rows in
    let early = early_causes stage [] (placed_from 0 E) in
    let late : ℕ → List Cause = λ n. late_causes stage (placed_from 0 E) (placed_from n L) 0 stage.parts in
    let all = early ++ late (length E) in
    let size : length E ≡ c.args.early = length-take-le c.args.early rows c.requires.early in
    let empty : IsLeft stage rows c.in_ok-said.said.items all all = subst (λ (ss : List Speaker). IsLeft stage rows ss all all) (sym c.in_ok-said.ensures.items) (none_noted stage rows all) in
    let first : IsLeft stage rows c.pass_early.new.said.items (late (length E)) all =
    subst (λ (rs : List Row). HasNoted stage rs early c.in_ok-said.said.items c.pass_early.new.said.items) (take-append-drop c.args.early rows) (c.in_ok-pass_early.ensures.said L) (late (length E)) all empty in
    let then : IsLeft stage rows c.pass_early.new.said.items (late c.args.early ++ []) all =
    subst (λ (cs : List Cause). IsLeft stage rows c.pass_early.new.said.items cs all) (ap late size ∙ sym (append-nil (late c.args.early))) first in
    all_noted stage rows c.pass_late.new.said.items all (c.in_ok-pass_late.ensures.said [] all then)
