use Rattle.std.proofs.Common.{◌≡◌, ◌≤◌, ◌<◌, ◌+◌, ◌++◌, ◌∙◌, [], List, ap, arith, drop, get_or, length, map, pos, subst, sym, ℕ}
use Rattle.std.specs.Prelude.{All}
use Rattle.std.proofs.lemmas.List.{append-nil}
use Rattle.std.proofs.lemmas.List.Elements.{All-nil, All-weaker}
use Rattle.tuple_edge.specs.declared.row.Column.TheVariants as column
use Rattle.tuple_edge.specs.declared.row.Row.{Row}
use Rattle.op_spec.specs.declared.spec.Compare.TheVariants as compare
use Rattle.op_spec.specs.declared.spec.OpSpec.TheVariants as op
use Rattle.plan_reader.specs.PlanView.{IsStage}
use Rattle.plan_reader.specs.declared.stage.Stage.{Stage}
use Rattle.trade_text.specs.TradesView.{IsInputRow}
use Rattle.evaluation.specs.StageRows.{HasTime}
use Rattle.row_origin.specs.Origins.{only}
use Rattle.row_reach.specs.Reach.{passages}
use Rattle.reach_finder.specs.Found.{passage_of}
use Rattle.reach_finder.specs.Traced.{marks_in, rows_in}
use Rattle.reach_finder.specs.declared.shades.Traced.{Traced}
use Rattle.evaluation.proofs.Times.{early_timely, late_timely}
use Rattle.reach_finder.proofs.Tracing.{none_left}
use Rattle.reach_finder.proofs.Walking.{one_stage_on}
use Rattle.reach_finder.proofs.walk.passages.Goals as goal

pub loop-stage-init : goal.loop-stage-init
loop-stage-init c =
    let trades = c.args.trades.now in
    let stages = c.args.plan.now.stages in
    let early = c.in_ok-early.early.items in
    let late = c.new-late.result.items in
    let rows : rows_in early ≡ trades.rows = c.in_ok-early.ensures.rows ∙ c.rows.ensures.rows in
    let marks : marks_in (early ++ late) ≡ only c.args.place (length trades.rows) =
    ap (λ (xs : List Traced). marks_in (early ++ xs)) c.new-late.ensures.items
    ∙ (ap marks_in (append-nil early) ∙ (c.in_ok-early.ensures.marks ∙ ap (λ (rs : List Row). only c.args.place (length rs)) c.rows.ensures.rows)) in
    let times : All HasTime trades.rows = All-weaker IsInputRow HasTime (λ row trade. (trade.time.low, trade.time.high)) trades.rows c.rows.ensures.limits.rows in
    record {
      early = subst (All HasTime) (sym rows) times;
      late = subst (All HasTime) (ap rows_in (sym c.new-late.ensures.items)) (All-nil HasTime);
      found = ap (λ (ps : List _). map passage_of ps ++ passages stages (rows_in early) (rows_in late) (marks_in (early ++ late))) c.new-found.ensures.items
          ∙ (ap (λ (rs : List Row). passages stages rs (rows_in late) (marks_in (early ++ late))) rows
          ∙ (ap (λ (xs : List Traced). passages stages trades.rows (rows_in xs) (marks_in (early ++ late))) c.new-late.ensures.items ∙ ap (passages stages trades.rows []) marks));
    }

abbrev none : Stage
none = record { parts = 0; by = column.Time; op = op.Keep column.Time compare.Less (pos 0) }

-- a stage among those that were read off the plan
its_limits : (items stages : List Stage) (k : ℕ) → items ≡ stages → All IsStage stages → k < length items → IsStage (get_or items k none)
its_limits items stages k same limits l = subst (All IsStage) (sym same) limits k none l

pub loop-stage-preserved : goal.loop-stage-preserved
loop-stage-preserved c =
    let inv = c.loop-stage.invariant in
    let k = c.loop-stage.stage-index in
    let items = c.stages-stage-items.result.now in
    let value = c.stages-stage-items.ensures.value in
    let early = rows_in c.loop-stage.rows.early.items in
    let late = rows_in c.loop-stage.rows.late.items in
    let marks = marks_in (c.loop-stage.rows.early.items ++ c.loop-stage.rows.late.items) in
    let stage = get_or items k none in
    let limits : IsStage stage = its_limits items c.args.plan.now.stages k value c.stages-stage-items.ensures.limits.stages c.loop-stage-test.true in
    let got = c.in_ok-rows.ensures in
    let new = c.in_ok-rows.rows in
    let had = map passage_of c.loop-stage.found.items in
    let has = map passage_of c.pass_on.new.found.items in
    let new_early = rows_in new.early.items in
    let new_late = rows_in new.late.items in
    let new_marks = marks_in (new.early.items ++ new.late.items) in
    record {
      early = subst (All HasTime) (sym got.early) (early_timely stage [] early limits.op (All-nil HasTime) inv.early);
      late = subst (All HasTime) (sym got.late) (late_timely stage early late 0 stage.parts limits.op inv.early inv.late);
      found = ap (λ (ss : List Stage). has ++ passages (drop (k + 1) ss) new_early new_late new_marks) (sym value)
          ∙ one_stage_on items k none early late new_early new_late marks new_marks had has _ c.loop-stage-test.true got.found got.early got.late got.marks
          (ap (λ (ss : List Stage). had ++ passages (drop k ss) early late marks) value ∙ inv.found);
    }

pub pass_on-requires-clause-stage : goal.pass_on-requires-clause-stage
pass_on-requires-clause-stage c =
    its_limits c.stages-stage-items.result.now c.args.plan.now.stages c.loop-stage.stage-index c.stages-stage-items.ensures.value c.stages-stage-items.ensures.limits.stages c.loop-stage-test.true

pub returns : goal.returns
returns c =
    let inv = c.loop-stage.invariant in
    let stages = c.args.plan.now.stages in
    let past : length stages ≤ c.loop-stage.stage-index = omega (arith, c.loop-stage-test.false, ap length c.stages-stage-items.ensures.value) in
    let early = rows_in c.loop-stage.rows.early.items in
    let late = rows_in c.loop-stage.rows.late.items in
    let marks = marks_in (c.loop-stage.rows.early.items ++ c.loop-stage.rows.late.items) in
    c.in_ok-put.ensures ∙ (ap (λ (ss : List Stage). map passage_of c.loop-stage.found.items ++ passages ss early late marks) (sym (none_left stages c.loop-stage.stage-index past)) ∙ inv.found)
