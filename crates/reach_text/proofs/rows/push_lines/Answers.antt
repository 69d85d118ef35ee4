use Rattle.std.proofs.Common.{◌++◌, ◌∙◌, List, ap, pos, sym}
use Rattle.std.proofs.lemmas.List.{append-nil}
use Rattle.reach_text.specs.declared.told.ToldRow.{ToldRow}
use Rattle.reach_finder.proofs.Tracing.{none_left}
use Rattle.reach_text.specs.Trace.{asked_in, at_in, line_at, lines_at}
use Rattle.reach_text.proofs.Telling.{lines_on}
use Rattle.reach_text.proofs.rows.push_lines.Goals as goal

abbrev none : ToldRow
none = record { number = 0; row = record { time = pos 0; account = pos 0; symbol = pos 0; qty = pos 0; value = pos 0 } }

pub loop-x-preserved : goal.loop-x-preserved
loop-x-preserved c =
    let line = line_at (asked_in c.args.question.now) (at_in c.args.at.now) in
    lines_on line c.args.told.now c.loop-x.x-index none c.loop-x.text.items c.push_line.new.text.items _ c.loop-x-test.true c.in_ok-push_line.ensures c.loop-x.invariant

pub returns : goal.returns
returns c =
    let line = lines_at (asked_in c.args.question.now) (at_in c.args.at.now) in
    let text = c.loop-x.text.items in
    sym (append-nil text) ∙ (ap (λ (xs : List ToldRow). text ++ line xs) (sym (none_left c.args.told.now c.loop-x.x-index c.loop-x-test.false)) ∙ c.loop-x.invariant)
