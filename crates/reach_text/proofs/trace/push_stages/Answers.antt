use Rattle.std.proofs.Common.{◌+◌, ◌-◌, ◌++◌, ◌∙◌, List, ap, get_or, map, pos, sym}
use Rattle.std.proofs.lemmas.List.{append-nil}
use Rattle.tuple_edge.specs.declared.row.Column.TheVariants as column
use Rattle.op_spec.specs.declared.spec.Compare.TheVariants as compare
use Rattle.op_spec.specs.declared.spec.OpSpec.TheVariants as op
use Rattle.plan_reader.specs.declared.stage.Stage.{Stage}
use Rattle.reach_finder.specs.Found.{passage_of}
use Rattle.reach_finder.proofs.Tracing.{none_left}
use Rattle.reach_text.specs.Trace.{asked_in, stage_text, stages_text}
use Rattle.reach_text.proofs.Telling.{mapped_got, stages_on}
use Rattle.reach_text.proofs.trace.push_stages.Goals as goal

abbrev none : Stage
none = record { parts = 0; by = column.Time; op = op.Keep column.Time compare.Less (pos 0) }

pub loop-stage-preserved : goal.loop-stage-preserved
loop-stage-preserved c =
    let inv = c.loop-stage.invariant in
    let a = asked_in c.args.question.now in
    let stages = c.args.question.now.stages.now in
    let k = c.loop-stage.stage-index in
    let number = c.loop-stage.number in
    let had = c.loop-stage.text.items in
    record {
      number = ap (λ n. n + 1) inv.number;
      text = stages_on a stages k number none (map passage_of c.args.passages.now) had c.push_stage_text.new.text.items _ c.loop-stage-test.true
          (c.in_ok-push_stage_text.ensures ∙ ap (λ p. had ++ stage_text a number (get_or stages k none) p) (sym (mapped_got passage_of c.args.passages.now (number - 1)))) inv.text;
    }

pub push_stage_text-requires-clause-parts : goal.push_stage_text-requires-clause-parts
push_stage_text-requires-clause-parts c = (c.requires c.loop-stage.stage-index none c.loop-stage-test.true).some

pub returns : goal.returns
returns c =
    let a = asked_in c.args.question.now in
    let stages = c.args.question.now.stages.now in
    let text = c.loop-stage.text.items in
    sym (append-nil text)
    ∙ (ap (λ (ss : List Stage). text ++ stages_text a c.loop-stage.number ss (map passage_of c.args.passages.now)) (sym (none_left stages c.loop-stage.stage-index c.loop-stage-test.false)) ∙ c.loop-stage.invariant.text)
