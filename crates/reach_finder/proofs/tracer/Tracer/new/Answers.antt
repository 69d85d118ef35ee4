use Rattle.std.proofs.Common.{◌∙◌, ap, subst, sym}
use Rattle.op_spec.specs.Spec.{IsSpec}
use Rattle.stream_ops.specs.State.{StateView}
use Rattle.reach_finder.proofs.Tracing.{marked_spec}
use Rattle.reach_finder.proofs.tracer.Tracer.new.Goals as goal

pub new-marks-requires : goal.new-marks-requires
new-marks-requires c = subst IsSpec (sym c.marking-adder.ensures) (marked_spec c.args.op c.requires)

pub returns : goal.returns
returns c = record {
  rows = record { spec = ap (λ (s : StateView). s.spec) c.new-rows.ensures.unseen; stands = c.new-rows.ensures.stands };
  marks = record { spec = ap (λ (s : StateView). s.spec) c.new-marks.ensures.unseen ∙ c.marking-adder.ensures; stands = c.new-marks.ensures.stands };
}
