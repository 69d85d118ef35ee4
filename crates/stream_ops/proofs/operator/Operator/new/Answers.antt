use Rattle.std.proofs.Common.{◌≡◌, ℤ, to_z, of_z, w64, sym, subst, arith}
use Rattle.std.proofs.lemmas.Int.{ints}
use Rattle.keyed_store.specs.Join.{JoinView}
use Rattle.op_spec.specs.Spec.{IsSpec}
use Rattle.op_spec.specs.declared.spec.OpSpec.{OpSpec}
use Rattle.op_spec.specs.declared.spec.OpSpec.TheVariants as op
use Rattle.stream_ops.specs.View.{IsSound}
use Rattle.stream_ops.specs.declared.operator.Operator.TheVariants as operator
use Rattle.stream_ops.proofs.Standing.{joined_none}
use Rattle.stream_ops.proofs.operator.Operator.new.Goals as goal

pub returns-in-Join-clause-sound : goal.returns-in-Join-clause-sound
returns-in-Join-clause-sound c =
    let limits : IsSpec (op.Join c.in-Join.by c.in-Join.width c.in-Join.rows c.in-Join.column c.in-Join.compare c.in-Join.limit) = subst (λ (s : OpSpec). IsSpec s) c.in-Join.is c.requires in
    let back : to_z w64 (of_z w64 c.in-Join.width) ≡ c.in-Join.width = omega (arith, ints) in
    subst (λ (w : ℤ). IsSound (operator.Join c.in-Join.by w c.in-Join.column c.in-Join.compare c.in-Join.limit c.new-in-Join.result)) (sym back)
    (subst (λ (j : JoinView). IsSound (operator.Join c.in-Join.by c.in-Join.width c.in-Join.column c.in-Join.compare c.in-Join.limit j)) (sym c.new-in-Join.ensures)
    (joined_none c.in-Join.by c.in-Join.width c.in-Join.column c.in-Join.compare c.in-Join.limit c.in-Join.rows limits))
