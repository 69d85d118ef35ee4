use Rattle.std.proofs.Common.{arith, ◌≡◌, ◌*ℤ◌, ℤ, FitsSigned, w64, to_z, of_z, subst, sym}
use Rattle.std.proofs.lemmas.Int.{ints}
use Rattle.stream_ops.proofs.Levels.{window_fits}
use Rattle.stream_ops.proofs.window.OpenWindow.at.Goals as goal

pub start_of-requires : goal.start_of-requires
start_of-requires c =
    let back : to_z w64 (of_z w64 c.args.width) ≡ c.args.width = omega (arith, ints) in
    let number = rw back at c.window_at-number.ensures in
    let number_back : to_z w64 (of_z w64 c.window_at-number.result) ≡ c.window_at-number.result = omega (arith, ints) in
    rw (number_back, back) (subst (λ (z : ℤ). FitsSigned w64 (z *ℤ c.args.width)) (sym number)
    (window_fits c.args.row.now.time c.args.width c.requires.timely.0 c.requires.timely.1 c.requires.width.0 c.requires.width.1))
