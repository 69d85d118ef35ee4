use Rattle.std.proofs.Common.{◌≡◌, ◌<◌, ◌-◌, ◌^◌, ◌++◌, true, List, length, vec_capacity, vec_len}
use Rattle.crossbeam_channel.specs.Claims.{IsSeatAt, view}
use Rattle.crossbeam_channel.specs.Ends.{receives_on}
use Rattle.ordered_channel.proofs.receiving.fill.Given as goal

abbrev pub invariant-loop-pass : goal.invariant-loop-pass
invariant-loop-pass g l = IsSeatAt (receives_on l.end) l.pass × ((view l.pass).gets ≡ true) × (length (view l.pass).got < 2 ^ 64)
    × ((before : List g.row.T.Denot) → (view l.fn.pass).got ≡ before ++ l.fn.values.items → (view l.pass).got ≡ before ++ l.values.items)
    × (vec_capacity l.values ≡ vec_capacity l.fn.values)

abbrev pub decreases-loop-pass : goal.decreases-loop-pass
decreases-loop-pass g l = 1024 - vec_len l.values
