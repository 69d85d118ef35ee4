use Rattle.std.proofs.Common.{◌≡◌, ◌≤◌, ◌*◌, ◌^◌, map, sum, take}
use Rattle.flux_core.proofs.places.pair_place.Given as goal

abbrev pub invariant-loop-one : goal.invariant-loop-one
invariant-loop-one l = record { so_far : l.before ≡ sum (map (λ s. s.parts) (take l.one-index l.earlier)); small : l.before ≤ l.one-index * 2 ^ 32 }
