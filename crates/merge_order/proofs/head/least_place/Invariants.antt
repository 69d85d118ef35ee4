use Rattle.std.proofs.Common.{◌≡◌, get_or, nat_lt}
use Rattle.std.specs.List.{IsFirstBest}
use Rattle.merge_order.proofs.head.least_place.Given as goal

abbrev pub invariant-loop-place : goal.invariant-loop-place
invariant-loop-place l = record { best : IsFirstBest nat_lt l.stamps l.place l.least_at; least_is : l.least ≡ get_or l.stamps l.least_at 0 }
