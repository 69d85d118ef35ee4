use Rattle.std.proofs.Common.{◌≡◌, ◌<◌, ◌^◌, ℕ, slice_index, ap, arith}
use Rattle.pair_machine.specs.Machine.{new_watched}
use Rattle.pair_machine.specs.Numbers.{Watched}
use Rattle.pair_control.specs.ControllerView.{WatchedView, watched_numbers}
use Rattle.pair_control.proofs.controller.PairControl.new.Goals as goal

-- the numbers of a replica as it opens are below the limit
inc_small : (w : WatchedView) → watched_numbers w ≡ new_watched → w.inc < 2 ^ 62
inc_small w e = let one = ap (λ (h : Watched). h.inc) e in omega arith

reports_small : (w : WatchedView) → watched_numbers w ≡ new_watched → (q : ℕ) → slice_index w.reports q < 2 ^ 62
reports_small w e q = let none = ap (λ (h : Watched). h.reports q) e in omega arith

pub returns-clause-small : goal.returns-clause-small
returns-clause-small c =
    let a = c.in_ok-a.ensures.numbers in
    let b = c.in_ok-b.ensures.numbers in (
      (inc_small c.in_ok-a.a a, inc_small c.in_ok-b.b b, omega arith),
      λ q. (reports_small c.in_ok-a.a a q, reports_small c.in_ok-b.b b q, let none = c.in_ok-acked.ensures.zero q in omega arith),
    )
