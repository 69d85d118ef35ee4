use Rattle.std.proofs.Common.{◌≡◌, ◌≤◌, ◌++◌, [], None, drop, take}
use Rattle.std.specs.Option.{IfSome}
use Rattle.plan_check.specs.Warnings.{stage_warnings}
use Rattle.plan_check.proofs.plan_warnings.push_stages.Given as goal

abbrev pub invariant-loop-place : goal.invariant-loop-place
invariant-loop-place l = record {
  found : l.found.items ++ stage_warnings l.sums l.window (take l.place l.stages) (drop l.place l.stages)
      ≡ l.initial.found.items ++ stage_warnings None None [] l.stages;
  window : IfSome l.window (λ w. w.number ≤ l.place);
}
