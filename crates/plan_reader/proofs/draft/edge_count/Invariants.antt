use Rattle.std.proofs.Common.{◌≡◌, ◌∷◌, ◌++◌, ◌≤◌, ◌+◌, ◌*◌, [], map, drop}
use Rattle.plan_reader.specs.PlanView.{edges, edges_between}
use Rattle.plan_reader.proofs.draft.edge_count.Given as goal

abbrev pub invariant-loop-stage : goal.invariant-loop-stage
invariant-loop-stage l = record {
  value : l.count + edges_between (l.before ∷ (map (λ s. s.parts) (drop l.stage-index l.stages) ++ 1 ∷ [])) ≡ edges l.sources l.stages;
  bound : l.count ≤ 64 * l.stage-index;
  few : l.before ≤ 8;
}
