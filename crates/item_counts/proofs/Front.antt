-- The first stages of a plan as a plan of their own: it sends what the plan sends behind them.
use Rattle.std.proofs.Common.{◌≡◌, ◌<◌, ◌≤◌, ◌-◌, ◌*◌, ℕ, zero, suc, false, List, [], ◌∷◌, length, ap, subst, arith, take}
use Rattle.std.specs.Prelude.{All, fold}
use Rattle.std.proofs.lemmas.List.{length-take-le, take-take, take_all}
use Rattle.std.proofs.lemmas.List.Elements.{All-head, All-tail, All-take}
use Rattle.tuple_edge.specs.Input.{Input}
use Rattle.plan_reader.specs.PlanView.{IsPlan, IsStage, PlanView, edges, is_joining}
use Rattle.plan_reader.specs.declared.stage.Stage.{Stage}
use Rattle.pair_machine.specs.Edges.{sent_by, sent_by_stage}
use Rattle.pair_machine.specs.Ingress.{last_stamp, sent_by_ingress}

-- the first s stages of a plan
abbrev pub front : PlanView → ℕ → PlanView
front plan s = record { version = plan.version; stages = take s plan.stages; mark = plan.mark; hold = plan.hold }

-- a further partition has no fewer edges
times_some : (m n : ℕ) → 1 ≤ n → m * 1 ≤ m * n
times_some zero n l = omega arith
times_some (suc m) n l = let more = times_some m n l in omega arith

-- first stages have no more edges than all
fewer_edges : (sources s : ℕ) (stages : List Stage) → All IsStage stages → edges sources (take s stages) ≤ edges sources stages
fewer_edges sources zero [] limits = omega arith
fewer_edges sources (suc s) [] limits = omega arith
fewer_edges sources zero (stage ∷ stages) limits =
    let some = times_some sources stage.parts (All-head IsStage stage stages limits).some in
    omega (arith, some)
fewer_edges sources (suc s) (stage ∷ stages) limits = omega (arith, fewer_edges stage.parts s stages (All-tail IsStage stage stages limits))

-- no stage joins before the last one
none_joins : (plan : PlanView) (s : ℕ) → IsPlan plan → s < length plan.stages → All (λ stage. is_joining stage ≡ false) (take s plan.stages)
none_joins plan s limits here =
    let P : Stage → Type 0 = λ stage. is_joining stage ≡ false in
    subst (All P) (take-take s (length plan.stages - 1) plan.stages (omega (arith, here))) (All-take P s (take (length plan.stages - 1) plan.stages) limits.join_last)

pub front_is_plan : (plan : PlanView) (s : ℕ) → IsPlan plan → 1 ≤ s → s < length plan.stages → IsPlan (front plan s)
front_is_plan plan s limits some here =
    let size : length (take s plan.stages) ≡ s = length-take-le s plan.stages (omega (arith, here)) in
    record {
      version_low = limits.version_low;
      version_high = limits.version_high;
      some = omega (arith, size, some);
      few = omega (arith, size, here, limits.few);
      stages = All-take IsStage s plan.stages limits.stages;
      join_last = All-take (λ stage. is_joining stage ≡ false) (length (take s plan.stages) - 1) (take s plan.stages) (none_joins plan s limits here);
      mark_low = limits.mark_low;
      mark_high = limits.mark_high;
      hold_low = limits.hold_low;
      hold_high = limits.hold_high;
      edges = omega (arith, fewer_edges plan.version s plan.stages limits.stages, limits.edges);
    }

-- behind its last stage it sends what the plan sends there
pub front_sends : (plan : PlanView) (inputs : List Input) (s : ℕ) → sent_by (front plan s) inputs (length (take s plan.stages)) ≡ sent_by plan inputs s
front_sends plan inputs s =
    let stages = take s plan.stages in
    ap (λ (ss : List Stage). fold (sent_by_stage (last_stamp inputs)) (sent_by_ingress plan inputs) ss) (take_all (length stages) stages (omega arith))
