-- How the drain ends after lists of events of the machine's worked rows: three replicas of which two failed, or all, and a core that is drained.
use Rattle.std.specs.Prelude.{◌≡◌, ◌++◌, []}
use Rattle.tuple_edge.specs.declared.event.Drained.TheVariants as drained
use Rattle.pair_machine.specs.Drain.{partition}
use Rattle.pair_machine.specs.Output.{output}
use Rattle.pair_machine.specs.WorkedRows.{totals, trades}
use Rattle.trio_machine.specs.WorkedRows.{After, kill, make, one_stage, pull, replica, take, control, two_fail, two_stages, work}
use Rattle.trio_machine.specs.declared.node.TrioNode.TheVariants as node
use Rattle.trio_drain.specs.Drained.{IsLostIn}
use Rattle.trio_drain.specs.Ending.{ending, rows_at_end}

-- how the drain ends after each of these lists of events
pub record WorkedRows : Type 0 where
  -- After two failures the third replica drains, and all rows are emitted.
  pub third_drains : After (one_stage 3) two_fail (λ s. (ending (one_stage 3) s ≡ drained.Whole) × (rows_at_end totals (trades 3) s ≡ output totals (trades 3)))
  -- Where the third fails too, its group is lost, and no row was emitted.
  pub all_fail : After (one_stage 3) (two_fail ++ kill (replica 1 2)) (λ s.
      (ending (one_stage 3) s ≡ drained.Lost 1 0) × IsLostIn (one_stage 3) s (partition 1 0) × (rows_at_end totals (trades 3) s ≡ []))
  -- One replica that runs is enough, whether its controller has heard of the others or not.
  pub one_runs : After (one_stage 0) (kill (replica 1 0) ++ kill (replica 1 2) ++ take (replica 1 2) (control 1) 1) (λ s. ending (one_stage 0) s ≡ drained.Whole)
  -- The first lost group is named, stage by stage.
  pub second_lost : After (two_stages 1) (kill (replica 2 0) ++ kill (replica 2 1) ++ kill (replica 2 2)) (λ s. ending (two_stages 1) s ≡ drained.Lost 2 0)
  -- Where egress has merged all, it is whole, lost groups or not.
  pub lost_after_all : After (one_stage 0) (make 1 ++ pull node.Ingress (replica 1 0) 1 ++ work (replica 1 0) 1 ++ pull (replica 1 0) node.Egress 1 ++ work node.Egress 1
      ++ kill (replica 1 0) ++ kill (replica 1 1) ++ kill (replica 1 2)) (λ s. ending (one_stage 0) s ≡ drained.Whole)
