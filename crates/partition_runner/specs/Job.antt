-- What a run has to do.
use Rattle.std.specs.Prelude.{ℕ, ◌≡◌, ◌≤◌, List}
use Rattle.tuple_edge.specs.Input.{Input}
use Rattle.tuple_edge.specs.Limits.{max_threads}
use Rattle.plan_reader.specs.PlanView.{PlanView}
use Rattle.pair_machine.specs.declared.order.Order.{Order}
use Rattle.trade_text.specs.TradesView.{inputs_in}
use Rattle.partition_runner.specs.declared.job.Job.{Job}
use Rattle.partition_runner.specs.declared.job.StreamJob.{StreamJob}

-- so many workers may turn the nodes of a run: at least one, and no more than there may be threads
abbrev pub AreWorkers : ℕ → Type 0
AreWorkers n = (1 ≤ n) × (n ≤ max_threads)

-- a job is to run this plan under this script, whatever inputs come: its plan and its script are these, and so many workers as it has may turn
-- the nodes of a run
pub record IsStreamJobOf {G : Type 0} (plan : PlanView) (script : List Order) (job : StreamJob G) : Type 0 where
  pub plan_is : job.plan.now ≡ plan
  pub script_is : job.script.now ≡ script
  pub workers : AreWorkers job.threads

-- A job is to run this plan over these inputs under this script: its plan, its trades and its script are these, and so many workers as it has
-- may turn the nodes of a run.
pub record IsJobOf {G : Type 0} (plan : PlanView) (inputs : List Input) (script : List Order) (job : Job G) : Type 0 where
  pub plan_is : job.plan.now ≡ plan
  pub inputs_are : inputs_in job.trades.now ≡ inputs
  pub script_is : job.script.now ≡ script
  pub workers : AreWorkers job.threads
