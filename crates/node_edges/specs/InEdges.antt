-- When a consumer in code stands for a consumer of the machine: its merge stands for the marks and the count over the edges into the
-- partition, so that what waits on an edge is numbered above what is used up to the mark, and what it told is the machine's.
use Rattle.std.specs.Prelude.{◌≡◌, ◌<◌, ℕ, List, Option, None, Some, length}
use Rattle.tuple_edge.specs.Input.{Input}
use Rattle.merge_order.specs.MergeView.{mark_of}
use Rattle.merge_order.specs.StandsFor.{StandsFor}
use Rattle.flux_consumer.specs.ConsumerView.{ConsumerView, told_of}
use Rattle.plan_reader.specs.Nodes.{sources_of}
use Rattle.plan_reader.specs.PlanView.{PlanView}
use Rattle.pair_machine.specs.Edges.{edges_into}
use Rattle.pair_machine.specs.Ingress.{last_stamp}
use Rattle.pair_machine.specs.Numbers.{Consumer, Partition}

-- a consumer stands for a partition's
pub record ConsumerStands (plan : PlanView) (inputs : List Input) (p : Partition) (x : Consumer) (code : ConsumerView) : Type 0 where
  pub edges : length code.merge.marks ≡ sources_of plan p.stage
  pub listed : length code.told ≡ length code.merge.marks
  pub merge : StandsFor (last_stamp inputs) (edges_into plan inputs p.stage p.part) code.merge
  pub count : code.merge.count ≡ x.count
  pub marks : (q : ℕ) → q < sources_of plan p.stage → mark_of code.merge q ≡ x.marks q
  pub told : (q : ℕ) → q < sources_of plan p.stage → told_of code q ≡ x.told q

-- what code has to report, as the machine has it: of which edge
abbrev pub edge_in : Option (ℕ × ℕ) → Option ℕ
edge_in None = None
edge_in (Some report) = Some report.0
