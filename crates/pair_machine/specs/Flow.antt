-- What the plan and the inputs say in numbers: how many partitions, makes and items there are, and how many of them come from the
-- first so many others. The machine's steps and laws are over these numbers alone, whatever plan they come from.
use Rattle.std.specs.Prelude.{ℕ, ◌≡◌, ◌≤◌, ◌<◌, ◌+◌}
use Rattle.tuple_edge.specs.declared.node.EdgeId.{EdgeId}
use Rattle.pair_machine.specs.Numbers.{Partition, in_edge, ingress_edge, out_edge}

-- what the machine knows of a plan and its inputs: numbers alone
pub record Flow : Type 0 where
  -- the number of stages
  pub stages : ℕ
  -- the number of in-edges of each partition of a stage, and of egress, the stage after the last
  pub sources : ℕ → ℕ
  -- the number of out-edges of each partition of a stage
  pub targets : ℕ → ℕ
  -- how many replicas each partition has
  pub replicas : ℕ
  -- how many makes there are: one for each input, and one for the end
  pub makes : ℕ
  -- how many items of an edge come from the first merged items, or makes, of its producer
  pub made : EdgeId → ℕ → ℕ
  -- how many items of an in-edge, by its source, stand among the first items of the merged list of a partition
  pub used : Partition → ℕ → ℕ → ℕ
  -- how many items an edge has
  pub length : EdgeId → ℕ
  -- the length of the merged list of a partition
  pub total : Partition → ℕ
  -- how many entries the operator of a partition keeps of the first items of its merged list
  pub entries : Partition → ℕ → ℕ

-- what holds of the numbers of every plan, whatever the inputs
pub record IsFlow (f : Flow) : Type 0 where
  pub some_stage : 1 ≤ f.stages
  -- ingress has one source, or two; egress is one target
  pub first_sources : (1 ≤ f.sources 1) × (f.sources 1 ≤ 2)
  pub last_targets : f.targets f.stages ≡ 1
  -- a partition's targets are the partitions of the next stage
  pub next_parts : (s : ℕ) → s + 1 ≤ f.stages → f.targets s ≡ f.sources (s + 2)
  -- a merged item is at most one item of an edge
  pub used_none : (p : Partition) (q : ℕ) → f.used p q 0 ≡ 0
  pub used_next : (p : Partition) (q c : ℕ) → f.used p q (c + 1) ≤ f.used p q c + 1
  -- where no edge is used up, the merged list goes on
  pub more_left : (p : Partition) (c : ℕ) → 1 ≤ p.stage → p.stage ≤ f.stages + 1 →
      ((q : ℕ) → q < f.sources p.stage → f.used p q c < f.length (in_edge p q)) → c < f.total p
  -- a partition never makes more than the whole edge
  pub made_most : (p : Partition) (t c : ℕ) → 1 ≤ p.stage → p.stage ≤ f.stages → p.part < f.sources (p.stage + 1) → f.made (out_edge p t) c ≤ f.length (out_edge p t)
  pub makes_most : (q t m : ℕ) → f.made (ingress_edge q t) m ≤ f.length (ingress_edge q t)
