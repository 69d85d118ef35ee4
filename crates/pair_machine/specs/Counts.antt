-- The numbers of a plan and its inputs: how many items of an edge were made, and used, of the first so many others. By them alone the
-- pair machine runs.
use Rattle.std.specs.Prelude.{ℕ, zero, suc, ◌+◌, ◌-◌, List, [], Option, None, Some, count_by, length, nat_le, slice_get, take}
use Rattle.tuple_edge.specs.declared.item.Item.{Item}
use Rattle.tuple_edge.specs.declared.node.EdgeId.{EdgeId}
use Rattle.tuple_edge.specs.declared.packet.Entry.{Entry}
use Rattle.tuple_edge.specs.Input.{Input}
use Rattle.tuple_edge.specs.Item.{stamp_of}
use Rattle.merge_order.specs.Merged.{items, used}
use Rattle.stream_ops.specs.Entries.{entries}
use Rattle.plan_reader.specs.Nodes.{parts_of, sources_of}
use Rattle.plan_reader.specs.PlanView.{PlanView}
use Rattle.plan_reader.specs.declared.stage.Stage.{Stage}
use Rattle.pair_machine.specs.Edges.{answered, edge, edge_to, edges_into, merged_at}
use Rattle.pair_machine.specs.Flow.{Flow}
use Rattle.pair_machine.specs.Ingress.{last_stamp}
use Rattle.pair_machine.specs.Numbers.{Partition}

-- the items of an edge
abbrev pub items_on : PlanView → List Input → EdgeId → List Item
items_on plan inputs e = edge plan inputs e.stage e.from e.to

-- the items that a partition merges first
abbrev pub merged_first : PlanView → List Input → Partition → ℕ → List Item
merged_first plan inputs p count = take count (items (merged_at plan inputs p.stage p.part))

-- how many items of in-edge q are among the items that a partition merges first
abbrev pub used_of : PlanView → List Input → Partition → ℕ → ℕ → ℕ
used_of plan inputs p q count = used (last_stamp inputs) (edges_into plan inputs p.stage p.part) q count

-- what a stage sends on an edge to target t, after its operator was given these items
abbrev pub sent_after : Option Stage → Option Stage → ℕ → List Item → List Item
sent_after None next t given = []
sent_after (Some stage) next t given = edge_to next t (answered stage.op [] given)

-- How many items of the edge from partition q of a stage to target t are made: of a source of ingress, by the first so many makes, those up to that
-- stamp; of another stage, what it sends after the items that the partition merges first.
abbrev pub made_at : PlanView → List Input → ℕ → ℕ → ℕ → ℕ → ℕ
made_at plan inputs zero q t count = count_by (λ i. nat_le (stamp_of i) count) (edge plan inputs zero q t)
made_at plan inputs (suc s) q t count =
    length (sent_after (slice_get plan.stages s) (slice_get plan.stages (suc s)) t (merged_first plan inputs (record { stage = suc s; part = q }) count))

-- how many items of an edge are made by the first so many makes, where ingress produces it, else by the first so many merged items
abbrev pub made_on : PlanView → List Input → EdgeId → ℕ → ℕ
made_on plan inputs e count = made_at plan inputs e.stage e.from e.to count

-- what the operator of a stage keeps of these items
abbrev pub entries_by : Option Stage → List Item → List Entry
entries_by None given = []
entries_by (Some stage) given = entries stage.op given

-- what the operator of a partition keeps of the items that it merges first
abbrev pub entries_after : PlanView → List Input → Partition → ℕ → List Entry
entries_after plan inputs p count = entries_by (slice_get plan.stages (p.stage - 1)) (merged_first plan inputs p count)

-- a plan and its inputs in numbers, where its partitions are pairs
unfoldable pub flow_of : PlanView → List Input → Flow
flow_of plan inputs = record {
  stages = length plan.stages;
  sources = sources_of plan;
  targets = λ s. parts_of plan (s + 1);
  replicas = 2;
  makes = last_stamp inputs;
  made = made_on plan inputs;
  used = used_of plan inputs;
  length = λ e. length (items_on plan inputs e);
  total = λ p. length (merged_at plan inputs p.stage p.part);
  entries = λ p count. length (entries_after plan inputs p count);
}
