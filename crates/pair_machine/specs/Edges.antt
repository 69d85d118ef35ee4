-- The edges of a plan: what each partition sends, what of it goes to which partition of the next stage, and what a partition merges.
use Rattle.std.specs.Prelude.{ℕ, zero, suc, Bool, true, List, [], ◌∷◌, ◌++◌, Option, None, Some, ◌*◌, ◌==◌, filter, fold, map, slice_get, slice_index_or, take}
use Rattle.std.specs.List.{range_with_len}
use Rattle.tuple_edge.specs.declared.item.Item.{Item}
use Rattle.tuple_edge.specs.declared.item.Item.TheVariants as item
use Rattle.tuple_edge.specs.declared.row.Row.{Row}
use Rattle.tuple_edge.specs.Input.{Input}
use Rattle.tuple_edge.specs.Item.{stamp_of}
use Rattle.tuple_edge.specs.Row.{route_of}
use Rattle.merge_order.specs.Merged.{Place, items, merged}
use Rattle.op_spec.specs.Spec.{most_rows}
use Rattle.op_spec.specs.declared.spec.OpSpec.{OpSpec}
use Rattle.stream_ops.specs.Answers.{answer}
use Rattle.plan_reader.specs.PlanView.{PlanView}
use Rattle.plan_reader.specs.declared.stage.Stage.{Stage}
use Rattle.pair_machine.specs.Ingress.{last_stamp, sent_by_ingress}

-- what a partition sends: ------------------------------------------------------------

-- rows with a stamp
abbrev pub stamped : ℕ → List Row → List Item
stamped stamp rows = map (item.Row stamp) rows

-- a mark and an end are passed on
abbrev pub passed : Item → List Item
passed (item.Row stamp row) = []
passed (item.Mark stamp) = item.Mark stamp ∷ []
passed (item.End stamp) = item.End stamp ∷ []

-- What an operator sends for items, after those before, place by place: the rows that it answers, with the stamp of the place, and then what is passed on.
abbrev pub answered : OpSpec → List Item → List Item → List Item
answered op before [] = []
answered op before (i ∷ is) = (stamped (stamp_of i) (answer op before i) ++ passed i) ++ answered op (before ++ i ∷ []) is

-- where it goes: -----------------------------------------------------------------------

-- whether an item goes to partition t of a stage: a row to the one that routing names, a mark and an end to each
abbrev pub goes_to : Stage → ℕ → Item → Bool
goes_to stage t (item.Row stamp row) = route_of row stage.by stage.parts == t
goes_to stage t (item.Mark stamp) = true
goes_to stage t (item.End stamp) = true

-- the edge to partition t of the next stage, where this was sent; after the last stage comes egress, to which all goes
abbrev pub edge_to : Option Stage → ℕ → List Item → List Item
edge_to None t sent = sent
edge_to (Some stage) t sent = filter (goes_to stage t) sent

-- the edges to partition t of the next stage, where its sources sent this
abbrev pub edges_to : Option Stage → ℕ → List (List Item) → List (List Item)
edges_to stage t sent = map (edge_to stage t) sent

-- stage by stage: ------------------------------------------------------------------------

-- what partition q of a stage sends, where its sources sent this
abbrev pub sent_by_part : ℕ → List (List Item) → Stage → ℕ → List Item
sent_by_part last sent stage q = answered stage.op [] (items (merged last (edges_to (Some stage) q sent)))

-- what each partition of a stage sends
abbrev pub sent_by_stage : ℕ → List (List Item) → Stage → List (List Item)
sent_by_stage last sent stage = map (sent_by_part last sent stage) (range_with_len 0 stage.parts)

-- what each partition of stage s of a plan sends; stage 0 is ingress, whose partitions are its sources
abbrev pub sent_by : PlanView → List Input → ℕ → List (List Item)
sent_by plan inputs s = fold (sent_by_stage (last_stamp inputs)) (sent_by_ingress plan inputs) (take s plan.stages)

-- the edge from partition q of stage s to partition t of the next one
abbrev pub edge : PlanView → List Input → ℕ → ℕ → ℕ → List Item
edge plan inputs s q t = edge_to (slice_get plan.stages s) t (slice_index_or (sent_by plan inputs s) q [])

-- the edges into partition q of stage s, source by source; none goes into ingress
abbrev pub edges_into : PlanView → List Input → ℕ → ℕ → List (List Item)
edges_into plan inputs zero q = []
edges_into plan inputs (suc s) q = edges_to (slice_get plan.stages s) q (sent_by plan inputs s)

-- the merged list of partition q of stage s
abbrev pub merged_at : PlanView → List Input → ℕ → ℕ → List Place
merged_at plan inputs s q = merged (last_stamp inputs) (edges_into plan inputs s q)

-- how many rows: --------------------------------------------------------------------------

-- At most how many rows stages send for each row that the first of them is given: each sends as many for one as its operator answers one with.
abbrev pub most_sent : List Stage → ℕ
most_sent [] = 1
most_sent (stage ∷ stages) = most_rows stage.op * most_sent stages
