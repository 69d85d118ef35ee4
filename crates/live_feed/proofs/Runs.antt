-- What a run has given on, whatever it comes to.
use Rattle.std.proofs.Common.{◌≡◌, ◌≤◌, ◌∙◌, ◌<◌, ℕ, List, length, take, sym, ap, subst, arith, Result, Ok, Err, IfOk}
use mathlib.Core.List.{IsPrefix}
use Rattle.tuple_edge.specs.Input.{Input}
use Rattle.tuple_edge.specs.declared.memory.OutOfMemory.{OutOfMemory}
use Rattle.tuple_edge.specs.declared.row.Row.{Row}
use Rattle.plan_reader.specs.PlanView.{PlanView}
use Rattle.pair_machine.specs.Output.{output}
use Rattle.pair_machine.specs.declared.order.Order.{Order}
use Rattle.drained_run.specs.Ended.{EndedView, IsEnded}
use Rattle.live_feed.specs.Sides.{HasRun}
use Rattle.live_feed.proofs.Fronts.{prefix_length, prefix_more, prefix_take}

pub has_run : (plan : PlanView) (inputs : List Input) (script : List Order) (given emitted : List Row) (result : Result EndedView OutOfMemory)
    → IfOk result (IsEnded plan inputs script) → IfOk result (λ ended. IsPrefix emitted ended.rows) → IsPrefix emitted (output plan inputs) → IsPrefix given emitted → HasRun plan inputs script given result
has_run plan inputs script given emitted (Ok ended) ends on front p = (ends, prefix_more given emitted ended.rows p on)
has_run plan inputs script given emitted (Err want) ends on front p = prefix_more given emitted (output plan inputs) p front

-- the same by other names of the plan, its inputs, the script and the rows
pub named : (plan names_plan : PlanView) (inputs names_inputs : List Input) (script names_script : List Order) (given sent : List Row) (end : Result EndedView OutOfMemory)
    → plan ≡ names_plan → inputs ≡ names_inputs → script ≡ names_script → sent ≡ given → HasRun plan inputs script given end → HasRun names_plan names_inputs names_script sent end
named plan names_plan inputs names_inputs script names_script given sent end p i s same h =
    subst (λ (x : PlanView × (List Input × (List Order × List Row))). HasRun x.0 x.1.0 x.1.1.0 x.1.1.1 end) (λ j. (p j, (i j, (s j, sym same j)))) h

-- ---- how many rows were received, of those that a run has given on

pub few_received : (got sent rows : List Row) (first : ℕ) → first ≡ length got → IsPrefix got sent → IsPrefix sent rows → first ≤ length rows
few_received got sent rows first count a b = let few = prefix_length got rows (prefix_more got sent rows a b) in omega (arith, count, few)

pub first_received : (got sent rows : List Row) (first : ℕ) → first ≡ length got → IsPrefix got sent → IsPrefix sent rows → got ≡ take first rows
first_received got sent rows first count a b = sym (ap (λ n. take n rows) count ∙ prefix_take got rows (prefix_more got sent rows a b))
