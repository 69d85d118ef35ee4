-- What a plan is fed with.
use Rattle.std.specs.Prelude.{ℕ, List}
use Rattle.tuple_edge.specs.Input.{Input}
use Rattle.plan_reader.specs.PlanView.{PlanView}

-- a plan, the rows of trades and movements in the order in which they come in, and the symbols by their numbers
pub record FeedView : Type 0 where
  pub plan : PlanView
  pub inputs : List Input
  pub symbols : List (List ℕ)
