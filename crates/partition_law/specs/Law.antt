-- That a plan gives the same rows of each key in the same order, whatever the numbers of its partitions and the columns that route to them.
use Rattle.std.specs.Prelude.{◌≡◌, true, false, List, [], ◌∷◌, map}
use Rattle.std.specs.List.{filter}
use Rattle.tuple_edge.specs.declared.row.Key.{Key}
use Rattle.tuple_edge.specs.declared.row.Row.{Row}
use Rattle.op_spec.specs.Keys.{is_key, key_of}
use Rattle.op_spec.specs.declared.spec.By.{By}
use Rattle.op_spec.specs.declared.spec.By.TheVariants as by
use Rattle.op_spec.specs.declared.spec.OpSpec.{OpSpec}
use Rattle.trade_text.specs.TradesView.{IsTrades, TradesView, inputs_in}
use Rattle.plan_reader.specs.PlanView.{IsPlan, PlanView}
use Rattle.pair_machine.specs.Output.{output}
use Rattle.plan_check.specs.Order.{key_behind}
use Rattle.plan_check.specs.Warnings.{is_warned_of_parts}

-- the operators of a plan, in the order in which rows pass them
abbrev pub operators : PlanView → List OpSpec
operators plan = map (λ s. s.op) plan.stages

-- what rows behind the last of some operators have of an account and a symbol: its key, and of a `keep` both
abbrev pub last_key : List OpSpec → By
last_key [] = by.Both
last_key (op ∷ []) = key_behind op
last_key (op ∷ next ∷ ops) = last_key (next ∷ ops)

-- the rows of a key, in order
abbrev pub rows_of_key : By → Key → List Row → List Row
rows_of_key by k rows = filter (λ r. is_key (key_of by r) k) rows

-- what a plan gives of a key of its last stage, for trades
abbrev pub given : PlanView → TradesView → Key → List Row
given plan trades k = rows_of_key (last_key (operators plan)) k (output plan (inputs_in trades))

-- a plan takes trades, and cash movements that were merged with them where it is of version 2; and it isn't warned of for its partitions
pub record IsSound (plan : PlanView) (trades : TradesView) : Type 0 where
  pub limits : IsPlan plan
  pub takes : trades.merged ≡ true → plan.version ≡ 2
  pub warned : is_warned_of_parts plan ≡ false

-- Two plans with the same operators that aren't warned of for their partitions give, for each key of the last stage, the same rows in the same order.
abbrev pub PartitionsAgree : Type 0
PartitionsAgree = (one other : PlanView) (trades : TradesView) (k : Key) → IsTrades trades → IsSound one trades → IsSound other trades → operators one ≡ operators other
    → given one trades k ≡ given other trades k
