-- What is said of a stage and of a key, and how a script's line says an order.
use Rattle.std.specs.Prelude.{ℕ, Bool, List, ◌++◌, Option, None, Some, codes, if◌then◌else◌}
use Rattle.std.specs.Fmt.{decimal}
use Rattle.op_spec.specs.declared.spec.By.{By}
use Rattle.op_spec.specs.declared.spec.By.TheVariants as by
use Rattle.pair_machine.specs.declared.order.Order.{Order}
use Rattle.plan_reader.specs.Text.{op_text}
use Rattle.run_journal.specs.Text.{node_name}
use Rattle.plan_check.specs.declared.warning.Numbered.{Numbered}

-- a stage by its number and its operator, as in `stage 2, total account`
abbrev pub stage_text : Numbered → List ℕ
stage_text s = codes "stage " ++ decimal s.number ++ codes ", " ++ op_text s.stage.op

-- what rows of one key have in common
abbrev pub key_text : By → List ℕ
key_text by.Account = codes "account"
key_text by.Symbol = codes "symbol"
key_text by.Both = codes "account and symbol"

-- what a script's line says of a failure, and of a stop
abbrev pub kill_text : Bool → List ℕ
kill_text kill = if kill then codes "kill" else codes "stop"

-- what it says of when a replica is asked back
abbrev pub back_text : Option ℕ → List ℕ
back_text None = codes "never"
back_text (Some back) = decimal back

-- an order, as a script's line has it
abbrev pub order_text : Order → List ℕ
order_text o = kill_text o.kill ++ codes " " ++ node_name o.node ++ codes " at " ++ decimal o.at ++ codes " back " ++ back_text o.back
