-- What a plan and a script do, in sentences.
use Rattle.std.specs.Prelude.{ℕ, ◌+◌, ◌==◌, Bool, List, [], ◌∷◌, ◌++◌, Option, None, Some, codes, flat_map, length, if◌then◌else◌}
use Rattle.std.specs.Fmt.{decimal, signed_decimal}
use Rattle.tuple_edge.specs.Node.{partner_node}
use Rattle.tuple_edge.specs.declared.node.NodeId.{NodeId}
use Rattle.tuple_edge.specs.declared.row.Column.{Column}
use Rattle.op_spec.specs.declared.spec.OpSpec.{OpSpec}
use Rattle.op_spec.specs.declared.spec.OpSpec.TheVariants as op
use Rattle.pair_machine.specs.declared.order.Order.{Order}
use Rattle.plan_reader.specs.PlanView.{PlanView}
use Rattle.plan_reader.specs.Text.{column_name, test_text}
use Rattle.plan_reader.specs.declared.stage.Stage.{Stage}
use Rattle.run_journal.specs.Text.{node_name}
use Rattle.trade_text.specs.TradesView.{TradesView}
use Rattle.plan_check.specs.Stages.{numbered}
use Rattle.plan_check.specs.Words.{key_text, order_text, stage_text}
use Rattle.plan_check.specs.declared.warning.Numbered.{Numbered}

-- ---- the plan

-- what comes in
abbrev pub sources_text : ℕ → List ℕ
sources_text version = if version == 1 then codes "trades come in" else codes "trades and cash movements come in, by their times"

-- the version, and what comes in
abbrev pub version_sentence : ℕ → List ℕ
version_sentence version = codes "The plan is of version " ++ decimal version ++ codes ": " ++ sources_text version ++ codes ".\n"

-- the mark, and what it is for
abbrev pub mark_sentence : ℕ → List ℕ
mark_sentence mark = codes "The mark is " ++ decimal mark ++ codes ": after so many rows a mark goes on every edge, so that no partition waits longer for an edge without rows.\n"

-- the hold, and what it is for
abbrev pub hold_sentence : ℕ → List ℕ
hold_sentence hold = codes "The hold is " ++ decimal hold ++ codes ": no further row comes in while an edge of ingress holds so many items.\n"

-- the three of a plan
abbrev pub settings_text : PlanView → List ℕ
settings_text plan = version_sentence plan.version ++ mark_sentence plan.mark ++ hold_sentence plan.hold

-- ---- a stage

-- several partitions, and the column by which rows go to them
abbrev pub several_text : ℕ → Column → List ℕ
several_text parts by = codes "in " ++ decimal parts ++ codes " partitions by " ++ column_name by

-- to which partitions the rows of a stage go
abbrev pub parts_text : Stage → List ℕ
parts_text s = if s.parts == 1 then codes "in 1 partition" else several_text s.parts s.by

-- what a row of it means
abbrev pub meaning : OpSpec → List ℕ
meaning (op.Keep column compare limit) = codes "is one that came in, where " ++ test_text column compare limit
meaning (op.Total by) = codes "has the sums of all rows of its " ++ key_text by ++ codes " so far"
meaning (op.Last by rows) = codes "has the sums of the last rows of its " ++ key_text by ++ codes ", " ++ decimal rows ++ codes " at most"
meaning (op.Window by width) =
    codes "has the sums of the rows of its " ++ key_text by ++ codes " in a span of " ++ signed_decimal width ++ codes " s, and comes once a row opens a later span, or at the end"
meaning (op.Crossing by limit) =
    codes "has the sums of all rows of its " ++ key_text by ++ codes " so far, and comes where the size of the value's sum goes above " ++ signed_decimal limit ++ codes " cents, or back"
meaning (op.Join by width rows column compare limit) =
    codes "has the sums of two rows of its " ++ key_text by ++ codes " in a span of " ++ signed_decimal width ++ codes " s, of which just one has "
    ++ test_text column compare limit ++ codes ", the earlier one among the last " ++ decimal rows ++ codes " of its kind"

-- the sentences of a stage
abbrev pub stage_sentences : Numbered → List ℕ
stage_sentences s =
    codes "There is " ++ stage_text s ++ codes ", " ++ parts_text s.stage ++ codes ".\n  A row of it " ++ meaning s.stage.op ++ codes ".\n"

-- those of stages, numbered from here on
abbrev pub stages_text : ℕ → List Stage → List ℕ
stages_text number [] = []
stages_text number (s ∷ stages) = stage_sentences (numbered number s) ++ stages_text (number + 1) stages

-- the sentences of a plan
abbrev pub plan_sentences : PlanView → List ℕ
plan_sentences plan = settings_text plan ++ stages_text 1 plan.stages

-- ---- what else is given

-- how many rows come in
abbrev pub count_sentence : ℕ → List ℕ
count_sentence rows = codes "Trades that come in: " ++ decimal rows ++ codes ".\n"

-- the same, where trades are given
abbrev pub trades_sentences : Option TradesView → List ℕ
trades_sentences None = []
trades_sentences (Some trades) = count_sentence (length trades.rows)

-- that a replica may be asked for by its partner once that has merged so many items
abbrev pub asked_text : NodeId → ℕ → List ℕ
asked_text partner back = codes "; " ++ node_name partner ++ codes " may ask it back once it has merged " ++ decimal back

-- when the replica of an order may be asked for again
abbrev pub return_text : Order → Option ℕ → List ℕ
return_text o None = codes "; it isn't asked back"
return_text o (Some back) = asked_text (partner_node o.node) back

-- what may happen to the replica of an order
abbrev pub kind_text : Bool → List ℕ
kind_text kill = if kill then codes "may fail" else codes "may ask to be stopped"

-- the sentence of an order
abbrev pub order_sentence : Order → List ℕ
order_sentence o =
    codes "  " ++ order_text o ++ codes ": " ++ node_name o.node ++ codes " " ++ kind_text o.kill ++ codes " once it has merged " ++ decimal o.at ++ codes " items"
    ++ return_text o o.back ++ codes ".\n"

-- how many orders there are
abbrev pub orders_sentence : ℕ → List ℕ
orders_sentence count = codes "Orders of the script: " ++ decimal count ++ codes ".\n"

-- how many, and the sentence of each
abbrev pub orders_text : List Order → List ℕ
orders_text orders = orders_sentence (length orders) ++ flat_map order_sentence orders

-- the same, where a script is given
abbrev pub script_sentences : Option (List Order) → List ℕ
script_sentences None = []
script_sentences (Some orders) = orders_text orders
