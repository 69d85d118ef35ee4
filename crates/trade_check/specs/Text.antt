-- The text of a check.
use Rattle.std.specs.Prelude.{ℕ, ℤ, ◌+◌, nat_lt, List, [], ◌++◌, Option, None, Some, codes, flat_map, length, option_map, if◌then◌else◌}
use Rattle.std.specs.Fmt.{decimal, signed_decimal}
use Rattle.tuple_edge.specs.declared.row.Row.{Row}
use Rattle.pair_machine.specs.declared.order.Order.{Order}
use Rattle.plan_reader.specs.PlanView.{PlanView}
use Rattle.run_journal.specs.Text.{node_name}
use Rattle.plan_check.specs.Sentences.{plan_sentences, script_sentences, trades_sentences}
use Rattle.plan_check.specs.Text as plan_text
use Rattle.plan_check.specs.Warnings.{warnings}
use Rattle.plan_check.specs.Words.{order_text, stage_text}
use Rattle.trade_check.specs.Counts.{script_warnings}
use Rattle.trade_check.specs.Given.{GivenView}
use Rattle.trade_check.specs.Symbols.{symbol_sentences}
use Rattle.trade_check.specs.Warnings.{trade_warnings}
use Rattle.trade_check.specs.declared.warning.CountWarning.{CountWarning}
use Rattle.trade_check.specs.declared.warning.TradeWarning.{TradeWarning}
use Rattle.trade_check.specs.declared.warning.TradeWarning.TheVariants as warning

-- ---- warnings of trades

-- that in this line of a file the time falls so
abbrev pub fall_text : List ℕ → ℕ → ℤ → ℤ → List ℕ
fall_text name line from to = name ++ codes ": line " ++ decimal line ++ codes ": the time falls from " ++ signed_decimal from ++ codes " to " ++ signed_decimal to

-- what is hardly meant about the trades of a file of this name
abbrev pub trade_warned : List ℕ → TradeWarning → List ℕ
trade_warned name (warning.Falls line from to) = fall_text name line from to ++ codes "; a window counts this trade into the latest span of its key, not into that of its time"
trade_warned name (warning.Midnight line from to) = fall_text name line from to ++ codes ", as over midnight; times of the next day have to go on, from 86400 on"
trade_warned name (warning.MoreFalls count) = name ++ codes ": the time falls " ++ decimal count ++ codes " times; the first 100 stand above"
trade_warned name (warning.FewSymbols s symbols) = stage_text s ++ codes ": " ++ name ++ codes " has " ++ signed_decimal symbols ++ codes " symbols, so no row passes"

-- the line of a warning
abbrev pub trade_line : List ℕ → TradeWarning → List ℕ
trade_line name w = codes "Warning: " ++ trade_warned name w ++ codes ".\n"

-- the lines of warnings
abbrev pub trade_lines : Option GivenView → List TradeWarning → List ℕ
trade_lines None found = []
trade_lines (Some g) found = flat_map (trade_line g.name) found

-- ---- warnings of orders

-- whether a replica that merges so many items comes to a count at all
abbrev pub reach_text : (items count : ℕ) → List ℕ
reach_text items count =
    if nat_lt items count then codes "never comes to " ++ decimal count else codes "may come to " ++ decimal count ++ codes " only in its last turn, which is too late"

-- to which count of an order a replica doesn't come in time
abbrev pub count_warned : CountWarning → List ℕ
count_warned w = order_text w.order ++ codes ": " ++ node_name w.replica ++ codes " merges " ++ decimal w.items ++ codes " items with these inputs, so it " ++ reach_text w.items w.count

-- the line of such a warning
abbrev pub order_line : CountWarning → List ℕ
order_line w = codes "Warning: " ++ count_warned w ++ codes ".\n"

-- ---- the whole text

-- what is said of a plan and of what is given with it
abbrev pub sentences : PlanView → Option GivenView → Option (List Order) → List ℕ
sentences plan given script = plan_sentences plan ++ trades_sentences (option_map (λ g. g.trades) given) ++ symbol_sentences given plan.stages ++ script_sentences script

-- how many warnings there are
abbrev pub warning_count : PlanView → Option GivenView → (cash : Option (List Row)) → Option (List Order) → ℕ
warning_count plan given cash script = length (warnings plan script) + length (trade_warnings plan given) + length (script_warnings plan given cash script)

-- the lines of all warnings: those of the plan and of the script, then those of the trades, and then those of the script's counts beside the inputs
abbrev pub warning_lines : PlanView → Option GivenView → (cash : Option (List Row)) → Option (List Order) → List ℕ
warning_lines plan given cash script =
    flat_map plan_text.warning_line (warnings plan script) ++ trade_lines given (trade_warnings plan given) ++ flat_map order_line (script_warnings plan given cash script)

-- how many there are
abbrev pub count_line : ℕ → List ℕ
count_line count = codes "Warnings: " ++ decimal count ++ codes ".\n"

-- the text of a check: the sentences on all that is given, the warnings, and how many there are
abbrev pub check_text : PlanView → Option GivenView → (cash : Option (List Row)) → Option (List Order) → List ℕ
check_text plan given cash script = sentences plan given script ++ warning_lines plan given cash script ++ count_line (warning_count plan given cash script)
