use Rattle.std.proofs.Common.{◌≡◌, ◌++◌, sym, subst, rules}
use Rattle.tuple_edge.specs.Input.{from_first}
use Rattle.trade_text.specs.Inputs.{IsTimeOrder, from_second, inputs_of_both}
use Rattle.trade_text.specs.TradesView.{paired}
use Rattle.trade_text.proofs.BothFiles.{merged_limits, ordered}
use Rattle.trade_text.proofs.trades.Trades.merge_cash.Goals as goal

pub invariant_of-self : goal.invariant_of-self
invariant_of-self c =
    let is : paired c.in_ok-rows.rows.items c.in_ok-rows.sources.items ≡ inputs_of_both c.self.inside.rows.items c.args.cash.now = search rules in
    merged_limits c.self.inside.rows.items c.args.cash.now c.in_ok-rows.rows.items c.in_ok-rows.sources.items c.self.inside.symbols c.self.invariant.rows (search rules) (search rules)
    c.self.invariant.few_symbols is c.in_ok-rows.ensures.many

pub returns-clause-order : goal.returns-clause-order
returns-clause-order c =
    let is : paired c.in_ok-rows.rows.items c.in_ok-rows.sources.items ≡ inputs_of_both c.args.self.now.rows c.args.cash.now = search rules in
    subst (IsTimeOrder (from_first c.args.self.now.rows ++ from_second c.args.cash.now)) (sym is) (ordered (from_first c.args.self.now.rows ++ from_second c.args.cash.now))
