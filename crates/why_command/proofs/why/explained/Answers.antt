use Rattle.std.proofs.Common.{◌≡◌, ap}
use Rattle.why_command.specs.Kept.{KeptCash, KeptTrades}
use Rattle.why_command.proofs.why.explained.Goals as goal

pub returns-clause-refused : goal.returns-clause-refused
returns-clause-refused c = λ next.
    let trades : c.kept.inside.trades ≡ c.args.kept.trades = ap (λ (k : KeptTrades). k.trades) c.kept.view_is in
    let bytes : c.kept.inside.bytes.items ≡ c.args.kept.bytes = ap (λ (k : KeptTrades). k.bytes) c.kept.view_is in
    let cash : c.movements.inside.cash ≡ c.args.movements.now.rows = ap (λ (k : KeptCash). k.rows) c.movements.view_is in
    let cash_bytes : c.movements.inside.bytes.items ≡ c.args.movements.now.bytes = ap (λ (k : KeptCash). k.bytes) c.movements.view_is in
    let told = c.in-Err.ensures.refused next in
    simp (c.stages.ensures.value, c.without_mark.ensures, c.deref.ensures.value, c.deref-2.ensures.value, c.in_ok-rows.ensures, c.rows.ensures.rows, c.without_mark-2.ensures, c.deref-3.ensures.value, c.rows-2.ensures.rows, c.in_ok-inputs.ensures.inputs, c.in_ok-inputs.ensures.symbols, trades, bytes, cash, cash_bytes)
    at told
