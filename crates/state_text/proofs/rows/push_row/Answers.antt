use Rattle.std.proofs.Common.{◌∙◌, ◌++◌, ap, codes}
use Rattle.std.specs.Fmt.{signed_decimal}
use Rattle.trade_text.specs.Symbols.{symbol_at}
use Rattle.state_text.proofs.Below.{row_joined}
use Rattle.state_text.proofs.rows.push_row.Goals as goal

pub returns : goal.returns
returns c =
    let row = c.args.row.now in
    let symbol = symbol_at c.args.trades.now.symbols row.symbol in
    let time = signed_decimal row.time in
    let account = signed_decimal row.account in
    let qty = signed_decimal row.qty in
    let value = signed_decimal row.value in
    c.in_ok-push_sums.ensures
    ∙ ap (λ t. t ++ (qty ++ codes "," ++ value ++ codes "\n"))
    (c.in_ok-push_text-2.ensures ∙ ap (λ t. t ++ codes ",")
    (c.in_ok-push_symbol.ensures ∙ ap (λ t. t ++ symbol)
    (c.in_ok-push_times.ensures ∙ ap (λ t. t ++ (time ++ codes "," ++ account ++ codes ",")) c.in_ok-push_text.ensures)))
    ∙ row_joined c.args.out.now.items (codes "row ") (codes ",") (codes "\n") time account symbol qty value
