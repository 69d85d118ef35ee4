use Rattle.std.proofs.Common.{◌∙◌, ◌++◌, ap, codes}
use Rattle.std.specs.Fmt.{signed_decimal}
use Rattle.trade_text.specs.Symbols.{symbol_at}
use Rattle.trio_command.proofs.Telling.{row_joined}
use Rattle.trio_command.proofs.text.push_row.Goals as goal

pub returns : goal.returns
returns c =
    let row = c.args.row.now in
    let old = c.args.text.now.items in
    let front = c.in_ok-extend_from_slice.ensures.items ∙ ap (λ t. old ++ t) (c.as_bytes.ensures.value ∙ c.in_ok-front.ensures) in
    let middle = c.in_ok-push_symbol.ensures ∙ ap (λ t. t ++ symbol_at c.args.trades.now.symbols row.symbol) front in
    c.in_ok-extend_from_slice-2.ensures.items
    ∙ (λ j. middle j ++ (c.as_bytes-2.ensures.value ∙ c.in_ok-sums.ensures) j)
    ∙ row_joined old (codes "row ") (codes ",") (codes "\n") (signed_decimal row.time) (signed_decimal row.account) (symbol_at c.args.trades.now.symbols row.symbol) (signed_decimal row.qty) (signed_decimal row.value)
