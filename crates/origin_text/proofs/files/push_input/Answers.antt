use Rattle.std.proofs.Common.{◌≡◌, ◌++◌, ◌∙◌, Option, None, ap, arith, length, sym}
use Rattle.std.specs.Prelude.{slice_get}
use Rattle.std.proofs.lemmas.List.{append-nil, length-map}
use Rattle.std.proofs.lemmas.Option.{slice_get_past}
use Rattle.tuple_edge.specs.Input.{Input}
use Rattle.trade_text.specs.TradesView.{inputs_in}
use Rattle.trade_text.proofs.Sources.{rows_paired}
use Rattle.origin_text.specs.Files.{files_in, input_text}
use Rattle.origin_text.proofs.files.push_input.Goals as goal

pub returns-clause-text : goal.returns-clause-text
returns-clause-text c =
    let start = c.args.text.now.items in
    let trades = c.args.files.now.inputs.now in
    let inputs = inputs_in trades in
    let many : length inputs ≡ length trades.rows = sym (length-map inputs (λ (x : Input). x.row)) ∙ ap length (rows_paired trades.rows trades.sources) in
    let none : slice_get inputs c.args.place ≡ None = slice_get_past inputs c.args.place (omega (arith, many, ap length c.rows.ensures.rows)) in
    sym (append-nil start) ∙ ap (λ (x : Option Input). start ++ input_text (files_in c.args.files.now) c.args.place x) (sym none)
