use Rattle.std.proofs.Common.{◌∙◌, Option, ap, length, sym}
use Rattle.trade_text.specs.TradesView.{inputs_in}
use Rattle.trade_line.specs.declared.order.Spot.{Spot}
use Rattle.trade_line.proofs.Places.{as_many}
use Rattle.trace_command.specs.Courses.{place_in}
use Rattle.trace_command.proofs.command.place_in.Goals as goal

pub returns-in-None : goal.returns-in-None
returns-in-None c =
    let inputs = c.args.inputs.now in
    ap length c.rows.ensures.rows ∙ (sym (as_many inputs) ∙ ap (λ (s : Option Spot). place_in s (inputs_in inputs)) (sym c.in-None.is))
