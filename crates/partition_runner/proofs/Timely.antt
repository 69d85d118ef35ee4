-- The inputs of trades are timely.
use Rattle.std.proofs.lemmas.List.Elements.{All-weaker}
use Rattle.tuple_edge.specs.declared.row.Row.{Row}
use Rattle.stream_ops.specs.Times.{IsTime}
use Rattle.node_tasks.specs.Timely.{AreTimely}
use Rattle.trade_text.specs.TradesView.{IsInputRow, IsTrades, TradesView, inputs_in}
use Rattle.trade_text.proofs.Sources.{each_row}

timely_row : (r : Row) → IsInputRow r → IsTime r.time
timely_row r h = (h.time.low, h.time.high)

pub are_timely : (t : TradesView) → IsTrades t → AreTimely (inputs_in t)
are_timely t h = each_row (λ (r : Row). IsTime r.time) t.rows t.sources (All-weaker IsInputRow (λ (r : Row). IsTime r.time) timely_row t.rows h.rows)
