-- The definitions on small dataflows whose edges and output are worked out by hand.
use Rattle.std.proofs.Common.{◌≡◌, ℕ, ℤ, pos, negsuc, List, [], ◌∷◌, refl}
use Rattle.tuple_edge.specs.Input.{Input, from_first}
use Rattle.tuple_edge.specs.declared.item.Item.TheVariants as item
use Rattle.tuple_edge.specs.declared.row.Column.TheVariants as column
use Rattle.tuple_edge.specs.declared.row.Row.{Row}
use Rattle.op_spec.specs.declared.spec.By.TheVariants as by
use Rattle.op_spec.specs.declared.spec.Compare.TheVariants as compare
use Rattle.op_spec.specs.declared.spec.OpSpec.TheVariants as op
use Rattle.plan_reader.specs.PlanView.{PlanView}
use Rattle.pair_machine.specs.Edges.{edge}
use Rattle.pair_machine.specs.Ingress.{sent_by_ingress}
use Rattle.pair_machine.specs.Output.{output}

abbrev row : ℕ → ℕ → ℕ → ℤ → ℤ → Row
row time account symbol qty value = record { time = pos time; account = pos account; symbol = pos symbol; qty = qty; value = value }

-- ingress puts a mark after each second trade, and the end last --------------------------

abbrev one_total : PlanView
one_total = record { version = 1; stages = record { parts = 1; by = column.Account; op = op.Total by.Account } ∷ []; mark = 2; hold = 1024 }

abbrev trade : Row
trade = row 34200 7 1 (pos 1) (pos 100)

marked : sent_by_ingress one_total (from_first (trade ∷ trade ∷ trade ∷ trade ∷ []))
    ≡ (item.Row 1 trade ∷ item.Row 2 trade ∷ item.Mark 2 ∷ item.Row 3 trade ∷ item.Row 4 trade ∷ item.Mark 4 ∷ item.End 5 ∷ []) ∷ []
marked = refl

-- of two sources each sends its own rows, and both the same marks and the end ---------------------

abbrev both_total : PlanView
both_total = record { version = 2; stages = record { parts = 1; by = column.Account; op = op.Total by.Account } ∷ []; mark = 2; hold = 1024 }

abbrev later_trade : Row
later_trade = row 34210 7 1 (pos 1) (pos 100)

abbrev paid : Row
paid = row 34205 7 0 (pos 0) (negsuc 249)

abbrev received : Row
received = row 34210 7 0 (pos 0) (pos 100)

abbrev trades_and_cash : List Input
trades_and_cash =
    record { source = 0; row = trade } ∷ record { source = 1; row = paid } ∷ record { source = 0; row = later_trade } ∷ record { source = 1; row = received } ∷ []

two_marked : sent_by_ingress both_total trades_and_cash
    ≡ (item.Row 1 trade ∷ item.Mark 2 ∷ item.Row 3 later_trade ∷ item.Mark 4 ∷ item.End 5 ∷ [])
    ∷ (item.Row 2 paid ∷ item.Mark 2 ∷ item.Row 4 received ∷ item.Mark 4 ∷ item.End 5 ∷ [])
    ∷ []
two_marked = refl

both_totals : output both_total trades_and_cash
    ≡ row 34200 7 0 (pos 1) (pos 100) ∷ row 34205 7 0 (pos 1) (negsuc 149) ∷ row 34210 7 0 (pos 2) (negsuc 49) ∷ row 34210 7 0 (pos 2) (pos 50) ∷ []
both_totals = refl

-- totals of totals -----------------------------------------------------------------------

abbrev two_totals : PlanView
two_totals = record {
  version = 1;
  stages = record { parts = 2; by = column.Account; op = op.Total by.Account } ∷ record { parts = 1; by = column.Account; op = op.Total by.Both } ∷ [];
  mark = 64;
  hold = 1024;
}

abbrev three_trades : List Row
three_trades = row 34200 1 1 (pos 1) (pos 100) ∷ row 34200 2 1 (pos 2) (pos 200) ∷ row 34200 1 1 (negsuc 0) (negsuc 99) ∷ []

totals : output two_totals (from_first three_trades) ≡ row 34200 1 0 (pos 1) (pos 100) ∷ row 34200 2 0 (pos 2) (pos 200) ∷ row 34200 1 0 (pos 1) (pos 100) ∷ []
totals = refl

-- rows of the end have one stamp, and come source by source ------------------------------------

abbrev windows : PlanView
windows = record {
  version = 1;
  stages = record { parts = 2; by = column.Account; op = op.Window by.Account (pos 60) } ∷ record { parts = 1; by = column.Account; op = op.Keep column.Qty compare.Unequal (pos 0) } ∷ [];
  mark = 64;
  hold = 1024;
}

abbrev window_trades : List Row
window_trades = row 34200 1 1 (pos 1) (pos 100) ∷ row 34201 4 1 (pos 2) (pos 200) ∷ row 34202 2 1 (pos 3) (pos 300) ∷ []

-- both windows of the even accounts go to partition 0, in the order of accounts, before the end
even : edge windows (from_first window_trades) 1 0 0 ≡ item.Row 4 (row 34200 2 0 (pos 3) (pos 300)) ∷ item.Row 4 (row 34200 4 0 (pos 2) (pos 200)) ∷ item.End 4 ∷ []
even = refl

at_the_end : output windows (from_first window_trades) ≡ row 34200 2 0 (pos 3) (pos 300) ∷ row 34200 4 0 (pos 2) (pos 200) ∷ row 34200 1 0 (pos 1) (pos 100) ∷ []
at_the_end = refl
