-- The trades that are worked by hand.
use Rattle.std.proofs.Common.{refl}
use Rattle.trade_check.specs.WorkedRows.{CountsWorked, SymbolsWorked, TimesWorked, WorkedRows}

times_worked : TimesWorked
times_worked = record {
  windows = refl;
  sums = refl;
  by_times = refl;
  midnight = refl;
  midnight_by_times = refl;
  midnight_of_sums = refl;
  runs_on = refl;
  over = refl;
  too_near = refl;
  too_early = refl;
  too_late = refl;
}

symbols_worked : SymbolsWorked
symbols_worked = record { kept = refl; no_symbol = refl; several = refl; other_column = refl; place = refl; there = refl; lacks = refl; count = refl }

counts_worked : CountsWorked
counts_worked = record {
  with_rows = refl;
  without_rows = refl;
  controller = refl;
  no_stage = refl;
  trades_alone = refl;
  unknown = refl;
  with_movements = refl;
  in_time = refl;
  in_last_turn = refl;
  back_in_time = refl;
  never_back = refl;
  never = refl;
}

pub worked : WorkedRows
worked = record { times = times_worked; symbols = symbols_worked; counts = counts_worked }
