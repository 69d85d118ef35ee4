use Rattle.std.proofs.Common.{◌≡◌, ℕ, List, length, false, All}
use Rattle.csv.specs.Machine.{ends_at_end}
use Rattle.csv.specs.declared.parser.State.{State}
use Rattle.trade_text.specs.Files.{rows_of}
use Rattle.trade_text.specs.Records.{HasLeft, records_left}
use Rattle.trade_text.proofs.Reading.{GoesOn}
use Rattle.trade_text.proofs.files.rows_of.Given as goal

abbrev pub invariant-loop-turn : goal.invariant-loop-turn
invariant-loop-turn g l = record {
  reads : (state : State) (text : List ℕ) → HasLeft l.fn.reader state text → ends_at_end state ≡ false
      → GoesOn g.R.RecordForm.row_in l.room l.turn (record { rows = l.rows.items; kept = l.form }) l.reader (rows_of g.R.RecordForm.row_in l.room l.fn.form (records_left state text));
  count : length l.rows.items ≡ l.turn;
  within : All g.R.RecordForm.within l.rows.items;
  stands : g.R.RecordForm.stands l.form;
}
