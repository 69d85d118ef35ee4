-- The records that are accepted are a file of just their rows.
use Rattle.std.proofs.Common.{ℕ, ◌≡◌, ◌+◌, Bool, true, false, List, [], ◌∷◌, length, nat_lt, Option, Some, None, Ok, Err, refl, ap, ◌∙◌, if◌then◌else◌}
use Rattle.tuple_edge.specs.declared.row.Row.{Row}
use Rattle.trade_text.specs.Files.{RowsRead, row_onto, rows_onto, with_row}
use Rattle.trade_text.specs.Results.{Read, ◌>>=◌}
use Rattle.trade_text.specs.Trades.{trade_in, trades_of}
use Rattle.trade_text.specs.TradesView.{only_trades}
use Rattle.trade_text.specs.declared.error.Field.{Field}
use Rattle.trade_text.specs.declared.error.ReadError.{ReadError}
use Rattle.trade_text.specs.declared.error.ReadError.TheVariants as error
use Rattle.trade_text.specs.declared.trade_file.TradeForm.{TradeForm}
use Rattle.record_faults.specs.EachRecord.{accepted, fault_in, faults_from, opening, rows_from, unless_refused}
use Rattle.record_faults.specs.Laws.{AcceptedAreAccepted}
use Rattle.record_faults.proofs.Alone.{numbered_so, trade_so}
use Rattle.record_faults.proofs.Rows.{is_file, written_file}
use Rattle.record_faults.proofs.Records.{AreRecords}

-- a trade that is accepted is accepted under any number, and gives the same
same_row : (room m n : ℕ) (so_far more : RowsRead TradeForm) (fields : List (List ℕ)) → row_onto trade_in room n so_far fields ≡ Ok more → row_onto trade_in room m so_far fields ≡ Ok more
unfolding row_onto
same_row room m n so_far more fields is = by_room (nat_lt (length so_far.rows) room) is
  where
    by_read : (read : Read Field (Row × TradeForm)) → (read >>= λ next. Ok (with_row so_far.rows next)) ≡ Ok more → (numbered_so m read >>= λ next. Ok (with_row so_far.rows next)) ≡ Ok more
    by_read (Ok next) e = e
    by_read (Err fault) e = cc e

    by_room : (test : Bool) → (if test then (trade_in n so_far.kept fields >>= λ next. Ok (with_row so_far.rows next)) else Err error.TooMany) ≡ Ok more
        → (if test then (trade_in m so_far.kept fields >>= λ next. Ok (with_row so_far.rows next)) else Err error.TooMany) ≡ Ok more
    by_room true e = rw (trade_so m n so_far.kept fields) (by_read (trade_in n so_far.kept fields) e)
    by_room false e = e

-- the records that are accepted give their rows, whatever their numbers
kept_rows : (room m n : ℕ) (so_far : RowsRead TradeForm) (records : List (List (List ℕ)))
    → rows_onto trade_in room m so_far (accepted (faults_from trade_in room n so_far records) records) ≡ Ok (rows_from trade_in room n so_far records)
kept_rows room m n so_far [] = refl
kept_rows room m n so_far (fields ∷ records) =
    go (row_onto trade_in room n so_far fields) refl (λ (more : RowsRead TradeForm). kept_rows room (m + 1) (n + 1) more records) (kept_rows room m (n + 1) so_far records)
  where
    go : (read : Read Field (RowsRead TradeForm)) → row_onto trade_in room n so_far fields ≡ read
        → ((more : RowsRead TradeForm) → rows_onto trade_in room (m + 1) more (accepted (faults_from trade_in room (n + 1) more records) records) ≡ Ok (rows_from trade_in room (n + 1) more records))
        → rows_onto trade_in room m so_far (accepted (faults_from trade_in room (n + 1) so_far records) records) ≡ Ok (rows_from trade_in room (n + 1) so_far records)
        → rows_onto trade_in room m so_far (accepted (fault_in read ∷ faults_from trade_in room (n + 1) (unless_refused so_far read) records) (fields ∷ records))
        ≡ Ok (rows_from trade_in room (n + 1) (unless_refused so_far read) records)
    go (Ok more) is later skipped =
        ap (λ (r : Read Field (RowsRead TradeForm)). r >>= λ next. rows_onto trade_in room (m + 1) next (accepted (faults_from trade_in room (n + 1) more records) records)) (same_row room m n so_far more fields is)
        ∙ later more
    go (Err fault) is later skipped = skipped

-- those of records that are accepted are records
pub are_accepted : {F : Type 0} (faults : List (Option (ReadError F))) (records : List (List (List ℕ))) → AreRecords records → AreRecords (accepted faults records)
are_accepted [] records are = tt
are_accepted (fault ∷ faults) [] are = tt
are_accepted (None ∷ faults) (fields ∷ records) are = (are.0, are_accepted faults records are.1)
are_accepted (Some fault ∷ faults) (fields ∷ records) are = are_accepted faults records are.1

pub accepted_are : AcceptedAreAccepted
unfolding trades_of
accepted_are bytes file columns is known few =
    let facts = is_file {F = Field} bytes file is in
    let faults = faults_from trade_in 100000 2 (opening columns) file.records in
    rw (written_file {F = Field} file.header (accepted faults file.records) facts.header (are_accepted faults file.records facts.records) few, known)
    (ap (λ (r : Read Field (RowsRead TradeForm)). r >>= λ read. Ok (only_trades read.rows read.kept.symbols)) (kept_rows 100000 2 2 (opening columns) file.records))
