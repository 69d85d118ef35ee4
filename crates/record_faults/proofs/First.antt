-- The first of all faults is that of the file.
use Rattle.std.proofs.Common.{ℕ, ◌≡◌, ◌+◌, List, [], ◌∷◌, Option, Ok, Err, refl, sym, ◌∙◌}
use Rattle.tuple_edge.specs.declared.row.Row.{Row}
use Rattle.trade_text.specs.Cash.{cash_in, cash_of}
use Rattle.trade_text.specs.Columns.{cash_columns, trade_columns}
use Rattle.trade_text.specs.Files.{File, RowsRead, file_of, no_rows, row_onto, rows_of, rows_onto}
use Rattle.trade_text.specs.Limits.{max_inputs}
use Rattle.trade_text.specs.Results.{Read, ◌>>=◌}
use Rattle.trade_text.specs.Trades.{trade_in, trades_of}
use Rattle.trade_text.specs.TradesView.{only_trades}
use Rattle.trade_text.specs.declared.error.CashField.{CashField}
use Rattle.trade_text.specs.declared.error.Field.{Field}
use Rattle.trade_text.specs.declared.error.ReadError.{ReadError}
use Rattle.record_faults.specs.EachRecord.{cash_faults, fault_in, faults_from, first_of, opening, trade_faults, unless_refused}
use Rattle.record_faults.specs.Laws.{FirstIsTheRefusal, first_fault}

-- the first fault among records is that by which they are refused
pub first_among : {F K : Type 0} (row_in : ℕ → K → List (List ℕ) → Read F (Row × K)) (room number : ℕ) (so_far : RowsRead K) (records : List (List (List ℕ)))
    → first_of (faults_from row_in room number so_far records) ≡ fault_in (rows_onto row_in room number so_far records)
first_among row_in room number so_far [] = refl
first_among {F} {K} row_in room number so_far (fields ∷ records) = go (row_onto row_in room number so_far fields) (λ (more : RowsRead K). first_among row_in room (number + 1) more records)
  where
    go : (read : Read F (RowsRead K)) → ((more : RowsRead K) → first_of (faults_from row_in room (number + 1) more records) ≡ fault_in (rows_onto row_in room (number + 1) more records))
        → first_of (fault_in read ∷ faults_from row_in room (number + 1) (unless_refused so_far read) records) ≡ fault_in (read >>= λ more. rows_onto row_in room (number + 1) more records)
    go (Ok more) later = later more
    go (Err fault) later = refl

-- what is done with an accepted value refuses nothing
accepted_then : {F A B : Type 0} (read : Read F A) (f : A → B) → fault_in (read >>= λ x. Ok (f x)) ≡ fault_in read
accepted_then (Ok x) f = refl
accepted_then (Err fault) f = refl

-- the first fault of a file, by its header
first_under : {F C A : Type 0} (file : Read F File) (columns_of : List (List ℕ) → Read F C) (faults : C → List (List (List ℕ)) → List (Option (ReadError F))) (reads : C → List (List (List ℕ)) → Read F A)
    → ((columns : C) (records : List (List (List ℕ))) → first_of (faults columns records) ≡ fault_in (reads columns records))
    → first_fault (file >>= λ file. columns_of file.header >>= λ columns. Ok (faults columns file.records)) ≡ fault_in (file >>= λ file. columns_of file.header >>= λ columns. reads columns file.records)
first_under (Err fault) columns_of faults reads same = refl
first_under {F} {C} {A} (Ok file) columns_of faults reads same = go (columns_of file.header)
  where
    go : (columns : Read F C) → first_fault (columns >>= λ columns. Ok (faults columns file.records)) ≡ fault_in (columns >>= λ columns. reads columns file.records)
    go (Ok columns) = same columns file.records
    go (Err fault) = refl

trades_first : (bytes : List ℕ) → first_fault (trade_faults bytes) ≡ fault_in (trades_of bytes)
unfolding trade_faults trades_of
trades_first bytes =
    first_under (file_of {F = Field} bytes) trade_columns (λ columns records. faults_from trade_in max_inputs 2 (opening columns) records)
    (λ columns records. rows_of trade_in max_inputs (record { columns = columns; symbols = [] }) records >>= λ read. Ok (only_trades read.rows read.kept.symbols))
    (λ columns records. first_among trade_in max_inputs 2 (opening columns) records
    ∙ sym (accepted_then (rows_of trade_in max_inputs (record { columns = columns; symbols = [] }) records) (λ read. only_trades read.rows read.kept.symbols)))

cash_first : (bytes : List ℕ) (room : ℕ) → first_fault (cash_faults bytes room) ≡ fault_in (cash_of bytes room)
unfolding cash_faults cash_of
cash_first bytes room =
    first_under (file_of {F = CashField} bytes) cash_columns (λ columns records. faults_from cash_in room 2 (no_rows columns) records)
    (λ columns records. rows_of cash_in room columns records >>= λ read. Ok read.rows)
    (λ columns records. first_among cash_in room 2 (no_rows columns) records ∙ sym (accepted_then (rows_of cash_in room columns records) (λ read. read.rows)))

pub first_is : FirstIsTheRefusal
first_is = record { trades = trades_first; cash = cash_first }
