-- Each record is accepted or refused.
use Rattle.std.proofs.Common.{ℕ, ◌≡◌, ◌+◌, List, [], ◌∷◌, Option, Ok, Err, inl, inr, refl, ap}
use Rattle.tuple_edge.specs.declared.row.Row.{Row}
use Rattle.trade_text.specs.Columns.{trade_columns}
use Rattle.trade_text.specs.Files.{RowsRead, row_onto}
use Rattle.trade_text.specs.Limits.{max_inputs}
use Rattle.trade_text.specs.Results.{Read, ◌>>=◌}
use Rattle.trade_text.specs.Trades.{trade_in}
use Rattle.trade_text.specs.declared.columns.TradeColumns.{TradeColumns}
use Rattle.trade_text.specs.declared.error.Field.{Field}
use Rattle.trade_text.specs.declared.error.ReadError.{ReadError}
use Rattle.record_faults.specs.EachRecord.{accepted, fault_in, faults_from, opening, trade_faults, unless_refused}
use Rattle.trade_sift.specs.Laws.{EachStandsOnce, MakeUp}
use Rattle.trade_sift.specs.Sifted.{refused}

-- with a fault or none for each record, they make up the records
module _ {F K : Type 0} (row_in : ℕ → K → List (List ℕ) → Read F (Row × K)) (room : ℕ) where
  make_up : (number : ℕ) (so_far : RowsRead K) (records : List (List (List ℕ)))
      → MakeUp (accepted (faults_from row_in room number so_far records) records) (refused (faults_from row_in room number so_far records) records) records
  unfolding MakeUp
  make_up number so_far [] = (refl, refl)
  make_up number so_far (fields ∷ records) = go (row_onto row_in room number so_far fields) (λ (more : RowsRead K). make_up (number + 1) more records)
    where
      go : (read : Read F (RowsRead K))
          → ((more : RowsRead K) → MakeUp (accepted (faults_from row_in room (number + 1) more records) records) (refused (faults_from row_in room (number + 1) more records) records) records)
          → MakeUp (accepted (fault_in read ∷ faults_from row_in room (number + 1) (unless_refused so_far read) records) (fields ∷ records))
          (refused (fault_in read ∷ faults_from row_in room (number + 1) (unless_refused so_far read) records) (fields ∷ records)) (fields ∷ records)
      go (Ok more) later = inl (accepted (faults_from row_in room (number + 1) more records) records, refl, later more)
      go (Err fault) later = inr (refused (faults_from row_in room (number + 1) so_far records) records, refl, later so_far)

abbrev faults_or : List (Option (ReadError Field)) → Read Field (List (Option (ReadError Field))) → List (Option (ReadError Field))
faults_or other (Ok faults) = faults
faults_or other (Err fault) = other

pub each_once : EachStandsOnce
unfolding trade_faults
each_once bytes file faults is known = by_columns (trade_columns file.header) (rw is at known)
  where
    by_columns : (read : Read Field TradeColumns) → (read >>= λ columns. Ok (faults_from trade_in max_inputs 2 (opening columns) file.records)) ≡ Ok faults
        → MakeUp (accepted faults file.records) (refused faults file.records) file.records
    by_columns (Ok columns) e = rw (← ap (faults_or faults) e) (make_up trade_in max_inputs 2 (opening columns) file.records)
    by_columns (Err fault) e = cc e
