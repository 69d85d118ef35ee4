-- What comes over a reader without a fault is what the file of the same bytes says.
use Rattle.std.proofs.Common.{ℕ, ◌≡◌, ◌+◌, ◌<◌, ◌≤◌, Bool, true, false, List, [], ◌∷◌, ◌++◌, Some, None, Ok, Err, length, refl, sym, ap, ◌∙◌, arith, append_assoc}
use Rattle.std.proofs.lemmas.List.{append-nil}
use Rattle.csv.specs.Reading.{default_config, records, strip_bom}
use Rattle.tuple_edge.specs.declared.row.Row.{Row}
use Rattle.trade_text.specs.Columns.{trade_columns}
use Rattle.trade_text.specs.Files.{File, RowsRead, file_of_records, row_onto, rows_of, rows_onto, with_row}
use Rattle.trade_text.specs.Records.{starts_with_mark}
use Rattle.trade_text.specs.Results.{Read, ◌>>=◌}
use Rattle.trade_text.specs.StreamLaws.{TellsAsFile}
use Rattle.trade_text.specs.Streams.{Told, told_from, told_next, told_of, told_of_records, told_under}
use Rattle.trade_text.specs.Trades.{trade_in, trades_of}
use Rattle.trade_text.specs.TradesView.{only_trades}
use Rattle.trade_text.specs.declared.columns.TradeColumns.{TradeColumns}
use Rattle.trade_text.specs.declared.error.Field.{Field}
use Rattle.trade_text.specs.declared.error.ReadError.TheVariants as error
use Rattle.trade_text.specs.declared.trade_file.TradeForm.{TradeForm}
use Rattle.trade_text.proofs.Reading.{onto, text_is}

-- the rows of records that have no fault, behind some rows, for which there is room
pub record AreTold (number : ℕ) (form : TradeForm) (left : List (List (List ℕ))) (xs : List Row) (room : ℕ) : Type 0 where
  pub kept : TradeForm
  pub symbols : kept.symbols ≡ (told_from number form left).symbols
  pub rows : rows_onto trade_in room number (record { rows = xs; kept = form }) left ≡ Ok (record { rows = xs ++ (told_from number form left).rows; kept = kept })

pub rows_told : (number : ℕ) (form : TradeForm) (left : List (List (List ℕ))) (xs : List Row) (room : ℕ) → (told_from number form left).fault ≡ None
    → length xs + length (told_from number form left).rows ≤ room → AreTold number form left xs room
rows_told number form [] xs room none few = record { kept = form; symbols = refl; rows = ap (λ ys. Ok (record { rows = ys; kept = form })) (sym (append-nil xs)) }
rows_told number form (fields ∷ later) xs room none few =
    go (trade_in number form fields) refl none few (λ p. rows_told (number + 1) p.1 later (xs ++ p.0 ∷ []) room)
  where
    go : (read : Read Field (Row × TradeForm)) → trade_in number form fields ≡ read → (told_next (λ form. told_from (number + 1) form later) form.symbols read).fault ≡ None
        → length xs + length (told_next (λ form. told_from (number + 1) form later) form.symbols read).rows ≤ room
        → ((p : Row × TradeForm) → (told_from (number + 1) p.1 later).fault ≡ None → length (xs ++ p.0 ∷ []) + length (told_from (number + 1) p.1 later).rows ≤ room → AreTold (number + 1) p.1 later (xs ++ p.0 ∷ []) room)
        → AreTold number form (fields ∷ later) xs room
    go (Err e) is none few others = let z : Some e ≡ None = none in cc
    go (Ok p) is none few others =
        let some : length xs < room = omega arith in
        let added : row_onto trade_in room number (record { rows = xs; kept = form }) fields ≡ Ok (with_row xs p) =
        onto trade_in room number (record { rows = xs; kept = form }) fields some ∙ ap (λ (r : Read Field (Row × TradeForm)). r >>= λ next. Ok (with_row xs next)) is in
        let rest = others p none (omega (arith, one_longer xs p.0)) in
        record {
          kept = rest.kept;
          symbols = rest.symbols ∙ ap (λ (r : Read Field (Row × TradeForm)). (told_next (λ form. told_from (number + 1) form later) form.symbols r).symbols) (sym is);
          rows = ap (λ (r : Read Field (RowsRead TradeForm)). r >>= λ more. rows_onto trade_in room (number + 1) more later) added ∙ rest.rows
              ∙ ap (λ ys. Ok (record { rows = ys; kept = rest.kept })) (append_assoc xs (p.0 ∷ []) (told_from (number + 1) p.1 later).rows)
              ∙ ap (λ (r : Read Field (Row × TradeForm)). Ok (record { rows = xs ++ (told_next (λ form. told_from (number + 1) form later) form.symbols r).rows; kept = rest.kept })) (sym is);
        }
      where
        one_longer : (ys : List Row) (y : Row) → length (ys ++ y ∷ []) ≡ length ys + 1
        one_longer [] y = refl
        one_longer (x ∷ ys) y = omega (arith, one_longer ys y)

pub tells_as_file : (bytes : List ℕ) → TellsAsFile bytes
unfolding trades_of
tells_as_file bytes none short few = by_mark (starts_with_mark (strip_bom bytes)) refl
  where
    by_columns : (later : List (List (List ℕ))) (read : Read Field TradeColumns) → (told_under later read).fault ≡ None → length (told_under later read).rows ≤ 100000
        → (read >>= λ columns. rows_of trade_in 100000 (record { columns = columns; symbols = [] }) later >>= λ read. Ok (only_trades read.rows read.kept.symbols)) ≡ Ok (only_trades (told_under later read).rows (told_under later read).symbols)
    by_columns later (Err e) none few = let z : Some e ≡ None = none in cc
    by_columns later (Ok columns) none few =
        let t = rows_told 2 (record { columns = columns; symbols = [] }) later [] 100000 none (omega arith) in
        ap (λ (r : Read Field (RowsRead TradeForm)). r >>= λ read. Ok (only_trades read.rows read.kept.symbols)) t.rows ∙ ap (λ s. Ok (only_trades (told_under later (Ok columns)).rows s)) t.symbols

    by_records : (rs : List (List (List ℕ))) → (told_of_records rs).fault ≡ None → length (told_of_records rs).rows ≤ 100000
        → (file_of_records {F = Field} rs >>= λ file. trade_columns file.header >>= λ columns. rows_of trade_in 100000 (record { columns = columns; symbols = [] }) file.records >>= λ read. Ok (only_trades read.rows read.kept.symbols))
        ≡ Ok (only_trades (told_of_records rs).rows (told_of_records rs).symbols)
    by_records [] none few = cc none
    by_records (header ∷ later) none few = by_columns later (trade_columns header) none few

    by_mark : (marked : Bool) → starts_with_mark (strip_bom bytes) ≡ marked → trades_of bytes ≡ Ok (only_trades (told_of bytes).rows (told_of bytes).symbols)
    by_mark true marked = let z : Some error.Header ≡ None = rw marked at none in cc
    by_mark false plain =
        let told : told_of bytes ≡ told_of_records (records default_config (strip_bom bytes)) = rw plain refl in
        ap (λ (f : Read Field File). f >>= λ file. trade_columns file.header >>= λ columns. rows_of trade_in 100000 (record { columns = columns; symbols = [] }) file.records >>= λ read. Ok (only_trades read.rows read.kept.symbols))
        (text_is bytes (strip_bom bytes) (λ long. absurd (omega arith)) refl plain)
        ∙ by_records (records default_config (strip_bom bytes)) (rw told at none) (rw told at few) ∙ ap (λ (t : Told). Ok (only_trades t.rows t.symbols)) (sym told)
