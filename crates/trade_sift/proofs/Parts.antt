-- One record more, in the part in which it stands.
use Rattle.std.proofs.Common.{ℕ, zero, suc, ◌≡◌, ◌+◌, ◌≤◌, true, false, List, [], ◌∷◌, ◌++◌, length, drop, Option, Some, None, Ok, Err, Bor, refl, sym, ap, subst, ◌∙◌, arith, append_assoc}
use Rattle.std.proofs.lemmas.Grind.{flat_map-append}
use Rattle.std.proofs.lemmas.List.{append-nil}
use Rattle.csv.specs.Machine.{ends_at_end, next_record}
use Rattle.csv.specs.Reading.{default_config, strip_bom}
use Rattle.csv.specs.Writing.{default_writer, row_text}
use Rattle.csv.specs.declared.parser.State.{State}
use Rattle.csv.specs.declared.reader.Reader.{Reader}
use Rattle.trade_text.specs.Columns.{trade_columns}
use Rattle.trade_text.specs.Files.{File, file_of}
use Rattle.trade_text.specs.Records.{HasLeft, TakesNext, records_left}
use Rattle.trade_text.specs.Limits.{max_inputs}
use Rattle.trade_text.specs.Refusals.{IsRefusalOf}
use Rattle.trade_text.specs.Trades.{trade_in, trades_of}
use Rattle.trade_text.specs.TradesView.{TradesView}
use Rattle.trade_text.specs.Results.{Read, ◌>>=◌}
use Rattle.trade_text.specs.declared.columns.TradeColumns.{TradeColumns}
use Rattle.trade_text.specs.declared.error.Field.{Field}
use Rattle.trade_text.specs.declared.error.ReadError.{ReadError}
use Rattle.trade_text.proofs.Reading.{fails_then, record_more, record_none}
use Rattle.record_faults.specs.EachRecord.{accepted, faults_from, opening, trade_faults}
use Rattle.record_faults.specs.Written.{file_text, guard, rows_text}
use Rattle.record_faults.proofs.Accepted.{accepted_are}
use Rattle.trade_sift.specs.Laws.{IsAccepted}
use Rattle.trade_sift.specs.Sifted.{Parts, parted, parts_of, reject_rows, rejects_header}

rows_on : (xs ys : List (List (List ℕ))) → rows_text (xs ++ ys) ≡ rows_text xs ++ rows_text ys
rows_on xs ys = flat_map-append (row_text default_writer) xs ys

-- the first record, and then the others
kept_first : (fault : Option (ReadError Field)) (faults : List (Option (ReadError Field))) (fields : List (List ℕ)) (records : List (List (List ℕ)))
    → accepted (fault ∷ faults) (fields ∷ records) ≡ accepted (fault ∷ []) (fields ∷ []) ++ accepted faults records
kept_first None faults fields records = refl
kept_first (Some fault) faults fields records = refl

refused_first : (text : List ℕ) (names number : ℕ) (fault : Option (ReadError Field)) (faults : List (Option (ReadError Field))) (fields : List (List ℕ)) (records : List (List (List ℕ)))
    → reject_rows text names number (fault ∷ faults) (fields ∷ records) ≡ reject_rows text names number (fault ∷ []) (fields ∷ []) ++ reject_rows text names (number + 1) faults records
refused_first text names number None faults fields records = refl
refused_first text names number (Some fault) faults fields records = refl

no_record : (faults : List (Option (ReadError Field))) → accepted faults [] ≡ []
no_record [] = refl
no_record (fault ∷ faults) = refl

none_refused : (text : List ℕ) (names number : ℕ) (faults : List (Option (ReadError Field))) → reject_rows text names number faults [] ≡ []
none_refused text names number [] = refl
none_refused text names number (fault ∷ faults) = refl

module _ (text : List ℕ) (names : ℕ) where
  -- the parts so far, and what is left of all
  pub record GoesOn (number : ℕ) (kept rejects all_kept all_rejects : List ℕ) (faults : List (Option (ReadError Field))) (reader : Reader (Bor (List ℕ))) : Type 0 where
    pub state : State
    pub rest : List ℕ
    pub left : HasLeft reader state rest
    pub between : ends_at_end state ≡ false
    pub kept_is : all_kept ≡ kept ++ rows_text (accepted faults (records_left state rest))
    pub rejects_are : all_rejects ≡ rejects ++ rows_text (reject_rows text names number faults (records_left state rest))

  -- there was no record more
  pub ended_kept : (number : ℕ) (kept rejects all_kept all_rejects : List ℕ) (faults : List (Option (ReadError Field))) (old new : Reader (Bor (List ℕ))) (fields : List (List ℕ))
      → (g : GoesOn number kept rejects all_kept all_rejects faults old) → TakesNext (next_record default_config g.state [] [] g.rest) false fields new → kept ≡ all_kept
  ended_kept number kept rejects all_kept all_rejects faults old new fields g took =
      sym (g.kept_is ∙ ap (λ (rows : List (List (List ℕ))). kept ++ rows_text (accepted faults rows)) (record_none g.state g.rest fields new took)
      ∙ ap (λ (rows : List (List (List ℕ))). kept ++ rows_text rows) (no_record faults) ∙ append-nil kept)

  pub ended_rejects : (number : ℕ) (kept rejects all_kept all_rejects : List ℕ) (faults : List (Option (ReadError Field))) (old new : Reader (Bor (List ℕ))) (fields : List (List ℕ))
      → (g : GoesOn number kept rejects all_kept all_rejects faults old) → TakesNext (next_record default_config g.state [] [] g.rest) false fields new → rejects ≡ all_rejects
  ended_rejects number kept rejects all_kept all_rejects faults old new fields g took =
      sym (g.rejects_are ∙ ap (λ (rows : List (List (List ℕ))). rejects ++ rows_text (reject_rows text names number faults rows)) (record_none g.state g.rest fields new took)
      ∙ ap (λ (rows : List (List (List ℕ))). rejects ++ rows_text rows) (none_refused text names number faults) ∙ append-nil rejects)

  -- all faults are told
  pub done_kept : (number : ℕ) (kept rejects all_kept all_rejects : List ℕ) (faults : List (Option (ReadError Field))) (reader : Reader (Bor (List ℕ))) → faults ≡ []
      → GoesOn number kept rejects all_kept all_rejects faults reader → kept ≡ all_kept
  done_kept number kept rejects all_kept all_rejects faults reader none g =
      sym (g.kept_is ∙ ap (λ (f : List (Option (ReadError Field))). kept ++ rows_text (accepted f (records_left g.state g.rest))) none ∙ append-nil kept)

  pub done_rejects : (number : ℕ) (kept rejects all_kept all_rejects : List ℕ) (faults : List (Option (ReadError Field))) (reader : Reader (Bor (List ℕ))) → faults ≡ []
      → GoesOn number kept rejects all_kept all_rejects faults reader → rejects ≡ all_rejects
  done_rejects number kept rejects all_kept all_rejects faults reader none g =
      sym (g.rejects_are ∙ ap (λ (f : List (Option (ReadError Field))). rejects ++ rows_text (reject_rows text names number f (records_left g.state g.rest))) none ∙ append-nil rejects)

  -- a record was appended
  pub goes_on : (number : ℕ) (kept rejects all_kept all_rejects : List ℕ) (fault : Option (ReadError Field)) (faults : List (Option (ReadError Field))) (old new : Reader (Bor (List ℕ))) (fields : List (List ℕ)) (kept_after rejects_after : List ℕ)
      → (g : GoesOn number kept rejects all_kept all_rejects (fault ∷ faults) old) → TakesNext (next_record default_config g.state [] [] g.rest) true fields new
      → kept_after ≡ kept ++ rows_text (accepted (fault ∷ []) (fields ∷ [])) → rejects_after ≡ rejects ++ rows_text (reject_rows text names number (fault ∷ []) (fields ∷ []))
      → GoesOn (number + 1) kept_after rejects_after all_kept all_rejects faults new
  goes_on number kept rejects all_kept all_rejects fault faults old new fields kept_after rejects_after g took kept_so rejects_so =
      let more = record_more g.state g.rest fields new g.between took in
      let later = records_left more.after more.rest in
      record {
        state = more.after;
        rest = more.rest;
        left = more.left;
        between = more.between;
        kept_is = g.kept_is
            ∙ ap (λ (rows : List (List (List ℕ))). kept ++ rows_text (accepted (fault ∷ faults) rows)) more.records
            ∙ ap (λ (rows : List (List (List ℕ))). kept ++ rows_text rows) (kept_first fault faults fields later)
            ∙ ap (λ (t : List ℕ). kept ++ t) (rows_on (accepted (fault ∷ []) (fields ∷ [])) (accepted faults later))
            ∙ sym (append_assoc kept (rows_text (accepted (fault ∷ []) (fields ∷ []))) (rows_text (accepted faults later)))
            ∙ ap (λ (t : List ℕ). t ++ rows_text (accepted faults later)) (sym kept_so);
        rejects_are = g.rejects_are
            ∙ ap (λ (rows : List (List (List ℕ))). rejects ++ rows_text (reject_rows text names number (fault ∷ faults) rows)) more.records
            ∙ ap (λ (rows : List (List (List ℕ))). rejects ++ rows_text rows) (refused_first text names number fault faults fields later)
            ∙ ap (λ (t : List ℕ). rejects ++ t) (rows_on (reject_rows text names number (fault ∷ []) (fields ∷ [])) (reject_rows text names (number + 1) faults later))
            ∙ sym (append_assoc rejects (rows_text (reject_rows text names number (fault ∷ []) (fields ∷ []))) (rows_text (reject_rows text names (number + 1) faults later)))
            ∙ ap (λ (t : List ℕ). t ++ rows_text (reject_rows text names (number + 1) faults later)) (sym rejects_so);
      }

pub drop_past : {A : Type 0} (xs : List A) (n : ℕ) → length xs ≤ n → drop n xs ≡ []
drop_past [] zero over = refl
drop_past [] (suc n) over = refl
drop_past (x ∷ xs) zero over = absurd (omega (arith, over))
drop_past (x ∷ xs) (suc n) over = drop_past xs n (omega (arith, over))

-- ---- a whole file

pub answered : (bytes : List ℕ) (file : File) (faults : List (Option (ReadError Field))) (parts : Parts) → trade_faults bytes ≡ Ok faults → file_of {F = Field} bytes ≡ Ok file
    → parts ≡ parts_of (strip_bom bytes) file faults → parted bytes ≡ Ok parts
unfolding parted
answered bytes file faults parts known is same = rw (known, is) (ap Ok (sym same))

pub refused_first_of_all : (bytes : List ℕ) (e : ReadError Field) → IsRefusalOf e (trade_faults bytes) → IsRefusalOf e (parted bytes)
unfolding parted
refused_first_of_all bytes e is = fails_then e (trade_faults bytes) _ is

pub refused_later : (bytes : List ℕ) (faults : List (Option (ReadError Field))) (e : ReadError Field) → trade_faults bytes ≡ Ok faults → IsRefusalOf e (file_of {F = Field} bytes) → IsRefusalOf e (parted bytes)
unfolding parted
refused_later bytes faults e known is = rw known (fails_then e (file_of {F = Field} bytes) _ is)

abbrev faults_or : List (Option (ReadError Field)) → Read Field (List (Option (ReadError Field))) → List (Option (ReadError Field))
faults_or other (Ok faults) = faults
faults_or other (Err fault) = other

-- the parts, begun with their headers
pub written : (bytes : List ℕ) (header : List (List ℕ)) (rows : List (List (List ℕ))) (faults : List (Option (ReadError Field))) (kept_front rejects_front kept rejects final : List ℕ)
    → kept_front ≡ rows_text (header ∷ []) → rejects_front ≡ rows_text (rejects_header header ∷ []) → kept ≡ kept_front ++ rows_text (accepted faults rows)
    → rejects ≡ rejects_front ++ rows_text (reject_rows (strip_bom bytes) (length header) 2 faults rows) → final ≡ guard kept ++ kept
    → (final ≡ (parts_of (strip_bom bytes) (record { header = header; records = rows }) faults).kept) × (rejects ≡ (parts_of (strip_bom bytes) (record { header = header; records = rows }) faults).rejects)
written bytes header rows faults kept_front rejects_front kept rejects final front_is rejects_front_is kept_is rejects_are final_is =
    let all : kept ≡ rows_text (header ∷ accepted faults rows) = kept_is ∙ ap (λ (t : List ℕ). t ++ rows_text (accepted faults rows)) front_is ∙ sym (rows_on (header ∷ []) (accepted faults rows)) in
    let refused_rows = reject_rows (strip_bom bytes) (length header) 2 faults rows in (
      final_is ∙ ap (λ (t : List ℕ). guard t ++ t) all,
      rejects_are ∙ ap (λ (t : List ℕ). t ++ rows_text refused_rows) rejects_front_is ∙ sym (rows_on (rejects_header header ∷ []) refused_rows),
    )

-- both of a pair
pub both_parts : (kept rejects : List ℕ) (parts : Parts) → (kept ≡ parts.kept) × (rejects ≡ parts.rejects) → record { kept = kept; rejects = rejects } ≡ parts
both_parts kept rejects parts same = ap (λ (k : List ℕ). record { kept = k; rejects = rejects }) same.0 ∙ ap (λ (r : List ℕ). record { kept = parts.kept; rejects = r }) same.1

-- what is kept is accepted
pub kept_is_accepted : (bytes : List ℕ) (file : File) (faults : List (Option (ReadError Field))) → trade_faults bytes ≡ Ok faults → file_of {F = Field} bytes ≡ Ok file
    → IsAccepted (file_text (file.header ∷ accepted faults file.records))
unfolding trade_faults
kept_is_accepted bytes file faults known is few = go (trade_columns file.header) refl (rw is at known)
  where
    go : (read : Read Field TradeColumns) → trade_columns file.header ≡ read → (read >>= λ columns. Ok (faults_from trade_in max_inputs 2 (opening columns) file.records)) ≡ Ok faults
        → (trades : TradesView) × (trades_of (file_text (file.header ∷ accepted faults file.records)) ≡ Ok trades)
    go (Ok columns) known e =
        let same : faults_from trade_in max_inputs 2 (opening columns) file.records ≡ faults = ap (faults_or faults) e in
        subst (λ (fs : List (Option (ReadError Field))). (trades : TradesView) × (trades_of (file_text (file.header ∷ accepted fs file.records)) ≡ Ok trades)) same
        (_, accepted_are bytes file columns is known (subst (λ (fs : List (Option (ReadError Field))). length (file_text (file.header ∷ accepted fs file.records)) ≤ 16777216) (sym same) few))
    go (Err fault) known e = cc e
