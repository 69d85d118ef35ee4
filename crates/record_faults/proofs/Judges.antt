-- What judges of records come to.
use Rattle.std.proofs.Common.{ℕ, ℤ, suc, ◌≡◌, ◌+◌, ◌≤◌, ◌==◌, Bool, true, false, List, [], ◌∷◌, ◌++◌, length, Option, Some, None, Ok, Err, option_map, position, count_by, refl, sym, ap, subst, ◌∙◌, append_assoc, if◌then◌else◌}
use Rattle.std.specs.Prelude.{IfOk, OnOk, Result, Vec, unwrap_or}
use Rattle.std.specs.declared.alloc.Global.{Global}
use Rattle.std.specs.Option.{ok_or}
use Rattle.std.proofs.lemmas.List.{append-nil}
use Rattle.csv.specs.Writing.{default_writer, row_text}
use Rattle.tuple_edge.specs.declared.row.Row.{Row}
use Rattle.trade_text.specs.Cash.{cash_in, cash_of, cash_row}
use Rattle.trade_text.specs.Columns.{cash_columns, is_column_of, trade_columns, place_of as place_read}
use Rattle.trade_text.specs.Files.{RowsRead, file_of, located, no_rows, row_onto, text_at}
use Rattle.trade_text.specs.Kinds.{trades_kind}
use Rattle.trade_text.specs.Limits.{max_inputs}
use Rattle.trade_text.specs.Refusals.{IsRefusalOf}
use Rattle.trade_text.specs.Results.{Read, ◌>>=◌}
use Rattle.trade_text.specs.Symbols.{texts}
use Rattle.trade_text.specs.Trades.{trade_in, trades_of}
use Rattle.trade_text.specs.declared.columns.TradeColumns.{TradeColumns}
use Rattle.trade_text.specs.Fields.{account_of, amount_of, time_of}
use Rattle.trade_text.specs.declared.error.CashField.{CashField}
use Rattle.trade_text.specs.declared.error.CashField.TheVariants as cash_field
use Rattle.trade_text.specs.declared.error.Field.{Field}
use Rattle.trade_text.specs.declared.error.Field.TheVariants as field
use Rattle.trade_text.specs.declared.error.ReadError.{ReadError}
use Rattle.trade_text.specs.declared.error.ReadError.TheVariants as error
use Rattle.trade_text.specs.declared.trade_file.TradeForm.{TradeForm}
use Rattle.trade_text.proofs.Reading.{fails_same, fails_then}
use Rattle.record_faults.specs.Alone.{CashColumns, IsJudged, IsRecord, StandsFor, StandsForCash, at_record, fault_among, known_among, known_with, kept_behind, lone_text}
use Rattle.record_faults.specs.Columns.{place_of}
use Rattle.record_faults.specs.EachRecord.{cash_faults, fault_in, faults_from, opening, trade_faults, unless_refused}
use Rattle.record_faults.specs.declared.cash.CashJudge.{CashJudge}
use Rattle.record_faults.specs.declared.trades.TradeJudge.{TradeJudge}
use Rattle.record_faults.proofs.Alone.{accepted_is, among, cash_so, lone_cash_header, lone_movement, lone_trade, lone_trades_header, numbered_so}

-- ---- refusals

-- a refusal is the fault, where it is not want of memory
pub fault_is : {F A : Type 0} (e : ReadError F) (read : Read F A) → (e ≡ error.OutOfMemory → ⊥) → IsRefusalOf e read → Some e ≡ fault_in read
fault_is error.Header read other is = rw is refl
fault_is (error.Row number) read other is = rw is refl
fault_is (error.Field number what) read other is = rw is refl
fault_is (error.Range number what) read other is = rw is refl
fault_is error.TooMany read other is = rw is refl
fault_is (error.TooLong bytes) read other is = rw is refl
fault_is error.OutOfMemory read other is = absurd (other refl)

-- what was accepted has none
pub accepted_none : {F A : Type 0} (read : Read F A) (x : A) → read ≡ Ok x → None ≡ fault_in read
accepted_none read x is = rw is refl

-- the fault is a refusal
pub refused_is : {F A : Type 0} (e : ReadError F) (read : Read F A) → Some e ≡ fault_in read → IsRefusalOf e read
refused_is e (Ok x) is = cc is
refused_is {F} {A} e (Err fault) is = fails_same e (Err fault) (ap (λ (f : Option (ReadError F)). Err (unwrap_or f fault)) (sym is))

-- ---- texts

pub lone_more : (header fields : List (List ℕ)) → lone_text (header ∷ []) ++ row_text default_writer fields ≡ lone_text (header ∷ fields ∷ [])
lone_more header fields =
    let row = row_text default_writer in
    ap (λ text. 10 ∷ text) (append_assoc (row header) [] (row fields) ∙ ap (λ text. row header ++ text) (sym (append-nil (row fields))))

-- ---- places

abbrev got : {F : Type 0} → Read F ℕ → ℕ
got (Ok n) = n
got (Err e) = 0

-- a place, where a name stands once
abbrev chosen : Bool → Option ℕ → Read Field ℕ
chosen once at = if once then ok_or at error.Header else Err error.Header

found : (once : Bool) (at : Option ℕ) (n : ℕ) → chosen once at ≡ Ok n → unwrap_or at 0 ≡ n
found true (Some place) n is = ap (λ (r : Read Field ℕ). got r) is
found true None n is = cc is
found false at n is = cc is

symbol_read : (columns : TradeColumns) (count : ℕ) (t a s d q p : Read Field ℕ)
    → (do
      time ← t
      account ← a
      symbol ← s
      side ← d
      qty ← q
      price ← p
      Ok (record { count = count; time = time; account = account; symbol = symbol; side = side; qty = qty; price = price })) ≡ Ok columns → s ≡ Ok columns.symbol
symbol_read columns count (Ok t) (Ok a) (Ok s) (Ok d) (Ok q) (Ok p) is = ap (λ (r : Read Field TradeColumns). r >>= λ c. Ok c.symbol) is
symbol_read columns count (Ok t) (Ok a) (Ok s) (Ok d) (Ok q) (Err e) is = cc is
symbol_read columns count (Ok t) (Ok a) (Ok s) (Ok d) (Err e) p is = cc is
symbol_read columns count (Ok t) (Ok a) (Ok s) (Err e) q p is = cc is
symbol_read columns count (Ok t) (Ok a) (Err e) d q p is = cc is
symbol_read columns count (Ok t) (Err e) s d q p is = cc is
symbol_read columns count (Err e) a s d q p is = cc is

pub symbol_place : (header : List (List ℕ)) (columns : TradeColumns) → trade_columns header ≡ Ok columns → place_of trades_kind field.Symbol header ≡ columns.symbol
unfolding trade_columns
symbol_place header columns is =
    found (count_by (is_column_of trades_kind field.Symbol) header == 1) (position (is_column_of trades_kind field.Symbol) header) columns.symbol
    (symbol_read columns (length header) (place_read trades_kind field.Time header) (place_read trades_kind field.Account header) (place_read trades_kind field.Symbol header)
    (place_read trades_kind field.Side header) (place_read trades_kind field.Qty header) (place_read trades_kind field.Price header) is)

-- ---- a judge of trades

-- nothing is known under a header that is accepted
pub opens : (judge : TradeJudge) (header : List (List ℕ)) → IsRecord header → judge.front.items ≡ lone_text (header ∷ []) → judge.place ≡ place_of trades_kind field.Symbol header
    → texts judge.symbols.names.keys ≡ [] → length judge.front.items ≤ 16777216 → None ≡ fault_in (trades_of judge.front.items)
    → (columns : TradeColumns) × (trade_columns header ≡ Ok columns) × StandsFor judge (record { columns = columns; symbols = [] })
opens judge header is front place symbols few none =
    let short : length (lone_text (header ∷ [])) ≤ 16777216 = subst (λ (t : List ℕ). length t ≤ 16777216) front few in
    let read = accepted_is (trade_columns header) (sym (lone_trades_header header is short) ∙ ap (λ (t : List ℕ). fault_in (trades_of t)) (sym front) ∙ sym none) in
    (read.0, read.1, record { header = header; is_record = is; columns = read.1; front = front; place = place ∙ symbol_place header read.0 read.1; symbols = sym symbols })

-- a header that is refused
pub refuses : (header : List (List ℕ)) (front : List ℕ) (e : ReadError Field) → IsRecord header → front ≡ lone_text (header ∷ []) → length front ≤ 16777216 → Some e ≡ fault_in (trades_of front)
    → IsRefusalOf e (trade_columns header)
refuses header front e is same few fault =
    let short : length (lone_text (header ∷ [])) ≤ 16777216 = subst (λ (t : List ℕ). length t ≤ 16777216) same few in
    refused_is e (trade_columns header) (fault ∙ ap (λ (t : List ℕ). fault_in (trades_of t)) same ∙ lone_trades_header header is short)

-- a record alone
pub alone_is : (judge : TradeJudge) (form : TradeForm) (fields : List (List ℕ)) (text : List ℕ) (fault : Option (ReadError Field)) → StandsFor judge form → IsRecord fields
    → text ≡ judge.front.items ++ row_text default_writer fields → length text ≤ 16777216 → fault ≡ fault_in (trades_of text)
    → fault ≡ fault_in (trade_in 2 (record form { symbols = [] }) fields)
alone_is judge form fields text fault stands is text_is few said =
    let same : text ≡ lone_text (stands.header ∷ fields ∷ []) = text_is ∙ ap (λ (f : List ℕ). f ++ row_text default_writer fields) stands.front ∙ lone_more stands.header fields in
    let short : length (lone_text (stands.header ∷ fields ∷ [])) ≤ 16777216 = subst (λ (t : List ℕ). length t ≤ 16777216) same few in
    said ∙ ap (λ (t : List ℕ). fault_in (trades_of t)) same ∙ lone_trade stands.header fields form.columns stands.is_record is stands.columns short

-- what is known when a symbol was learned
pub learned : (known after : List (List ℕ)) (numbering : Option (ℕ × List (List ℕ))) → option_map (λ next. next.1) numbering ≡ Some after → after ≡ known_with known numbering
learned known after None is = cc is
learned known after (Some next) is = ap (λ (o : Option (List (List ℕ))). unwrap_or o known) (sym is)

-- a record among others
pub judges : (old new : TradeJudge) (form : TradeForm) (rec : ℕ) (fields : List (List ℕ)) (alone fault : Option (ReadError Field)) → StandsFor old form
    → alone ≡ fault_in (trade_in 2 (record form { symbols = [] }) fields)
    → fault ≡ fault_among rec (texts old.symbols.names.keys) (text_at fields old.place) alone
    → texts new.symbols.names.keys ≡ known_among (texts old.symbols.names.keys) (text_at fields old.place) alone
    → new.front ≡ old.front → new.place ≡ old.place → IsJudged (StandsFor new) fault form (trade_in rec form fields)
judges old new form rec fields alone fault stands alone_is fault_said known front place =
    let is = among rec form.columns form.symbols fields in
    let said : fault_among rec (texts old.symbols.names.keys) (text_at fields old.place) alone ≡ fault_in (trade_in rec form fields) =
    rw (← stands.symbols, stands.place, alone_is) (sym is.fault) in
    let known_is : known_among (texts old.symbols.names.keys) (text_at fields old.place) alone ≡ known_among form.symbols (text_at fields form.columns.symbol) (fault_in (trade_in 2 (record form { symbols = [] }) fields)) =
    rw (← stands.symbols, stands.place, alone_is) refl in (
      fault_said ∙ said,
      subst (StandsFor new) (sym is.kept) (record {
        header = stands.header;
        is_record = stands.is_record;
        columns = stands.columns;
        front = ap (λ (v : Vec ℕ Global). v.items) front ∙ stands.front;
        place = place ∙ stands.place;
        symbols = sym (known ∙ known_is);
      }),
    )

-- both clauses of a call
pub both_ok : {A E : Type 0} (r : Result A E) (P X : A → Type 0) (Q : Type 0) → IfOk r P → OnOk r Q → ((x : A) → P x → Q → X x) → IfOk r X
both_ok (Ok x) P X Q p q f = f x p q
both_ok (Err e) P X Q p q f = tt

-- ---- a judge of movements

pub opens_cash : (judge : CashJudge) (header : List (List ℕ)) → IsRecord header → judge.front.items ≡ lone_text (header ∷ []) → length judge.front.items ≤ 16777216 → None ≡ fault_in (cash_of judge.front.items 1)
    → (columns : CashColumns) × (cash_columns header ≡ Ok columns) × StandsForCash judge columns
opens_cash judge header is front few none =
    let short : length (lone_text (header ∷ [])) ≤ 16777216 = subst (λ (t : List ℕ). length t ≤ 16777216) front few in
    let read = accepted_is (cash_columns header) (sym (lone_cash_header header is short) ∙ ap (λ (t : List ℕ). fault_in (cash_of t 1)) (sym front) ∙ sym none) in
    (read.0, read.1, record { header = header; is_record = is; columns_are = read.1; front = front })

pub refuses_cash : (header : List (List ℕ)) (front : List ℕ) (e : ReadError CashField) → IsRecord header → front ≡ lone_text (header ∷ []) → length front ≤ 16777216 → Some e ≡ fault_in (cash_of front 1)
    → IsRefusalOf e (cash_columns header)
refuses_cash header front e is same few fault =
    let short : length (lone_text (header ∷ [])) ≤ 16777216 = subst (λ (t : List ℕ). length t ≤ 16777216) same few in
    refused_is e (cash_columns header) (fault ∙ ap (λ (t : List ℕ). fault_in (cash_of t 1)) same ∙ lone_cash_header header is short)

pub alone_cash : (judge : CashJudge) (columns : CashColumns) (fields : List (List ℕ)) (text : List ℕ) (fault : Option (ReadError CashField)) → StandsForCash judge columns → IsRecord fields
    → text ≡ judge.front.items ++ row_text default_writer fields → length text ≤ 16777216 → fault ≡ fault_in (cash_of text 1) → fault ≡ fault_in (cash_in 2 columns fields)
alone_cash judge columns fields text fault stands is text_is few said =
    let same : text ≡ lone_text (stands.header ∷ fields ∷ []) = text_is ∙ ap (λ (f : List ℕ). f ++ row_text default_writer fields) stands.front ∙ lone_more stands.header fields in
    let short : length (lone_text (stands.header ∷ fields ∷ [])) ≤ 16777216 = subst (λ (t : List ℕ). length t ≤ 16777216) same few in
    said ∙ ap (λ (t : List ℕ). fault_in (cash_of t 1)) same ∙ lone_movement stands.header fields columns stands.is_record is stands.columns_are short

-- the columns stay
stays : (columns : CashColumns) (n : ℕ) (fields : List (List ℕ)) → kept_behind columns (cash_in n columns fields) ≡ columns
unfolding cash_in
stays columns n fields =
    go (length fields == columns.count) (located n cash_field.Time (time_of (text_at fields columns.time))) (located n cash_field.Account (account_of (text_at fields columns.account))) (located n cash_field.Amount (amount_of (text_at fields columns.amount)))
  where
    go : (test : Bool) (t a : Read CashField ℕ) (m : Read CashField ℤ) → kept_behind columns (if test then (t >>= λ time. a >>= λ account. m >>= λ amount. Ok (cash_row time account amount, columns)) else Err (error.Row n)) ≡ columns
    go true (Ok t) (Ok a) (Ok m) = refl
    go true (Ok t) (Ok a) (Err e) = refl
    go true (Ok t) (Err e) m = refl
    go true (Err e) a m = refl
    go false t a m = refl

pub judges_cash : (judge : CashJudge) (columns : CashColumns) (rec : ℕ) (fields : List (List ℕ)) (alone : Option (ReadError CashField)) → StandsForCash judge columns
    → alone ≡ fault_in (cash_in 2 columns fields) → IsJudged (StandsForCash judge) (option_map (at_record rec) alone) columns (cash_in rec columns fields)
judges_cash judge columns rec fields alone stands alone_is =
    (ap (option_map (at_record rec)) alone_is ∙ moved (cash_in 2 columns fields) ∙ ap fault_in (sym (cash_so rec 2 columns fields)), subst (StandsForCash judge) (sym (stays columns rec fields)) stands)
  where
    moved : (read : Read CashField (Row × CashColumns)) → option_map (at_record rec) (fault_in read) ≡ fault_in (numbered_so rec read)
    moved (Ok x) = refl
    moved (Err e) = refl

-- ---- whole files

-- there is a fault or none for each record
pub length_faults : {F K : Type 0} (row_in : ℕ → K → List (List ℕ) → Read F (Row × K)) (room number : ℕ) (so_far : RowsRead K) (records : List (List (List ℕ)))
    → length (faults_from row_in room number so_far records) ≡ length records
length_faults row_in room number so_far [] = refl
length_faults row_in room number so_far (fields ∷ records) = ap suc (length_faults row_in room (number + 1) (unless_refused so_far (row_onto row_in room number so_far fields)) records)

pub trades_answered : (bytes : List ℕ) (header : List (List ℕ)) (records : List (List (List ℕ))) (columns : TradeColumns) (faults : List (Option (ReadError Field)))
    → file_of {F = Field} bytes ≡ Ok (record { header = header; records = records }) → trade_columns header ≡ Ok columns → faults ≡ faults_from trade_in max_inputs 2 (opening columns) records
    → trade_faults bytes ≡ Ok faults
unfolding trade_faults
trades_answered bytes header records columns faults file known is = rw (file, known, is) refl

pub trades_refused : (bytes : List ℕ) (e : ReadError Field) → IsRefusalOf e (file_of {F = Field} bytes) → IsRefusalOf e (trade_faults bytes)
unfolding trade_faults
trades_refused bytes e is = fails_then e (file_of {F = Field} bytes) _ is

pub trades_headless : (bytes : List ℕ) (header : List (List ℕ)) (records : List (List (List ℕ))) (e : ReadError Field) → file_of {F = Field} bytes ≡ Ok (record { header = header; records = records })
    → IsRefusalOf e (trade_columns header) → IsRefusalOf e (trade_faults bytes)
unfolding trade_faults
trades_headless bytes header records e file is = rw file (fails_then e (trade_columns header) (λ columns. Ok (faults_from trade_in max_inputs 2 (opening columns) records)) is)

pub cash_answered : (bytes : List ℕ) (room : ℕ) (header : List (List ℕ)) (records : List (List (List ℕ))) (columns : CashColumns) (faults : List (Option (ReadError CashField)))
    → file_of {F = CashField} bytes ≡ Ok (record { header = header; records = records }) → cash_columns header ≡ Ok columns → faults ≡ faults_from cash_in room 2 (no_rows columns) records
    → cash_faults bytes room ≡ Ok faults
unfolding cash_faults
cash_answered bytes room header records columns faults file known is = rw (file, known, is) refl

pub cash_refused : (bytes : List ℕ) (room : ℕ) (e : ReadError CashField) → IsRefusalOf e (file_of {F = CashField} bytes) → IsRefusalOf e (cash_faults bytes room)
unfolding cash_faults
cash_refused bytes room e is = fails_then e (file_of {F = CashField} bytes) _ is

pub cash_headless : (bytes : List ℕ) (room : ℕ) (header : List (List ℕ)) (records : List (List (List ℕ))) (e : ReadError CashField) → file_of {F = CashField} bytes ≡ Ok (record { header = header; records = records })
    → IsRefusalOf e (cash_columns header) → IsRefusalOf e (cash_faults bytes room)
unfolding cash_faults
cash_headless bytes room header records e file is = rw file (fails_then e (cash_columns header) (λ columns. Ok (faults_from cash_in room 2 (no_rows columns) records)) is)
