-- A record that is read alone, and among others.
use Rattle.std.proofs.Common.{ℕ, ◌≡◌, ◌<◌, ◌≤◌, ◌==◌, ◌&&◌, Bool, true, false, not, List, [], ◌∷◌, length, Option, Some, None, Ok, Err, Result, refl, sym, ap, ◌∙◌, arith, if◌then◌else◌}
use Rattle.std.specs.Option.{is_some}
use Rattle.tuple_edge.specs.declared.row.Row.{Row}
use Rattle.trade_text.specs.Cash.{cash_in, cash_of}
use Rattle.trade_text.specs.Columns.{cash_columns, trade_columns}
use Rattle.trade_text.specs.Fields.{account_of, amount_of, is_symbol, price_of, qty_of, side_of, symbol_of, time_of}
use Rattle.trade_text.specs.Files.{RowsRead, error_of, located, no_rows, text_at, with_row}
use Rattle.trade_text.specs.Results.{Read, ◌>>=◌}
use Rattle.trade_text.specs.Symbols.{numbered}
use Rattle.trade_text.specs.Trades.{symbol_in, trade_in, trade_row, trades_of}
use Rattle.trade_text.specs.TradesView.{only_trades}
use Rattle.trade_text.specs.declared.columns.TradeColumns.{TradeColumns}
use Rattle.trade_text.specs.declared.error.CashField.{CashField}
use Rattle.trade_text.specs.declared.error.CashField.TheVariants as cash_field
use Rattle.trade_text.specs.declared.error.Field.{Field}
use Rattle.trade_text.specs.declared.error.Field.TheVariants as field
use Rattle.trade_text.specs.declared.error.ReadError.TheVariants as error
use Rattle.trade_text.specs.declared.trade_file.TradeForm.{TradeForm}
use Rattle.trade_text.proofs.Reading.{onto}
use Rattle.record_faults.specs.Alone.{CashColumns, IsRecord, at_record, comes_behind, fault_among, has_room, is_behind_symbol, kept_behind, known_among, lone_text}
use Rattle.record_faults.specs.EachRecord.{fault_in}
use Rattle.record_faults.proofs.Rows.{lone_file}

-- ---- another number

-- the type of the errors of a reading, and of its values
abbrev pub FaultOf : {A E : Type 0} → (List ℕ → Result A E) → Type 0
FaultOf {A} {E} reading = E

abbrev pub ValueOf : {A E : Type 0} → (List ℕ → Result A E) → Type 0
ValueOf {A} {E} reading = A

-- why a field is refused
abbrev pub Why : Type 0
Why = FaultOf time_of

-- what a trade does
abbrev pub Does : Type 0
Does = ValueOf side_of

-- a refusal is the same under another number
why_so : {F : Type 0} (m n : ℕ) (what : F) (why : Why) → error_of why m what ≡ at_record m (error_of why n what)
why_so m n what why = grind arith

-- whether it is of a field behind the symbol, its field says
behind_so : (n : ℕ) (what : Field) (why : Why) → is_behind_symbol (error_of why n what) ≡ comes_behind what
behind_so n what why = grind arith

-- what is read, with this number in a refusal
abbrev pub numbered_so : {F A : Type 0} → ℕ → Read F A → Read F A
numbered_so number (Ok x) = Ok x
numbered_so number (Err fault) = Err (at_record number fault)

located_so : {F A : Type 0} (m n : ℕ) (what : F) (r : Result A Why) → located m what r ≡ numbered_so m (located n what r)
located_so m n what (Ok x) = refl
located_so m n what (Err why) = ap Err (why_so m n what why)

then_so : {F A B : Type 0} (m : ℕ) (x y : Read F A) (f g : A → Read F B) → x ≡ numbered_so m y → ((v : A) → f v ≡ numbered_so m (g v)) → (x >>= f) ≡ numbered_so m (y >>= g)
then_so m x (Ok v) f g same later = ap (λ r. r >>= f) same ∙ later v
then_so m x (Err e) f g same later = ap (λ r. r >>= f) same

if_so : {F A : Type 0} (test : Bool) (m n : ℕ) (x y : Read F A) → x ≡ numbered_so m y → (if test then x else Err (error.Row m)) ≡ numbered_so m (if test then y else Err (error.Row n))
if_so true m n x y same = same
if_so false m n x y same = refl

symbol_so : (m n : ℕ) (known : List (List ℕ)) (text : List ℕ) → symbol_in m known text ≡ numbered_so m (symbol_in n known text)
unfolding symbol_in
symbol_so m n known text =
    then_so m (located m field.Symbol (symbol_of text)) (located n field.Symbol (symbol_of text)) _ _ (located_so m n field.Symbol (symbol_of text))
    (λ name. located_so m n field.Symbol _)

-- a record reads the same under another number, which stands in its refusal
pub trade_so : (m n : ℕ) (form : TradeForm) (fields : List (List ℕ)) → trade_in m form fields ≡ numbered_so m (trade_in n form fields)
unfolding trade_in
trade_so m n form fields =
    if_so (length fields == form.columns.count) m n _ _
    (then_so m _ _ _ _ (located_so m n field.Time (time_of (text_at fields form.columns.time))) (λ time.
    then_so m _ _ _ _ (located_so m n field.Account (account_of (text_at fields form.columns.account))) (λ account.
    then_so m _ _ _ _ (symbol_so m n form.symbols (text_at fields form.columns.symbol)) (λ symbol.
    then_so m _ _ _ _ (located_so m n field.Side (side_of (text_at fields form.columns.side))) (λ side.
    then_so m _ _ _ _ (located_so m n field.Qty (qty_of (text_at fields form.columns.qty))) (λ qty.
    then_so m _ _ _ _ (located_so m n field.Price (price_of (text_at fields form.columns.price))) (λ cents. refl)))))))

pub cash_so : (m n : ℕ) (columns : CashColumns) (fields : List (List ℕ)) → cash_in m columns fields ≡ numbered_so m (cash_in n columns fields)
unfolding cash_in
cash_so m n columns fields =
    if_so (length fields == columns.count) m n _ _
    (then_so m _ _ _ _ (located_so m n cash_field.Time (time_of (text_at fields columns.time))) (λ time.
    then_so m _ _ _ _ (located_so m n cash_field.Account (account_of (text_at fields columns.account))) (λ account.
    then_so m _ _ _ _ (located_so m n cash_field.Amount (amount_of (text_at fields columns.amount))) (λ amount. refl))))

-- ---- among others

-- what a record gives among others, by why it is refused alone
pub record IsAmong (number : ℕ) (columns : TradeColumns) (known : List (List ℕ)) (name : List ℕ) (alone among : Read Field (Row × TradeForm)) : Type 0 where
  pub fault : fault_in among ≡ fault_among number known name (fault_in alone)
  pub kept : kept_behind (record { columns = columns; symbols = known }) among ≡ record { columns = columns; symbols = known_among known name (fault_in alone) }

-- a trade by what its fields say
abbrev chain : ℕ → TradeColumns → Result ℕ Why → Result ℕ Why → Read Field (ℕ × List (List ℕ)) → Result Does Why → Result ℕ Why → Result ℕ Why → Read Field (Row × TradeForm)
chain number columns t a symbols s q p =
    located number field.Time t >>= λ time. located number field.Account a >>= λ account. symbols >>= λ symbol. located number field.Side s >>= λ side.
    located number field.Qty q >>= λ qty. located number field.Price p >>= λ cents.
    Ok (trade_row time account symbol.0 side qty cents, record { columns = columns; symbols = symbol.1 })

module _ (number : ℕ) (columns : TradeColumns) (known : List (List ℕ)) (name : List ℕ) where
  -- a field before the symbol, or the symbol itself
  early : (what : Field) (why : Why) → comes_behind what ≡ false → Some (error_of why number what) ≡ fault_among number known name (Some (error_of why 2 what))
  early what why front =
      let test : (is_behind_symbol (error_of why 2 what) && not (has_room known name)) ≡ false = ap (λ b. b && not (has_room known name)) (behind_so 2 what why ∙ front) in
      rw test (ap Some (why_so number 2 what why))

  -- a field behind it, where it has no room
  late_full : (what : Field) (why : Why) → comes_behind what ≡ true → numbered known name ≡ None → Some (error.Range number field.Symbol) ≡ fault_among number known name (Some (error_of why 2 what))
  late_full what why back none =
      let room : has_room known name ≡ false = ap is_some none in
      let test : (is_behind_symbol (error_of why 2 what) && not (has_room known name)) ≡ true = ap (λ b. b && not (has_room known name)) (behind_so 2 what why ∙ back) ∙ ap not room in
      rw test refl

  -- a field behind it, where it has room
  late_fits : (what : Field) (why : Why) (next : ℕ × List (List ℕ)) → comes_behind what ≡ true → numbered known name ≡ Some next → Some (error_of why number what) ≡ fault_among number known name (Some (error_of why 2 what))
  late_fits what why next back some =
      let room : has_room known name ≡ true = ap is_some some in
      let test : (is_behind_symbol (error_of why 2 what) && not (has_room known name)) ≡ false = ap (λ b. b && not (has_room known name)) (behind_so 2 what why ∙ back) ∙ ap not room in
      rw test (ap Some (why_so number 2 what why))

  -- the symbol is none
  refused : (t a : Result ℕ Why) (why : Why) (s : Result Does Why) (q p : Result ℕ Why)
      → IsAmong number columns known name (chain 2 columns t a (Err (error_of why 2 field.Symbol)) s q p) (chain number columns t a (Err (error_of why number field.Symbol)) s q p)
  refused (Err early_why) a why s q p = record { fault = early field.Time early_why refl; kept = refl }
  refused (Ok time) (Err early_why) why s q p = record { fault = early field.Account early_why refl; kept = refl }
  refused (Ok time) (Ok account) why s q p = record { fault = early field.Symbol why refl; kept = refl }

  -- it finds no room
  full : (t a : Result ℕ Why) (s : Result Does Why) (q p : Result ℕ Why) → numbered known name ≡ None
      → IsAmong number columns known name (chain 2 columns t a (Ok (1, name ∷ [])) s q p) (chain number columns t a (Err (error.Range number field.Symbol)) s q p)
  full (Err why) a s q p none = record { fault = early field.Time why refl; kept = refl }
  full (Ok time) (Err why) s q p none = record { fault = early field.Account why refl; kept = refl }
  full (Ok time) (Ok account) (Err why) q p none = record { fault = late_full field.Side why refl none; kept = refl }
  full (Ok time) (Ok account) (Ok side) (Err why) p none = record { fault = late_full field.Qty why refl none; kept = refl }
  full (Ok time) (Ok account) (Ok side) (Ok qty) (Err why) none = record { fault = late_full field.Price why refl none; kept = refl }
  full (Ok time) (Ok account) (Ok side) (Ok qty) (Ok cents) none = record { fault = rw none refl; kept = rw none refl }

  -- it has a number
  fits : (t a : Result ℕ Why) (next : ℕ × List (List ℕ)) (s : Result Does Why) (q p : Result ℕ Why) → numbered known name ≡ Some next
      → IsAmong number columns known name (chain 2 columns t a (Ok (1, name ∷ [])) s q p) (chain number columns t a (Ok next) s q p)
  fits (Err why) a next s q p some = record { fault = early field.Time why refl; kept = refl }
  fits (Ok time) (Err why) next s q p some = record { fault = early field.Account why refl; kept = refl }
  fits (Ok time) (Ok account) next (Err why) q p some = record { fault = late_fits field.Side why next refl some; kept = refl }
  fits (Ok time) (Ok account) next (Ok side) (Err why) p some = record { fault = late_fits field.Qty why next refl some; kept = refl }
  fits (Ok time) (Ok account) next (Ok side) (Ok qty) (Err why) some = record { fault = late_fits field.Price why next refl some; kept = refl }
  fits (Ok time) (Ok account) next (Ok side) (Ok qty) (Ok cents) some = record { fault = rw some refl; kept = rw some refl }

picks : {A E : Type 0} (test : Bool) (x y : A) (e : E) → (if test then Ok x else Err e) ≡ Ok y → x ≡ y
picks true x y e is = cc is
picks false x y e is = cc is

symbol_name : (text name : List ℕ) → symbol_of text ≡ Ok name → text ≡ name
symbol_name text name is = picks (is_symbol text) text name _ is

symbol_refused : (n : ℕ) (known : List (List ℕ)) (text : List ℕ) (why : Why) → symbol_of text ≡ Err why → symbol_in n known text ≡ Err (error_of why n field.Symbol)
unfolding symbol_in
symbol_refused n known text why is = rw is refl

symbol_full : (n : ℕ) (known : List (List ℕ)) (text name : List ℕ) → symbol_of text ≡ Ok name → numbered known name ≡ None → symbol_in n known text ≡ Err (error.Range n field.Symbol)
unfolding symbol_in
symbol_full n known text name is none = rw (is, none) refl

symbol_fits : (n : ℕ) (known : List (List ℕ)) (text name : List ℕ) (next : ℕ × List (List ℕ)) → symbol_of text ≡ Ok name → numbered known name ≡ Some next → symbol_in n known text ≡ Ok next
unfolding symbol_in
symbol_fits n known text name next is some = rw (is, some) refl

-- a record by its fields
abbrev by_count : ℕ → TradeColumns → List (List ℕ) → Read Field (ℕ × List (List ℕ)) → Bool → Read Field (Row × TradeForm)
by_count number columns fields symbols test =
    if test then chain number columns (time_of (text_at fields columns.time)) (account_of (text_at fields columns.account)) symbols (side_of (text_at fields columns.side)) (qty_of (text_at fields columns.qty)) (price_of (text_at fields columns.price))
    else Err (error.Row number)

trade_is : (number : ℕ) (columns : TradeColumns) (known : List (List ℕ)) (fields : List (List ℕ))
    → trade_in number (record { columns = columns; symbols = known }) fields ≡ by_count number columns fields (symbol_in number known (text_at fields columns.symbol)) (length fields == columns.count)
unfolding trade_in
trade_is number columns known fields = refl

module _ (number : ℕ) (columns : TradeColumns) (known : List (List ℕ)) (fields : List (List ℕ)) (name : List ℕ) where
  by_room : (numbering : Option (ℕ × List (List ℕ))) → symbol_of name ≡ Ok name → numbered known name ≡ numbering
      → IsAmong number columns known name (by_count 2 columns fields (symbol_in 2 [] name) true) (by_count number columns fields (symbol_in number known name) true)
  by_room None is none =
      rw (symbol_fits 2 [] name name (1, name ∷ []) is refl, symbol_full number known name name is none)
      (full number columns known name (time_of (text_at fields columns.time)) (account_of (text_at fields columns.account)) (side_of (text_at fields columns.side)) (qty_of (text_at fields columns.qty)) (price_of (text_at fields columns.price)) none)
  by_room (Some next) is some =
      rw (symbol_fits 2 [] name name (1, name ∷ []) is refl, symbol_fits number known name name next is some)
      (fits number columns known name (time_of (text_at fields columns.time)) (account_of (text_at fields columns.account)) next (side_of (text_at fields columns.side)) (qty_of (text_at fields columns.qty)) (price_of (text_at fields columns.price)) some)

  by_symbol : (r : Result (List ℕ) Why) → symbol_of name ≡ r
      → IsAmong number columns known name (by_count 2 columns fields (symbol_in 2 [] name) true) (by_count number columns fields (symbol_in number known name) true)
  by_symbol (Ok other) is = by_room (numbered known name) (is ∙ ap Ok (sym (symbol_name name other is))) refl
  by_symbol (Err why) is =
      rw (symbol_refused 2 [] name why is, symbol_refused number known name why is)
      (refused number columns known name (time_of (text_at fields columns.time)) (account_of (text_at fields columns.account)) why (side_of (text_at fields columns.side)) (qty_of (text_at fields columns.qty)) (price_of (text_at fields columns.price)))

  by_test : (test : Bool) → IsAmong number columns known name (by_count 2 columns fields (symbol_in 2 [] name) test) (by_count number columns fields (symbol_in number known name) test)
  by_test true = by_symbol (symbol_of name) refl
  by_test false = record { fault = refl; kept = refl }

-- what a record says alone, and what it says among others
pub among : (number : ℕ) (columns : TradeColumns) (known : List (List ℕ)) (fields : List (List ℕ))
    → IsAmong number columns known (text_at fields columns.symbol) (trade_in 2 (record { columns = columns; symbols = [] }) fields) (trade_in number (record { columns = columns; symbols = known }) fields)
among number columns known fields =
    rw (trade_is 2 columns [] fields, trade_is number columns known fields) (by_test number columns known fields (text_at fields columns.symbol) (length fields == columns.count))

-- ---- what is read of a lone record

one_row : {F K A : Type 0} (read : Read F (Row × K)) (finish : RowsRead K → A)
    → fault_in (((read >>= λ next. Ok (with_row [] next)) >>= λ more. Ok more) >>= λ read. Ok (finish read)) ≡ fault_in read
one_row (Ok x) finish = refl
one_row (Err fault) finish = refl

some_room : 0 < 100000
some_room = omega arith

pub lone_trade : (header fields : List (List ℕ)) (columns : TradeColumns) → IsRecord header → IsRecord fields → trade_columns header ≡ Ok columns → length (lone_text (header ∷ fields ∷ [])) ≤ 16777216
    → fault_in (trades_of (lone_text (header ∷ fields ∷ []))) ≡ fault_in (trade_in 2 (record { columns = columns; symbols = [] }) fields)
unfolding trades_of
lone_trade header fields columns is are known few =
    let form : TradeForm = record { columns = columns; symbols = [] } in
    rw (lone_file {F = Field} header (fields ∷ []) is (are, tt) few, known, onto trade_in 100000 2 (no_rows form) fields some_room)
    (one_row (trade_in 2 form fields) (λ read. only_trades read.rows read.kept.symbols))

pub lone_movement : (header fields : List (List ℕ)) (columns : CashColumns) → IsRecord header → IsRecord fields → cash_columns header ≡ Ok columns → length (lone_text (header ∷ fields ∷ [])) ≤ 16777216
    → fault_in (cash_of (lone_text (header ∷ fields ∷ [])) 1) ≡ fault_in (cash_in 2 columns fields)
unfolding cash_of
lone_movement header fields columns is are known few =
    rw (lone_file {F = CashField} header (fields ∷ []) is (are, tt) few, known, onto cash_in 1 2 (no_rows columns) fields (let e : 0 < 1 = omega arith in e))
    (one_row (cash_in 2 columns fields) (λ read. read.rows))

-- a header alone is refused by its columns
columns_then : {F C A : Type 0} (read : Read F C) (finish : C → A) → fault_in (read >>= λ columns. Ok (finish columns)) ≡ fault_in read
columns_then (Ok x) finish = refl
columns_then (Err fault) finish = refl

pub lone_trades_header : (header : List (List ℕ)) → IsRecord header → length (lone_text (header ∷ [])) ≤ 16777216 → fault_in (trades_of (lone_text (header ∷ []))) ≡ fault_in (trade_columns header)
unfolding trades_of
lone_trades_header header is few = rw (lone_file {F = Field} header [] is tt few) (columns_then (trade_columns header) (λ columns. only_trades [] []))

pub lone_cash_header : (header : List (List ℕ)) → IsRecord header → length (lone_text (header ∷ [])) ≤ 16777216 → fault_in (cash_of (lone_text (header ∷ [])) 1) ≡ fault_in (cash_columns header)
unfolding cash_of
lone_cash_header header is few = rw (lone_file {F = CashField} header [] is tt few) (columns_then (cash_columns header) (λ columns. []))

-- what was not refused was accepted
pub accepted_is : {F A : Type 0} (read : Read F A) → fault_in read ≡ None → (x : A) × (read ≡ Ok x)
accepted_is (Ok x) none = (x, refl)
accepted_is (Err fault) none = cc none
