-- The symbols that a record makes known, behind those that were.
use Rattle.std.proofs.Common.{ℕ, ◌≡◌, ◌+◌, ◌==◌, Bool, true, false, List, [], ◌∷◌, ◌++◌, length, Option, Some, None, Ok, Err, Result, nat_lt, if◌then◌else◌, position, refl, sym, ap, subst, ◌∙◌, append-nil, append_assoc, inl, inr}
use Rattle.std.specs.Option.{ok_or}
use Rattle.std.specs.Str.{bytes_eq}
use mathlib.Core.List.{IsPrefix}
use Rattle.csv.specs.Machine.{Read as Found}
use Rattle.tuple_edge.specs.declared.row.Row.{Row}
use Rattle.trade_text.specs.Fields.{account_of, price_of, qty_of, side_of, symbol_of, time_of}
use Rattle.trade_text.specs.Files.{located, text_at}
use Rattle.trade_stream.specs.Pushed.{Grows, told_by_trade}
use Rattle.trade_text.specs.Records.{records_left}
use Rattle.trade_text.specs.Results.{Read, ◌>>=◌}
use Rattle.trade_text.specs.Streams.{Told, told_from, told_next}
use Rattle.trade_text.specs.Symbols.{numbered, numbered_at}
use Rattle.trade_text.specs.Trades.{symbol_in, trade_in}
use Rattle.trade_text.specs.declared.error.Field.{Field}
use Rattle.trade_text.specs.declared.error.Field.TheVariants as field
use Rattle.trade_text.specs.declared.error.ReadError.TheVariants as error
use Rattle.trade_text.specs.declared.trade_file.TradeForm.{TradeForm}

-- ---- readings in steps

err_not_ok : {A E : Type 0} {e : E} {x : A} → ◌≡◌ {A = Result A E} (Err e) (Ok x) → ⊥
err_not_ok e = cc

-- a step that came to a value
came : {A B E : Type 0} (read : Result A E) (next : A → Result B E) (y : B) → (read >>= next) ≡ Ok y → (x : A) × (read ≡ Ok x) × (next x ≡ Ok y)
came (Ok x) next y is = (x, refl, is)
came (Err e) next y is = absurd (err_not_ok is)

-- a test that came to a value
tested : {A E : Type 0} (test : Bool) (read : Result A E) (e : E) (y : A) → (if test then read else Err e) ≡ Ok y → read ≡ Ok y
tested true read e y is = is
tested false read e y is = absurd (err_not_ok is)

-- ---- symbols

grows_at : (at : Option ℕ) (known : List (List ℕ)) (name : List ℕ) (next : ℕ × List (List ℕ)) → numbered_at at known name ≡ Some next → Grows known next.1
grows_at (Some place) known name next is = let same : (place + 1, known) ≡ next = cc in inl (ap (λ (p : ℕ × List (List ℕ)). p.1) (sym same))
grows_at None known name next is = go (nat_lt (length known) 4096) is
  where
    go : (room : Bool) → (if room then Some (length known + 1, known ++ name ∷ []) else None) ≡ Some next → Grows known next.1
    go true is = let same : (length known + 1, known ++ name ∷ []) ≡ next = cc in inr (name, ap (λ (p : ℕ × List (List ℕ)). p.1) (sym same))
    go false is = cc

-- why a field is refused
abbrev FaultOf : {A E : Type 0} → (List ℕ → Result A E) → Type 0
FaultOf {A} {E} reading = E

grows_by : (number : ℕ) (known : List (List ℕ)) (name : List ℕ) (why : FaultOf symbol_of) (at : Option (ℕ × List (List ℕ))) (next : ℕ × List (List ℕ)) → numbered known name ≡ at
    → located number field.Symbol (ok_or at why) ≡ Ok next → Grows known next.1
grows_by number known name why None next is read = absurd (err_not_ok read)
grows_by number known name why (Some found) next is read =
    let same : found ≡ next = cc in
    grows_at (position (bytes_eq name) known) known name next (is ∙ ap Some same)

grows_in : (number : ℕ) (known : List (List ℕ)) (text : List ℕ) (next : ℕ × List (List ℕ)) → symbol_in number known text ≡ Ok next → Grows known next.1
unfolding symbol_in
grows_in number known text next is =
    let a = came (located number field.Symbol (symbol_of text)) _ next is in
    grows_by number known a.0 _ (numbered known a.0) next refl a.2

-- ---- trades

pub row_grows : (number : ℕ) (form : TradeForm) (fields : List (List ℕ)) (row : Row) (kept : TradeForm) → trade_in number form fields ≡ Ok (row, kept) → Grows form.symbols kept.symbols
unfolding trade_in
row_grows number form fields row kept is =
    let t = tested (length fields == form.columns.count) _ (error.Row number) (row, kept) is in
    let a = came (located number field.Time (time_of (text_at fields form.columns.time))) _ (row, kept) t in
    let b = came (located number field.Account (account_of (text_at fields form.columns.account))) _ (row, kept) a.2 in
    let c = came (symbol_in number form.symbols (text_at fields form.columns.symbol)) _ (row, kept) b.2 in
    let d = came (located number field.Side (side_of (text_at fields form.columns.side))) _ (row, kept) c.2 in
    let e = came (located number field.Qty (qty_of (text_at fields form.columns.qty))) _ (row, kept) d.2 in
    let f = came (located number field.Price (price_of (text_at fields form.columns.price))) _ (row, kept) e.2 in
    let same : c.0.1 ≡ kept.symbols = ap (λ (r : Read Field (Row × TradeForm)). symbols_in r) f.2 in
    subst (Grows form.symbols) same (grows_in number form.symbols (text_at fields form.columns.symbol) c.0 c.1)
  where
    symbols_in : Read Field (Row × TradeForm) → List (List ℕ)
    symbols_in (Ok p) = p.1.symbols
    symbols_in (Err e) = []

-- ---- all that is told

pub prefix_grows : (old new all : List (List ℕ)) → Grows old new → IsPrefix new all → IsPrefix old all
prefix_grows old new all (inl same) first = (first.0, ap (λ (xs : List (List ℕ)). xs ++ first.0) (sym same) ∙ first.1)
prefix_grows old new all (inr more) first = (more.0 ∷ first.0, sym (append_assoc old (more.0 ∷ []) first.0) ∙ ap (λ (xs : List (List ℕ)). xs ++ first.0) (sym more.1) ∙ first.1)

-- the symbols that are known come first
known_next : (number : ℕ) (form : TradeForm) (fields : List (List ℕ)) (later : TradeForm → Told) (read : Read Field (Row × TradeForm)) → trade_in number form fields ≡ read
    → ((p : Row × TradeForm) → IsPrefix p.1.symbols (later p.1).symbols) → IsPrefix form.symbols (told_next later form.symbols read).symbols
known_next number form fields later (Err e) is first = ([], append-nil form.symbols)
known_next number form fields later (Ok p) is first = prefix_grows form.symbols p.1.symbols (later p.1).symbols (row_grows number form fields p.0 p.1 is) (first p)

pub known_first : (number : ℕ) (form : TradeForm) (left : List (List (List ℕ))) → IsPrefix form.symbols (told_from number form left).symbols
known_first number form [] = ([], append-nil form.symbols)
known_first number form (fields ∷ later) =
    known_next number form fields (λ form. told_from (number + 1) form later) (trade_in number form fields) refl (λ p. known_first (number + 1) p.1 later)

pub known_by_trade : (number : ℕ) (form : TradeForm) (next : Option Found) → IsPrefix form.symbols (told_by_trade number form next).symbols
known_by_trade number form None = ([], append-nil form.symbols)
known_by_trade number form (Some p) =
    known_next number form p.0 (λ form. told_from (number + 1) form (records_left p.1 p.2)) (trade_in number form p.0) refl (λ q. known_first (number + 1) q.1 (records_left p.1 p.2))
