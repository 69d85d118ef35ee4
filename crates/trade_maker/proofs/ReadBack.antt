-- What is made reads back as trades.
use Rattle.std.proofs.Common.{ℕ, zero, suc, ◌≡◌, ◌<◌, ◌≤◌, ◌+◌, ◌*◌, ◌/◌, Bool, true, false, List, [], ◌∷◌, length, map, Ok, refl, ap, ◌∙◌, arith, length-append, nat_lt, lit<}
use Rattle.std.specs.Prelude.{codes}
use Rattle.std.specs.Fmt.{decimal}
use Rattle.std.proofs.lemmas.Bool.Decides.{nat_tests}
use Rattle.std.proofs.lemmas.Fmt.{length-decimal-le}
use Rattle.csv.specs.Reading.{strip_bom}
use Rattle.csv.specs.declared.parser.State.TheVariants as state
use Rattle.trade_text.specs.Columns.{trade_columns}
use Rattle.trade_text.specs.Fields.{drop_blanks, trim_end}
use Rattle.trade_text.specs.Files.{file_of, file_of_records, no_rows}
use Rattle.trade_text.specs.Limits.{max_inputs, max_input_bytes}
use Rattle.trade_text.specs.Records.{records_left}
use Rattle.trade_text.specs.Trades.{trade_in, trade_row, trades_of}
use Rattle.trade_text.specs.TradesView.{only_trades}
use Rattle.trade_maker.specs.Generator.{made_trade, state_after, trades_from}
use Rattle.trade_maker.specs.MadeText.{trade_fields, header, record_line, trade_lines, made_text, money, side_text}
use Rattle.trade_maker.specs.ReadBack.{SaysTrades}
use Rattle.trade_maker.specs.declared.generator.MadeTrade.{MadeTrade}
use Rattle.trade_maker.proofs.KnownSymbols.{AreFew, missing, symbol_numbered}
use Rattle.trade_maker.proofs.MadeFields.{symbol_text}
use Rattle.trade_maker.proofs.MadeRows.{IsMade, fields_plain, some_side, trade_made, trade_reads, trades_read}
use Rattle.trade_maker.proofs.PlainFields.{line_first, none_left}

-- ---- the records

-- the records of lines
records_of_lines : (trade count x : ℕ) → trade + count ≤ 200000
    → records_left state.StartRecord (trade_lines (trades_from trade count x)) ≡ map trade_fields (trades_from trade count x)
unfolding trades_from
records_of_lines trade zero x few = none_left
records_of_lines trade (suc count) x few =
    let t = made_trade trade x in
    line_first (decimal t.time) (decimal t.account) (symbol_text t.symbol ∷ side_text t.is_buy ∷ decimal t.qty ∷ money t.cents ∷ [])
    (trade_lines (trades_from (trade + 1) count (state_after 5 x))) (fields_plain t (trade_made trade x (omega (arith, few))))
    ∙ ap (λ more. trade_fields t ∷ more) (records_of_lines (trade + 1) count (state_after 5 x) (omega (arith, few)))

made_records : (start count : ℕ) → count ≤ max_inputs → records_left state.StartRecord (made_text start count) ≡ header ∷ map trade_fields (trades_from 1 count start)
made_records start count few =
    line_first (codes "time") (codes "account") (codes "symbol" ∷ codes "side" ∷ codes "qty" ∷ codes "price" ∷ []) (trade_lines (trades_from 1 count start)) refl
    ∙ ap (λ more. header ∷ more) (records_of_lines 1 count start (omega (arith, few)))

-- ---- the length

side_length : (is_buy : Bool) → length (side_text is_buy) ≡ 1
side_length true = refl
side_length false = refl

number_length : (n : ℕ) → n < 1000000 → length (decimal n) ≤ 6
number_length n small = length-decimal-le 6 n (lit< tt) small (omega (arith, small))

line_length : (t : MadeTrade) → IsMade t → length (record_line (trade_fields t)) ≤ 40
line_length t made =
    simp length-append (omega (
      arith,
      number_length t.time made.time,
      number_length t.account (omega (arith, made.account_high)),
      side_length t.is_buy,
      number_length t.qty (omega (arith, made.qty_high)),
      number_length (t.cents / 100) (omega (arith, made.cents)),
    ))

lines_length : (trade count x : ℕ) → trade + count ≤ 200000 → length (trade_lines (trades_from trade count x)) ≤ 40 * count
unfolding trades_from
lines_length trade zero x few = omega arith
lines_length trade (suc count) x few =
    let t = made_trade trade x in
    let here = line_length t (trade_made trade x (omega (arith, few))) in
    let later = lines_length (trade + 1) count (state_after 5 x) (omega (arith, few)) in
    omega (arith, length-append (record_line (trade_fields t)) (trade_lines (trades_from (trade + 1) count (state_after 5 x))), here, later)

made_short : (start count : ℕ) → count ≤ max_inputs → nat_lt max_input_bytes (length (made_text start count)) ≡ false
made_short start count few =
    let lines = lines_length 1 count start (omega (arith, few)) in
    let short : length (made_text start count) ≤ max_input_bytes = omega (arith, lines, few) in
    grind (arith, nat_tests, short)

-- ---- the file

made_file : {F : Type 0} (start count : ℕ) → count ≤ max_inputs → file_of {F = F} (made_text start count) ≡ Ok (record { header = header; records = map trade_fields (trades_from 1 count start) })
unfolding file_of strip_bom
made_file start count few = rw (made_short start count few) (ap file_of_records (made_records start count few))

made_columns : trade_columns header ≡ Ok (record { count = 6; time = 0; account = 1; symbol = 2; side = 3; qty = 4; price = 5 })
unfolding trade_columns drop_blanks trim_end
made_columns = refl

-- ---- the rows

none_known : AreFew []
unfolding missing
none_known = omega arith

pub reads_back : (start count : ℕ) → count ≤ max_inputs → SaysTrades (made_text start count) count
unfolding trades_of
reads_back start count few =
    let all = trades_read trade_in max_inputs
    (λ form. (known : List (List ℕ)) × (form ≡ record { columns = record { count = 6; time = 0; account = 1; symbol = 2; side = 3; qty = 4; price = 5 }; symbols = known }) × AreFew known)
    (λ number kept t made good.
    let (known, kept_is, known_few) = good in
    let next = symbol_numbered t.symbol known made.symbol known_few in
    let (side, side_is) = some_side t.is_buy in
    record {
      row = trade_row t.time t.account next.number side t.qty t.cents;
      after = record { columns = record { count = 6; time = 0; account = 1; symbol = 2; side = 3; qty = 4; price = 5 }; symbols = next.after };
      is = rw kept_is (trade_reads number next.number t known next.after side side_is made next.is);
      good = (next.after, refl, next.few);
    })
    2 1 count start (no_rows (record { columns = record { count = 6; time = 0; account = 1; symbol = 2; side = 3; qty = 4; price = 5 }; symbols = [] }))
    ([], refl, none_known) (omega (arith, few)) (omega (arith, few)) in
    (only_trades all.read.rows all.read.kept.symbols, rw (made_file start count few, made_columns, all.is) refl, omega (arith, all.length))
