-- Made trades read as rows, one for each.
use Rattle.std.proofs.Common.{ℕ, zero, suc, ◌≡◌, ◌<◌, ◌≤◌, ◌+◌, ◌*◌, Bool, true, false, List, [], ◌∷◌, length, map, Some, Ok, refl, ◌∙◌, arith, length-append, nat_lt, lit<}
use Rattle.std.specs.Fmt.{decimal}
use Rattle.std.proofs.Math.Nat.{mod-lt}
use Rattle.std.proofs.lemmas.Bool.Decides.{nat_tests}
use Rattle.csv.specs.Records.{field_at}
use Rattle.tuple_edge.specs.declared.row.Row.{Row}
use Rattle.trade_text.specs.Fields.{side_of}
use Rattle.trade_text.specs.Files.{RowsRead, row_onto, rows_onto, with_row}
use Rattle.trade_text.specs.Results.{Read}
use Rattle.trade_text.specs.Symbols.{numbered}
use Rattle.trade_text.specs.Trades.{symbol_in, trade_in, trade_row}
use Rattle.trade_maker.specs.Generator.{draw, made_trade, next_state, state_after, trades_from}
use Rattle.trade_maker.specs.Limits.{states}
use Rattle.trade_maker.specs.MadeText.{trade_fields, money, side_text}
use Rattle.trade_maker.specs.declared.generator.MadeTrade.{MadeTrade}
use Rattle.trade_maker.proofs.MadeFields.{decimal_plain, money_plain, number_back, price_back, side_plain, symbol_back, symbol_plain, symbol_text, time_back}
use Rattle.trade_maker.proofs.PlainFields.{ArePlain, trimmed_plain}

-- ---- what is drawn

state_small : (n x : ℕ) → state_after (suc n) x < states
unfolding state_after next_state
state_small zero x = mod-lt (x * 1103515245 + 12345) (lit< tt)
state_small (suc n) x = state_small n (next_state x)

draw_small : (n x : ℕ) → draw (suc n) x < 32768
draw_small n x = omega (arith, state_small n x)

-- a trade within the limits of what is made
pub record IsMade (t : MadeTrade) : Type 0 where
  pub time : t.time < 1000000
  pub account_low : 1 ≤ t.account
  pub account_high : t.account ≤ 500
  pub symbol : t.symbol < 40
  pub qty_low : 1 ≤ t.qty
  pub qty_high : t.qty ≤ 1000
  pub cents : t.cents ≤ 40000

pub trade_made : (number x : ℕ) → number ≤ 200000 → IsMade (made_trade number x)
trade_made number x few = record {
  time = omega (arith, few);
  account_low = omega arith;
  account_high = omega (arith, mod-lt (draw 1 x) {m = 500} (lit< tt));
  symbol = mod-lt (draw 2 x) {m = 40} (lit< tt);
  qty_low = omega arith;
  qty_high = omega (arith, mod-lt (draw 4 x) {m = 1000} (lit< tt));
  cents = omega (arith, draw_small 4 x);
}

pub fields_plain : (t : MadeTrade) → IsMade t → ArePlain (trade_fields t)
fields_plain t made =
    rw (
      decimal_plain t.time (omega (arith, made.time)),
      decimal_plain t.account (omega (arith, made.account_high)),
      symbol_plain t.symbol (omega (arith, made.symbol)),
      side_plain t.is_buy,
      decimal_plain t.qty (omega (arith, made.qty_high)),
      money_plain t.cents (omega (arith, made.cents)),
    ) refl

-- ---- a record

pub some_side : (is_buy : Bool) → (side : _) × (side_of (side_text is_buy) ≡ Ok side)
unfolding side_of
some_side true = (_, refl)
some_side false = (_, refl)

-- how a made trade reads, where its symbol has this number
pub trade_reads : (number k : ℕ) (t : MadeTrade) (known after : List (List ℕ)) (side : _) → side_of (side_text t.is_buy) ≡ Ok side → IsMade t
    → numbered known (symbol_text t.symbol) ≡ Some (k, after)
    → trade_in number (record { columns = record { count = 6; time = 0; account = 1; symbol = 2; side = 3; qty = 4; price = 5 }; symbols = known }) (trade_fields t)
    ≡ Ok (trade_row t.time t.account k side t.qty t.cents, record { columns = record { count = 6; time = 0; account = 1; symbol = 2; side = 3; qty = 4; price = 5 }; symbols = after })
unfolding trade_in symbol_in field_at
trade_reads number k t known after side side_is made is =
    rw (
      trimmed_plain (decimal t.time) (decimal_plain t.time (omega (arith, made.time))),
      time_back t.time made.time,
      trimmed_plain (decimal t.account) (decimal_plain t.account (omega (arith, made.account_high))),
      number_back 1 1000000 t.account made.account_low (omega (arith, made.account_high)) (omega (arith, made.account_high)),
      trimmed_plain (symbol_text t.symbol) (symbol_plain t.symbol (omega (arith, made.symbol))),
      symbol_back t.symbol (omega (arith, made.symbol)),
      is,
      trimmed_plain (side_text t.is_buy) (side_plain t.is_buy),
      side_is,
      trimmed_plain (decimal t.qty) (decimal_plain t.qty (omega (arith, made.qty_high))),
      number_back 1 100000 t.qty made.qty_low (omega (arith, made.qty_high)) (omega (arith, made.qty_high)),
      trimmed_plain (money t.cents) (money_plain t.cents (omega (arith, made.cents))),
      price_back t.cents (omega (arith, made.cents)),
    ) refl

-- ---- all records

module _ {F K : Type 0} (row_in : ℕ → K → List (List ℕ) → Read F (Row × K)) (room : ℕ) where
  -- a record reads, and what is kept then is good again
  pub record Step (IsGood : K → Type 0) (number : ℕ) (kept : K) (fields : List (List ℕ)) : Type 0 where
    pub row : Row
    pub after : K
    pub is : row_in number kept fields ≡ Ok (row, after)
    pub good : IsGood after

  -- so many records more read
  pub record AllRead (number count : ℕ) (so_far : RowsRead K) (records : List (List (List ℕ))) : Type 0 where
    pub read : RowsRead K
    pub is : rows_onto row_in room number so_far records ≡ Ok read
    pub length : length read.rows ≡ length so_far.rows + count

  one_row : (number : ℕ) (so_far : RowsRead K) (fields : List (List ℕ)) (row : Row) (after : K) → length so_far.rows < room → row_in number so_far.kept fields ≡ Ok (row, after)
      → row_onto row_in room number so_far fields ≡ Ok (with_row so_far.rows (row, after))
  unfolding row_onto
  one_row number so_far fields row after few is = let test : nat_lt (length so_far.rows) room ≡ true = grind (arith, nat_tests, few) in rw (test, is) refl

  pub trades_read : (IsGood : K → Type 0)
      → ((number : ℕ) (kept : K) (t : MadeTrade) → IsMade t → IsGood kept → Step IsGood number kept (trade_fields t))
      → (number trade count x : ℕ) (so_far : RowsRead K) → IsGood so_far.kept → trade + count ≤ 200000 → length so_far.rows + count ≤ room
      → AllRead number count so_far (map trade_fields (trades_from trade count x))
  unfolding trades_from
  trades_read IsGood step number trade zero x so_far good few room_left = record { read = so_far; is = refl; length = omega arith }
  trades_read IsGood step number trade (suc count) x so_far good few room_left =
      let fields = trade_fields (made_trade trade x) in
      let first = step number so_far.kept (made_trade trade x) (trade_made trade x (omega (arith, few))) good in
      let more = with_row so_far.rows (first.row, first.after) in
      let one : length more.rows ≡ length so_far.rows + 1 = length-append so_far.rows (first.row ∷ []) in
      let rest = trades_read IsGood step (number + 1) (trade + 1) count (state_after 5 x) more first.good (omega (arith, few)) (omega (arith, one, room_left)) in
      record {
        read = rest.read;
        is = rw (one_row number so_far fields first.row first.after (omega (arith, room_left)) first.is) rest.is;
        length = rest.length ∙ omega (arith, one);
      }
