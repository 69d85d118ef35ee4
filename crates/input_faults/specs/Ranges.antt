-- What the ranges that are said of a record's fields have to do with the reading of these fields.
use Rattle.std.specs.Prelude.{ℕ, ℤ, ◌≡◌, ◌≤◌, pos, neg_ℤ, List, ◌++◌, length, Ok, Result, codes, unsigned_abs}
use Rattle.std.specs.Fmt.{decimal}
use Rattle.trade_text.specs.Fields.{account_of, amount_of, price_of, qty_of, symbol_of, time_of}
use Rattle.trade_text.specs.Limits.{max_account, max_amount, max_cents, max_qty, max_seconds, max_symbol_bytes}
use Rattle.input_faults.specs.RecordFaults.{units_text}

-- each number between two limits is read as it is written, and nothing is read as a number beyond them
pub record IsRange {E : Type 0} (read : List ℕ → Result ℕ E) (low high : ℕ) : Type 0 where
  pub within : (n : ℕ) → low ≤ n → n ≤ high → read (decimal n) ≡ Ok n
  pub bounds : (text : List ℕ) (n : ℕ) → read text ≡ Ok n → (low ≤ n) × (n ≤ high)

-- The ranges that are said of a field are those that are read: numbers from the least to the greatest, and of money the greatest amounts.
pub record RangesAreRead : Type 0 where
  pub time : IsRange time_of 0 max_seconds
  pub account : IsRange account_of 1 max_account
  pub qty : IsRange qty_of 1 max_qty
  pub symbol : (text name : List ℕ) → symbol_of text ≡ Ok name → (1 ≤ length name) × (length name ≤ max_symbol_bytes)
  pub greatest_price : price_of (units_text max_cents) ≡ Ok max_cents
  pub prices : (text : List ℕ) (cents : ℕ) → price_of text ≡ Ok cents → cents ≤ max_cents
  pub greatest_amount : amount_of (units_text max_amount) ≡ Ok (pos max_amount)
  pub least_amount : amount_of (codes "-" ++ units_text max_amount) ≡ Ok (neg_ℤ (pos max_amount))
  pub amounts : (text : List ℕ) (cents : ℤ) → amount_of text ≡ Ok cents → unsigned_abs cents ≤ max_amount
