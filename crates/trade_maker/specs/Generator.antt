-- The generator: from a state, draws, and from five draws a trade.
use Rattle.std.specs.Prelude.{ℕ, zero, suc, ◌+◌, ◌*◌, ◌/◌, ◌%◌, ◌==◌, List, [], ◌∷◌}
use Rattle.trade_maker.specs.Limits.{states}
use Rattle.trade_maker.specs.declared.generator.MadeTrade.{MadeTrade}

-- ---- draws

-- the next state of the generator
unfoldable pub next_state : ℕ → ℕ
next_state x = (x * 1103515245 + 12345) % states

-- the state after so many draws
unfoldable pub state_after : ℕ → ℕ → ℕ
state_after zero x = x
state_after (suc n) x = state_after n (next_state x)

-- what a draw gives that makes this state
abbrev pub drawn : ℕ → ℕ
drawn x = x / 65536

-- what the n-th draw from a state on gives; the first has number 1
abbrev pub draw : ℕ → ℕ → ℕ
draw n x = drawn (state_after n x)

-- ---- trades

-- the trade of this number that is made from a state on, by five draws
abbrev pub made_trade : ℕ → ℕ → MadeTrade
made_trade number x = record {
  time = 34200 + number;
  account = 1 + draw 1 x % 500;
  symbol = draw 2 x % 40;
  is_buy = draw 3 x % 2 == 0;
  qty = 1 + draw 4 x % 1000;
  cents = 1000 + draw 5 x;
}

-- so many trades, numbered from here on, from a state on
unfoldable pub trades_from : ℕ → ℕ → ℕ → List MadeTrade
trades_from number zero x = []
trades_from number (suc count) x = made_trade number x ∷ trades_from (number + 1) count (state_after 5 x)
