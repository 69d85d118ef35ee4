-- The lines of made trades, one after the other.
use Rattle.std.proofs.Common.{ℕ, zero, suc, ◌≡◌, ◌+◌, ◌-◌, ◌<◌, List, ◌++◌, refl, ap, sym, ◌∙◌, arith, append_assoc, append-nil}
use Rattle.trade_maker.specs.Generator.{made_trade, state_after, trades_from}
use Rattle.trade_maker.specs.MadeText.{trade_fields, record_line, trade_lines}

first_line : (number left count x : ℕ) → left ≡ suc count
    → trade_lines (trades_from number left x) ≡ record_line (trade_fields (made_trade number x)) ++ trade_lines (trades_from (number + 1) count (state_after 5 x))
unfolding trades_from
first_line number left count x is = rw is refl

-- the text after one line more
pub line_more : (out text : List ℕ) (number index count x : ℕ) → number ≡ index + 1 → index < count
    → out ++ trade_lines (trades_from number (count - index) x) ≡ text
    → (out ++ record_line (trade_fields (made_trade number x))) ++ trade_lines (trades_from (number + 1) (count - number) (state_after 5 x)) ≡ text
line_more out text number index count x number_is more is =
    append_assoc out (record_line (trade_fields (made_trade number x))) (trade_lines (trades_from (number + 1) (count - number) (state_after 5 x)))
    ∙ ap (λ lines. out ++ lines) (sym (first_line number (count - index) (count - number) x (omega (arith, number_is, more))))
    ∙ is

-- the text after the last line
pub lines_end : (out text : List ℕ) (number left x : ℕ) → left ≡ 0 → out ++ trade_lines (trades_from number left x) ≡ text → out ≡ text
unfolding trades_from
lines_end out text number zero x none is = sym (append-nil out) ∙ is
lines_end out text number (suc left) x none is = absurd (omega (arith, none))
