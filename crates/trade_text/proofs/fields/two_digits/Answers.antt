use Rattle.std.proofs.Common.{ℕ, ◌≡◌, ◌≤◌, List, length, Option, Some, None, IfSome, sym}
use Rattle.text_words.specs.Numbers.{number_of}
use Rattle.trade_text.proofs.Digits.{two_digits}
use Rattle.trade_text.proofs.fields.two_digits.Goals as goal

-- the same of what a call gave
within : (text : List ℕ) (value : Option ℕ) → length text ≡ 2 → value ≡ number_of text → IfSome value (λ n. n ≤ 99)
within text None len is = tt
within text (Some n) len is = two_digits text n len (sym is)

pub returns-clause-within : goal.returns-clause-within
returns-clause-within c = within c.args.text.now c.number_of.result c.if-text-ne2.false c.number_of.ensures
