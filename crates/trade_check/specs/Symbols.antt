-- The symbols that a plan keeps by their numbers.
use Rattle.std.specs.Prelude.{ℕ, ℤ, pos, ◌+◌, ◌&&◌, int_lt, nat_lt, not, Bool, true, false, List, [], ◌∷◌, ◌++◌, Option, None, Some, codes, fold, length, if◌then◌else◌}
use Rattle.std.specs.Fmt.{decimal, signed_decimal}
use Rattle.std.specs.Int.{int_max}
use Rattle.std.specs.List.{prefix_len}
use Rattle.std.specs.Ordering.{int_eq}
use Rattle.tuple_edge.specs.declared.row.Column.{Column}
use Rattle.tuple_edge.specs.declared.row.Column.TheVariants as column
use Rattle.tuple_edge.specs.declared.row.Row.{Row}
use Rattle.op_spec.specs.declared.spec.Compare.{Compare}
use Rattle.op_spec.specs.declared.spec.Compare.TheVariants as compare
use Rattle.op_spec.specs.declared.spec.OpSpec.{OpSpec}
use Rattle.op_spec.specs.declared.spec.OpSpec.TheVariants as op
use Rattle.plan_reader.specs.declared.stage.Stage.{Stage}
use Rattle.trade_text.specs.Symbols.{symbol_at}
use Rattle.input_faults.specs.Shown.{shown}
use Rattle.plan_check.specs.Stages.{numbered}
use Rattle.plan_check.specs.Words.{stage_text}
use Rattle.plan_check.specs.declared.warning.Numbered.{Numbered}
use Rattle.trade_check.specs.Given.{GivenView, line_of}

-- whether a column is the symbol
abbrev pub is_symbol : Column → Bool
is_symbol column.Symbol = true
is_symbol other = false

-- whether a comparison asks for the same number
abbrev pub is_equal : Compare → Bool
is_equal compare.Equal = true
is_equal other = false

-- the number of the one symbol whose rows an operator passes on: that of a `keep symbol = N`; 0 is no symbol
abbrev pub kept_symbol : OpSpec → Option ℤ
kept_symbol (op.Keep column compare limit) = if is_symbol column && (is_equal compare && int_lt (pos 0) limit) then Some limit else None
kept_symbol other = None

-- how many trades stand before the first one of a symbol
abbrev pub before_symbol : ℤ → List Row → ℕ
before_symbol number rows = prefix_len (λ r. not (int_eq r.symbol number)) rows

-- whether a trade has the symbol of this number
abbrev pub has_symbol : List Row → ℤ → Bool
has_symbol rows number = nat_lt (before_symbol number rows) (length rows)

-- how many symbols trades have: they are numbered from 1, so it is the greatest number
abbrev pub symbol_count : List Row → ℤ
symbol_count rows = fold (λ most r. int_max most r.symbol) (pos 0) rows

-- where in a file of this name a symbol first stands
abbrev pub place_text : List ℕ → (line : ℕ) → List ℕ
place_text name line = codes ", which first stands in line " ++ decimal line ++ codes " of " ++ name ++ codes ".\n"

-- which symbol a stage keeps, and where it first stands
abbrev pub symbol_text : GivenView → Numbered → ℤ → List ℕ
symbol_text g s number =
    codes "Symbol " ++ signed_decimal number ++ codes " of " ++ stage_text s ++ codes ", is " ++ shown (symbol_at g.trades.symbols number)
    ++ place_text g.name (line_of g (before_symbol number g.trades.rows + 2))

-- the same, where the trades have it
abbrev pub kept_sentence : GivenView → Numbered → Option ℤ → List ℕ
kept_sentence g s None = []
kept_sentence g s (Some number) = if has_symbol g.trades.rows number then symbol_text g s number else []

-- the sentences of stages, numbered from here on
abbrev pub kept_sentences : GivenView → ℕ → List Stage → List ℕ
kept_sentences g number [] = []
kept_sentences g number (s ∷ stages) = kept_sentence g (numbered number s) (kept_symbol s.op) ++ kept_sentences g (number + 1) stages

-- the same, where trades are given
abbrev pub symbol_sentences : Option GivenView → List Stage → List ℕ
symbol_sentences None stages = []
symbol_sentences (Some g) stages = kept_sentences g 1 stages
