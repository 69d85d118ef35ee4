-- What is warned of about trades under a plan.
use Rattle.std.specs.Prelude.{ℕ, ℤ, ◌+◌, nat_lt, List, [], ◌∷◌, ◌++◌, Option, None, Some, flat_map, length, take, if◌then◌else◌}
use Rattle.plan_reader.specs.PlanView.{PlanView}
use Rattle.plan_reader.specs.declared.stage.Stage.{Stage}
use Rattle.plan_check.specs.Stages.{numbered}
use Rattle.plan_check.specs.declared.warning.Numbered.{Numbered}
use Rattle.trade_check.specs.Given.{GivenView, line_of}
use Rattle.trade_check.specs.Symbols.{has_symbol, kept_symbol, symbol_count}
use Rattle.trade_check.specs.Times.{is_over_midnight, told_falls}
use Rattle.trade_check.specs.declared.warning.Fall.{Fall}
use Rattle.trade_check.specs.declared.warning.TradeWarning.{TradeWarning}
use Rattle.trade_check.specs.declared.warning.TradeWarning.TheVariants as warning

-- ---- times

-- of so many falls each is told at most
abbrev pub max_falls : ℕ
max_falls = 100

-- a time that falls, in this line
abbrev pub fall_warning : ℕ → Fall → TradeWarning
fall_warning line f = if is_over_midnight f then warning.Midnight line f.from f.to else warning.Falls line f.from f.to

-- that so many times fall, where they are too many to be told
abbrev pub more_warnings : ℕ → List TradeWarning
more_warnings count = if nat_lt max_falls count then warning.MoreFalls count ∷ [] else []

-- these falls: the first of them one by one
abbrev pub fall_warnings : GivenView → List Fall → List TradeWarning
fall_warnings g found = flat_map (λ f. fall_warning (line_of g f.number) f ∷ []) (take max_falls found) ++ more_warnings (length found)

-- ---- symbols

-- a stage that keeps the rows of a symbol that the trades don't have
abbrev pub few_warning : GivenView → Numbered → Option ℤ → List TradeWarning
few_warning g s None = []
few_warning g s (Some number) = if has_symbol g.trades.rows number then [] else warning.FewSymbols s (symbol_count g.trades.rows) ∷ []

-- the same of stages, numbered from here on
abbrev pub few_warnings : GivenView → ℕ → List Stage → List TradeWarning
few_warnings g number [] = []
few_warnings g number (s ∷ stages) = few_warning g (numbered number s) (kept_symbol s.op) ++ few_warnings g (number + 1) stages

-- ---- all of them

-- the warnings of trades under a plan
abbrev pub given_warnings : PlanView → GivenView → List TradeWarning
given_warnings plan g = fall_warnings g (told_falls plan g.trades.rows) ++ few_warnings g 1 plan.stages

-- the same, where trades are given
abbrev pub trade_warnings : PlanView → Option GivenView → List TradeWarning
trade_warnings plan None = []
trade_warnings plan (Some g) = given_warnings plan g
