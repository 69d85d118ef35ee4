-- What `why` is asked, and what the files say of which it is asked.
use Rattle.std.specs.Prelude.{ℕ, List, [], map}
use Rattle.csv.specs.Reading.{strip_bom}
use Rattle.tuple_edge.specs.Input.{Input}
use Rattle.tuple_edge.specs.declared.row.Row.{Row}
use Rattle.plan_reader.specs.PlanView.{PlanView}
use Rattle.trade_text.specs.Inputs.{inputs_of}
use Rattle.row_origin.specs.Origins.{StageOrigin, origins}
use Rattle.origin_text.specs.Files.{FilesView, FileView}
use Rattle.origin_text.specs.Text.{Asked}
use Rattle.why_command.specs.Kept.{KeptCash, KeptTrades}
use Rattle.why_command.specs.declared.why.Wanted.{Wanted}

-- no movements
abbrev pub no_cash : KeptCash
no_cash = record { rows = []; bytes = [] }

-- a file of this name with these bytes and rows
abbrev pub file : List ℕ → List ℕ → List Row → FileView
file name bytes rows = record { name = name; text = strip_bom bytes; rows = rows }

-- the files of trades and of movements under their names, and the inputs of a plan of this version
abbrev pub files : ℕ → (trades_name : List ℕ) → KeptTrades → (cash_name : List ℕ) → KeptCash → FilesView
files version trades_name kept cash_name cash = record {
  trades = file trades_name kept.bytes kept.trades.rows;
  movements = file cash_name cash.bytes cash.rows;
  inputs = inputs_of version kept.trades.rows cash.rows;
}

-- what is asked about these files
abbrev pub question : Wanted → PlanView → (trades_name : List ℕ) → KeptTrades → (cash_name : List ℕ) → KeptCash → Asked
question wanted plan trades_name kept cash_name cash =
    record { stages = plan.stages; files = files plan.version trades_name kept cash_name cash; symbols = kept.trades.symbols; all = wanted.all; check = wanted.check }

-- how the row at a place of the output came about, where these inputs come in
abbrev pub origins_for : (place : ℕ) → Asked → List StageOrigin
origins_for place a = origins place a.stages (map (λ (i : Input). i.row) a.files.inputs) []
