-- The records of a text, as csv reads them.
use Rattle.std.specs.Prelude.{ℕ, ◌≡◌, ◌+◌, Bool, true, false, List, ◌∷◌, length, Option, Some, None}
use Rattle.std.specs.Borrow.{Bor}
use Rattle.csv.specs.Machine.{Read}
use Rattle.csv.specs.Reading.{Ready, default_config, is_bom, records_from, source_of}
use Rattle.csv.specs.declared.parser.State.{State}
use Rattle.csv.specs.declared.reader.Reader.{Reader}
use Rattle.csv.specs.declared.reader.Trim.TheVariants as trim

-- whether a text begins with a byte order mark: the bytes EF BB BF
abbrev pub starts_with_mark : List ℕ → Bool
starts_with_mark (a ∷ b ∷ c ∷ rest) = is_bom a b c
starts_with_mark bytes = false

-- a reader of plain records has this text left, and stands in this state between two records
pub record HasLeft (reader : Reader (Bor (List ℕ))) (state : State) (text : List ℕ) : Type 0 where
  pub config : reader.config ≡ default_config
  pub trim : reader.trim ≡ trim.None
  pub flexible : reader.flexible ≡ true
  pub ready : Ready reader
  pub source : source_of (λ s. Some s.now) reader ≡ Some text
  pub at : reader.state ≡ state

-- the next record was taken, if there is one
abbrev pub TakesNext : Option Read → Bool → List (List ℕ) → Reader (Bor (List ℕ)) → Type 0
TakesNext None found fields reader = found ≡ false
TakesNext (Some next) found fields reader = (found ≡ true) × (fields ≡ next.0) × HasLeft reader next.1 next.2

-- the records that a text has from a state on: there are at most as many as bytes
abbrev pub records_left : State → List ℕ → List (List (List ℕ))
records_left state text = records_from default_config (length text + 1) state text
