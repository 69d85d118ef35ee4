-- What the table of places has to do with the grammar of plans and of scripts, and columns with words.
use Rattle.std.specs.Prelude.{ℕ, Bool, true, false, ◌≡◌, ◌&&◌, List, [], ◌∷◌, drop, length, is_some, is_ok}
use Rattle.std.specs.List.{list_any}
use Rattle.text_words.specs.Lines.{Word, is_blank, words_of}
use Rattle.plan_reader.specs.Plan.{Said, statement_at, version_at}
use Rattle.plan_reader.specs.PlanView.{PlanView, is_joining}
use Rattle.failure_script.specs.Grammar.{order_at}
use Rattle.input_faults.specs.Places.{behind, takes}
use Rattle.input_faults.specs.Spots.{start_of}
use Rattle.input_faults.specs.declared.place.Before.{Before}
use Rattle.input_faults.specs.declared.place.Place.{Place}
use Rattle.input_faults.specs.declared.place.Place.TheVariants as place

-- Where a column says that a word begins, there stand the words that are left of the line from it on, with no blank before them.
pub record ColumnsAreOfWords : Type 0 where
  pub words : (line : List ℕ) (before : ℕ) → words_of (drop (start_of before line) line) ≡ drop before (words_of line)
  pub begins : (line : List ℕ) (before b : ℕ) (rest : List ℕ) → drop (start_of before line) line ≡ b ∷ rest → is_blank b ≡ false

-- whether a line may end at a place
abbrev pub is_end : Place → Bool
is_end place.End = true
is_end other = false

-- whether words from a place on make a whole line: each may stand where it stands, and the line may end behind the last
unfoldable pub fits : Place → List Word → Bool
fits at [] = is_end at
fits at (word ∷ words) = takes at word && fits (behind at word) words

-- what decides which lines may follow, of what lines have said
abbrev pub before_of : Said → Before
before_of said = record { mark = is_some said.mark; hold = is_some said.hold; stages = length said.stages; joins = list_any is_joining said.stages }

-- The reading of a line accepts its words exactly where they fit the places; and an order that is accepted fits them.
pub record PlacesAreTheGrammar : Type 0 where
  pub first : (words : List Word) → is_ok (version_at words) ≡ fits place.Flux words
  pub later : (said : Said) (words : List Word) → is_ok (statement_at said words) ≡ fits (place.Statement (before_of said)) words
  pub orders : (plan : PlanView) (words : List Word) → is_ok (order_at plan words) ≡ true → fits place.Event words ≡ true

-- Each word that may stand at a place leads on: some further words make a whole line of it.
abbrev pub EachWordLeadsOn : Type 0
EachWordLeadsOn = (at : Place) (word : Word) → takes at word ≡ true → (words : List Word) × (fits (behind at word) words ≡ true)
