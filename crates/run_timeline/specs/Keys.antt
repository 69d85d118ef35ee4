-- What the cells and the letters of a timeline mean.
use Rattle.std.specs.Prelude.{◌≡◌, List, [], ◌∷◌, ◌++◌, Some, codes, slice_get}
use Rattle.lane_chart.specs.ChartView.{CellKeyView, LetterKeyView, Word}
use Rattle.lane_chart.specs.declared.chart.Cell.{Cell}
use Rattle.lane_chart.specs.declared.chart.Cell.TheVariants as cell
use Rattle.lane_chart.specs.declared.chart.Weight.{Weight}
use Rattle.lane_chart.specs.declared.chart.Weight.TheVariants as weight
use Rattle.run_timeline.specs.Signs.{letter_of, name_of, rank_of, weight_of}
use Rattle.run_watch.specs.declared.happening.Happening.{Happening}

-- a kind of cell, and its meaning
abbrev pub cell_key : Cell → Word → CellKeyView
cell_key kind name = record { cell = kind; name = name }

-- a letter, and its meaning
abbrev pub letter_key : Weight → Word → Word → LetterKeyView
letter_key weight letter name = record { weight = weight; letter = letter; name = name }

-- what the cells mean
abbrev pub cell_keys : List CellKeyView
cell_keys =
    cell_key cell.Strong (codes "leads") ∷ cell_key cell.Plain (codes "runs") ∷ cell_key cell.Weak (codes "gathers") ∷ cell_key cell.Absent (codes "gone")
    ∷ cell_key cell.Active (codes "makes, emits") ∷ cell_key cell.Idle (codes "rests") ∷ []

-- what the letters of losses and of turns mean, the heaviest first
abbrev pub turn_keys : List LetterKeyView
turn_keys =
    letter_key weight.Alarm (codes "!") (codes "pair lost") ∷ letter_key weight.Alarm (codes "X") (codes "failed")
    ∷ letter_key weight.Turn (codes "N") (codes "named leader") ∷ letter_key weight.Turn (codes "L") (codes "takes the lead")
    ∷ letter_key weight.Turn (codes "O") (codes "pair serves") ∷ []

-- what the letters of stops mean
abbrev pub stop_keys : List LetterKeyView
stop_keys =
    letter_key weight.Note (codes "A") (codes "asked to stop") ∷ letter_key weight.Note (codes "S") (codes "stopped")
    ∷ letter_key weight.Note (codes "B") (codes "asked back") ∷ []

-- what the letters of a catch-up mean
abbrev pub catch_up_keys : List LetterKeyView
catch_up_keys =
    letter_key weight.Note (codes "R") (codes "recalled") ∷ letter_key weight.Note (codes "G") (codes "gathers state")
    ∷ letter_key weight.Note (codes "M") (codes "gave its state") ∷ letter_key weight.Note (codes "C") (codes "caught up") ∷ []

-- what the letters mean, the heaviest first
abbrev pub letter_keys : List LetterKeyView
letter_keys = turn_keys ++ stop_keys ++ catch_up_keys

-- the key has at the place that is a happening's rank its letter, with its weight and its name
abbrev pub RanksArePlaces : Type 0
RanksArePlaces = (h : Happening) → slice_get letter_keys (rank_of h) ≡ Some (letter_key (weight_of h) (letter_of h) (name_of h))
