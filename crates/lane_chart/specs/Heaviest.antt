-- Of several marks at one place the heaviest is seen.
use Rattle.std.specs.Prelude.{ℕ, ◌==◌, List, [], ◌∷◌, filter, if◌then◌else◌, nat_lt}
use Rattle.lane_chart.specs.ChartView.{MarkView}

-- the heavier of two marks, that of the lower rank; of equals the first
abbrev pub heavier : (held next : MarkView) → MarkView
heavier held next = if nat_lt next.rank held.rank then next else held

-- the other one
abbrev pub lighter : (held next : MarkView) → MarkView
lighter held next = if nat_lt next.rank held.rank then held else next

-- the heaviest of a mark and those behind it, of equals the first
abbrev pub heaviest : MarkView → List MarkView → MarkView
heaviest held [] = held
heaviest held (mark ∷ marks) = heaviest (heavier held mark) marks

-- the marks of a column
abbrev pub in_column : ℕ → List MarkView → List MarkView
in_column column marks = filter (λ mark. mark.column == column) marks
