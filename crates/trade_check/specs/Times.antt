-- Trades whose times fall, and of which of them a plan is warned.
use Rattle.std.specs.Prelude.{ℕ, ℤ, pos, ◌+◌, ◌-ℤ◌, ◌&&◌, ◌||◌, ◌==◌, nat_lt, int_le, int_lt, Bool, List, [], ◌∷◌, ◌++◌, if◌then◌else◌}
use Rattle.std.specs.List.{filter, list_any}
use Rattle.tuple_edge.specs.declared.row.Row.{Row}
use Rattle.plan_reader.specs.PlanView.{PlanView}
use Rattle.plan_reader.specs.declared.stage.Stage.{Stage}
use Rattle.plan_check.specs.Order.{is_window}
use Rattle.trade_check.specs.declared.warning.Fall.{Fall}

-- ---- the trades of a file

-- a fall, at the record of this number
abbrev pub fall : ℕ → ℤ → ℤ → Fall
fall number from to = record { number = number; from = from; to = to }

-- a fall where the second time is the earlier one
abbrev pub fall_at : ℕ → ℤ → ℤ → List Fall
fall_at number from to = if int_lt to from then fall number from to ∷ [] else []

-- the falls of trades that follow one of this time; the first of them is the record of this number
abbrev pub falls_behind : ℕ → ℤ → List Row → List Fall
falls_behind number time [] = []
falls_behind number time (r ∷ rows) = fall_at number time r.time ++ falls_behind (number + 1) r.time rows

-- the falls of the trades of a file: the first trade is record 2
abbrev pub falls : List Row → List Fall
falls [] = []
falls (r ∷ rows) = falls_behind 3 r.time rows

-- ---- midnight

-- the seconds of a day
abbrev pub day : ℤ
day = pos 86400

-- the seconds of half a day
abbrev pub half_day : ℤ
half_day = pos 43200

-- Whether times of day go over midnight at a fall: from the second half of a day by at least half a day. Seconds that run on over midnight don't fall.
abbrev pub is_over_midnight : Fall → Bool
is_over_midnight f = int_le half_day f.from && (int_lt f.from day && int_le f.to (f.from -ℤ half_day))

-- ---- plans

-- whether one of the stages is a `window`
abbrev pub has_windows : List Stage → Bool
has_windows stages = list_any (λ s. is_window s.op) stages

-- whether the order of times says what a plan gives: it has windows, or rows come in by their times
abbrev pub goes_by_times : PlanView → Bool
goes_by_times plan = nat_lt 1 plan.version || has_windows plan.stages

-- Whether a fall is warned of. Where rows come in by their times a file may have any order; but behind midnight times of day count as those of the day before.
abbrev pub is_told : PlanView → Fall → Bool
is_told plan f = if is_over_midnight f then goes_by_times plan else (plan.version == 1) && has_windows plan.stages

-- the falls of trades that a plan is warned of
abbrev pub told_falls : PlanView → List Row → List Fall
told_falls plan rows = filter (is_told plan) (falls rows)
