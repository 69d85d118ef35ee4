-- How much room lanes have on a page, so that a page of many lanes fits a screen. Lengths are in pixels.
use Rattle.std.specs.Prelude.{ℕ, if◌then◌else◌, nat_lt}
use Rattle.lane_chart.specs.declared.layout.Layout.{Layout}
use Rattle.lane_chart.specs.declared.layout.Layout.TheVariants.{Close, Roomy}

-- the lanes of a page have room where there are 24 at most; more of them stand close
abbrev pub layout_of : (lanes : ℕ) → Layout
layout_of lanes = if nat_lt 24 lanes then Close else Roomy

-- how far apart lanes are
abbrev pub lane_pitch : Layout → ℕ
lane_pitch Roomy = 38
lane_pitch Close = 10

-- how much room a mark takes
abbrev pub mark_room : Layout → ℕ
mark_room Roomy = 15
mark_room Close = 11
