use Rattle.std.proofs.Common.{◌≡◌, take}
use Rattle.std.specs.List.{flat_map}
use Rattle.std.specs.Prelude.{string_bytes}
use Rattle.lane_chart.specs.Text.{glyph}
use Rattle.look_json.proofs.chart.glyphs.Given as goal

abbrev pub invariant-loop-cell : goal.invariant-loop-cell
invariant-loop-cell l = string_bytes l.text ≡ flat_map glyph (take l.cell-index l.cells)
