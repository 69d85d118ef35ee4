-- A chart as JSON: a line for its title, for each lane, for each mark behind its lane, and for the number at each column's end.
use Rattle.std.specs.Prelude.{ℕ, List, ◌++◌, codes}
use Rattle.std.specs.List.{flat_map}
use Rattle.serde_json.specs.Data.{Data, member, no_members, number, object, string, unsigned}
use Rattle.lane_chart.specs.ChartView.{ChartView, LaneView, MarkView, Word}
use Rattle.lane_chart.specs.Places.{placed}
use Rattle.lane_chart.specs.Text.{glyph}
use Rattle.look_json.specs.Lines.{line_of}

-- a title, as a value
abbrev pub title_data : Word → Data
title_data title = object (member (codes "title") (string title) no_members)

-- a lane, as a value: its cells by the letters of the text, one a column
abbrev pub lane_data : LaneView → Data
lane_data lane = object (member (codes "cells") (string (flat_map glyph lane.cells)) (member (codes "lane") (string lane.name) no_members))

-- a mark in the lane of this name, as a value
abbrev pub mark_data : (lane : Word) → MarkView → Data
mark_data lane mark = object (
    member (codes "column") (number (unsigned mark.column))
    (member (codes "lane") (string lane)
    (member (codes "letter") (string mark.letter)
    (member (codes "title") (string mark.title) no_members))))

-- the line of a mark in the lane of this name
abbrev pub mark_line : (lane : Word) → MarkView → List ℕ
mark_line lane mark = line_of (mark_data lane mark)

-- the lines of a lane: its own, and those of its marks
abbrev pub lane_lines : LaneView → List ℕ
lane_lines lane = line_of (lane_data lane) ++ flat_map (mark_line lane.name) lane.marks

-- the number at a column's end, as a value
abbrev pub step_data : (counted : Word) → (column number : ℕ) → Data
step_data counted column n = object (
    member (codes "column") (number (unsigned column)) (member (codes "counted") (string counted) (member (codes "number") (number (unsigned n)) no_members)))

-- the line of the number at a column's end
abbrev pub step_line : (counted : Word) → (column number : ℕ) → List ℕ
step_line counted column n = line_of (step_data counted column n)

-- the whole text
abbrev pub chart_json : ChartView → List ℕ
chart_json c = line_of (title_data c.title) ++ flat_map lane_lines c.lanes ++ placed (step_line c.counted) 0 c.steps
