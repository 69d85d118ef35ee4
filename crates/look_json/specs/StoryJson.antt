-- The story of a run as JSON: a line for each happening, for each order that never fired, and for how the run ends.
use Rattle.std.specs.Prelude.{ℕ, Bool, true, false, List, [], ◌++◌, Option, None, Some, codes, count_by}
use Rattle.std.specs.List.{flat_map}
use Rattle.serde_json.specs.Data.{Data, member, no_members, number, object, string, unsigned}
use Rattle.tuple_edge.specs.declared.node.NodeId.{NodeId}
use Rattle.pair_machine.specs.declared.order.Order.{Order}
use Rattle.run_end.specs.declared.ends.RunEnd.{RunEnd}
use Rattle.run_end.specs.declared.ends.RunEnd.TheVariants.{Done, Lost, NotDone}
use Rattle.run_journal.specs.Text.{node_name}
use Rattle.run_story.specs.StoryText.{has_fired, is_back_asked, is_takeover, order_word, was_told}
use Rattle.run_watch.specs.declared.happening.Told.{Told}
use Rattle.look_json.specs.Happenings.{pair_name, told_line}
use Rattle.look_json.specs.Lines.{line_of, word_or_null}

-- what never happened to a replica, which was due at so many items
abbrev pub never_data : (what : List ℕ) → NodeId → (at : ℕ) → Data
never_data what n at = object (member (codes "at") (number (unsigned at)) (member (codes "never") (string what) (member (codes "node") (string (node_name n)) no_members)))

-- the line of an order that never fired
abbrev pub unfired_line : Order → (fired : Bool) → List ℕ
unfired_line o true = []
unfired_line o false = line_of (never_data (order_word o.kill) o.node o.at)

-- the line of an order whose replica was never asked back
abbrev pub unasked_line : NodeId → (back : Option ℕ) → (asked : Bool) → List ℕ
unasked_line n None asked = []
unasked_line n (Some back) true = []
unasked_line n (Some back) false = line_of (never_data (codes "back") n back)

-- the lines of what of an order never happened
abbrev pub order_lines : List Told → Order → List ℕ
order_lines told o = unfired_line o (has_fired o told) ++ unasked_line o.node o.back (was_told (is_back_asked o.node) told)

-- how a run ends, in a word
abbrev pub end_word : RunEnd → List ℕ
end_word Done = codes "done"
end_word (Lost stage part) = codes "lost"
end_word NotDone = codes "not done"

-- the pair that is lost
abbrev pub lost_pair : RunEnd → Option (List ℕ)
lost_pair Done = None
lost_pair (Lost stage part) = Some (pair_name stage part)
lost_pair NotDone = None

-- how a run ends, as a value, and which pair is lost
abbrev pub how_data : RunEnd → Data
how_data end = object (member (codes "how") (string (end_word end)) (member (codes "pair") (word_or_null (lost_pair end)) no_members))

-- rows, as a value: all that the plan gives, and those that egress has emitted
abbrev pub rows_data : (rows all : ℕ) → Data
rows_data rows all = object (member (codes "all") (number (unsigned all)) (member (codes "emitted") (number (unsigned rows)) no_members))

-- how a run stands and ends, as a value
abbrev pub end_data : (takeovers rows : ℕ) → RunEnd → (all : ℕ) → Data
end_data takeovers rows end all = object (
    member (codes "end") (how_data end)
    (member (codes "rows") (rows_data rows all)
    (member (codes "takeovers") (number (unsigned takeovers)) no_members)))

-- the whole text
abbrev pub story_json : List Told → List Order → (rows : ℕ) → RunEnd → (all : ℕ) → List ℕ
story_json told orders rows end all =
    flat_map told_line told ++ flat_map (order_lines told) orders ++ line_of (end_data (count_by is_takeover told) rows end all)
