-- The places of a line: where a word stands in the grammar of plans and scripts, which words may stand there, and where the next one stands.
use Rattle.std.specs.Prelude.{ℕ, Bool, false, not, ◌+◌, ◌&&◌, ◌||◌, ◌==◌, nat_lt, List, ◌++◌, Option, Some, None, is_some, codes, unsigned_abs, if◌then◌else◌}
use Rattle.std.specs.Fmt.{decimal}
use Rattle.std.specs.Str.{bytes_eq}
use Rattle.op_spec.specs.Limits.{max_join_rows, max_last_rows, max_window_seconds}
use Rattle.tuple_edge.specs.Sum.{big}
use Rattle.text_words.specs.Lines.{Word}
use Rattle.plan_reader.specs.Grammar.{by_named, column_named, compare_named}
use Rattle.plan_reader.specs.Limits.{max_hold, max_mark, max_parts, max_stages, max_version, min_hold}
use Rattle.failure_script.specs.Limits.{max_items}
use Rattle.failure_script.specs.Names.{replica_named}
use Rattle.input_faults.specs.Numbers.{is_limit, is_number, is_number_from}
use Rattle.input_faults.specs.declared.place.Before.{Before}
use Rattle.input_faults.specs.declared.place.Keyed.{Keyed}
use Rattle.input_faults.specs.declared.place.Keyed.TheVariants as keyed
use Rattle.input_faults.specs.declared.place.Place.{Place}
use Rattle.input_faults.specs.declared.place.Place.TheVariants as place

-- ---- what may follow what was said

-- whether a setting may stand that stood before or not: at most once, and before the first stage
abbrev pub may_set : Bool → Before → Bool
may_set stood before = not stood && (before.stages == 0)

-- whether a further stage may stand: there is room for it, and none before it joins
abbrev pub may_stage : Before → Bool
may_stage before = nat_lt before.stages max_stages && not before.joins

-- ---- numbers

-- the limits of a place where a number stands
abbrev pub limits_of : Place → Option (ℕ × ℕ)
limits_of place.Version = Some (1, max_version)
limits_of place.Mark = Some (1, max_mark)
limits_of place.Hold = Some (min_hold, max_hold)
limits_of place.PartCount = Some (1, max_parts)
limits_of place.Rows = Some (1, max_last_rows)
limits_of place.Width = Some (1, unsigned_abs max_window_seconds)
limits_of place.Limit = Some (0, big)
limits_of place.JoinWidth = Some (1, unsigned_abs max_window_seconds)
limits_of place.JoinRows = Some (1, max_join_rows)
limits_of place.Items = Some (1, max_items)
limits_of other = None

-- ---- names

-- whether a word begins a line of a plan behind what was said
abbrev pub is_statement : Before → Word → Bool
is_statement before word =
    if bytes_eq word (codes "mark") then may_set before.mark before
    else if bytes_eq word (codes "hold") then may_set before.hold before
    else bytes_eq word (codes "stage") && may_stage before

-- whether a word names an operator
abbrev pub is_operator : Word → Bool
is_operator word = bytes_eq word (codes "keep") || bytes_eq word (codes "total") || bytes_eq word (codes "last")
    || bytes_eq word (codes "window") || bytes_eq word (codes "crossing") || bytes_eq word (codes "join")

-- whether a word may stand at a place that has no limits
abbrev pub is_listed : Place → Word → Bool
is_listed place.Flux word = bytes_eq word (codes "flux")
is_listed (place.Statement before) word = is_statement before word
is_listed (place.StageNumber number) word = is_number number word
is_listed place.Parts word = bytes_eq word (codes "parts")
is_listed place.By word = bytes_eq word (codes "by")
is_listed place.Routing word = is_some (column_named word)
is_listed place.Operator word = is_operator word
is_listed (place.Key operator) word = is_some (by_named word)
is_listed place.TestColumn word = is_some (column_named word)
is_listed place.Comparison word = is_some (compare_named word)
is_listed place.TestNumber word = is_limit word
is_listed place.Event word = bytes_eq word (codes "stop") || bytes_eq word (codes "kill")
is_listed place.Replica word = is_some (replica_named word)
is_listed place.At word = bytes_eq word (codes "at")
is_listed place.Back word = bytes_eq word (codes "back")
is_listed place.Return word = bytes_eq word (codes "never") || is_number_from 1 max_items word
is_listed other word = false

-- whether a word is within the limits of its place, or listed where there are none
abbrev pub is_taken_by : Option (ℕ × ℕ) → Bool → Word → Bool
is_taken_by None listed word = listed
is_taken_by (Some limits) listed word = is_number_from limits.0 limits.1 word

-- whether a word may stand at a place
abbrev pub takes : Place → Word → Bool
takes at word = is_taken_by (limits_of at) (is_listed at word) word

-- ---- the next place

-- the place behind a key, by the operator
abbrev pub behind_key : Keyed → Place
behind_key keyed.Total = place.End
behind_key keyed.Last = place.Rows
behind_key keyed.Window = place.Width
behind_key keyed.Crossing = place.Limit
behind_key keyed.Join = place.JoinWidth

-- the place behind the name of an operator
abbrev pub behind_operator : Word → Place
behind_operator word =
    if bytes_eq word (codes "keep") then place.TestColumn
    else if bytes_eq word (codes "total") then place.Key keyed.Total
    else if bytes_eq word (codes "last") then place.Key keyed.Last
    else if bytes_eq word (codes "window") then place.Key keyed.Window
    else if bytes_eq word (codes "crossing") then place.Key keyed.Crossing
    else place.Key keyed.Join

-- the place behind the first word of a line
abbrev pub behind_statement : Before → Word → Place
behind_statement before word =
    if bytes_eq word (codes "mark") then place.Mark
    else if bytes_eq word (codes "hold") then place.Hold
    else place.StageNumber (before.stages + 1)

-- the place behind a word that may stand at its place
abbrev pub behind : Place → Word → Place
behind place.Flux word = place.Version
behind (place.Statement before) word = behind_statement before word
behind (place.StageNumber number) word = place.Parts
behind place.Parts word = place.PartCount
behind place.PartCount word = place.By
behind place.By word = place.Routing
behind place.Routing word = place.Operator
behind place.Operator word = behind_operator word
behind (place.Key operator) word = behind_key operator
behind place.JoinWidth word = place.JoinRows
behind place.JoinRows word = place.TestColumn
behind place.TestColumn word = place.Comparison
behind place.Comparison word = place.TestNumber
behind place.Event word = place.Replica
behind place.Replica word = place.At
behind place.At word = place.Items
behind place.Items word = place.Back
behind place.Back word = place.Return
behind other word = place.End

-- ---- what is said of a place

-- the first words that may stand behind what was said
abbrev pub statement_names : Before → List ℕ
statement_names before =
    if not (may_stage before) then (if before.joins then codes "nothing more, since a join is the last stage" else codes "nothing more, since there are 6 stages")
    else if not (before.stages == 0) then codes "stage"
    else if before.mark then (if before.hold then codes "stage" else codes "hold, stage")
    else if before.hold then codes "mark, stage"
    else codes "mark, hold, stage"

-- the words of a place that has neither limits nor a number of its own
abbrev pub words_at : Place → List ℕ
words_at place.Flux = codes "flux"
words_at (place.Statement before) = statement_names before
words_at place.Parts = codes "parts"
words_at place.By = codes "by"
words_at place.Routing = codes "time, account, symbol, qty, value"
words_at place.Operator = codes "keep, total, last, window, crossing, join"
words_at (place.Key operator) = codes "account, symbol, both"
words_at place.TestColumn = codes "time, account, symbol, qty, value"
words_at place.Comparison = codes "<, <=, =, !=, >=, >"
words_at place.TestNumber = codes "a number from -9000000000000000000 to 9000000000000000000"
words_at place.Event = codes "stop, kill"
words_at place.Replica = codes "a replica of the plan, as 1.0.a"
words_at place.OtherReplica = codes "a replica that no line before names"
words_at place.At = codes "at"
words_at place.Back = codes "back"
words_at place.Return = codes "never, or a number from 1 to 1000000"
words_at other = codes "nothing more"

-- a number within limits, in words, where there are limits; else these words
abbrev pub limits_text : Option (ℕ × ℕ) → List ℕ → List ℕ
limits_text None names = names
limits_text (Some limits) names = codes "a number from " ++ decimal limits.0 ++ codes " to " ++ decimal limits.1

-- what may stand at a place, in words
abbrev pub place_text : Place → List ℕ
place_text (place.StageNumber number) = decimal number ++ codes ", the next stage's number"
place_text at = limits_text (limits_of at) (words_at at)
