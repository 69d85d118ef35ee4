-- The text of a rehearsal: what became of each order, how each takeover and each catch-up went, and how the run ended.
use Rattle.std.specs.Prelude.{ℕ, Bool, true, false, List, [], ◌++◌, ◌-◌, Option, None, Some, codes, count_by, length, nat_le}
use Rattle.std.specs.Fmt.{decimal}
use Rattle.std.specs.List.{flat_map}
use Rattle.tuple_edge.specs.Node.{partner_node}
use Rattle.tuple_edge.specs.declared.node.NodeId.{NodeId}
use Rattle.text_words.specs.Lines.{Word}
use Rattle.pair_machine.specs.declared.order.Order.{Order}
use Rattle.run_journal.specs.Text.{node_name}
use Rattle.run_end.specs.Words.{end_words}
use Rattle.run_end.specs.declared.ends.RunEnd.{RunEnd}
use Rattle.run_watch.specs.declared.happening.Happening.{Happening}
use Rattle.run_watch.specs.declared.happening.Happening.TheVariants as happening
use Rattle.run_watch.specs.declared.happening.Told.{Told}
use Rattle.run_rehearsal.specs.Fates.{asked_back_at, catches_up, first_told, is_fall, is_obeyed, leads_in, obeyed_at}

-- ---- orders

-- where an order was obeyed: at which event, and how many trades were in and rows out by then
abbrev pub place_text : Told → List ℕ
place_text t = codes "obeyed at event " ++ decimal t.place ++ codes ", in " ++ decimal t.made ++ codes " out " ++ decimal t.emitted

-- whether a count was reached
abbrev pub reached_word : Bool → Word
reached_word true = codes "was reached"
reached_word false = codes "was not reached"

-- that a replica for whose items an order waits didn't run at the end
abbrev pub absent_text : NodeId → List ℕ
absent_text n = codes "never obeyed: " ++ node_name n ++ codes " did not run at the end"

-- why an order was never obeyed that waits for so many items of a replica: how many that had merged at the end, where it ran
abbrev pub never_text : NodeId → (least : ℕ) → (merged : Option ℕ) → List ℕ
never_text n least None = absent_text n
never_text n least (Some count) =
    codes "never obeyed, and the count " ++ reached_word (nat_le least count) ++ codes ": " ++ node_name n ++ codes " had merged " ++ decimal count ++ codes " items at the end"

-- what became of one that waits so
abbrev pub fate_text : NodeId → (least : ℕ) → (merged : Option ℕ) → Option Told → List ℕ
fate_text n least merged None = never_text n least merged
fate_text n least merged (Some t) = place_text t

-- whether an order is to fail or to stop
abbrev pub order_word : (kill : Bool) → Word
order_word true = codes "kill"
order_word false = codes "stop"

-- what is asked of a replica, and from which count on
abbrev pub asked_text : Word → NodeId → (least : ℕ) → List ℕ
asked_text word n least = word ++ codes " " ++ node_name n ++ codes " at " ++ decimal least ++ codes ": "

-- the line of an order's failure or stop, which waits for items of its own replica
abbrev pub order_line : List Told → (NodeId → Option ℕ) → Order → List ℕ
order_line told merged o = asked_text (order_word o.kill) o.node o.at ++ fate_text o.node o.at (merged o.node) (obeyed_at told o) ++ codes "\n"

-- the line of an order's way back, where it says one, which waits for items of the replica's partner
abbrev pub back_line : List Told → (merged : Option ℕ) → Order → (back : Option ℕ) → List ℕ
back_line told merged o None = []
back_line told merged o (Some back) = asked_text (codes "back") o.node back ++ fate_text (partner_node o.node) back merged (asked_back_at told o) ++ codes "\n"

-- the lines of an order
abbrev pub order_text : List Told → (NodeId → Option ℕ) → Order → List ℕ
order_text told merged o = order_line told merged o ++ back_line told (merged (partner_node o.node)) o o.back

-- ---- takeovers and catch-ups

-- so many events and rows
abbrev pub many_text : (events rows : ℕ) → List ℕ
many_text events rows = decimal events ++ codes " events and " ++ decimal rows ++ codes " rows"

-- how many events and rows lie between two things that are told
abbrev pub span_text : (start end : Told) → List ℕ
span_text start end = many_text (end.place - start.place) (end.emitted - start.emitted)

-- when one that was named leads, and how long that took since its partner fell
abbrev pub heard_text : (fell leads : Option Told) → List ℕ
heard_text fell None = codes ", and has not heard of it"
heard_text None (Some l) = codes ", leads from event " ++ decimal l.place
heard_text (Some f) (Some l) = codes ", leads from event " ++ decimal l.place ++ codes ", " ++ span_text f l ++ codes " after the fall"

-- who takes over from whom, and where it was named
abbrev pub takes_text : NodeId → (place : ℕ) → List ℕ
takes_text n place = node_name n ++ codes " takes over from " ++ node_name (partner_node n) ++ codes ": named at event " ++ decimal place

-- the line of a takeover, of one that is named leader there
abbrev pub takeover_line : List Told → Told → NodeId → (term : ℕ) → List ℕ
takeover_line told t n term =
    takes_text n t.place ++ heard_text (first_told (is_fall (partner_node n)) told) (first_told (leads_in n term) told) ++ codes "\n"

-- so much was moved and held
abbrev pub moved_text : (entries held : ℕ) → List ℕ
moved_text entries held = codes ", " ++ decimal entries ++ codes " entries moved, " ++ decimal held ++ codes " items held"

-- how much was moved and held of a catch-up
abbrev pub amount_text : Happening → List ℕ
amount_text (happening.CaughtUp n inc entries held) = moved_text entries held
amount_text h = []

-- when one that began has caught up, and how long that took
abbrev pub caught_text : (began : Told) → (caught : Option Told) → List ℕ
caught_text b None = codes ", and has not caught up"
caught_text b (Some c) = codes ", done at event " ++ decimal c.place ++ codes ", " ++ span_text b c ++ codes " later" ++ amount_text c.happening

-- who catches up, and where it began
abbrev pub begins_text : NodeId → (place : ℕ) → List ℕ
begins_text n place = node_name n ++ codes " catches up: begun at event " ++ decimal place

-- the line of a catch-up, of one that begins there
abbrev pub catch_up_line : List Told → Told → NodeId → (inc : ℕ) → List ℕ
catch_up_line told t n inc = begins_text n t.place ++ caught_text t (first_told (catches_up n inc) told) ++ codes "\n"

-- the line of a takeover or a catch-up, of what is told where it begins
abbrev pub follow_line : List Told → Told → Happening → List ℕ
follow_line told t (happening.Named n term after how) = takeover_line told t n term
follow_line told t (happening.Begun n inc) = catch_up_line told t n inc
follow_line told t h = []

-- the same of one thing that is told
abbrev pub follow_text : List Told → Told → List ℕ
follow_text told t = follow_line told t t.happening

-- ---- the end

-- how many orders were obeyed, and how many rows were emitted
abbrev pub counts_text : (obeyed orders rows : ℕ) → List ℕ
counts_text obeyed orders rows = codes "obeyed " ++ decimal obeyed ++ codes " of " ++ decimal orders ++ codes " orders\n" ++ codes "rows " ++ decimal rows ++ codes "\n"

-- the same, and how the run ended, where the plan gives so many rows in all
abbrev pub end_text : (obeyed orders rows : ℕ) → RunEnd → (all : ℕ) → List ℕ
end_text obeyed orders rows end all = counts_text obeyed orders rows ++ end_words end rows all ++ codes "\n"

-- The whole text, of what was told of a run under these orders, of how many items each replica had merged at its end, of the number of its rows and
-- of how it ended, where the plan gives so many rows in all.
abbrev pub rehearsal_text : List Told → List Order → (merged : NodeId → Option ℕ) → (rows : ℕ) → RunEnd → (all : ℕ) → List ℕ
rehearsal_text told orders merged rows end all =
    codes "rehearsal 1\n" ++ flat_map (order_text told merged) orders ++ flat_map (follow_text told) told
    ++ end_text (count_by (is_obeyed told) orders) (length orders) rows end all
