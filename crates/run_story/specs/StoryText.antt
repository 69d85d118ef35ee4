-- The text of what was told of a run.
use Rattle.std.specs.Prelude.{ℕ, Bool, true, false, List, [], ◌∷◌, ◌++◌, Option, None, Some, codes, count_by, if◌then◌else◌}
use Rattle.std.specs.Fmt.{decimal}
use Rattle.std.specs.List.{flat_map, list_any}
use Rattle.tuple_edge.specs.declared.node.NodeId.{NodeId}
use Rattle.text_words.specs.Lines.{Word}
use Rattle.pair_machine.specs.Numbers.{is_node}
use Rattle.pair_machine.specs.declared.order.Order.{Order}
use Rattle.run_journal.specs.Text.{node_name}
use Rattle.run_end.specs.Words.{end_words}
use Rattle.run_end.specs.declared.ends.RunEnd.{RunEnd}
use Rattle.run_watch.specs.declared.happening.Fell.{Fell}
use Rattle.run_watch.specs.declared.happening.Fell.TheVariants as fell
use Rattle.run_watch.specs.declared.happening.Happening.{Happening}
use Rattle.run_watch.specs.declared.happening.Happening.TheVariants as happening
use Rattle.run_watch.specs.declared.happening.Told.{Told}

-- ---- what happened

-- something of a node in an incarnation
abbrev pub incarnation_text : NodeId → Word → ℕ → List ℕ
incarnation_text n words inc = node_name n ++ codes " " ++ words ++ codes " in incarnation " ++ decimal inc

-- something of a pair
abbrev pub pair_text : (stage part : ℕ) → Word → List ℕ
pair_text stage part words = codes "pair " ++ decimal stage ++ codes "." ++ decimal part ++ codes " " ++ words

-- how long ago a partner fell, and how; of one that never did nothing is said
abbrev pub fell_text : Fell → (after : ℕ) → List ℕ
fell_text fell.Never after = []
fell_text fell.Failed after = codes ", " ++ decimal after ++ codes " events after its partner failed"
fell_text fell.AskedStop after = codes ", " ++ decimal after ++ codes " events after its partner asked to be stopped"

-- who is named leader
abbrev pub named_text : NodeId → (term after : ℕ) → Fell → List ℕ
named_text n term after how = node_name n ++ codes " is named leader in term " ++ decimal term ++ fell_text how after

-- whose state was sent, and how much it is
abbrev pub moved_text : NodeId → (target entries : ℕ) → List ℕ
moved_text n target entries = node_name n ++ codes " has sent its state to its partner in incarnation " ++ decimal target ++ codes ", " ++ decimal entries ++ codes " entries"

-- who has caught up, and by how much
abbrev pub caught_up_text : NodeId → (inc entries held : ℕ) → List ℕ
caught_up_text n inc entries held =
    incarnation_text n (codes "has caught up") inc ++ codes ", " ++ decimal entries ++ codes " entries, " ++ decimal held ++ codes " items held meanwhile"

-- a happening in words
abbrev pub happening_text : Happening → List ℕ
happening_text (happening.Failed n inc) = incarnation_text n (codes "failed") inc
happening_text (happening.Stopped n inc) = incarnation_text n (codes "stopped") inc
happening_text (happening.AskedStop n inc) = incarnation_text n (codes "asks to be stopped") inc
happening_text (happening.AskedBack n) = node_name n ++ codes " is asked back by its partner"
happening_text (happening.Named n term after how) = named_text n term after how
happening_text (happening.Leads n term) = node_name n ++ codes " leads in term " ++ decimal term
happening_text (happening.Recalled n inc) = incarnation_text n (codes "is to begin") inc
happening_text (happening.Begun n inc) = incarnation_text n (codes "begins") inc
happening_text (happening.Moved n target entries) = moved_text n target entries
happening_text (happening.CaughtUp n inc entries held) = caught_up_text n inc entries held
happening_text (happening.Lost stage part) = pair_text stage part (codes "is lost")
happening_text (happening.Regained stage part) = pair_text stage part (codes "serves again")

-- where it happened: the place and the line of the event, and how far ingress and egress were
abbrev pub place_text : Told → List ℕ
place_text t = codes "event " ++ decimal t.place ++ codes " line " ++ decimal t.line ++ codes " in " ++ decimal t.made ++ codes " out " ++ decimal t.emitted ++ codes ": "

-- a happening's line
abbrev pub told_line : Told → List ℕ
told_line t = place_text t ++ happening_text t.happening ++ codes "\n"

-- ---- orders that never fired

-- a node failed here
abbrev pub is_failure : NodeId → Happening → Bool
is_failure m (happening.Failed n inc) = is_node n m
is_failure m h = false

-- it asked to be stopped
abbrev pub is_stop_asked : NodeId → Happening → Bool
is_stop_asked m (happening.AskedStop n inc) = is_node n m
is_stop_asked m h = false

-- it was asked back
abbrev pub is_back_asked : NodeId → Happening → Bool
is_back_asked m (happening.AskedBack n) = is_node n m
is_back_asked m h = false

-- whether something like this was told
abbrev pub was_told : (Happening → Bool) → List Told → Bool
was_told is told = list_any (λ (t : Told). is t.happening) told

-- whether what an order asks of its replica happened
abbrev pub has_fired : Order → List Told → Bool
has_fired o told = if o.kill then was_told (is_failure o.node) told else was_told (is_stop_asked o.node) told

-- whether an order is to fail or to stop
abbrev pub order_word : (kill : Bool) → Word
order_word true = codes "kill"
order_word false = codes "stop"

-- an order that never fired
abbrev pub unfired_text : Order → (fired : Bool) → List ℕ
unfired_text o true = []
unfired_text o false = codes "never: " ++ order_word o.kill ++ codes " " ++ node_name o.node ++ codes " at " ++ decimal o.at ++ codes "\n"

-- a replica that was never asked back
abbrev pub back_text : NodeId → (back : ℕ) → List ℕ
back_text n back = codes "never: back " ++ node_name n ++ codes " at " ++ decimal back ++ codes "\n"

-- an order whose replica was never asked back
abbrev pub unasked_text : NodeId → (back : Option ℕ) → (asked : Bool) → List ℕ
unasked_text n None asked = []
unasked_text n (Some back) true = []
unasked_text n (Some back) false = back_text n back

-- what of an order never happened
abbrev pub order_text : List Told → Order → List ℕ
order_text told o = unfired_text o (has_fired o told) ++ unasked_text o.node o.back (was_told (is_back_asked o.node) told)

-- the orders of a script; without one there are none
abbrev pub orders_in : Option (List Order) → List Order
orders_in None = []
orders_in (Some orders) = orders

-- ---- the end

-- a leader was named
abbrev pub is_named : Happening → Bool
is_named (happening.Named n term after how) = true
is_named h = false

-- so it was at what is told here
abbrev pub is_takeover : Told → Bool
is_takeover t = is_named t.happening

-- how the run stands: takeovers, rows that egress has emitted, and how it ends, where the plan gives so many rows in all
abbrev pub end_text : (takeovers rows : ℕ) → RunEnd → (all : ℕ) → List ℕ
end_text takeovers rows end all = codes "takeovers " ++ decimal takeovers ++ codes "\nrows " ++ decimal rows ++ codes "\nend: " ++ end_words end rows all ++ codes "\n"

-- the whole text
abbrev pub story_text : List Told → List Order → (rows : ℕ) → RunEnd → (all : ℕ) → List ℕ
story_text told orders rows end all =
    codes "story 2\n" ++ flat_map told_line told ++ flat_map (order_text told) orders ++ end_text (count_by is_takeover told) rows end all
