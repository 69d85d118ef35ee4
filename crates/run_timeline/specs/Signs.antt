-- The lanes, the rank, the letter, the name and the weight of a happening.
use Rattle.std.specs.Prelude.{ℕ, Bool, false, ◌==◌, ◌&&◌, codes}
use Rattle.tuple_edge.specs.declared.node.NodeId.{NodeId}
use Rattle.tuple_edge.specs.declared.node.NodeId.TheVariants as node
use Rattle.pair_machine.specs.Numbers.{is_node}
use Rattle.text_words.specs.Lines.{Word}
use Rattle.lane_chart.specs.declared.chart.Weight.{Weight}
use Rattle.lane_chart.specs.declared.chart.Weight.TheVariants as weight
use Rattle.run_watch.specs.declared.happening.Happening.{Happening}
use Rattle.run_watch.specs.declared.happening.Happening.TheVariants as happening

-- whether a node is a replica of a pair
abbrev pub is_of : (stage part : ℕ) → NodeId → Bool
is_of stage part node.Ingress = false
is_of stage part (node.Replica at of which) = (at == stage) && (of == part)
is_of stage part (node.Control at of) = false
is_of stage part node.Egress = false

-- whether a happening stands in the lane of a node: one of a pair stands in those of both its replicas
abbrev pub stands_in : NodeId → Happening → Bool
stands_in lane (happening.Failed n inc) = is_node n lane
stands_in lane (happening.Stopped n inc) = is_node n lane
stands_in lane (happening.AskedStop n inc) = is_node n lane
stands_in lane (happening.AskedBack n) = is_node n lane
stands_in lane (happening.Named n term after how) = is_node n lane
stands_in lane (happening.Leads n term) = is_node n lane
stands_in lane (happening.Recalled n inc) = is_node n lane
stands_in lane (happening.Begun n inc) = is_node n lane
stands_in lane (happening.Moved n target entries) = is_node n lane
stands_in lane (happening.CaughtUp n inc entries held) = is_node n lane
stands_in lane (happening.Lost stage part) = is_of stage part lane
stands_in lane (happening.Regained stage part) = is_of stage part lane

-- how heavy a kind of happening is, 0 the heaviest: its place in the key (RanksArePlaces)
abbrev pub rank_of : Happening → ℕ
rank_of (happening.Failed n inc) = 1
rank_of (happening.Stopped n inc) = 6
rank_of (happening.AskedStop n inc) = 5
rank_of (happening.AskedBack n) = 7
rank_of (happening.Named n term after how) = 2
rank_of (happening.Leads n term) = 3
rank_of (happening.Recalled n inc) = 8
rank_of (happening.Begun n inc) = 9
rank_of (happening.Moved n target entries) = 10
rank_of (happening.CaughtUp n inc entries held) = 11
rank_of (happening.Lost stage part) = 0
rank_of (happening.Regained stage part) = 4

-- the letter of a kind of happening
abbrev pub letter_of : Happening → Word
letter_of (happening.Failed n inc) = codes "X"
letter_of (happening.Stopped n inc) = codes "S"
letter_of (happening.AskedStop n inc) = codes "A"
letter_of (happening.AskedBack n) = codes "B"
letter_of (happening.Named n term after how) = codes "N"
letter_of (happening.Leads n term) = codes "L"
letter_of (happening.Recalled n inc) = codes "R"
letter_of (happening.Begun n inc) = codes "G"
letter_of (happening.Moved n target entries) = codes "M"
letter_of (happening.CaughtUp n inc entries held) = codes "C"
letter_of (happening.Lost stage part) = codes "!"
letter_of (happening.Regained stage part) = codes "O"

-- how much a kind of happening weighs
abbrev pub weight_of : Happening → Weight
weight_of (happening.Failed n inc) = weight.Alarm
weight_of (happening.Stopped n inc) = weight.Note
weight_of (happening.AskedStop n inc) = weight.Note
weight_of (happening.AskedBack n) = weight.Note
weight_of (happening.Named n term after how) = weight.Turn
weight_of (happening.Leads n term) = weight.Turn
weight_of (happening.Recalled n inc) = weight.Note
weight_of (happening.Begun n inc) = weight.Note
weight_of (happening.Moved n target entries) = weight.Note
weight_of (happening.CaughtUp n inc entries held) = weight.Note
weight_of (happening.Lost stage part) = weight.Alarm
weight_of (happening.Regained stage part) = weight.Turn

-- the name of a kind of happening
abbrev pub name_of : Happening → Word
name_of (happening.Failed n inc) = codes "failed"
name_of (happening.Stopped n inc) = codes "stopped"
name_of (happening.AskedStop n inc) = codes "asked to stop"
name_of (happening.AskedBack n) = codes "asked back"
name_of (happening.Named n term after how) = codes "named leader"
name_of (happening.Leads n term) = codes "takes the lead"
name_of (happening.Recalled n inc) = codes "recalled"
name_of (happening.Begun n inc) = codes "gathers state"
name_of (happening.Moved n target entries) = codes "gave its state"
name_of (happening.CaughtUp n inc entries held) = codes "caught up"
name_of (happening.Lost stage part) = codes "pair lost"
name_of (happening.Regained stage part) = codes "pair serves"
