-- The text of a state: a line for what each node has, and for each of its edges; then how many packets each link has, and the rows that
-- egress has emitted.
use Rattle.std.specs.Prelude.{ℕ, zero, suc, ◌+◌, ◌==◌, Bool, true, false, List, [], ◌∷◌, ◌++◌, Option, None, Some, codes, if◌then◌else◌, length}
use Rattle.std.specs.Fmt.{decimal}
use Rattle.std.specs.List.{flat_map, join_by}
use Rattle.tuple_edge.specs.declared.node.LinkId.{LinkId}
use Rattle.tuple_edge.specs.declared.node.NodeId.{NodeId}
use Rattle.tuple_edge.specs.declared.node.NodeId.TheVariants as node
use Rattle.tuple_edge.specs.declared.node.Which.{Which}
use Rattle.tuple_edge.specs.declared.node.Which.TheVariants.{A, B}
use Rattle.tuple_edge.specs.declared.row.Row.{Row}
use Rattle.tuple_edge.specs.declared.status.Status.{Status}
use Rattle.tuple_edge.specs.declared.status.Status.TheVariants as status
use Rattle.text_words.specs.Lines.{Word}
use Rattle.pair_machine.specs.Boundary.{egress_partition, ingress_source, source_made}
use Rattle.pair_machine.specs.Drain.{pairs_up_to}
use Rattle.pair_machine.specs.Flow.{Flow}
use Rattle.pair_machine.specs.Links.{link}
use Rattle.pair_machine.specs.Machine.{State, controller_in, egress_in, ingress_in, replica_in}
use Rattle.pair_machine.specs.Numbers.{Consumer, Controller, Gathering, Gone, Ingress, Move, MoveNumbers, Partition, Producer, Replica, Running, Watched, control_at, copy_of, replica_at}
use Rattle.pair_machine.specs.Producers.{copies}
use Rattle.pair_machine.specs.Replicas.{made_by, size}
use Rattle.plan_nodes.specs.NodeOrder.{nodes_in}
use Rattle.run_journal.specs.Text.{letter_of, link_name, node_name}
use Rattle.trade_text.specs.Text.{row_line}

-- the texts of the numbers below n, one after another
abbrev pub lines_below : ℕ → (ℕ → List ℕ) → List ℕ
lines_below zero line = []
lines_below (suc n) line = lines_below n line ++ line n

-- a truth value as a word: 1 for true, and 0 for false
abbrev pub flag_word : Bool → Word
flag_word true = codes "1"
flag_word false = codes "0"

-- ---- edges

-- an in-edge: the number of the last item that was taken, and what of it was told
abbrev pub in_edge_line : Word → Consumer → ℕ → List ℕ
in_edge_line name x q = name ++ codes " < " ++ decimal q ++ codes " mark=" ++ decimal (x.marks q) ++ codes " told=" ++ decimal (x.told q) ++ codes "\n"

-- the replicas at the other end of an edge, by how many there are
abbrev pub ends_of : ℕ → List Which
ends_of copies = if copies == 1 then A ∷ [] else A ∷ B ∷ []

-- the number to send next to each replica at the other end
abbrev pub cursors_text : (Which → ℕ) → List Which → List ℕ
cursors_text next [] = []
cursors_text next (w ∷ ws) = codes " " ++ letter_of w ++ codes "=" ++ decimal (next w) ++ cursors_text next ws

-- an out-edge: up to which number it is acknowledged, how many items were made, and the cursors of the replicas at its other end
abbrev pub out_edge_line : Word → List Which → (made : ℕ → ℕ) → Producer → ℕ → List ℕ
out_edge_line name ends made x t =
    name ++ codes " > " ++ decimal t ++ codes " low=" ++ decimal (x.lows t) ++ codes " made=" ++ decimal (made t) ++ cursors_text (λ w. x.cursors t (copy_of w)) ends ++ codes "\n"

-- all edges out of a partition
abbrev pub out_edges_text : Flow → Word → Partition → (made : ℕ → ℕ) → Producer → List ℕ
out_edges_text f name p made x = lines_below (f.targets p.stage) (out_edge_line name (ends_of (copies f p)) made x)

-- ---- ingress and egress

-- the name of a source of ingress: where there are two, each has its number
abbrev pub source_name : (sources q : ℕ) → Word
source_name sources q = if sources == 1 then codes "in" else codes "in " ++ decimal q

-- the line of ingress: how many inputs, or the end, were made into items
abbrev pub makes_line : ℕ → List ℕ
makes_line makes = codes "in makes=" ++ decimal makes ++ codes "\n"

-- how many inputs, or the end, were made into items; the edges of each source
abbrev pub ingress_text : Flow → Ingress → List ℕ
ingress_text f x = makes_line x.makes ++ lines_below (f.sources 1) (λ q. out_edges_text f (source_name (f.sources 1) q) (ingress_source q) (source_made f x q) (x.producers q))

-- the line of egress: how many items it merged, and whether these are all
abbrev pub out_line : (count : ℕ) → (done : Bool) → List ℕ
out_line count done = codes "out count=" ++ decimal count ++ codes " done=" ++ flag_word done ++ codes "\n"

-- how many items egress merged, and whether these are all; its in-edges
abbrev pub egress_text : Flow → Consumer → List ℕ
egress_text f x = out_line x.count (x.count == f.total (egress_partition f)) ++ lines_below (f.sources (f.stages + 1)) (in_edge_line (codes "out") x)

-- ---- a controller

-- the letter of the replica that leads, or `none` where none does
abbrev pub leader_word : Option Which → Word
leader_word None = codes "none"
leader_word (Some w) = letter_of w

-- the word for what a controller holds a replica to be
abbrev pub status_word : Status → Word
status_word status.Up = codes "up"
status_word status.Catching = codes "catching"
status_word status.Down = codes "down"

-- a controller's term, and the replica that leads in it
abbrev pub term_line : Word → (term : ℕ) → Option Which → List ℕ
term_line name term leader = name ++ codes " term=" ++ decimal term ++ codes " lead=" ++ leader_word leader ++ codes "\n"

-- what it knows of one replica
abbrev pub watched_line : Word → Which → Watched → List ℕ
watched_line name w h =
    name ++ codes " " ++ letter_of w ++ codes "=" ++ status_word h.status ++ codes " inc=" ++ decimal h.inc ++ codes " stop=" ++ flag_word h.stop
    ++ codes " back=" ++ flag_word h.back ++ codes "\n"

-- an in-edge of its pair: up to which number it is acknowledged, and what each replica reported
abbrev pub reports_line : Word → Controller → ℕ → List ℕ
reports_line name c q =
    name ++ codes " < " ++ decimal q ++ codes " acked=" ++ decimal (c.acked q) ++ codes " a=" ++ decimal ((c.watched A).reports q)
    ++ codes " b=" ++ decimal ((c.watched B).reports q) ++ codes "\n"

-- a controller: its term and its leader, what it knows of each replica, and the in-edges of its pair
abbrev pub controller_text : Word → (edges : ℕ) → Controller → List ℕ
controller_text name edges c =
    term_line name c.term c.leader ++ watched_line name A (c.watched A) ++ watched_line name B (c.watched B) ++ lines_below edges (reports_line name c)

-- ---- a replica

-- a replica that is gone, and the incarnation in which it went
abbrev pub gone_line : Word → (inc : ℕ) → List ℕ
gone_line name inc = name ++ codes " gone inc=" ++ decimal inc ++ codes "\n"

-- a newcomer: its incarnation, and how many entries of its move it took
abbrev pub gathering_line : Word → (inc taken : ℕ) → List ℕ
gathering_line name inc taken = name ++ codes " gathering inc=" ++ decimal inc ++ codes " taken=" ++ decimal taken ++ codes "\n"

-- the numbers of the items that a newcomer holds
abbrev pub held_text : List ℕ → List ℕ
held_text [] = codes "-"
held_text (n ∷ ns) = join_by decimal (codes ",") (n ∷ ns)

-- an in-edge of a newcomer, and the numbers of the items that it holds of it
abbrev pub held_line : Word → (ℕ → List ℕ) → ℕ → List ℕ
held_line name held q = name ++ codes " < " ++ decimal q ++ codes " held=" ++ held_text (held q) ++ codes "\n"

-- a replica that runs: its incarnation, its term and whether it leads, whom it served, and how many items it merged
abbrev pub running_line : Word → (inc term : ℕ) → (leads : Bool) → (served count : ℕ) → List ℕ
running_line name inc term leads served count =
    name ++ codes " running inc=" ++ decimal inc ++ codes " term=" ++ decimal term ++ codes " leads=" ++ flag_word leads ++ codes " served=" ++ decimal served
    ++ codes " count=" ++ decimal count ++ codes "\n"

-- a move under way: for which incarnation of the partner, and how many of its chunks were sent; its end is one of them
abbrev pub move_line : Word → (target sent chunks : ℕ) → List ℕ
move_line name target sent chunks = name ++ codes " move target=" ++ decimal target ++ codes " sent=" ++ decimal sent ++ codes " of=" ++ decimal chunks ++ codes "\n"

-- the line of a move, if there is one: its chunks are its entries and its end
abbrev pub move_text : Word → (size : MoveNumbers → ℕ) → Option Move → List ℕ
move_text name size None = []
move_text name size (Some move) = move_line name move.target move.sent (size move.numbers + 1)

-- a replica: the line of its mode, and with it its edges and its move where it runs, or what it holds where it gathers
abbrev pub replica_text : Flow → Word → Partition → Replica → List ℕ
replica_text f name p (Gone inc) = gone_line name inc
replica_text f name p (Gathering g) = gathering_line name g.inc g.taken ++ lines_below (f.sources p.stage) (held_line name g.held)
replica_text f name p (Running x) =
    running_line name x.inc x.producer.term x.producer.leads x.served x.consumer.count
    ++ lines_below (f.sources p.stage) (in_edge_line name x.consumer)
    ++ out_edges_text f name p (made_by f p x.consumer.count) x.producer
    ++ move_text name (size f p) x.move

-- ---- a pair

-- its controller, then replica A, then replica B
abbrev pub pair_text : Flow → State → Partition → List ℕ
pair_text f s p =
    controller_text (node_name (control_at p)) (f.sources p.stage) (controller_in (s.nodes (control_at p)))
    ++ replica_text f (node_name (replica_at p A)) p (replica_in (s.nodes (replica_at p A)))
    ++ replica_text f (node_name (replica_at p B)) p (replica_in (s.nodes (replica_at p B)))

-- ---- links

-- how many packets a link has, where it has any
abbrev pub sent_line : LinkId → (packets : ℕ) → List ℕ
sent_line l zero = []
sent_line l (suc n) = codes "sent " ++ link_name l ++ codes " " ++ decimal (suc n) ++ codes "\n"

-- all links out of a node, by their receivers
abbrev pub sent_by_text : Flow → State → NodeId → List ℕ
sent_by_text f s from = flat_map (λ to. sent_line (link from to) (length (s.sent (link from to)))) (nodes_in f)

-- ---- the whole

-- the lines of all nodes and links
abbrev pub state_lines : Flow → State → List ℕ
state_lines f s =
    codes "state 1\n"
    ++ ingress_text f (ingress_in (s.nodes node.Ingress))
    ++ flat_map (pair_text f s) (pairs_up_to f f.stages)
    ++ egress_text f (egress_in (s.nodes node.Egress))
    ++ flat_map (sent_by_text f s) (nodes_in f)

-- the line of a row that egress has emitted
abbrev pub emitted_line : List (List ℕ) → Row → List ℕ
emitted_line symbols row = codes "row " ++ row_line symbols row

-- The text of a state of the machine, and of the rows that were emitted there.
unfoldable pub state_text : Flow → State → (symbols : List (List ℕ)) → List Row → List ℕ
state_text f s symbols rows = state_lines f s ++ flat_map (emitted_line symbols) rows
