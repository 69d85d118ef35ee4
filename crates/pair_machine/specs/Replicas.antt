-- What a replica does at each event, in numbers. One that runs takes, merges, sends and reports, and gives its state to its partner
-- in numbered chunks when it is told to; one that gathers takes the chunks and holds the tuples that come meanwhile; one that is gone
-- does nothing until it begins anew.
use Rattle.std.specs.Prelude.{ℕ, zero, suc, Bool, true, false, List, [], ◌∷◌, Option, None, Some, Result, Ok, Err, ◌+◌, ◌-◌, ◌==◌, ◌&&◌, if◌then◌else◌, nat_lt, nat_le, length}
use Rattle.tuple_edge.specs.declared.node.NodeId.{NodeId}
use Rattle.tuple_edge.specs.declared.node.NodeId.TheVariants as node
use Rattle.tuple_edge.specs.declared.node.Which.{Which}
use Rattle.tuple_edge.specs.declared.node.Which.TheVariants.{A}
use Rattle.pair_machine.specs.Numbers.{MoveNumbers, Move, RunningNumbers, Replica, Gone, Running, Gathering, Partition, control_at, copy_of, in_edge, other, out_edge, replica_at}
use Rattle.pair_machine.specs.Messages.{Message, Tuple, Ack, Report, Lead, Serve, Begin, Chunk, ChunkEnd, Caught, Want, Down, Stop, AskStop, AskBack, Envelope, envelope, Act, Takes, Works, Makes, Dies, AsksStop, AsksBack, Pulls, Refusal, NothingDue, NotRunning}
use Rattle.pair_machine.specs.Flow.{Flow}
use Rattle.pair_machine.specs.Consumers.{is_ready, merged_one, offered, pulled, telling, untold}
use Rattle.pair_machine.specs.Producers.{Due, acked_to, due, leading, sends_due, sent_on, to_producers, wanted}

-- the incarnation that a replica is in
abbrev pub inc_of : Replica → ℕ
inc_of (Gone i) = i
inc_of (Running x) = x.inc
inc_of (Gathering g) = g.inc

-- ---- moves

-- the sum of what f gives for the numbers below n
abbrev pub sum_below : ℕ → (ℕ → ℕ) → ℕ
sum_below zero f = 0
sum_below (suc n) f = sum_below n f + f n

-- how many entries a move has: the marks, the count, what waits on each in-edge, the lows, what is kept for each out-edge, and what
-- the operator keeps
abbrev pub size : Flow → Partition → MoveNumbers → ℕ
size f p m =
    f.sources p.stage + 1 + sum_below (f.sources p.stage) (λ q. m.marks q - f.used p q m.count)
    + f.targets p.stage + sum_below (f.targets p.stage) (λ t. f.made (out_edge p t) m.count - m.lows t)
    + f.entries p m.count

-- the numbers that a move begins with
abbrev pub numbers_of : RunningNumbers → MoveNumbers
numbers_of x = record { marks = x.consumer.marks; count = x.consumer.count; lows = x.producer.lows }

-- a move for that incarnation of the partner begins now, in place of any other
abbrev pub begun : ℕ → RunningNumbers → RunningNumbers
begun target x = record x { served = target; move = Some (record { target = target; numbers = numbers_of x; sent = 0 }) }

-- ---- what a newcomer holds

-- the number stands in the list, whatever the list's order
abbrev pub contains : ℕ → List ℕ → Bool
contains n [] = false
contains n (x ∷ xs) = if n == x then true else contains n xs

-- a number put among rising numbers, once
abbrev pub insert_in : ℕ → List ℕ → List ℕ
insert_in n [] = n ∷ []
insert_in n (x ∷ xs) = if n == x then x ∷ xs else if nat_lt n x then n ∷ x ∷ xs else x ∷ insert_in n xs

-- how far the numbers held follow a mark without a gap, looking at most n numbers on
abbrev pub run_up : ℕ → ℕ → List ℕ → ℕ
run_up zero mark held = mark
run_up (suc n) mark held = if contains (mark + 1) held then run_up n (mark + 1) held else mark

-- the mark of in-edge q after the fold-in
abbrev pub folded : MoveNumbers → (ℕ → List ℕ) → ℕ → ℕ
folded m held q = run_up (length (held q)) (m.marks q) (held q)

-- a newcomer that has caught up: it has the numbers of the move and what it held on from there; it leads nothing and told nothing
abbrev pub caught_up : ℕ → MoveNumbers → (ℕ → List ℕ) → RunningNumbers
caught_up i m held = record {
  inc = i;
  consumer = record { marks = folded m held; told = λ q. 0; count = m.count };
  producer = record { lows = m.lows; cursors = λ t c. m.lows t + 1; term = 0; leads = false };
  served = 0;
  move = None;
}

-- ---- taking a message

-- item n of in-edge q comes: one that runs takes it only where it is the next one, one that gathers holds it, whatever its number
abbrev pub takes_tuple : ℕ → ℕ → Replica → Replica
takes_tuple q n (Gone i) = Gone i
takes_tuple q n (Running x) = Running (record x { consumer = offered x.consumer q n })
takes_tuple q n (Gathering g) = Gathering (record g { held = λ j. if j == q then insert_in n (g.held q) else g.held j })

-- out-edge t is acknowledged up to k; one that gathers ignores it, for its lows will come with the move
abbrev pub takes_ack : ℕ → ℕ → Replica → Replica
takes_ack t k (Gone i) = Gone i
takes_ack t k (Running x) = Running (record x { producer = acked_to x.producer t k })
takes_ack t k (Gathering g) = Gathering g

-- a replica that runs is named leader, where its incarnation i is meant; one that gathers can't lead
abbrev pub takes_lead : ℕ → ℕ → Replica → Replica
takes_lead i term (Gone j) = Gone j
takes_lead i term (Running x) = if i == x.inc then Running (record x { producer = leading x.producer term }) else Running x
takes_lead i term (Gathering g) = Gathering g

-- a replica that runs is to serve its partner's incarnation: it serves none twice, and none below one that it served
abbrev pub takes_serve : ℕ → ℕ → Replica → Replica
takes_serve i target (Gone j) = Gone j
takes_serve i target (Running x) = if (i == x.inc) && nat_lt x.served target then Running (begun target x) else Running x
takes_serve i target (Gathering g) = Gathering g

-- incarnation i is to stop, whether it runs or gathers; a late message to an earlier incarnation stops nothing
abbrev pub takes_stop : ℕ → Replica → Replica
takes_stop i r = if i == inc_of r then Gone (inc_of r) else r

-- incarnation i is to begin: what an earlier one had is lost, even if it runs, and none begins twice
abbrev pub takes_begin : ℕ → Replica → Replica
takes_begin i r = if nat_lt (inc_of r) i then Gathering (record { inc = i; taken = 0; moved = None; held = λ q. [] }) else r

-- the chunk that has the mark of an in-edge makes the newcomer want the tuples of that edge above the mark
abbrev pub chunk_wants : Flow → Partition → ℕ → MoveNumbers → List Envelope
chunk_wants f p n m = if nat_le n (f.sources p.stage) then to_producers p (n - 1) (Want (in_edge p (n - 1)) (m.marks (n - 1) + 1)) else []

-- chunks are taken in their order
abbrev pub takes_chunk : Flow → Partition → ℕ → ℕ → MoveNumbers → Replica → (Replica × List Envelope)
takes_chunk f p i n m (Gone j) = (Gone j, [])
takes_chunk f p i n m (Running x) = (Running x, [])
takes_chunk f p i n m (Gathering g) =
    if (i == g.inc) && (n == g.taken + 1)
    then (Gathering (record g { taken = n; moved = Some m }), chunk_wants f p n m)
    else (Gathering g, [])

-- a newcomer has caught up where it took as many chunks as there are
abbrev pub takes_end : Partition → ℕ → ℕ → MoveNumbers → Replica → (Replica × List Envelope)
takes_end p i count m (Gone j) = (Gone j, [])
takes_end p i count m (Running x) = (Running x, [])
takes_end p i count m (Gathering g) =
    if (i == g.inc) && (count == g.taken)
    then (Running (caught_up i m g.held), envelope (control_at p) (Caught i) ∷ [])
    else (Gathering g, [])

-- which replica of its pair a node is; A stands for each node that is no replica
abbrev pub which_of : NodeId → Which
which_of node.Ingress = A
which_of (node.Replica s q w) = w
which_of (node.Control s q) = A
which_of node.Egress = A

-- copy c of target t wants items again from number n on; only a leader that runs goes back for it
abbrev pub takes_want : ℕ → ℕ → ℕ → Replica → Replica
takes_want t c n (Gone j) = Gone j
takes_want t c n (Running x) = Running (record x { producer = wanted x.producer t c n })
takes_want t c n (Gathering g) = Gathering g

-- a message that no line names has no effect
abbrev pub replica_takes : Flow → Partition → NodeId → Message → Replica → (Replica × List Envelope)
replica_takes f p from (Tuple e n) r = (takes_tuple e.from n r, [])
replica_takes f p from (Ack e k) r = (takes_ack e.to k r, [])
replica_takes f p from (Lead i term) r = (takes_lead i term r, [])
replica_takes f p from (Serve i target) r = (takes_serve i target r, [])
replica_takes f p from (Begin i) r = (takes_begin i r, [])
replica_takes f p from (Stop i) r = (takes_stop i r, [])
replica_takes f p from (Chunk i n m) r = takes_chunk f p i n m r
replica_takes f p from (ChunkEnd i count m) r = takes_end p i count m r
replica_takes f p from (Want e n) r = (takes_want e.to (copy_of (which_of from)) n r, [])
replica_takes f p from m r = (r, [])

-- ---- work: the first that is due of a merge, a part of a move, an item to send, and a mark to report

-- how many items of out-edge t were made of the first c merged items, or makes
abbrev pub made_by : Flow → Partition → ℕ → ℕ → ℕ
made_by f p c t = f.made (out_edge p t) c

-- the next chunk of a move, or its end, goes to the partner
abbrev pub moves_on : Flow → Partition → NodeId → RunningNumbers → Move → (Replica × List Envelope)
moves_on f p partner x mv =
    if nat_lt mv.sent (size f p mv.numbers)
    then (Running (record x { move = Some (record mv { sent = mv.sent + 1 }) }), envelope partner (Chunk mv.target (mv.sent + 1) mv.numbers) ∷ [])
    else (Running (record x { move = None }), envelope partner (ChunkEnd mv.target (size f p mv.numbers) mv.numbers) ∷ [])

-- an untold mark goes to the controller, with the incarnation that took it; where none is untold, nothing is due
abbrev pub reports : Flow → Partition → RunningNumbers → Option ℕ → Result (Replica × List Envelope) Refusal
reports f p x None = Err NothingDue
reports f p x (Some q) =
    Ok (Running (record x { consumer = telling x.consumer q }), envelope (control_at p) (Report x.inc (in_edge p q) (x.consumer.marks q)) ∷ [])

-- a due item goes before any report
abbrev pub sends_or_reports : Flow → Partition → RunningNumbers → Option Due → Result (Replica × List Envelope) Refusal
sends_or_reports f p x (Some d) = Ok (Running (record x { producer = sent_on x.producer d }), sends_due f p d)
sends_or_reports f p x None = reports f p x (untold f p x.consumer)

-- a move that is under way goes before any due item
abbrev pub moves_or_sends : Flow → Partition → NodeId → RunningNumbers → Option Move → Result (Replica × List Envelope) Refusal
moves_or_sends f p partner x (Some mv) = Ok (moves_on f p partner x mv)
moves_or_sends f p partner x None = sends_or_reports f p x (due f p (made_by f p x.consumer.count) x.producer)

-- one piece of work of a replica that runs: a merge goes before all else, and sends nothing itself
abbrev pub run_works : Flow → Partition → NodeId → RunningNumbers → Result (Replica × List Envelope) Refusal
run_works f p partner x =
    if is_ready f p x.consumer
    then Ok (Running (record x { consumer = merged_one x.consumer }), [])
    else moves_or_sends f p partner x x.move

-- only a replica that runs has work; one that gathers waits for messages
abbrev pub replica_works : Flow → Partition → Which → Replica → Result (Replica × List Envelope) Refusal
replica_works f p w (Gone i) = Err NothingDue
replica_works f p w (Running x) = run_works f p (replica_at p (other w)) x
replica_works f p w (Gathering g) = Err NothingDue

-- ---- other events

-- it fails, and its controller is told
abbrev pub replica_dies : Partition → Replica → Result (Replica × List Envelope) Refusal
replica_dies p (Gone i) = Err NotRunning
replica_dies p (Running x) = Ok (Gone x.inc, envelope (control_at p) (Down x.inc) ∷ [])
replica_dies p (Gathering g) = Ok (Gone g.inc, envelope (control_at p) (Down g.inc) ∷ [])

-- it asks its controller for something
abbrev pub replica_asks : Partition → (ℕ → Message) → Replica → Result (Replica × List Envelope) Refusal
replica_asks p ask (Gone i) = Err NotRunning
replica_asks p ask (Running x) = Ok (Running x, envelope (control_at p) (ask x.inc) ∷ [])
replica_asks p ask (Gathering g) = Err NotRunning

-- only a replica that runs pulls; whether the producer's buffer has the next item of in-edge q is asked before
abbrev pub replica_pulls : ℕ → Replica → Result (Replica × List Envelope) Refusal
replica_pulls q (Gone i) = Err NotRunning
replica_pulls q (Running x) = Ok (Running (record x { consumer = pulled x.consumer q }), [])
replica_pulls q (Gathering g) = Err NotRunning

-- what a replica is after an act, and what it sends, or why the act is none
abbrev pub replica_does : Flow → Partition → Which → Act → Replica → Result (Replica × List Envelope) Refusal
replica_does f p w (Takes from m) r = Ok (replica_takes f p from m r)
replica_does f p w Works r = replica_works f p w r
replica_does f p w Makes r = Err NothingDue
replica_does f p w Dies r = replica_dies p r
replica_does f p w AsksStop r = replica_asks p (λ i. AskStop i) r
replica_does f p w AsksBack r = replica_asks p (λ i. AskBack) r
replica_does f p w (Pulls q) r = replica_pulls q r
