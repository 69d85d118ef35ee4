-- The machine worked by hand on small plans: lists of events, and what some nodes have after them, or why one more event is none. The
-- plans total the trades of one account, in one stage or in two, each of one partition; the trades are all the same. One plan also takes
-- cash movements, from a second source.
use Rattle.std.specs.Prelude.{◌≡◌, ℕ, ℤ, zero, suc, Bool, true, false, List, [], ◌∷◌, ◌++◌, ◌+◌, Option, None, Some, Result, Ok, Err, length, map, negsuc, pos, replicate}
use Rattle.std.specs.List.{range_with_len}
use Rattle.tuple_edge.specs.Input.{Input, from_first}
use Rattle.tuple_edge.specs.declared.event.Event.{Event}
use Rattle.tuple_edge.specs.declared.event.Event.TheVariants as event
use Rattle.tuple_edge.specs.declared.node.EdgeId.{EdgeId}
use Rattle.tuple_edge.specs.declared.node.NodeId.{NodeId}
use Rattle.tuple_edge.specs.declared.node.NodeId.TheVariants as node
use Rattle.tuple_edge.specs.declared.node.Which.{Which}
use Rattle.tuple_edge.specs.declared.node.Which.TheVariants.{A, B}
use Rattle.tuple_edge.specs.declared.row.Column.TheVariants as column
use Rattle.tuple_edge.specs.declared.row.Row.{Row}
use Rattle.tuple_edge.specs.declared.status.Status.{Status}
use Rattle.tuple_edge.specs.declared.status.Status.TheVariants as status
use Rattle.op_spec.specs.declared.spec.By.TheVariants as by
use Rattle.op_spec.specs.declared.spec.Compare.TheVariants as compare
use Rattle.op_spec.specs.declared.spec.OpSpec.TheVariants as op
use Rattle.plan_reader.specs.PlanView.{IsPlan, PlanView}
use Rattle.plan_reader.specs.declared.stage.Stage.{Stage}
use Rattle.pair_machine.specs.Boundary.{source_made}
use Rattle.pair_machine.specs.Counts.{flow_of}
use Rattle.pair_machine.specs.Drain.{drain, first_lost, pairs_up_to, partition}
use Rattle.pair_machine.specs.Edges.{edge, most_sent}
use Rattle.pair_machine.specs.Flow.{Flow}
use Rattle.pair_machine.specs.Links.{link}
use Rattle.pair_machine.specs.Machine.{State, controller_in, follow, ingress_in, mark_of, opening, replica_in, step}
use Rattle.pair_machine.specs.Messages.{Message, Tuple, Want, Refusal, NoMoreRows, NotHeld, NotRunning, NotSent, NothingDue}
use Rattle.pair_machine.specs.Numbers.{Controller, Gathering, Gone, Partition, Replica, Running, Watched, ingress_edge, out_edge}
use Rattle.pair_machine.specs.Replicas.{made_by}
use Rattle.pair_machine.specs.Scripts.{AreWithin}
use Rattle.pair_machine.specs.Sound.{IsLost, IsServed}
use Rattle.pair_machine.specs.declared.order.Order.{Order}

-- ---- plans and trades

-- a stage of one partition that totals each account's rows: it gives a row for each row
abbrev pub total : Stage
total = record { parts = 1; by = column.Account; op = op.Total by.Account }

-- a plan of one stage, with the trades as its only source
abbrev pub totals : PlanView
totals = record { version = 1; stages = total ∷ []; mark = 64; hold = 1024 }

-- a plan of two stages, of which the second totals the first one's rows
abbrev pub totals_of_totals : PlanView
totals_of_totals = record { version = 1; stages = total ∷ total ∷ []; mark = 64; hold = 1024 }

-- a plan of one stage that totals trades and cash movements alike; its second source is the cash movements
abbrev pub totals_of_both : PlanView
totals_of_both = record { version = 2; stages = total ∷ []; mark = 64; hold = 1024 }

-- trades joined with the cash movements of the same minute, up to three of each side
abbrev pub joined : PlanView
joined = record { version = 2; stages = record { parts = 1; by = column.Account; op = op.Join by.Account (pos 60) 3 column.Qty compare.AtLeast (pos 1) } ∷ []; mark = 64; hold = 1024 }

-- a trade at some time
abbrev pub trade : ℤ → Row
trade time = record { time = time; account = pos 7; symbol = pos 1; qty = pos 1; value = pos 100 }

-- so many trades
abbrev pub trades : ℕ → List Input
trades n = from_first (replicate n (trade (pos 34200)))

-- a cash movement at some time
abbrev pub cash : ℤ → ℤ → Row
cash time amount = record { time = time; account = pos 7; symbol = pos 0; qty = pos 0; value = amount }

-- two trades and two cash movements, in the order of their times; of those at one time the trade comes first
abbrev pub both : List Input
both =
    record { source = 0; row = trade (pos 34200) }
    ∷ record { source = 1; row = cash (pos 34205) (negsuc 249) }
    ∷ record { source = 0; row = trade (pos 34210) }
    ∷ record { source = 1; row = cash (pos 34210) (pos 100) }
    ∷ []

-- two trades and three cash movements of one minute
abbrev pub of_one_minute : List Input
of_one_minute =
    record { source = 0; row = trade (pos 34200) }
    ∷ record { source = 0; row = trade (pos 34201) }
    ∷ record { source = 1; row = cash (pos 34202) (pos 1) }
    ∷ record { source = 1; row = cash (pos 34203) (pos 2) }
    ∷ record { source = 1; row = cash (pos 34204) (pos 3) }
    ∷ []

-- the numbers of the plan of one stage, for n trades
abbrev pub one_stage : ℕ → Flow
one_stage n = flow_of totals (trades n)

-- the numbers of the plan of two stages, for n trades
abbrev pub two_stages : ℕ → Flow
two_stages n = flow_of totals_of_totals (trades n)

-- the numbers of the plan of two sources, for two trades and two cash movements
abbrev pub two_sources : Flow
two_sources = flow_of totals_of_both both

-- ---- events

-- replica A of the one partition of a stage, which leads at the opening
abbrev pub replica_a : ℕ → NodeId
replica_a stage = node.Replica stage 0 A

-- replica B of the one partition of a stage, which doesn't lead at the opening
abbrev pub replica_b : ℕ → NodeId
replica_b stage = node.Replica stage 0 B

-- the controller of the one partition of a stage
abbrev pub control : ℕ → NodeId
control stage = node.Control stage 0

-- ingress makes the next so many inputs into items
abbrev pub make : ℕ → List Event
make n = replicate n event.Make

-- a node works so many times
abbrev pub work : NodeId → ℕ → List Event
work who n = replicate n (event.Work who)

-- the next so many items of an edge go straight from one node to another
abbrev pub pull : NodeId → NodeId → ℕ → List Event
pull from to n = replicate n (event.Pull from to)

-- what was sent on a link at this place is taken
abbrev pub take : NodeId → NodeId → ℕ → List Event
take from to index = event.Take (link from to) index ∷ []

-- what was sent on a link is taken in its order: so many messages, from this place on
abbrev pub take_all : NodeId → NodeId → ℕ → ℕ → List Event
take_all from to index zero = []
take_all from to index (suc n) = take from to index ++ take_all from to (index + 1) n

-- a replica fails; its controller learns of it only when it takes the replica's message
abbrev pub kill : NodeId → List Event
kill who = event.Kill who ∷ []

-- a replica asks its controller for its own stop; it runs on until the controller's message is taken
abbrev pub ask_stop : NodeId → List Event
ask_stop who = event.AskStop who ∷ []

-- the replica's partner asks for it back, not the replica itself
abbrev pub ask_back : NodeId → List Event
ask_back who = event.AskBack who ∷ []

-- ---- what they lead to

-- no refusal came, and P holds of the state
abbrev pub Reaches : (State → Type 0) → Result State Refusal → Type 0
Reaches P (Ok s) = P s
Reaches P (Err refusal) = ⊥

-- none of these events is refused from the opening on, and P holds of the state after them
abbrev pub After : Flow → List Event → (State → Type 0) → Type 0
After f es P = Reaches P (follow f es (Ok opening))

-- ---- what a state shows of a partition that has one in-edge and one out-edge

-- of a replica that runs
pub record RunningShown : Type 0 where
  pub inc : ℕ
  pub term : ℕ
  pub leads : Bool
  pub served : ℕ
  pub count : ℕ

-- of its in-edge
pub record InShown : Type 0 where
  pub mark : ℕ
  pub told : ℕ

-- of its out-edge, with how many items it made
pub record OutShown : Type 0 where
  pub low : ℕ
  pub made : ℕ
  pub cursor_a : ℕ
  pub cursor_b : ℕ

-- what is shown of a replica, by its mode
pub data ReplicaShown : Type 0 where
  IsGone : (inc : ℕ) → ReplicaShown
  Runs : (replica : RunningShown) (into : InShown) (out : OutShown) → ReplicaShown
  Gathers : (inc taken : ℕ) (held : List ℕ) → ReplicaShown

-- what is shown of a replica of partition 0 of a stage: its mode, and the first edge each way, but no move
abbrev pub shown : Flow → ℕ → Replica → ReplicaShown
shown f stage (Gone i) = IsGone i
shown f stage (Running x) =
    Runs (record { inc = x.inc; term = x.producer.term; leads = x.producer.leads; served = x.served; count = x.consumer.count })
    (record { mark = x.consumer.marks 0; told = x.consumer.told 0 })
    (record {
      low = x.producer.lows 0;
      made = made_by f (record { stage = stage; part = 0 }) x.consumer.count 0;
      cursor_a = x.producer.cursors 0 0;
      cursor_b = x.producer.cursors 0 1;
    })
shown f stage (Gathering g) = Gathers g.inc g.taken (g.held 0)

-- what is shown of replica A of partition 0 of a stage
abbrev pub a_of : Flow → State → ℕ → ReplicaShown
a_of f s stage = shown f stage (replica_in (s.nodes (replica_a stage)))

-- what is shown of replica B of partition 0 of a stage
abbrev pub b_of : Flow → State → ℕ → ReplicaShown
b_of f s stage = shown f stage (replica_in (s.nodes (replica_b stage)))

-- what a controller holds of a replica
pub record WatchedShown : Type 0 where
  pub status : Status
  pub inc : ℕ
  pub report : ℕ
  pub stop : Bool
  pub back : Bool

-- what is shown of a watched replica: of its reports only that of the first in-edge
abbrev pub watched_shown : Watched → WatchedShown
watched_shown h = record { status = h.status; inc = h.inc; report = h.reports 0; stop = h.stop; back = h.back }

-- what is shown of a controller, of one in-edge
pub record ControllerShown : Type 0 where
  pub term : ℕ
  pub leader : Option Which
  pub acked : ℕ
  pub a : WatchedShown
  pub b : WatchedShown

-- what is shown of a controller: of what it acknowledged only the first in-edge
abbrev pub controller_shown : Controller → ControllerShown
controller_shown c = record { term = c.term; leader = c.leader; acked = c.acked 0; a = watched_shown (c.watched A); b = watched_shown (c.watched B) }

-- the controller of partition 0 of a stage
abbrev pub control_of : State → ℕ → ControllerShown
control_of s stage = controller_shown (controller_in (s.nodes (control stage)))

-- the producer of a source of ingress, towards partition 0 of stage 1
abbrev pub source_shown : Flow → State → ℕ → OutShown
source_shown f s q =
    let x = ingress_in (s.nodes node.Ingress) in
    record { low = (x.producers q).lows 0; made = source_made f x q 0; cursor_a = (x.producers q).cursors 0 0; cursor_b = (x.producers q).cursors 0 1 }

-- the marks of the first so many in-edges of replica A of stage 1
abbrev pub marks_of : State → ℕ → List (Option ℕ)
marks_of s n = map (λ q. mark_of q (replica_a 1) (s.nodes (replica_a 1))) (range_with_len 0 n)

-- what was sent on a link, in order
abbrev pub sent : State → NodeId → NodeId → List Message
sent s from to = s.sent (link from to)

-- the edge from a stage to the next one; ingress is stage 0
abbrev pub edge_from : ℕ → EdgeId
edge_from stage = out_edge (record { stage = stage; part = 0 }) 0

-- ---- lists of events

-- Both replicas of stage 1 merge ten trades, of which the leader A sends seven on. Stage 2 reports them, and its controller acknowledges
-- them to both; then A fails, B is named leader, and works six times.
abbrev pub takeover : List Event
takeover =
    make 10
    ++ pull node.Ingress (replica_a 1) 10
    ++ work (replica_a 1) 10
    ++ pull node.Ingress (replica_b 1) 10
    ++ work (replica_b 1) 10
    ++ pull (replica_a 1) (replica_a 2) 7
    ++ pull (replica_a 1) (replica_b 2) 7
    ++ work (replica_a 2) 15
    ++ work (replica_b 2) 8
    ++ take (replica_a 2) (control 2) 1
    ++ take (replica_b 2) (control 2) 1
    ++ take (control 2) (replica_a 1) 1
    ++ take (control 2) (replica_b 1) 1
    ++ kill (replica_a 1)
    ++ take (replica_a 1) (control 1) 1
    ++ take (control 1) (replica_b 1) 1
    ++ work (replica_b 1) 6

-- Replica A merges and reports seven of ten trades, B all ten; B fails and is brought back before its report of ten is taken; then A takes
-- the other three, and its next report is taken.
abbrev pub late_report : List Event
late_report =
    make 10
    ++ pull node.Ingress (replica_a 1) 7
    ++ work (replica_a 1) 15
    ++ pull node.Ingress (replica_b 1) 10
    ++ work (replica_b 1) 11
    ++ take (replica_a 1) (control 1) 1
    ++ kill (replica_b 1)
    ++ take (replica_b 1) (control 1) 2
    ++ ask_back (replica_b 1)
    ++ take (replica_a 1) (control 1) 2
    ++ take (replica_b 1) (control 1) 1
    ++ pull node.Ingress (replica_a 1) 3
    ++ work (replica_a 1) 7
    ++ take (replica_a 1) (control 1) 3

-- Replica A of stage 1 merges twenty trades and sends them on, while B merges ten; stage 2 reports all twenty, and its controller
-- acknowledges them to B.
abbrev pub acknowledged_early : List Event
acknowledged_early =
    make 20
    ++ pull node.Ingress (replica_a 1) 20
    ++ work (replica_a 1) 20
    ++ pull node.Ingress (replica_b 1) 10
    ++ work (replica_b 1) 10
    ++ pull (replica_a 1) (replica_a 2) 20
    ++ pull (replica_a 1) (replica_b 2) 20
    ++ work (replica_a 2) 41
    ++ work (replica_b 2) 21
    ++ take (replica_a 2) (control 2) 1
    ++ take (replica_b 2) (control 2) 1
    ++ take (control 2) (replica_b 1) 1

-- then B merges the other ten
abbrev pub made_late : List Event
made_late = acknowledged_early ++ pull node.Ingress (replica_b 1) 10 ++ work (replica_b 1) 10

-- Replica A takes the first of three tuples three times, and then the third before the second.
abbrev pub out_of_order : List Event
out_of_order =
    make 3
    ++ work node.Ingress 6
    ++ take node.Ingress (replica_a 1) 1
    ++ take node.Ingress (replica_a 1) 1
    ++ take node.Ingress (replica_a 1) 1
    ++ take node.Ingress (replica_a 1) 3
    ++ take node.Ingress (replica_a 1) 2

-- Both replicas merge three trades; B asks to be stopped and is brought back; the message to begin anew comes to it before the one to
-- stop. A works eight times: it sends the seven chunks of its state, and the end.
abbrev pub restart : List Event
restart =
    make 3
    ++ pull node.Ingress (replica_a 1) 3
    ++ pull node.Ingress (replica_b 1) 3
    ++ work (replica_a 1) 3
    ++ work (replica_b 1) 3
    ++ ask_stop (replica_b 1)
    ++ take (replica_b 1) (control 1) 1
    ++ ask_back (replica_b 1)
    ++ take (replica_a 1) (control 1) 1
    ++ take (control 1) (replica_b 1) 2
    ++ take (control 1) (replica_b 1) 1
    ++ take (control 1) (replica_a 1) 1
    ++ work (replica_a 1) 8

-- The end comes to B first, then the first chunk twice, then the third.
abbrev pub chunks_out_of_order : List Event
chunks_out_of_order =
    restart
    ++ take (replica_a 1) (replica_b 1) 8
    ++ take (replica_a 1) (replica_b 1) 1
    ++ take (replica_a 1) (replica_b 1) 1
    ++ take (replica_a 1) (replica_b 1) 3

-- then the second chunk to the end, in their order
abbrev pub chunks_in_order : List Event
chunks_in_order = chunks_out_of_order ++ take_all (replica_a 1) (replica_b 1) 2 7

-- Two more trades are made, and all five sent.
abbrev pub restart_under_load : List Event
restart_under_load = restart ++ make 2 ++ work node.Ingress 10

-- B holds the fourth and the fifth tuple while it gathers.
abbrev pub both_held : List Event
both_held =
    restart_under_load
    ++ take node.Ingress (replica_b 1) 4
    ++ take node.Ingress (replica_b 1) 5
    ++ take_all (replica_a 1) (replica_b 1) 1 8

-- B holds the fifth tuple alone.
abbrev pub one_held : List Event
one_held = restart_under_load ++ take node.Ingress (replica_b 1) 5 ++ take_all (replica_a 1) (replica_b 1) 1 8

-- B fails and is brought back; while it catches up, A asks to be stopped.
abbrev pub stop_asked_early : List Event
stop_asked_early =
    kill (replica_b 1)
    ++ take (replica_b 1) (control 1) 1
    ++ ask_back (replica_b 1)
    ++ take (replica_a 1) (control 1) 1
    ++ ask_stop (replica_a 1)
    ++ take (replica_a 1) (control 1) 2

-- Two trades and two cash movements are made, and the end of both sources; the three items of each source go to replica A, which merges all.
abbrev pub both_merged : List Event
both_merged = make 5 ++ pull node.Ingress (replica_a 1) 6 ++ work (replica_a 1) 5

-- a drainer of stage 1 takes so many items from ingress, and merges so many
abbrev pub drained_by : NodeId → ℕ → ℕ → List Event
drained_by who taken merged = pull node.Ingress who taken ++ work who merged

-- replica A may ask to be stopped once it has merged so many items
abbrev pub stop_at : ℕ → List Order
stop_at n = record { node = replica_a 1; kill = false; at = n; back = None } ∷ []

-- it asks when it has merged one
abbrev pub stopped_after_one : List Event
stopped_after_one = make 1 ++ pull node.Ingress (replica_a 1) 1 ++ work (replica_a 1) 1 ++ ask_stop (replica_a 1)

-- replica A may ask to be stopped once it has merged one item, and replica B once it has; and A may ask for B back once it has merged one itself
abbrev pub stop_both : List Order
stop_both = record { node = replica_a 1; kill = false; at = 1; back = None } ∷ record { node = replica_b 1; kill = false; at = 1; back = Some 1 } ∷ []

-- ---- what they show

-- the only pair of a plan of one stage
abbrev pub the_pair : Partition
the_pair = record { stage = 1; part = 0 }

-- the rows: what lists of events that were worked by hand lead to
pub record WorkedRows : Type 0 where
  -- the plans are within their limits
  pub plans : IsPlan totals × IsPlan totals_of_totals × IsPlan totals_of_both
  -- The survivor leads, and has sent items 8 to 10 to both replicas of stage 2: the first seven it knows to be acknowledged.
  pub survivor_sends_on : After (two_stages 10) takeover (λ s.
      (control_of s 1 ≡ record {
        term = 2;
        leader = Some B;
        acked = 0;
        a = record { status = status.Down; inc = 1; report = 0; stop = false; back = false };
        b = record { status = status.Up; inc = 1; report = 0; stop = false; back = false };
      })
      × (a_of (two_stages 10) s 1 ≡ IsGone 1)
      × (b_of (two_stages 10) s 1 ≡ Runs (record { inc = 1; term = 2; leads = true; served = 0; count = 10 })
      (record { mark = 10; told = 0 })
      (record { low = 7; made = 10; cursor_a = 11; cursor_b = 11 }))
      × (sent s (replica_b 1) (replica_a 2) ≡ map (Tuple (edge_from 1)) (8 ∷ 9 ∷ 10 ∷ []))
      × (sent s (replica_b 1) (replica_b 2) ≡ map (Tuple (edge_from 1)) (8 ∷ 9 ∷ 10 ∷ [])))
  -- The report of an earlier incarnation counts for nothing: B, which is catching up, has its partner's report of 7, and no more than that is acknowledged.
  pub late_report_counts_for_nothing : After (one_stage 10) late_report (λ s.
      control_of s 1 ≡ record {
        term = 1;
        leader = Some A;
        acked = 7;
        a = record { status = status.Up; inc = 1; report = 10; stop = false; back = false };
        b = record { status = status.Catching; inc = 2; report = 7; stop = false; back = false };
      })
  -- What is acknowledged before a producer has made it raises its low above what it made.
  pub low_above_made : After (two_stages 20) acknowledged_early (λ s.
      b_of (two_stages 20) s 1 ≡ Runs (record { inc = 1; term = 0; leads = false; served = 0; count = 10 })
      (record { mark = 10; told = 0 })
      (record { low = 20; made = 10; cursor_a = 21; cursor_b = 21 }))
  -- When it has made it, it keeps none of it.
  pub made_up_to_low : After (two_stages 20) made_late (λ s.
      b_of (two_stages 20) s 1 ≡ Runs (record { inc = 1; term = 0; leads = false; served = 0; count = 20 })
      (record { mark = 20; told = 0 })
      (record { low = 20; made = 20; cursor_a = 21; cursor_b = 21 }))
  -- A tuple that was taken, and one whose former was not, change nothing.
  pub repeats_and_gaps : After (one_stage 3) out_of_order (λ s.
      a_of (one_stage 3) s 1 ≡ Runs (record { inc = 1; term = 1; leads = true; served = 0; count = 0 })
      (record { mark = 2; told = 0 })
      (record { low = 0; made = 0; cursor_a = 1; cursor_b = 1 }))
  -- Once its former was taken, the third tuple is taken too.
  pub gap_is_filled : After (one_stage 3) (out_of_order ++ take node.Ingress (replica_a 1) 3) (λ s.
      a_of (one_stage 3) s 1 ≡ Runs (record { inc = 1; term = 1; leads = true; served = 0; count = 0 })
      (record { mark = 3; told = 0 })
      (record { low = 0; made = 0; cursor_a = 1; cursor_b = 1 }))
  -- The message to stop names the earlier incarnation, so B gathers on; of the chunks only the first is taken, once, and its mark makes B want the tuples above it.
  pub chunks_have_an_order : After (one_stage 3) chunks_out_of_order (λ s. (b_of (one_stage 3) s 1 ≡ Gathers 2 1 []) × (sent s (replica_b 1) node.Ingress ≡ Want (edge_from 0) 4 ∷ []))
  -- With all chunks, and then the end, B runs with its partner's numbers; it leads nothing and has told nothing.
  pub all_chunks_and_the_end : After (one_stage 3) chunks_in_order (λ s.
      b_of (one_stage 3) s 1 ≡ Runs (record { inc = 2; term = 0; leads = false; served = 0; count = 3 })
      (record { mark = 3; told = 0 })
      (record { low = 0; made = 3; cursor_a = 1; cursor_b = 1 }))
  -- What B held on from the mark of the move is taken when the end comes.
  pub held_is_folded_in : After (one_stage 5) both_held (λ s.
      b_of (one_stage 5) s 1 ≡ Runs (record { inc = 2; term = 0; leads = false; served = 0; count = 3 })
      (record { mark = 5; told = 0 })
      (record { low = 0; made = 3; cursor_a = 1; cursor_b = 1 }))
  -- What it held beyond a gap is not.
  pub fold_in_ends_at_a_gap : After (one_stage 5) one_held (λ s.
      b_of (one_stage 5) s 1 ≡ Runs (record { inc = 2; term = 0; leads = false; served = 0; count = 3 })
      (record { mark = 3; told = 0 })
      (record { low = 0; made = 3; cursor_a = 1; cursor_b = 1 }))
  -- A stop is wanted, and not granted, while the partner is catching up.
  pub stop_waits : After (one_stage 3) stop_asked_early (λ s.
      control_of s 1 ≡ record {
        term = 1;
        leader = Some A;
        acked = 0;
        a = record { status = status.Up; inc = 1; report = 0; stop = true; back = false };
        b = record { status = status.Catching; inc = 2; report = 0; stop = false; back = false };
      })
  -- Of three messages sent no fourth is taken.
  pub not_sent : After (one_stage 3) (make 3 ++ work node.Ingress 6) (λ s.
      step (one_stage 3) s (event.Take (link node.Ingress (replica_a 1)) 4) ≡ Err (NotSent (link node.Ingress (replica_a 1)) 4 3))
  -- What has failed doesn't fail again.
  pub killed_twice : After (one_stage 0) (kill (replica_a 1)) (λ s. step (one_stage 0) s (event.Kill (replica_a 1)) ≡ Err NotRunning)
  -- Where there is no trade, the first make is that of the end, and there is no second.
  pub made_twice : After (one_stage 0) (make 1) (λ s. step (one_stage 0) s event.Make ≡ Err NoMoreRows)
  -- A controller has no work.
  pub control_works : After (one_stage 0) [] (λ s. step (one_stage 0) s (event.Work (control 1)) ≡ Err NothingDue)
  -- After the one item that was made no second one is pulled: the buffer has what is above 0 up to 1, and the mark is 1.
  pub pulled_twice : After (one_stage 0) (make 1 ++ pull node.Ingress (replica_b 1) 1) (λ s. step (one_stage 0) s (event.Pull node.Ingress (replica_b 1)) ≡ Err (NotHeld 0 1 1))
  -- Both sources have made their two rows and the end, and the replica has merged the four rows and one end.
  pub both_sources : After two_sources both_merged (λ s.
      (source_shown two_sources s 0 ≡ record { low = 0; made = 3; cursor_a = 1; cursor_b = 1 })
      × (source_shown two_sources s 1 ≡ record { low = 0; made = 3; cursor_a = 1; cursor_b = 1 })
      × (marks_of s 2 ≡ Some 3 ∷ Some 3 ∷ [])
      × (a_of two_sources s 1 ≡ Runs (record { inc = 1; term = 1; leads = true; served = 0; count = 5 })
      (record { mark = 3; told = 0 })
      (record { low = 0; made = 5; cursor_a = 1; cursor_b = 1 })))
  -- A join pairs each of three movements with both trades: six rows and the end go to egress, of five inputs; it may send three for one.
  pub joined_rows : (length (edge joined of_one_minute 1 0 0) ≡ 7) × (most_sent joined.stages ≡ 3)
  -- Pulls take what the first source has made before they take anything of the second.
  pub first_source_is_pulled_first : After two_sources (make 5 ++ pull node.Ingress (replica_a 1) 4) (λ s. marks_of s 2 ≡ Some 3 ∷ Some 1 ∷ [])
  -- When all is taken, it is the second source's edge on which nothing is held.
  pub pulled_out : After two_sources both_merged (λ s. step two_sources s (event.Pull node.Ingress (replica_a 1)) ≡ Err (NotHeld 0 3 3))
  -- Before the second source has sent anything, the first one has sent all that it has made to both replicas.
  pub first_source_sends_first : After two_sources (make 3 ++ work node.Ingress 5) (λ s.
      (sent s node.Ingress (replica_a 1) ≡ Tuple (ingress_edge 0 0) 1 ∷ Tuple (ingress_edge 0 0) 2 ∷ Tuple (ingress_edge 1 0) 1 ∷ [])
      × (sent s node.Ingress (replica_b 1) ≡ Tuple (ingress_edge 0 0) 1 ∷ Tuple (ingress_edge 0 0) 2 ∷ []))
  -- Where both replicas of a pair have failed, it is lost.
  pub both_killed : After (one_stage 3) (make 1 ++ kill (replica_a 1) ++ kill (replica_b 1)) (λ s. IsLost s the_pair)
  -- Where only one has, it is not.
  pub one_killed : After (one_stage 3) (make 1 ++ kill (replica_a 1)) (λ s. IsServed s the_pair)
  -- A replica asks to be stopped where its order lets it: not below the order's count, and not twice.
  pub stopped_at_its_count : AreWithin (one_stage 3) (stop_at 1) stopped_after_one
  pub stopped_too_soon : AreWithin (one_stage 3) (stop_at 2) stopped_after_one → ⊥
  pub stopped_twice : AreWithin (one_stage 3) (stop_at 1) (stopped_after_one ++ ask_stop (replica_a 1)) → ⊥
  -- Two orders let one replica do two things: ask to be stopped by its own, and ask for its partner by the partner's.
  pub asked_by_two_orders : AreWithin (one_stage 3) stop_both (stopped_after_one ++ event.AskBack (replica_b 1) ∷ [])
  -- From the opening the drain makes all; replica A takes and merges all, and then egress does.
  pub drained_from_the_opening : After (one_stage 3) [] (λ s. drain (one_stage 3) s ≡ make 4 ++ drained_by (replica_a 1) 4 4 ++ pull (replica_a 1) node.Egress 4 ++ work node.Egress 4)
  -- Where replica A has failed, replica B drains, and takes and merges what it hasn't yet.
  pub drained_by_the_survivor : After (one_stage 3) (make 2 ++ pull node.Ingress (replica_b 1) 2 ++ work (replica_b 1) 1 ++ kill (replica_a 1)) (λ s.
      drain (one_stage 3) s ≡ make 2 ++ drained_by (replica_b 1) 2 3 ++ pull (replica_b 1) node.Egress 4 ++ work node.Egress 4)
  -- The drain goes stage by stage.
  pub drained_by_stages : After (two_stages 1) [] (λ s.
      drain (two_stages 1) s ≡ make 2 ++ drained_by (replica_a 1) 2 2 ++ (pull (replica_a 1) (replica_a 2) 2 ++ work (replica_a 2) 2) ++ pull (replica_a 2) node.Egress 2 ++ work node.Egress 2)
  -- What both sources of ingress have made is pulled in one go.
  pub drained_of_both_sources : After two_sources (make 3 ++ pull node.Ingress (replica_a 1) 3 ++ work (replica_a 1) 2) (λ s.
      drain two_sources s ≡ make 2 ++ drained_by (replica_a 1) 3 3 ++ pull (replica_a 1) node.Egress 5 ++ work node.Egress 5)
  -- Where egress has merged all, there is nothing to drain.
  pub drained_already : After (one_stage 0) (make 1 ++ drained_by (replica_a 1) 1 1 ++ pull (replica_a 1) node.Egress 1 ++ work node.Egress 1) (λ s. drain (one_stage 0) s ≡ [])
  -- The first lost pair is found, stage by stage.
  pub second_pair_is_lost : After (two_stages 1) (kill (replica_a 1) ++ kill (replica_a 2) ++ kill (replica_b 2)) (λ s. first_lost s (pairs_up_to (two_stages 1) 2) ≡ Some (partition 2 0))
