-- The machine of groups worked by hand on a small plan: lists of events, and what some nodes have after them, or why one more event is
-- none. The plan totals the trades of one account in one stage of one partition; the trades are all the same.
use Rattle.std.specs.Prelude.{◌≡◌, ℕ, Bool, true, false, List, [], ◌∷◌, ◌++◌, Option, None, Some, Result, Ok, Err, replicate}
use Rattle.pair_machine.specs.Drain.{pairs_up_to, partition}
use Rattle.pair_machine.specs.Flow.{Flow}
use Rattle.pair_machine.specs.WorkedRows.{edge_from, totals, totals_of_totals, trades}
use Rattle.trio_machine.specs.Reports.{replicas_of}
use Rattle.trio_machine.specs.Drain.{drain, first_lost}
use Rattle.trio_machine.specs.Flow.{IsTrioPlan, trio_flow}
use Rattle.trio_machine.specs.Machine.{State, controller_in, follow, opening, step}
use Rattle.trio_machine.specs.Messages.{Ack, Lead, Refusal, Tuple, NoMoreRows, NotHeld, NotRunning, NotSent, NothingDue}
use Rattle.trio_machine.specs.Numbers.{Controller, Gone, Replica, Running}
use Rattle.trio_machine.specs.Sound.{IsLost, IsServed}
use Rattle.trio_machine.specs.declared.event.TrioEvent.{TrioEvent}
use Rattle.trio_machine.specs.declared.event.TrioEvent.TheVariants as event
use Rattle.trio_machine.specs.declared.node.TrioNode.{TrioNode}
use Rattle.trio_machine.specs.declared.node.TrioNode.TheVariants as node

-- one total in one partition, over so many trades
abbrev pub one_stage : ℕ → Flow
one_stage n = trio_flow totals (trades n)

-- a total over a total, each in one partition, over so many trades
abbrev pub two_stages : ℕ → Flow
two_stages n = trio_flow totals_of_totals (trades n)

-- ---- events

-- replica c of the one partition of a stage
abbrev pub replica : (stage copy : ℕ) → TrioNode
replica stage copy = node.Replica stage 0 copy

-- the controller of the one partition of a stage
abbrev pub control : ℕ → TrioNode
control stage = node.Control stage 0

-- ingress makes the next so many inputs into items
abbrev pub make : ℕ → List TrioEvent
make n = replicate n event.Make

-- a node works so many times
abbrev pub work : TrioNode → ℕ → List TrioEvent
work who n = replicate n (event.Work who)

-- the next so many items of an edge go straight from one node to another
abbrev pub pull : TrioNode → TrioNode → ℕ → List TrioEvent
pull from to n = replicate n (event.Pull from to)

-- what was sent at this place is taken
abbrev pub take : TrioNode → TrioNode → ℕ → List TrioEvent
take from to index = event.Take from to index ∷ []

-- a replica fails, as a list of this one event
abbrev pub kill : TrioNode → List TrioEvent
kill who = event.Kill who ∷ []

-- ---- what they lead to

-- the list met no refusal, and P holds of the state that it reached
abbrev pub Reaches : (State → Type 0) → Result State Refusal → Type 0
Reaches P (Ok s) = P s
Reaches P (Err refusal) = ⊥

-- none of these events is refused from the opening on, and P holds of the state after them
abbrev pub After : Flow → List TrioEvent → (State → Type 0) → Type 0
After f es P = Reaches P (follow f es (Ok opening))

-- ---- what a state shows of a partition that has one in-edge and one out-edge

-- of a replica that runs
pub record RunningShown : Type 0 where
  pub term : ℕ
  pub leads : Bool
  pub mark : ℕ
  pub told : ℕ
  pub count : ℕ
  pub low : ℕ
  pub cursors : List ℕ

-- what a state shows of a replica: that it is gone, or what it has where it runs
pub data ReplicaShown : Type 0 where
  IsGone : ReplicaShown
  Runs : (replica : RunningShown) → ReplicaShown

-- each of three
abbrev pub of_three : {X : Type 0} → (ℕ → X) → List X
of_three g = g 0 ∷ g 1 ∷ g 2 ∷ []

-- what a replica shows, of its one in-edge and its one out-edge
abbrev pub shown : Replica → ReplicaShown
shown Gone = IsGone
shown (Running x) = Runs (record {
  term = x.producer.term;
  leads = x.producer.leads;
  mark = x.consumer.marks 0;
  told = x.consumer.told 0;
  count = x.consumer.count;
  low = x.producer.lows 0;
  cursors = of_three (x.producer.cursors 0);
})

-- the replicas of the one partition of a stage
abbrev pub replicas : State → ℕ → List ReplicaShown
replicas s stage = of_three (λ c. shown (replicas_of s (partition stage 0) c))

-- what a state shows of a controller: which replicas it holds up, their reports, what it acknowledged, its term and its leader
pub record ControllerShown : Type 0 where
  pub up : List Bool
  pub reports : List ℕ
  pub acked : ℕ
  pub term : ℕ
  pub leader : Option ℕ

-- what a controller shows, of its one in-edge
abbrev pub controller_shown : Controller → ControllerShown
controller_shown x = record { up = of_three x.up; reports = of_three (λ c. x.reports c 0); acked = x.acked 0; term = x.term; leader = x.leader }

-- the controller of the one partition of a stage
abbrev pub control_of : State → ℕ → ControllerShown
control_of s stage = controller_shown (controller_in (s.nodes (control stage)))

-- ---- lists of events

-- Replicas 0 and 2 merge three trades, replica 1 none; then 0 and 1 fail, and their controller hears of it.
abbrev pub two_fail : List TrioEvent
two_fail =
    make 3
    ++ pull node.Ingress (replica 1 0) 3
    ++ work (replica 1 0) 3
    ++ pull node.Ingress (replica 1 2) 3
    ++ work (replica 1 2) 3
    ++ kill (replica 1 0)
    ++ kill (replica 1 1)
    ++ take (replica 1 0) (control 1) 1
    ++ take (replica 1 1) (control 1) 1

-- Each replica merges trades: replica 0 three, 1 two, 2 one. Then 0 and 1 report them, and both reports are taken.
abbrev pub two_report : List TrioEvent
two_report =
    make 3
    ++ pull node.Ingress (replica 1 0) 3
    ++ pull node.Ingress (replica 1 1) 2
    ++ pull node.Ingress (replica 1 2) 1
    ++ work (replica 1 0) 7
    ++ work (replica 1 1) 3
    ++ work (replica 1 2) 2
    ++ take (replica 1 0) (control 1) 1
    ++ take (replica 1 1) (control 1) 1

-- the third reports too
abbrev pub all_report : List TrioEvent
all_report = two_report ++ take (replica 1 2) (control 1) 1

-- then it fails, and the controller hears of it
abbrev pub slowest_fails : List TrioEvent
slowest_fails = all_report ++ kill (replica 1 2) ++ take (replica 1 2) (control 1) 2

-- the leader fails, and replica 1 hears that it leads
abbrev pub leader_fails : List TrioEvent
leader_fails =
    make 2
    ++ pull node.Ingress (replica 1 1) 2
    ++ work (replica 1 1) 3
    ++ kill (replica 1 0)
    ++ take (replica 1 0) (control 1) 1
    ++ take (control 1) (replica 1 1) 1

-- ---- what they show

-- each of these lists of events has what is said of it as its end, or as the reason why one more event is none
pub record WorkedRows : Type 0 where
  -- the plans are within their limits, and of one source
  pub plans : IsTrioPlan totals × IsTrioPlan totals_of_totals
  -- After two failures the third replica is named leader, with term 3, and runs with all three trades merged.
  pub third_leads : After (one_stage 3) two_fail (λ s.
      (control_of s 1 ≡ record { up = false ∷ false ∷ true ∷ []; reports = 0 ∷ 0 ∷ 0 ∷ []; acked = 0; term = 3; leader = Some 2 })
      × (replicas s 1 ≡ IsGone ∷ IsGone ∷ Runs (record { term = 0; leads = false; mark = 3; told = 0; count = 3; low = 0; cursors = 1 ∷ 1 ∷ 1 ∷ [] }) ∷ [])
      × (s.sent (control 1) (replica 1 2) ≡ Lead 3 ∷ [])
      × IsServed s (partition 1 0))
  -- The drain goes on from there, with the third replica.
  pub third_drains : After (one_stage 3) two_fail (λ s.
      drain (one_stage 3) s ≡ make 1 ++ (pull node.Ingress (replica 1 2) 1 ++ work (replica 1 2) 1) ++ pull (replica 1 2) node.Egress 4 ++ work node.Egress 4)
  -- Where the third fails too, the group is lost.
  pub all_fail : After (one_stage 3) (two_fail ++ kill (replica 1 2)) (λ s. IsLost s (partition 1 0) × (first_lost s (pairs_up_to (one_stage 3) 1) ≡ Some (partition 1 0)))
  -- When its controller hears of it, there is no leader, and the term stays.
  pub no_leader : After (one_stage 3) (two_fail ++ kill (replica 1 2) ++ take (replica 1 2) (control 1) 1) (λ s.
      control_of s 1 ≡ record { up = false ∷ false ∷ false ∷ []; reports = 0 ∷ 0 ∷ 0 ∷ []; acked = 0; term = 3; leader = None })
  -- What only two of three have reported is not acknowledged.
  pub two_of_three : After (one_stage 3) two_report (λ s.
      (control_of s 1 ≡ record { up = true ∷ true ∷ true ∷ []; reports = 3 ∷ 2 ∷ 0 ∷ []; acked = 0; term = 1; leader = Some 0 })
      × (s.sent (control 1) node.Ingress ≡ []))
  -- The least of three reports is.
  pub all_of_three : After (one_stage 3) all_report (λ s.
      (control_of s 1 ≡ record { up = true ∷ true ∷ true ∷ []; reports = 3 ∷ 2 ∷ 1 ∷ []; acked = 1; term = 1; leader = Some 0 })
      × (s.sent (control 1) node.Ingress ≡ Ack (edge_from 0) 1 ∷ []))
  -- A replica that is down holds nothing up, and where it didn't lead the leader stays.
  pub least_of_two : After (one_stage 3) slowest_fails (λ s.
      (control_of s 1 ≡ record { up = true ∷ true ∷ false ∷ []; reports = 3 ∷ 2 ∷ 1 ∷ []; acked = 2; term = 1; leader = Some 0 })
      × (s.sent (control 1) node.Ingress ≡ Ack (edge_from 0) 1 ∷ Ack (edge_from 0) 2 ∷ []))
  -- The new leader sends again what isn't acknowledged.
  pub next_leads : After (one_stage 2) leader_fails (λ s.
      replicas s 1
      ≡ IsGone
      ∷ Runs (record { term = 2; leads = true; mark = 2; told = 2; count = 2; low = 0; cursors = 1 ∷ 1 ∷ 1 ∷ [] })
      ∷ Runs (record { term = 0; leads = false; mark = 0; told = 0; count = 0; low = 0; cursors = 1 ∷ 1 ∷ 1 ∷ [] })
      ∷ [])
  -- An item goes to each of the three replicas, in their order, before the next item goes to any.
  pub sent_to_three : After (one_stage 2) (make 2 ++ work node.Ingress 4) (λ s.
      of_three (λ c. s.sent node.Ingress (replica 1 c))
      ≡ (Tuple (edge_from 0) 1 ∷ Tuple (edge_from 0) 2 ∷ [])
      ∷ (Tuple (edge_from 0) 1 ∷ [])
      ∷ (Tuple (edge_from 0) 1 ∷ [])
      ∷ [])
  -- Egress counts as one, and acknowledges to all three replicas of the last stage.
  pub egress_tells_three : After (one_stage 1) (make 1 ++ pull node.Ingress (replica 1 0) 1 ++ work (replica 1 0) 2 ++ take (replica 1 0) node.Egress 1 ++ work node.Egress 2) (λ s.
      of_three (λ c. s.sent node.Egress (replica 1 c)) ≡ of_three (λ c. Ack (edge_from 1) 1 ∷ []))
  -- Of three messages sent no fourth is taken.
  pub not_sent : After (one_stage 3) (make 3 ++ work node.Ingress 9) (λ s. step (one_stage 3) s (event.Take node.Ingress (replica 1 2) 4) ≡ Err (NotSent 4 3))
  -- What has failed doesn't fail again.
  pub killed_twice : After (one_stage 0) (kill (replica 1 1)) (λ s. step (one_stage 0) s (event.Kill (replica 1 1)) ≡ Err NotRunning)
  -- Where there is no trade, the first make is that of the end, and there is no second.
  pub made_twice : After (one_stage 0) (make 1) (λ s. step (one_stage 0) s event.Make ≡ Err NoMoreRows)
  -- A controller has no work, and neither has a replica that is gone.
  pub control_works : After (one_stage 0) [] (λ s. step (one_stage 0) s (event.Work (control 1)) ≡ Err NothingDue)
  pub gone_works : After (one_stage 0) (kill (replica 1 1)) (λ s. step (one_stage 0) s (event.Work (replica 1 1)) ≡ Err NothingDue)
  -- After the one item that was made no second one is pulled: the buffer has what is above 0 up to 1, and the mark is 1.
  pub pulled_twice : After (one_stage 0) (make 1 ++ pull node.Ingress (replica 1 1) 1) (λ s. step (one_stage 0) s (event.Pull node.Ingress (replica 1 1)) ≡ Err (NotHeld 0 1 1))
  -- Nothing is pulled to or from a replica that is gone.
  pub pulled_by_gone : After (one_stage 0) (make 1 ++ kill (replica 1 1)) (λ s. step (one_stage 0) s (event.Pull node.Ingress (replica 1 1)) ≡ Err NotRunning)
  -- Where egress has merged all, there is nothing to drain.
  pub drained_already : After (one_stage 0) (make 1 ++ pull node.Ingress (replica 1 0) 1 ++ work (replica 1 0) 1 ++ pull (replica 1 0) node.Egress 1 ++ work node.Egress 1) (λ s.
      drain (one_stage 0) s ≡ [])
  -- The drain goes stage by stage, each time with the first replica that serves.
  pub drained_by_stages : After (two_stages 1) (kill (replica 2 0)) (λ s.
      drain (two_stages 1) s
      ≡ make 2
      ++ (pull node.Ingress (replica 1 0) 2 ++ work (replica 1 0) 2)
      ++ (pull (replica 1 0) (replica 2 1) 2 ++ work (replica 2 1) 2)
      ++ pull (replica 2 1) node.Egress 2
      ++ work node.Egress 2)
