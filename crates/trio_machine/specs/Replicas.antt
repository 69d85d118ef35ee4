-- What a replica does at each event, in numbers. One that runs takes, merges, sends and reports; one that is gone does nothing.
use Rattle.std.specs.Prelude.{ℕ, List, [], ◌∷◌, Option, None, Some, Result, Ok, Err, ◌+◌, ◌-◌, ◌==◌, if◌then◌else◌}
use Rattle.pair_machine.specs.Consumers.{is_ready, merged_one, offered, pulled, telling, untold}
use Rattle.pair_machine.specs.Flow.{Flow}
use Rattle.pair_machine.specs.Numbers.{Partition, in_edge, out_edge}
use Rattle.pair_machine.specs.Producers.{Due, acked_to, due, leading, sent_on}
use Rattle.pair_machine.specs.Replicas.{made_by}
use Rattle.trio_machine.specs.Messages.{Message, Tuple, Ack, Report, Lead, Down, Envelope, envelope, Act, Takes, Works, Makes, Dies, Pulls, Refusal, NothingDue, NotRunning}
use Rattle.trio_machine.specs.Numbers.{Replica, Gone, Running, RunningNumbers, control_at}
use Rattle.trio_machine.specs.declared.node.TrioNode.{TrioNode}
use Rattle.trio_machine.specs.declared.node.TrioNode.TheVariants as node

-- ---- to the other ends of edges

-- to whom an item that is due goes
abbrev pub consumer_of : Flow → Partition → Due → TrioNode
consumer_of f p d = if p.stage == f.stages then node.Egress else node.Replica (p.stage + 1) d.to d.copy

-- an item that is due goes to the one replica of its target whose turn it is, or to egress
abbrev pub sends_due : Flow → Partition → Due → List Envelope
sends_due f p d = envelope (consumer_of f p d) (Tuple (out_edge p d.to) d.number) ∷ []

-- a message to the three replicas of a partition
abbrev pub to_group : (stage part : ℕ) → Message → List Envelope
to_group stage part m = envelope (node.Replica stage part 0) m ∷ envelope (node.Replica stage part 1) m ∷ envelope (node.Replica stage part 2) m ∷ []

-- a message to the three producers of in-edge q, or to ingress
abbrev pub to_producers : Partition → ℕ → Message → List Envelope
to_producers p q m = if p.stage == 1 then envelope node.Ingress m ∷ [] else to_group (p.stage - 1) q m

-- ---- taking a message

-- a message that no line names has no effect
abbrev pub run_takes : Message → RunningNumbers → RunningNumbers
run_takes (Tuple e n) x = record x { consumer = offered x.consumer e.from n }
run_takes (Ack e k) x = record x { producer = acked_to x.producer e.to k }
run_takes (Lead term) x = record x { producer = leading x.producer term }
run_takes m x = x

-- a replica that is gone takes no message; it stays gone
abbrev pub replica_takes : Message → Replica → Replica
replica_takes m Gone = Gone
replica_takes m (Running x) = Running (run_takes m x)

-- ---- work: the first that is due of a merge, an item to send, and a mark to report

-- a mark that wasn't told is reported to the controller of the group, or there is nothing to do
abbrev pub reports : Flow → Partition → RunningNumbers → Option ℕ → Result (Replica × List Envelope) Refusal
reports f p x None = Err NothingDue
reports f p x (Some q) =
    Ok (Running (record x { consumer = telling x.consumer q }), envelope (control_at p) (Report (in_edge p q) (x.consumer.marks q)) ∷ [])

-- an item that is due is sent; only where none is, a mark is reported
abbrev pub sends_or_reports : Flow → Partition → RunningNumbers → Option Due → Result (Replica × List Envelope) Refusal
sends_or_reports f p x (Some d) = Ok (Running (record x { producer = sent_on x.producer d }), sends_due f p d)
sends_or_reports f p x None = reports f p x (untold f p x.consumer)

-- the work of a replica that runs: a merge before a send, and a send before a report
abbrev pub run_works : Flow → Partition → RunningNumbers → Result (Replica × List Envelope) Refusal
run_works f p x =
    if is_ready f p x.consumer
    then Ok (Running (record x { consumer = merged_one x.consumer }), [])
    else sends_or_reports f p x (due f p (made_by f p x.consumer.count) x.producer)

-- a replica that is gone has no work
abbrev pub replica_works : Flow → Partition → Replica → Result (Replica × List Envelope) Refusal
replica_works f p Gone = Err NothingDue
replica_works f p (Running x) = run_works f p x

-- ---- other events

-- it fails, and its controller is told
abbrev pub replica_dies : Partition → Replica → Result (Replica × List Envelope) Refusal
replica_dies p Gone = Err NotRunning
replica_dies p (Running x) = Ok (Gone, envelope (control_at p) Down ∷ [])

-- the next item of in-edge q is taken straight from its producer, where the replica runs
abbrev pub replica_pulls : ℕ → Replica → Result (Replica × List Envelope) Refusal
replica_pulls q Gone = Err NotRunning
replica_pulls q (Running x) = Ok (Running (record x { consumer = pulled x.consumer q }), [])

-- what a replica is after an act, and what it sends, or why the act is none
abbrev pub replica_does : Flow → Partition → Act → Replica → Result (Replica × List Envelope) Refusal
replica_does f p (Takes from m) r = Ok (replica_takes m r, [])
replica_does f p Works r = replica_works f p r
replica_does f p Makes r = Err NothingDue
replica_does f p Dies r = replica_dies p r
replica_does f p (Pulls q) r = replica_pulls q r
