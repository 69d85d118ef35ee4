-- What ingress and egress do, in numbers: ingress makes inputs into items, and each of its sources sends them as a producer that always leads; egress
-- merges what the last stage sends and acknowledges it. Neither ever fails.
use Rattle.std.specs.Prelude.{ℕ, List, [], Option, None, Some, Result, Ok, Err, ◌+◌, ◌==◌, if◌then◌else◌, is_some, nat_lt}
use Rattle.tuple_edge.specs.declared.node.EdgeId.{EdgeId}
use Rattle.tuple_edge.specs.declared.node.NodeId.{NodeId}
use Rattle.pair_machine.specs.Numbers.{Consumer, Ingress, Partition, Producer, copy_of, in_edge}
use Rattle.pair_machine.specs.Messages.{Message, Tuple, Ack, Want, Envelope, Act, Takes, Works, Makes, Dies, AsksStop, AsksBack, Pulls, Refusal, NothingDue, NoMoreRows, NotRunning}
use Rattle.pair_machine.specs.Flow.{Flow}
use Rattle.pair_machine.specs.Consumers.{first_below, is_ready, merged_one, offered, pulled, telling, untold}
use Rattle.pair_machine.specs.Producers.{Due, acked_to, due, sends_due, sent_on, to_producers, wanted}
use Rattle.pair_machine.specs.Replicas.{made_by, which_of}

-- ---- ingress

-- a source as a partition of stage 0
abbrev pub ingress_source : ℕ → Partition
ingress_source q = record { stage = 0; part = q }

-- another producer for source q
abbrev pub with_producer : Ingress → ℕ → Producer → Ingress
with_producer x q y = record x { producers = λ j. if j == q then y else x.producers j }

-- an acknowledgement, or a want, is for the producer of the edge's source
abbrev pub ingress_takes : NodeId → Message → Ingress → Ingress
ingress_takes from (Ack e k) x = with_producer x e.from (acked_to (x.producers e.from) e.to k)
ingress_takes from (Want e n) x = with_producer x e.from (wanted (x.producers e.from) e.to (copy_of (which_of from)) n)
ingress_takes from m x = x

-- how many items of the edge from source q to target t are made
abbrev pub source_made : Flow → Ingress → ℕ → ℕ → ℕ
source_made f x q t = made_by f (ingress_source q) x.makes t

-- what is due of source q
abbrev pub source_due : Flow → Ingress → ℕ → Option Due
source_due f x q = due f (ingress_source q) (source_made f x q) (x.producers q)

-- source q sends one item to one replica of its target; where nothing is due, that is refused
abbrev pub source_sends : Flow → Ingress → ℕ → Option Due → Result (Ingress × List Envelope) Refusal
source_sends f x q None = Err NothingDue
source_sends f x q (Some d) = Ok (with_producer x q (sent_on (x.producers q) d), sends_due f (ingress_source q) d)

-- the source that was found sends; where none has anything due, the work is refused
abbrev pub ingress_sends : Flow → Ingress → Option ℕ → Result (Ingress × List Envelope) Refusal
ingress_sends f x None = Err NothingDue
ingress_sends f x (Some q) = source_sends f x q (source_due f x q)

-- the first source that has something due sends it
abbrev pub ingress_works : Flow → Ingress → Result (Ingress × List Envelope) Refusal
ingress_works f x = ingress_sends f x (first_below (λ q. is_some (source_due f x q)) (f.sources 1))

-- ingress makes the next input, or the end, and sends nothing yet; after the end a make is refused
abbrev pub ingress_makes : Flow → Ingress → Result (Ingress × List Envelope) Refusal
ingress_makes f x = if nat_lt x.makes f.makes then Ok (record x { makes = x.makes + 1 }, []) else Err NoMoreRows

-- what each act makes of ingress, which takes, works and makes; all else is refused, for it never fails and has nothing to pull
abbrev pub ingress_does : Flow → Act → Ingress → Result (Ingress × List Envelope) Refusal
ingress_does f (Takes from m) x = Ok (ingress_takes from m x, [])
ingress_does f Works x = ingress_works f x
ingress_does f Makes x = ingress_makes f x
ingress_does f Dies x = Err NotRunning
ingress_does f AsksStop x = Err NotRunning
ingress_does f AsksBack x = Err NotRunning
ingress_does f (Pulls q) x = Err NotRunning

-- ---- egress

-- egress as the one partition of the stage after the last
abbrev pub egress_partition : Flow → Partition
egress_partition f = record { stage = f.stages + 1; part = 0 }

-- the edge into egress from source q
abbrev pub egress_edge : Flow → ℕ → EdgeId
egress_edge f q = record { stage = f.stages; from = q; to = 0 }

-- egress takes an item where it is the next one of its edge; any other message has no effect
abbrev pub egress_takes : Message → Consumer → Consumer
egress_takes (Tuple e n) x = offered x e.from n
egress_takes m x = x

-- egress acknowledges in-edge q up to its mark, to all that produce it; where all marks are told, the work is refused
abbrev pub egress_tells : Flow → Consumer → Option ℕ → Result (Consumer × List Envelope) Refusal
egress_tells f x None = Err NothingDue
egress_tells f x (Some q) = Ok (telling x q, to_producers (egress_partition f) q (Ack (in_edge (egress_partition f) q) (x.marks q)))

-- egress merges one item, and acknowledges only where its merge isn't ready
abbrev pub egress_works : Flow → Consumer → Result (Consumer × List Envelope) Refusal
egress_works f x = if is_ready f (egress_partition f) x then Ok (merged_one x, []) else egress_tells f x (untold f (egress_partition f) x)

-- what each act makes of egress, which takes, works and pulls; all else is refused, for it never fails and has no inputs
abbrev pub egress_does : Flow → Act → Consumer → Result (Consumer × List Envelope) Refusal
egress_does f (Takes from m) x = Ok (egress_takes m x, [])
egress_does f Works x = egress_works f x
egress_does f Makes x = Err NothingDue
egress_does f Dies x = Err NotRunning
egress_does f AsksStop x = Err NotRunning
egress_does f AsksBack x = Err NotRunning
egress_does f (Pulls q) x = Ok (pulled x q, [])
