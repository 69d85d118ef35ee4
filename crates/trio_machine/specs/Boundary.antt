-- What ingress and egress do, in numbers: ingress makes inputs into items and sends them as a producer that always leads; egress merges
-- what the last stage sends and acknowledges it. Neither ever fails.
use Rattle.std.specs.Prelude.{ℕ, List, [], Option, None, Some, Result, Ok, Err, ◌+◌, if◌then◌else◌, nat_lt}
use Rattle.pair_machine.specs.Boundary.{egress_partition, ingress_source}
use Rattle.pair_machine.specs.Consumers.{is_ready, merged_one, offered, pulled, telling, untold}
use Rattle.pair_machine.specs.Flow.{Flow}
use Rattle.pair_machine.specs.Numbers.{Consumer, in_edge}
use Rattle.pair_machine.specs.Producers.{Due, acked_to, due, sent_on}
use Rattle.pair_machine.specs.Replicas.{made_by}
use Rattle.trio_machine.specs.Messages.{Message, Tuple, Ack, Envelope, Act, Takes, Works, Makes, Dies, Pulls, Refusal, NothingDue, NoMoreRows, NotRunning}
use Rattle.trio_machine.specs.Numbers.{Ingress}
use Rattle.trio_machine.specs.Replicas.{sends_due, to_producers}

-- ---- ingress

-- a message that no line names has no effect
abbrev pub ingress_takes : Message → Ingress → Ingress
ingress_takes (Ack e k) x = record x { producer = acked_to x.producer e.to k }
ingress_takes m x = x

-- how many items of the edge to target t are made
abbrev pub source_made : Flow → Ingress → ℕ → ℕ
source_made f x t = made_by f (ingress_source 0) x.makes t

-- ingress sends the item that is due to the one replica whose turn it is, or has nothing to do
abbrev pub ingress_sends : Flow → Ingress → Option Due → Result (Ingress × List Envelope) Refusal
ingress_sends f x None = Err NothingDue
ingress_sends f x (Some d) = Ok (record x { producer = sent_on x.producer d }, sends_due f (ingress_source 0) d)

-- the work of ingress is to send what is due; it merges nothing and reports nothing
abbrev pub ingress_works : Flow → Ingress → Result (Ingress × List Envelope) Refusal
ingress_works f x = ingress_sends f x (due f (ingress_source 0) (source_made f x) x.producer)

-- the next input, or the end behind the last one, becomes items; after the end there is none to make
abbrev pub ingress_makes : Flow → Ingress → Result (Ingress × List Envelope) Refusal
ingress_makes f x = if nat_lt x.makes f.makes then Ok (record x { makes = x.makes + 1 }, []) else Err NoMoreRows

-- what ingress is after an act, and what it sends, or why the act is none; it never fails
abbrev pub ingress_does : Flow → Act → Ingress → Result (Ingress × List Envelope) Refusal
ingress_does f (Takes from m) x = Ok (ingress_takes m x, [])
ingress_does f Works x = ingress_works f x
ingress_does f Makes x = ingress_makes f x
ingress_does f Dies x = Err NotRunning
ingress_does f (Pulls q) x = Err NotRunning

-- ---- egress

-- egress takes an item where it is the next one of its in-edge; no other message has an effect
abbrev pub egress_takes : Message → Consumer → Consumer
egress_takes (Tuple e n) x = offered x e.from n
egress_takes m x = x

-- egress acknowledges the mark of an in-edge to its producers, or has nothing to do
abbrev pub egress_tells : Flow → Consumer → Option ℕ → Result (Consumer × List Envelope) Refusal
egress_tells f x None = Err NothingDue
egress_tells f x (Some q) = Ok (telling x q, to_producers (egress_partition f) q (Ack (in_edge (egress_partition f) q) (x.marks q)))

-- egress merges while it can, and else acknowledges what it took; it sends no items on
abbrev pub egress_works : Flow → Consumer → Result (Consumer × List Envelope) Refusal
egress_works f x = if is_ready f (egress_partition f) x then Ok (merged_one x, []) else egress_tells f x (untold f (egress_partition f) x)

-- what egress is after an act, and what it sends, or why the act is none; it never fails
abbrev pub egress_does : Flow → Act → Consumer → Result (Consumer × List Envelope) Refusal
egress_does f (Takes from m) x = Ok (egress_takes m x, [])
egress_does f Works x = egress_works f x
egress_does f Makes x = Err NothingDue
egress_does f Dies x = Err NotRunning
egress_does f (Pulls q) x = Ok (pulled x q, [])
