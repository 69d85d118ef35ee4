-- What is written of a node as contracts see it: of the numbers that it stands for, this is the text.
use Rattle.std.specs.Prelude.{ℕ, ◌≡◌, List, [], ◌++◌, Option, None, Some, codes, length, map}
use Rattle.flux_consumer.specs.ConsumerView.{ConsumerView, told_of}
use Rattle.flux_producer.specs.ProducerView.{ProducerView, buffer_at, cursor_at}
use Rattle.merge_order.specs.MergeView.{mark_of}
use Rattle.text_words.specs.Lines.{Word}
use Rattle.pair_machine.specs.Numbers.{Consumer, Producer}
use Rattle.state_mover.specs.MoverView.{MoverView, total_of}
use Rattle.catch_up.specs.NewcomerView.{NewcomerView, held_of}
use Rattle.ingress_egress.specs.EgressView.{EgressView}
use Rattle.ingress_egress.specs.IngressView.{IngressView, producer_at}
use Rattle.replica_node.specs.ReplicaView.{ReplicaView}
use Rattle.replica_node.specs.declared.phase.Phase.{Phase}
use Rattle.replica_node.specs.declared.phase.Phase.TheVariants as phase
use Rattle.replica_node.specs.declared.phase.Running.{Running}
use Rattle.state_text.specs.StateText.{ends_of, gathering_line, gone_line, held_line, in_edge_line, lines_below, makes_line, move_line, out_edge_line, out_line, running_line, source_name}

-- ---- edges

-- the numbers of a consumer in code: its marks, what it told of them, and how many items it merged
abbrev pub consumer_numbers : ConsumerView → Consumer
consumer_numbers c = record { marks = mark_of c.merge; told = told_of c; count = c.merge.count }

-- the numbers of a producer in code: its lows, its cursors, its term, and whether it leads
abbrev pub producer_numbers : ProducerView → Producer
producer_numbers p = record { lows = λ t. (buffer_at p t).low; cursors = cursor_at p; term = p.term; leads = p.leads }

-- how many items were produced on an out-edge
abbrev pub made_in : ProducerView → ℕ → ℕ
made_in p t = (buffer_at p t).produced

-- all in-edges of a consumer in code, under its node's name
abbrev pub in_edges_shown : Word → ConsumerView → List ℕ
in_edges_shown name c = lines_below (length c.merge.marks) (in_edge_line name (consumer_numbers c))

-- all out-edges of a producer in code, under its node's name
abbrev pub out_edges_shown : Word → ProducerView → List ℕ
out_edges_shown name p = lines_below (length p.edges) (out_edge_line name (ends_of p.copies) (made_in p) (producer_numbers p))

-- ---- nodes

-- ingress in code: how many inputs, or the end, were made into items; the edges of each source
abbrev pub ingress_shown : IngressView → List ℕ
ingress_shown i = makes_line i.makes ++ lines_below (length i.producers) (λ q. out_edges_shown (source_name (length i.producers) q) (producer_at i q))

-- egress in code: how many items it merged, and whether these are all; its in-edges
abbrev pub egress_shown : EgressView → List ℕ
egress_shown e = out_line e.consumer.merge.count e.done ++ in_edges_shown (codes "out") e.consumer

-- the numbers of the items that a newcomer in code holds of an in-edge
abbrev pub held_numbers : NewcomerView → ℕ → List ℕ
held_numbers g q = map (λ h. h.0) (held_of g q)

-- a newcomer in code: its incarnation, how many entries it took, and what it holds of each in-edge
abbrev pub gathering_shown : Word → NewcomerView → List ℕ
gathering_shown name g = gathering_line name g.inc (length g.taken) ++ lines_below (length g.held) (held_line name (held_numbers g))

-- a newcomer has so many in-edges
abbrev pub HasHeld : ℕ → Phase → Type 0
HasHeld edges (phase.Running r) = Unit {0}
HasHeld edges (phase.Gathering g) = edges ≡ length g.held
HasHeld edges (phase.Gone inc) = Unit {0}

-- the line of the move that a mover in code makes, if there is one
abbrev pub move_shown : Word → Option MoverView → List ℕ
move_shown name None = []
move_shown name (Some m) = move_line name m.target m.sent (total_of m)

-- a replica in code that runs: its line, its in-edges, its out-edges, and its move
abbrev pub running_shown : Word → Running → List ℕ
running_shown name r =
    running_line name r.inc r.producer.term r.producer.leads r.served r.consumer.merge.count
    ++ in_edges_shown name r.consumer
    ++ out_edges_shown name r.producer
    ++ move_shown name r.mover

-- a replica in code by what it has in its mode
abbrev pub phase_shown : Word → Phase → List ℕ
phase_shown name (phase.Running r) = running_shown name r
phase_shown name (phase.Gathering g) = gathering_shown name g
phase_shown name (phase.Gone inc) = gone_line name inc

-- a replica in code, under its name
abbrev pub replica_shown : Word → ReplicaView → List ℕ
replica_shown name v = phase_shown name v.phase
