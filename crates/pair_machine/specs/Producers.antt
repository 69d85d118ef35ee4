-- What a producer does, in numbers: it is acknowledged, asked to go back, or named leader, and sends what is due. A replica that runs
-- and ingress are producers; an item goes to each replica of each partition of the next stage, or to egress.
use Rattle.std.specs.Prelude.{ℕ, zero, suc, true, List, [], ◌∷◌, Option, None, Some, ◌+◌, ◌-◌, ◌==◌, ◌&&◌, if◌then◌else◌, nat_lt, nat_le, min, max}
use Rattle.tuple_edge.specs.declared.node.NodeId.{NodeId}
use Rattle.tuple_edge.specs.declared.node.NodeId.TheVariants as node
use Rattle.tuple_edge.specs.declared.node.Which.TheVariants.{A, B}
use Rattle.pair_machine.specs.Numbers.{Partition, Producer, out_edge, which_at}
use Rattle.pair_machine.specs.Messages.{Envelope, Message, Tuple, envelope}
use Rattle.pair_machine.specs.Flow.{Flow}
use Rattle.pair_machine.specs.Consumers.{with_at}

-- ---- what others ask of it

-- the items of out-edge t up to number k are acknowledged; no cursor stays at one of them
abbrev pub acked_to : Producer → ℕ → ℕ → Producer
acked_to x t k =
    let low = max (x.lows t) k in
    record x { lows = with_at x.lows t low; cursors = λ j c. if j == t then max (x.cursors t c) (low + 1) else x.cursors j c }

-- a cursor goes back to n, but not to what is acknowledged
abbrev pub rewound : Producer → ℕ → ℕ → ℕ → Producer
rewound x t c n = record x { cursors = λ j d. if (j == t) && (d == c) then min (x.cursors t c) (max n (x.lows t + 1)) else x.cursors j d }

-- a replica wants the items of out-edge t from n on: a leader goes back for it
abbrev pub wanted : Producer → ℕ → ℕ → ℕ → Producer
wanted x t c n = if x.leads then rewound x t c n else x

-- it is named leader: under a higher term it leads, and sends again all that is not acknowledged
abbrev pub leading : Producer → ℕ → Producer
leading x term = if nat_lt x.term term then record { lows = x.lows; cursors = λ j c. x.lows j + 1; term = term; leads = true } else x

-- ---- what is due

-- an item to be sent: on which out-edge, to which replica there, and its number
pub record Due : Type 0 where
  pub to : ℕ
  pub copy : ℕ
  pub number : ℕ

-- how many replicas are at the other end of an edge; egress counts as one
abbrev pub copies : Flow → Partition → ℕ
copies f p = if p.stage == f.stages then 1 else f.replicas

-- the one of the lesser number, and of two with one number the former
abbrev pub sooner : Option Due → Option Due → Option Due
sooner None e = e
sooner (Some d) None = Some d
sooner (Some d) (Some e) = if nat_le d.number e.number then Some d else Some e

-- what is due to a replica, where so many items were made for its edge
abbrev pub due_copy : (made : ℕ) → Producer → ℕ → ℕ → Option Due
due_copy made x t c = if nat_le (x.cursors t c) made then Some (record { to = t; copy = c; number = x.cursors t c }) else None

-- the soonest of what is due to the first c replicas of a target
abbrev pub due_copies : (made : ℕ) → Producer → ℕ → ℕ → Option Due
due_copies made x t zero = None
due_copies made x t (suc c) = sooner (due_copies made x t c) (due_copy made x t c)

-- the soonest of what is due to the targets below n, where each has so many replicas
abbrev pub due_below : (made : ℕ → ℕ) → Producer → ℕ → ℕ → Option Due
due_below made x copies zero = None
due_below made x copies (suc n) = sooner (due_below made x copies n) (due_copies (made n) x n copies)

-- what is due: of all cursors that are at a made item the one of the least number; nothing where it doesn't lead
abbrev pub due : Flow → Partition → (made : ℕ → ℕ) → Producer → Option Due
due f p made x = if x.leads then due_below made x (copies f p) (f.targets p.stage) else None

-- what was due is sent
abbrev pub sent_on : Producer → Due → Producer
sent_on x d = record x { cursors = λ j c. if (j == d.to) && (c == d.copy) then d.number + 1 else x.cursors j c }

-- to whom it goes
abbrev pub consumer_of : Flow → Partition → Due → NodeId
consumer_of f p d = if p.stage == f.stages then node.Egress else node.Replica (p.stage + 1) d.to (which_at d.copy)

-- one tuple carries the due item, to one replica of the target or to egress; the other replica has its own cursor
abbrev pub sends_due : Flow → Partition → Due → List Envelope
sends_due f p d = envelope (consumer_of f p d) (Tuple (out_edge p d.to) d.number) ∷ []

-- the other way: a message to both producers of in-edge q, or to ingress
abbrev pub to_producers : Partition → ℕ → Message → List Envelope
to_producers p q m =
    if p.stage == 1 then envelope node.Ingress m ∷ []
    else envelope (node.Replica (p.stage - 1) q A) m ∷ envelope (node.Replica (p.stage - 1) q B) m ∷ []
