-- Which packets a controller may be given, and how far its numbers go.
use Rattle.std.specs.Prelude.{◌≡◌, ◌<◌, ℕ, ◌+◌, length, slice_index}
use Rattle.tuple_edge.specs.declared.node.NodeId.{NodeId}
use Rattle.tuple_edge.specs.declared.node.NodeId.TheVariants as node
use Rattle.tuple_edge.specs.declared.node.Which.{Which}
use Rattle.tuple_edge.specs.declared.packet.Body.{Body}
use Rattle.tuple_edge.specs.declared.packet.Body.TheVariants as body
use Rattle.pair_machine.specs.Numbers.{Controller}
use Rattle.pair_machine.specs.Messages.{Message, Report}
use Rattle.tuple_edge.specs.Limits.{number_limit}
use Rattle.pair_control.specs.ControllerView.{ControllerView}

-- ---- packets

-- the sender is one of the controller's two replicas
abbrev pub IsFromReplica : ControllerView → NodeId → Type 0
IsFromReplica c (node.Replica stage part which) = (stage ≡ c.stage) × (part ≡ c.part)
IsFromReplica c sender = ⊥

-- a replica sends such a packet to its controller; a report names an in-edge of the pair, and a number below the limit
abbrev pub IsCarried : ControllerView → Body → Type 0
IsCarried c (body.Report i e k) = (e.stage + 1 ≡ c.stage) × (e.to ≡ c.part) × (e.from < length c.acked) × (k < number_limit)
IsCarried c (body.Down i) = Unit {0}
IsCarried c (body.AskStop i) = Unit {0}
IsCarried c body.AskBack = Unit {0}
IsCarried c (body.Caught i) = Unit {0}
IsCarried c b = ⊥

-- the incarnations and the term may rise once more
abbrev pub MayRise : ControllerView → Type 0
MayRise c = (c.a.inc + 1 < number_limit) × (c.b.inc + 1 < number_limit) × (c.term + 1 < number_limit)

-- all that is asked of a packet and its sender
pub record IsAdmitted (c : ControllerView) (from : NodeId) (b : Body) : Type 0 where
  pub sender : IsFromReplica c from
  pub carried : IsCarried c b
  pub rises : MayRise c

-- ---- numbers

-- the incarnations and the term are below the limit
abbrev pub AreSmall : ControllerView → Type 0
AreSmall c = (c.a.inc < number_limit) × (c.b.inc < number_limit) × (c.term < number_limit)

-- all that was reported or acknowledged is below the limit
abbrev pub AreReportsSmall : ControllerView → Type 0
AreReportsSmall c = (q : ℕ) → (slice_index c.a.reports q < number_limit) × (slice_index c.b.reports q < number_limit) × (slice_index c.acked q < number_limit)

-- the incarnations and the term that the machine has of a controller may rise once more
abbrev pub HasRoom : Controller → Type 0
HasRoom c = ((w : Which) → (c.watched w).inc + 1 < number_limit) × (c.term + 1 < number_limit)

-- where the message reports a number, that is below the limit
abbrev pub IsSmall : Message → Type 0
IsSmall (Report i e k) = k < number_limit
IsSmall m = Unit {0}
