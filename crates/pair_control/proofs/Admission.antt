-- What a sound machine has sent to a controller is admitted there.
use Rattle.std.proofs.Common.{◌≡◌, ◌<◌, ◌+◌, ◌-◌, ◌^◌, List, IsTrue, length, refl, sym, subst, arith}
use Rattle.std.proofs.lemmas.Bool.{eq-eqb, le-leb, lt-ltb}
use Rattle.tuple_edge.specs.declared.node.EdgeId.{EdgeId}
use Rattle.tuple_edge.specs.declared.node.NodeId.{NodeId}
use Rattle.tuple_edge.specs.declared.node.NodeId.TheVariants as node
use Rattle.tuple_edge.specs.declared.node.Which.TheVariants.{A, B}
use Rattle.tuple_edge.specs.declared.packet.Body.{Body}
use Rattle.tuple_edge.specs.declared.packet.Body.TheVariants as body
use Rattle.tuple_edge.specs.Input.{Input}
use Rattle.plan_reader.specs.Nodes.{has_link, has_pair, parts_of}
use Rattle.plan_reader.specs.PlanView.{PlanView}
use Rattle.pair_machine.specs.Contents.{BodyStands}
use Rattle.pair_machine.specs.Counts.{flow_of}
use Rattle.pair_machine.specs.Flow.{Flow}
use Rattle.pair_machine.specs.Links.{Carries, HasNode, IsAcross, IsUp, link}
use Rattle.pair_machine.specs.Lists.{Among}
use Rattle.pair_machine.specs.Machine.{State, controller_in}
use Rattle.pair_machine.specs.Messages.{Ack, AskBack, AskStop, Begin, Caught, Chunk, ChunkEnd, Down, Lead, Message, Report, Serve, Stop, Tuple, Want}
use Rattle.pair_machine.specs.Numbers.{ControllerNode, Node}
use Rattle.pair_machine.specs.Sound.{IsSound}
use Rattle.pair_machine.proofs.Lists.{each_at}
use Rattle.pair_control.specs.Admitted.{HasRoom, IsAdmitted, IsCarried, IsFromReplica, IsSmall, MayRise}
use Rattle.pair_control.specs.ControllerView.{ControllerView, numbers_of}
use Rattle.pair_control.specs.StandsFor.{StandsFor, node_of}

module _ (f : Flow) (c : ControllerView) (edges : length c.acked ≡ f.sources c.stage) where
  up_comes : (from : NodeId) → IsUp from (node_of c) → IsFromReplica c from
  up_comes (node.Replica s p w) h = h
  up_comes node.Ingress h = h
  up_comes (node.Control s p) h = h
  up_comes node.Egress h = h

  none_across : (from : NodeId) → IsAcross from (node_of c) → ⊥
  none_across (node.Replica s p w) h = h
  none_across node.Ingress h = h
  none_across (node.Control s p) h = h
  none_across node.Egress h = h

  carried_here : (plan : PlanView) (inputs : List Input) (from : NodeId) (b : Body) (m : Message) → Carries f (link from (node_of c)) m →
      BodyStands plan inputs (link from (node_of c)) b m → IsSmall m → IsFromReplica c from × IsCarried c b
  carried_here plan inputs from (body.Report i e k) (Report inc edge upto) h st small =
      let P : EdgeId → Type 0 = λ z. IsCarried c (body.Report i z k) in
      let few : edge.from < length c.acked = rw edges h.1.2 in
      let below : k < 2 ^ 62 = let e_upto = st.2 in omega arith in
      (up_comes from h.0, subst P (sym st.1) (h.1.0, h.1.1, few, below))
  carried_here plan inputs from (body.Down i) (Down inc) h st small = (up_comes from h, tt)
  carried_here plan inputs from (body.AskStop i) (AskStop inc) h st small = (up_comes from h, tt)
  carried_here plan inputs from body.AskBack AskBack h st small = (up_comes from h, tt)
  carried_here plan inputs from (body.Caught i) (Caught inc) h st small = (up_comes from h, tt)
  carried_here plan inputs from (body.Tuple e n x) (Tuple edge number) h st small = absurd h.1
  carried_here plan inputs from (body.Ack e k) (Ack edge upto) h st small = absurd h.1
  carried_here plan inputs from (body.Want e n) (Want edge number) h st small = absurd h.1
  carried_here plan inputs from (body.Lead i t) (Lead inc term) h st small = absurd h
  carried_here plan inputs from (body.Serve i t) (Serve inc target) h st small = absurd h
  carried_here plan inputs from (body.Begin i) (Begin inc) h st small = absurd h
  carried_here plan inputs from (body.Stop i) (Stop inc) h st small = absurd h
  carried_here plan inputs from (body.Chunk i n x) (Chunk inc number numbers) h st small = absurd (none_across from h)
  carried_here plan inputs from (body.ChunkEnd i n) (ChunkEnd inc count numbers) h st small = absurd (none_across from h)
  carried_here plan inputs from b m h st small = absurd st

-- ---- the plan's link

pair_there : (plan : PlanView) (inputs : List Input) (c : ControllerView) → HasNode (flow_of plan inputs) (node_of c) → IsTrue (has_pair plan c.stage c.part)
unfolding flow_of
pair_there plan inputs c h =
    let first = le-leb 1 c.stage h.0.0 in
    let last = le-leb c.stage (length plan.stages) h.0.1 in
    let stage_is : c.stage + 1 - 1 ≡ c.stage = omega arith in
    let part : c.part < parts_of plan c.stage = subst (λ s. c.part < parts_of plan s) stage_is h.1 in
    let there = lt-ltb c.part (parts_of plan c.stage) part in
    rw (first, last, there) refl

link_there : (plan : PlanView) (inputs : List Input) (c : ControllerView) (from : NodeId) → HasNode (flow_of plan inputs) (node_of c) → IsFromReplica c from → IsTrue (has_link plan (link from (node_of c)))
link_there plan inputs c (node.Replica s p w) h from = rw (from.0, from.1, pair_there plan inputs c h, eq-eqb c.stage c.stage refl, eq-eqb c.part c.part refl) refl
link_there plan inputs c node.Ingress h from = absurd from
link_there plan inputs c (node.Control s p) h from = absurd from
link_there plan inputs c node.Egress h from = absurd from

may_rise : (c : ControllerView) (n : Node) → n ≡ ControllerNode (numbers_of c) → HasRoom (controller_in n) → MayRise c
may_rise c n e h = let P : Node → Type 0 = λ x. HasRoom (controller_in x) in let z : HasRoom (numbers_of c) = subst P e h in (z.0 A, z.0 B, z.1)

pub sent_is_admitted : (plan : PlanView) (inputs : List Input) (c : ControllerView) (from : NodeId) (b : Body) (s : State) (m : Message) → IsSound (flow_of plan inputs) s →
    StandsFor (flow_of plan inputs) c (s.nodes (node_of c)) → HasRoom (controller_in (s.nodes (node_of c))) → IsSmall m → Among m (s.sent (link from (node_of c))) →
    BodyStands plan inputs (link from (node_of c)) b m → IsTrue (has_link plan (link from (node_of c))) × IsAdmitted c from b
sent_is_admitted plan inputs c from b s m sound stands room small among st =
    let f = flow_of plan inputs in
    let l = link from (node_of c) in
    let h = carried_here f c stands.edges plan inputs from b m (each_at (Carries f l) m (s.sent l) among (sound.carried l)) st small in
    let ends = each_at (λ k. HasNode f l.from × HasNode f l.to) m (s.sent l) among (sound.ends l) in
    (link_there plan inputs c from ends.1 h.0, record { sender = h.0; carried = h.1; rises = may_rise c (s.nodes (node_of c)) stands.numbers room })
