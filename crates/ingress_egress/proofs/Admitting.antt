-- What a sound machine has sent to ingress and to egress is admitted there.
use Rattle.std.proofs.Common.{◌≡◌, ◌<◌, ◌≤◌, ◌+◌, ◌-◌, ◌∙◌, ℕ, zero, suc, List, [], ◌∷◌, Some, IsTrue, length, refl, ap, subst, arith}
use Rattle.std.specs.Prelude.{All, slice_get}
use Rattle.std.proofs.lemmas.Bool.{eq-eqb, le-leb, lt-ltb}
use Rattle.std.proofs.lemmas.List.Elements.{All-head, All-tail}
use Rattle.tuple_edge.specs.Limits.{number_limit}
use Rattle.tuple_edge.specs.declared.item.Item.{Item}
use Rattle.tuple_edge.specs.declared.node.EdgeId.{EdgeId}
use Rattle.tuple_edge.specs.declared.node.NodeId.{NodeId}
use Rattle.tuple_edge.specs.declared.node.NodeId.TheVariants as node
use Rattle.tuple_edge.specs.declared.packet.Body.{Body}
use Rattle.tuple_edge.specs.declared.packet.Body.TheVariants as body
use Rattle.tuple_edge.specs.Input.{Input}
use Rattle.merge_order.specs.Edges.{item_at}
use Rattle.stream_ops.specs.Times.{IsTime, IsTimely}
use Rattle.plan_reader.specs.Nodes.{has_link, has_pair, parts_of, sources_of}
use Rattle.plan_reader.specs.PlanView.{IsPlan, PlanView}
use Rattle.pair_machine.specs.Contents.{BodyStands}
use Rattle.pair_machine.specs.Counts.{flow_of, items_on}
use Rattle.pair_machine.specs.Links.{Carries, HasNode, IsAcross, IsUp, link}
use Rattle.pair_machine.specs.Lists.{Among}
use Rattle.pair_machine.specs.Machine.{State}
use Rattle.pair_machine.specs.Messages.{Ack, AskBack, AskStop, Begin, Caught, Chunk, ChunkEnd, Down, Lead, Message, Report, Serve, Stop, Tuple, Want}
use Rattle.pair_machine.specs.Sound.{IsSound}
use Rattle.pair_machine.proofs.EdgeLaws.{parts_at, times_stay}
use Rattle.pair_machine.proofs.Lists.{each_at}
use Rattle.ingress_egress.specs.EgressStands as egress
use Rattle.ingress_egress.specs.EgressView.{EgressView}
use Rattle.ingress_egress.specs.IngressStands as ingress
use Rattle.ingress_egress.specs.IngressView.{IngressView}
use Rattle.ingress_egress.specs.Small.{IsSmall}

-- ---- what holds of each item holds of the one of a number

timely_of : (items : List Item) → All IsTimely items → (n : ℕ) (i : Item) → slice_get items n ≡ Some i → IsTimely i
timely_of [] all n i e = let z : ⊥ = cc e in absurd z
timely_of (x ∷ items) all zero i e = let same : x ≡ i = cc e in subst IsTimely same (All-head IsTimely x items all)
timely_of (x ∷ items) all (suc n) i e = timely_of items (All-tail IsTimely x items all) n i e

timely_at : (items : List Item) → All IsTimely items → (n : ℕ) (i : Item) → item_at items n ≡ Some i → IsTimely i
timely_at items all zero i e = let z : ⊥ = cc e in absurd z
timely_at items all (suc n) i e = timely_of items all n i e

module _ (plan : PlanView) (inputs : List Input) where
  stages_are : (flow_of plan inputs).stages ≡ length plan.stages
  unfolding flow_of
  stages_are = refl

  sources_are : (s : ℕ) → (flow_of plan inputs).sources s ≡ sources_of plan s
  unfolding flow_of
  sources_are s = refl

  pair_there : (stage part : ℕ) → 1 ≤ stage → stage ≤ length plan.stages → part < sources_of plan (stage + 1) → IsTrue (has_pair plan stage part)
  pair_there stage part one last l =
      let first = le-leb 1 stage one in
      let most = le-leb stage (length plan.stages) last in
      let before : stage + 1 - 1 ≡ stage = omega arith in
      let below = lt-ltb part (parts_of plan stage) (subst (λ n. part < parts_of plan n) before l) in
      rw (first, most, below) refl

  -- ---- egress

  none_up : (from : NodeId) → IsUp from node.Egress → ⊥
  none_up node.Ingress h = h
  none_up (node.Replica s p w) h = h
  none_up (node.Control s p) h = h
  none_up node.Egress h = h

  none_across : (from : NodeId) → IsAcross from node.Egress → ⊥
  none_across node.Ingress h = h
  none_across (node.Replica s p w) h = h
  none_across (node.Control s p) h = h
  none_across node.Egress h = h

  tuple_admitted : IsPlan plan → All (λ input. IsTime input.row.time) inputs → (e : EgressView) → e.stages ≡ length plan.stages → length e.consumer.merge.marks ≡ sources_of plan ((flow_of plan inputs).stages + 1)
      → (from : NodeId) → HasNode (flow_of plan inputs) from → (edge named : EdgeId) (number at : ℕ) (i : Item) → Carries (flow_of plan inputs) (link from node.Egress) (Tuple named at)
      → edge ≡ named → number ≡ at → item_at (items_on plan inputs named) at ≡ Some i → at < number_limit
      → egress.IsAdmitted e from (body.Tuple edge number i)
  tuple_admitted is times e same edges (node.Replica s p w) there edge named number at i h at_edge at_number item small =
      let last = stages_are in
      let stage = ap (λ (z : EdgeId). z.stage) at_edge in
      let source = ap (λ (z : EdgeId). z.from) at_edge in
      let target = ap (λ (z : EdgeId). z.to) at_edge in
      let of_stage = h.0.1 in
      let of_last = h.1.0 in
      let is_last : s ≡ (flow_of plan inputs).stages = omega arith in
      let part : p < sources_of plan ((flow_of plan inputs).stages + 1) = subst (λ k. p < sources_of plan (k + 1)) is_last (subst (λ k. p < k) (sources_are (s + 1)) there.1) in
      record {
        sender = (omega arith, omega arith);
        carried = (
          omega arith,
          source ∙ h.0.2,
          target ∙ h.1.1,
          omega arith,
          timely_at (items_on plan inputs named) ((times_stay plan inputs is times).edges named.stage named.from named.to) at i item,
        );
      }
  tuple_admitted is times e same edges node.Ingress there edge named number at i h at_edge at_number item small =
      let last = stages_are in let some = is.some in let none = h.0.0 in let of_last = h.1.0 in let z : ⊥ = omega arith in absurd z
  tuple_admitted is times e same edges (node.Control s p) there edge named number at i h at_edge at_number item small = absurd h.0
  tuple_admitted is times e same edges node.Egress there edge named number at i h at_edge at_number item small = absurd h.0

  egress_link : (e : EgressView) → e.stages ≡ length plan.stages → IsPlan plan → (from : NodeId) → HasNode (flow_of plan inputs) from → egress.IsFromLast e from → IsTrue (has_link plan (link from node.Egress))
  egress_link e same is (node.Replica s p w) there from =
      let last = stages_are in
      let z = from.0 in
      let some = is.some in
      let pair = pair_there s p there.0.0 (omega arith) (subst (λ k. p < k) (sources_are (s + 1)) there.1) in
      let next = eq-eqb (length plan.stages + 1) (s + 1) (omega arith) in
      rw (pair, next) refl
  egress_link e same is node.Ingress there from = absurd from
  egress_link e same is (node.Control s p) there from = absurd from
  egress_link e same is node.Egress there from = absurd from

  to_egress : IsPlan plan → All (λ input. IsTime input.row.time) inputs → (e : EgressView) → e.stages ≡ length plan.stages → length e.consumer.merge.marks ≡ sources_of plan ((flow_of plan inputs).stages + 1)
      → (from : NodeId) → HasNode (flow_of plan inputs) from → (b : Body) (m : Message) → Carries (flow_of plan inputs) (link from node.Egress) m → BodyStands plan inputs (link from node.Egress) b m → IsSmall m
      → egress.IsAdmitted e from b
  to_egress is times e same edges from there (body.Tuple edge number i) (Tuple named at) h st small = tuple_admitted is times e same edges from there edge named number at i h st.0 st.1 st.2 small
  to_egress is times e same edges from there (body.Ack edge k) (Ack named upto) h st small = absurd h.1
  to_egress is times e same edges from there (body.Want edge k) (Want named number) h st small = absurd h.1
  to_egress is times e same edges from there (body.Report i edge k) (Report inc named upto) h st small = absurd h.1
  to_egress is times e same edges from there (body.Lead i t) (Lead inc term) h st small = absurd h
  to_egress is times e same edges from there (body.Serve i t) (Serve inc target) h st small = absurd h
  to_egress is times e same edges from there (body.Begin i) (Begin inc) h st small = absurd h
  to_egress is times e same edges from there (body.Stop i) (Stop inc) h st small = absurd h
  to_egress is times e same edges from there (body.Down i) (Down inc) h st small = absurd (none_up from h)
  to_egress is times e same edges from there (body.AskStop i) (AskStop inc) h st small = absurd (none_up from h)
  to_egress is times e same edges from there body.AskBack AskBack h st small = absurd (none_up from h)
  to_egress is times e same edges from there (body.Caught i) (Caught inc) h st small = absurd (none_up from h)
  to_egress is times e same edges from there (body.Chunk i n x) (Chunk inc number numbers) h st small = absurd (none_across from h)
  to_egress is times e same edges from there (body.ChunkEnd i n) (ChunkEnd inc count numbers) h st small = absurd (none_across from h)
  to_egress is times e same edges from there b m h st small = absurd st

  pub egress_admits : IsPlan plan → All (λ input. IsTime input.row.time) inputs → (e : EgressView) (from : NodeId) (b : Body) (s : State) (m : Message) → IsSound (flow_of plan inputs) s
      → egress.StandsFor plan inputs e (s.nodes node.Egress) → IsSmall m → Among m (s.sent (link from node.Egress)) → BodyStands plan inputs (link from node.Egress) b m
      → IsTrue (has_link plan (link from node.Egress)) × egress.IsAdmitted e from b
  egress_admits is times e from b s m sound stands small among st =
      let f = flow_of plan inputs in
      let l = link from node.Egress in
      let carried = each_at (Carries f l) m (s.sent l) among (sound.carried l) in
      let ends = each_at (λ k. HasNode f l.from × HasNode f l.to) m (s.sent l) among (sound.ends l) in
      let ok = to_egress is times e stands.stages stands.consumer.edges from ends.0 b m carried st small in
      (egress_link e stands.stages is from ends.0 ok.sender, ok)

  -- ---- ingress

  no_up : (from : NodeId) → IsUp from node.Ingress → ⊥
  no_up node.Ingress h = h
  no_up (node.Replica s p w) h = h
  no_up (node.Control s p) h = h
  no_up node.Egress h = h

  no_across : (from : NodeId) → IsAcross from node.Ingress → ⊥
  no_across node.Ingress h = h
  no_across (node.Replica s p w) h = h
  no_across (node.Control s p) h = h
  no_across node.Egress h = h

  first_part : (i : IngressView) → slice_get plan.stages 0 ≡ Some i.first → (s p : ℕ) → s ≡ 1 → p < (flow_of plan inputs).sources (s + 1) → p < i.first.parts
  first_part i first s p one l =
      let there : p < sources_of plan (1 + 1) = subst (λ k. p < sources_of plan (k + 1)) one (subst (λ k. p < k) (sources_are (s + 1)) l) in
      subst (λ k. p < k) (parts_at plan.stages 0 i.first first) there

  ack_admitted : IsPlan plan → (i : IngressView) → slice_get plan.stages 0 ≡ Some i.first → length i.producers ≡ plan.version → (from : NodeId) → HasNode (flow_of plan inputs) from
      → (edge named : EdgeId) (k upto : ℕ) → Carries (flow_of plan inputs) (link from node.Ingress) (Ack named upto) → edge ≡ named → k ≡ upto → upto < number_limit
      → ingress.IsAdmitted i from (body.Ack edge k)
  ack_admitted is i first many (node.Control s p) there edge named k upto h at_edge at small =
      let stage = ap (λ (z : EdgeId). z.stage) at_edge in
      let source = ap (λ (z : EdgeId). z.from) at_edge in
      let target = ap (λ (z : EdgeId). z.to) at_edge in
      let of_stage = h.0.0 in
      let of_ingress = h.1.0 in
      let some = h.1.1 in
      let sources = sources_are 1 in
      let one : s ≡ 1 = omega arith in
      (one, (omega arith, omega arith, target ∙ h.0.1, first_part i first s p one there.1), omega arith)
  ack_admitted is i first many node.Egress there edge named k upto h at_edge at small =
      let last = stages_are in let some = is.some in let of_last = h.0.0 in let none = h.1.0 in let z : ⊥ = omega arith in absurd z
  ack_admitted is i first many node.Ingress there edge named k upto h at_edge at small = absurd h.0
  ack_admitted is i first many (node.Replica s p w) there edge named k upto h at_edge at small = absurd h.0

  want_admitted : IsPlan plan → (i : IngressView) → slice_get plan.stages 0 ≡ Some i.first → length i.producers ≡ plan.version → (from : NodeId) → HasNode (flow_of plan inputs) from
      → (edge named : EdgeId) (k number : ℕ) → Carries (flow_of plan inputs) (link from node.Ingress) (Want named number) → edge ≡ named
      → ingress.IsAdmitted i from (body.Want edge k)
  want_admitted is i first many (node.Replica s p w) there edge named k number h at_edge =
      let stage = ap (λ (z : EdgeId). z.stage) at_edge in
      let source = ap (λ (z : EdgeId). z.from) at_edge in
      let target = ap (λ (z : EdgeId). z.to) at_edge in
      let of_stage = h.0.0 in
      let of_ingress = h.1.0 in
      let some = h.1.1 in
      let sources = sources_are 1 in
      let one : s ≡ 1 = omega arith in
      (one, (omega arith, omega arith, target ∙ h.0.1, first_part i first s p one there.1))
  want_admitted is i first many node.Egress there edge named k number h at_edge = absurd h.0
  want_admitted is i first many node.Ingress there edge named k number h at_edge = absurd h.0
  want_admitted is i first many (node.Control s p) there edge named k number h at_edge = absurd h.0

  to_ingress : IsPlan plan → (i : IngressView) → slice_get plan.stages 0 ≡ Some i.first → length i.producers ≡ plan.version → (from : NodeId) → HasNode (flow_of plan inputs) from
      → (b : Body) (m : Message) → Carries (flow_of plan inputs) (link from node.Ingress) m → BodyStands plan inputs (link from node.Ingress) b m → IsSmall m → ingress.IsAdmitted i from b
  to_ingress is i first many from there (body.Ack edge k) (Ack named upto) h st small = ack_admitted is i first many from there edge named k upto h st.0 st.1 small
  to_ingress is i first many from there (body.Want edge k) (Want named number) h st small = want_admitted is i first many from there edge named k number h st.0
  to_ingress is i first many from there (body.Tuple edge number x) (Tuple named at) h st small = absurd h.1
  to_ingress is i first many from there (body.Report k edge n) (Report inc named upto) h st small = absurd h.1
  to_ingress is i first many from there (body.Lead k t) (Lead inc term) h st small = absurd h
  to_ingress is i first many from there (body.Serve k t) (Serve inc target) h st small = absurd h
  to_ingress is i first many from there (body.Begin k) (Begin inc) h st small = absurd h
  to_ingress is i first many from there (body.Stop k) (Stop inc) h st small = absurd h
  to_ingress is i first many from there (body.Down k) (Down inc) h st small = absurd (no_up from h)
  to_ingress is i first many from there (body.AskStop k) (AskStop inc) h st small = absurd (no_up from h)
  to_ingress is i first many from there body.AskBack AskBack h st small = absurd (no_up from h)
  to_ingress is i first many from there (body.Caught k) (Caught inc) h st small = absurd (no_up from h)
  to_ingress is i first many from there (body.Chunk k n x) (Chunk inc number numbers) h st small = absurd (no_across from h)
  to_ingress is i first many from there (body.ChunkEnd k n) (ChunkEnd inc count numbers) h st small = absurd (no_across from h)
  to_ingress is i first many from there b m h st small = absurd st

  ingress_link : IsPlan plan → (i : IngressView) (from : NodeId) (b : Body) → HasNode (flow_of plan inputs) from → ingress.IsAdmitted i from b → IsTrue (has_link plan (link from node.Ingress))
  ingress_link is i (node.Control s p) (body.Ack edge k) there ok =
      let some = is.some in
      let one = ok.0 in
      let pair = pair_there s p (omega arith) (omega arith) (subst (λ k. p < k) (sources_are (s + 1)) there.1) in
      let next = eq-eqb s (0 + 1) (omega arith) in
      rw (pair, next) refl
  ingress_link is i (node.Replica s p w) (body.Want edge k) there ok =
      let some = is.some in
      let one = ok.0 in
      let pair = pair_there s p (omega arith) (omega arith) (subst (λ k. p < k) (sources_are (s + 1)) there.1) in
      let next = eq-eqb s (0 + 1) (omega arith) in
      rw (pair, next) refl
  ingress_link is i from b there ok = absurd ok

  pub ingress_admits : IsPlan plan → (i : IngressView) (from : NodeId) (b : Body) (s : State) (m : Message) → IsSound (flow_of plan inputs) s
      → ingress.StandsFor plan inputs i (s.nodes node.Ingress) → IsSmall m → Among m (s.sent (link from node.Ingress)) → BodyStands plan inputs (link from node.Ingress) b m
      → IsTrue (has_link plan (link from node.Ingress)) × ingress.IsAdmitted i from b
  ingress_admits is i from b s m sound stands small among st =
      let f = flow_of plan inputs in
      let l = link from node.Ingress in
      let carried = each_at (Carries f l) m (s.sent l) among (sound.carried l) in
      let ends = each_at (λ k. HasNode f l.from × HasNode f l.to) m (s.sent l) among (sound.ends l) in
      let ok = to_ingress is i stands.first stands.sources from ends.0 b m carried st small in
      (ingress_link is i from b ends.0 ok, ok)
