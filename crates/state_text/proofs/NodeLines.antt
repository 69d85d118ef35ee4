-- The lines of a node, as contracts see it, are those of the numbers that it stands for.
use Rattle.std.proofs.Common.{◌≡◌, ◌∙◌, ◌<◌, ◌==◌, ℕ, Bool, true, false, List, ◌++◌, IsTrue, Option, None, Some, length, codes, refl, sym, ap, subst, unwrap_or}
use Rattle.std.proofs.lemmas.Bool.{eq-eqb, iff_false, ne_eqb}
use Rattle.std.specs.Fmt.{decimal}
use Rattle.std.specs.Prelude.{◌↔◌}
use Rattle.std.specs.Option.{option_and_then, option_map}
use Rattle.tuple_edge.specs.Input.{Input}
use Rattle.tuple_edge.specs.declared.packet.Entry.{Entry}
use Rattle.flux_consumer.specs.ConsumerView.{ConsumerView}
use Rattle.flux_producer.specs.ProducerView.{ProducerView}
use Rattle.text_words.specs.Lines.{Word}
use Rattle.plan_reader.specs.Nodes.{sources_of}
use Rattle.plan_reader.specs.PlanView.{IsPlan, PlanView}
use Rattle.pair_machine.specs.Boundary.{egress_partition, ingress_source, source_made}
use Rattle.pair_machine.specs.CountLaws.{IsOfStage}
use Rattle.pair_machine.specs.Counts.{flow_of, items_on}
use Rattle.pair_machine.specs.Lengths.{MoverBound, ReplicaBound}
use Rattle.pair_machine.specs.Machine.{egress_in, ingress_in}
use Rattle.pair_machine.specs.Numbers.{Gathering, GatheringNumbers, Gone, Move, Node, Partition, Replica, Running, RunningNumbers}
use Rattle.pair_machine.specs.Replicas.{made_by, size}
use Rattle.ingress_egress.specs.EgressStands as egress
use Rattle.ingress_egress.specs.EgressView.{EgressView}
use Rattle.ingress_egress.specs.IngressStands as ingress
use Rattle.ingress_egress.specs.IngressView.{IngressView, producer_at}
use Rattle.replica_node.specs.IsReplica.{IsMoving}
use Rattle.replica_node.specs.Phases.{count_in, inc_in, running_in, served_in}
use Rattle.replica_node.specs.StandsFor.{GatheringStands, MoveStands, PhaseStands, RunningStands}
use Rattle.replica_node.specs.declared.phase.Phase.{Phase}
use Rattle.replica_node.specs.declared.phase.Phase.TheVariants as phase
use Rattle.replica_node.specs.declared.phase.Running as part
use Rattle.state_mover.specs.MoverView.{MoverView}
use Rattle.catch_up.specs.NewcomerView.{NewcomerView}
use Rattle.state_text.specs.Shown.{HasHeld, egress_shown, gathering_shown, held_numbers, in_edges_shown, ingress_shown, move_shown, out_edges_shown, phase_shown, running_shown}
use Rattle.state_text.specs.StateText.{egress_text, gathering_line, gone_line, held_line, held_text, ingress_text, makes_line, move_line, move_text, out_edges_text, out_line, replica_text, running_line, source_name}
use Rattle.state_text.proofs.Below.{lines_of}
use Rattle.state_text.proofs.EdgeLines.{in_edges_same, out_edges_same}
use Rattle.state_text.proofs.Moves.{chunks_are}

-- ---- ingress

pub ingress_same : (plan : PlanView) (inputs : List Input) (i : IngressView) (n : Node) → ingress.StandsFor plan inputs i n → ingress_shown i ≡ ingress_text (flow_of plan inputs) (ingress_in n)
unfolding flow_of
ingress_same plan inputs i n h =
    let f = flow_of plan inputs in
    let x = ingress_in n in
    let sources = lines_of (length i.producers) plan.version (λ q. out_edges_shown (source_name (length i.producers) q) (producer_at i q))
    (λ q. out_edges_text f (source_name plan.version q) (ingress_source q) (source_made f x q) (x.producers q)) h.sources
    (λ q l. ap (λ many. out_edges_shown (source_name many q) (producer_at i q)) h.sources
    ∙ out_edges_same f (items_on plan inputs) (ingress_source q) (source_made f x q) (x.producers q) (producer_at i q) (source_name plan.version q) (h.producers q (subst (λ k. q < k) h.sources l))) in
    (λ j. makes_line (h.makes j) ++ sources j)

-- ---- egress

done_same : (b : Bool) (count total : ℕ) → (IsTrue b ↔ (count ≡ total)) → b ≡ (count == total)
done_same true count total h = sym (eq-eqb count total (h.0 refl))
done_same false count total h = sym (ne_eqb count total (iff_false h refl))

pub egress_same : (plan : PlanView) (inputs : List Input) (e : EgressView) (n : Node) → egress.StandsFor plan inputs e n
    → (IsTrue e.done ↔ ((egress_in n).count ≡ (flow_of plan inputs).total (egress_partition (flow_of plan inputs)))) → egress_shown e ≡ egress_text (flow_of plan inputs) (egress_in n)
egress_same plan inputs e n h all =
    let f = flow_of plan inputs in
    let x = egress_in n in
    let done = done_same e.done x.count (f.total (egress_partition f)) all in
    let edges = in_edges_same plan inputs (egress_partition f) x e.consumer (codes "out") h.consumer in
    (λ j. out_line (h.consumer.count j) (done j) ++ edges j)

-- ---- a replica

module _ (plan : PlanView) (inputs : List Input) (p : Partition) (name : Word) (is_plan : IsPlan plan) (there : IsOfStage (flow_of plan inputs) p) where
  move_same : (m : Option MoverView) (old : Option (List Entry)) (x y : Option Move) → IsMoving m old → MoveStands plan inputs p m old x → MoverBound (flow_of plan inputs) p x → MoveStands plan inputs p m old y
      → move_shown name m ≡ move_text name (size (flow_of plan inputs) p) y
  move_same None old x None moving h bound k = refl
  move_same None old x (Some y) moving h bound k = absurd k
  move_same (Some m) old None y moving h bound k = absurd h
  move_same (Some m) old (Some x) None moving h bound k = absurd k
  move_same (Some m) old (Some x) (Some y) moving h bound k =
      let chunks = chunks_are plan inputs p is_plan there m old x y moving h bound.0 k in
      (λ j. move_line name (k.target j) (k.sent j) (chunks j))

  running_same : (r : part.Running) (x y : RunningNumbers) → IsMoving r.mover r.state.old → RunningStands plan inputs p r x → MoverBound (flow_of plan inputs) p x.move → RunningStands plan inputs p r y
      → running_shown name r ≡ replica_text (flow_of plan inputs) name p (Running y)
  unfolding flow_of
  running_same r x y moving h bound k =
      let f = flow_of plan inputs in
      let into = in_edges_same plan inputs p y.consumer r.consumer name k.consumer in
      let out = out_edges_same f (items_on plan inputs) p (made_by f p y.consumer.count) y.producer r.producer name k.producer in
      let move = move_same r.mover r.state.old x.move y.move moving h.move bound k.move in
      (λ j. running_line name (k.inc j) (k.producer.term j) (k.producer.leads j) (k.served j) (k.consumer.count j) ++ into j ++ out j ++ move j)

  gathering_same : (g : NewcomerView) (y : GatheringNumbers) → GatheringStands plan inputs p g y → gathering_shown name g ≡ replica_text (flow_of plan inputs) name p (Gathering y)
  unfolding flow_of
  gathering_same g y k =
      let held = lines_of _ _ (held_line name (held_numbers g)) (held_line name y.held) k.held.sources
      (λ q l. ap (λ ns. name ++ codes " < " ++ decimal q ++ codes " held=" ++ held_text ns ++ codes "\n") (k.held.under q l)) in
      (λ j. gathering_line name (k.inc j) (k.count j) ++ held j)

  -- A replica stands for numbers that are within their lengths; so whatever numbers it stands for, their lines are its own.
  pub phase_same : (v : Phase) (x y : Replica) → ((r : part.Running) → running_in v ≡ Some r → IsMoving r.mover r.state.old)
      → PhaseStands plan inputs p v x → ReplicaBound (flow_of plan inputs) p x → PhaseStands plan inputs p v y → phase_shown name v ≡ replica_text (flow_of plan inputs) name p y
  phase_same (phase.Running r) (Running x) (Running y) moving h bound k = running_same r x y (moving r refl) h bound.2 k
  phase_same (phase.Running r) (Running x) (Gathering y) moving h bound k = absurd k
  phase_same (phase.Running r) (Running x) (Gone y) moving h bound k = absurd k
  phase_same (phase.Running r) (Gathering x) y moving h bound k = absurd h
  phase_same (phase.Running r) (Gone x) y moving h bound k = absurd h
  phase_same (phase.Gathering g) x (Running y) moving h bound k = absurd k
  phase_same (phase.Gathering g) x (Gathering y) moving h bound k = gathering_same g y k
  phase_same (phase.Gathering g) x (Gone y) moving h bound k = absurd k
  phase_same (phase.Gone inc) x (Running y) moving h bound k = absurd k
  phase_same (phase.Gone inc) x (Gathering y) moving h bound k = absurd k
  phase_same (phase.Gone inc) x (Gone y) moving h bound k = ap (gone_line name) k

  pub held_edges : (v : Phase) (x : Replica) (edges : ℕ) → PhaseStands plan inputs p v x → edges ≡ sources_of plan p.stage → HasHeld edges v
  held_edges (phase.Running r) x edges h e = tt
  held_edges (phase.Gathering g) (Running x) edges h e = absurd h
  held_edges (phase.Gathering g) (Gathering x) edges h e = e ∙ sym h.held.sources
  held_edges (phase.Gathering g) (Gone x) edges h e = absurd h
  held_edges (phase.Gone inc) x edges h e = tt

-- ---- what is read of a replica that runs

pub running_read : (name : Word) (v : Phase) (c : ConsumerView) (s : ProducerView) (m : Option MoverView) → Some c ≡ option_map (λ r. r.consumer) (running_in v) → Some s ≡ option_map (λ r. r.producer) (running_in v)
    → m ≡ option_and_then (λ r. r.mover) (running_in v)
    → running_line name (inc_in v) s.term s.leads (served_in v) (count_in v) ++ in_edges_shown name c ++ out_edges_shown name s ++ move_shown name m ≡ phase_shown name v
running_read name (phase.Running r) c s m e d n =
    let consumer : c ≡ r.consumer = ap (λ o. unwrap_or o c) e in
    let producer : s ≡ r.producer = ap (λ o. unwrap_or o s) d in
    (λ j. running_line name r.inc (producer j).term (producer j).leads r.served r.consumer.merge.count ++ in_edges_shown name (consumer j) ++ out_edges_shown name (producer j) ++ move_shown name (n j))
running_read name (phase.Gathering g) c s m e d n = let z : ⊥ = cc e in absurd z
running_read name (phase.Gone inc) c s m e d n = let z : ⊥ = cc e in absurd z
