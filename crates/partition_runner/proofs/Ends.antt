-- What a run leaves to which inputs come while it goes on.
use Rattle.std.proofs.Common.{◌≡◌, ◌∙◌, Bool, true, false, List, [], ◌∷◌, ◌++◌, Option, None, Some, refl, sym, ap, arith, subst, true≢false}
use Rattle.std.specs.Option.{option_or}
use Rattle.std.specs.Prelude.{◌≢◌, if◌then◌else◌, is_some, map}
use mathlib.Core.List.{IsPrefix}
use Rattle.tuple_edge.specs.Input.{Input}
use Rattle.tuple_edge.specs.declared.event.Stamped.{Stamped}
use Rattle.tuple_edge.specs.declared.node.NodeId.{NodeId}
use Rattle.tuple_edge.specs.declared.node.NodeId.TheVariants as node
use Rattle.tuple_edge.specs.declared.row.Row.{Row}
use Rattle.event_log.specs.Views.{LogView}
use Rattle.plan_reader.specs.PlanView.{PlanView}
use Rattle.ingress_egress.specs.IngressView.{IngressView}
use Rattle.pair_machine.specs.Courses.{Pairwise}
use Rattle.pair_machine.specs.Lists.{Among, Each}
use Rattle.pair_machine.specs.Numbers.{is_node}
use Rattle.pair_machine.specs.declared.order.Order.{Order}
use Rattle.pair_machine.proofs.Lists.{each_map, each_right}
use Rattle.pair_machine.proofs.Names.{node_self}
use Rattle.plan_nodes.specs.NodeOrder.{nodes_before_egress, nodes_of, stages_nodes}
use Rattle.plan_nodes.specs.States.{Admits, StandsFor, gone_of, id_of, rows_of}
use Rattle.plan_nodes.specs.declared.state.NodeState.{NodeState}
use Rattle.plan_nodes.specs.declared.state.NodeState.TheVariants as state
use Rattle.plan_nodes.proofs.NodeOrder.{Apart, nodes_apart}
use Rattle.linked_run.specs.Runs.{AllAdmit, FitTheirTaps, IsRun, ids_in, last_tap, taps_of}
use Rattle.run_node.specs.SoundNode.{TapFits}
use Rattle.partition_runner.specs.Drafts.{all_unlinked, unlinked}
use Rattle.node_tasks.specs.Timely.{AreTimely}
use Rattle.partition_runner.specs.Feeds.{IsFedBy, IsFeedOf, IsSupplied, came_to, listed, node_among}
use Rattle.partition_runner.specs.Parts.{IsLeftOf, nodes_in}
use Rattle.partition_runner.specs.Streams.{AreHandedOn, BeginOutput, IsLegalStream}
use Rattle.partition_runner.specs.declared.ran.Left.{Left}
use Rattle.partition_runner.specs.declared.supply.Supply.{Supply}
use Rattle.partition_runner.proofs.Fitting.{nothing_came, other_admits}
use Rattle.partition_runner.proofs.Parts.{course_left}
use Rattle.partition_runner.proofs.TapLaw.{tap_of_output}

-- ---- ingress

-- what is left of the nodes of a plan begins with ingress, and has no other
pub record HasIngress (parts : List (NodeState × List Stamped)) : Type 0 where
  pub ingress : IngressView
  pub there : node_among (nodes_in parts) node.Ingress ≡ Some (state.Ingress ingress)
  pub admits : (inputs : List Input) → Admits (state.Ingress ingress) inputs → AllAdmit Admits inputs parts

others_admit : (inputs : List Input) (ps : List (NodeState × List Stamped)) → Each (λ n. n ≢ node.Ingress) (ids_in id_of ps) → AllAdmit Admits inputs ps
others_admit inputs [] h = tt
others_admit inputs (p ∷ ps) h = (other_admits inputs p.0 h.0, others_admit inputs ps h.1)

no_other : (plan : PlanView) → Each (λ n. n ≢ node.Ingress) (stages_nodes 1 plan.stages ++ node.Egress ∷ [])
no_other plan = each_map (λ n. is_node node.Ingress n ≡ false) (λ n. n ≢ node.Ingress) (λ n e same. true≢false (sym (node_self node.Ingress) ∙ ap (is_node node.Ingress) (sym same) ∙ e))
    (stages_nodes 1 plan.stages ++ node.Egress ∷ []) (nodes_apart plan).0

pub has_ingress : (plan : PlanView) (parts : List (NodeState × List Stamped)) → ids_in id_of parts ≡ nodes_of plan → HasIngress parts
has_ingress plan [] e = let z : ⊥ = cc e in absurd z
has_ingress plan (p ∷ ps) e =
    let here : id_of p.0 ≡ node.Ingress = cc e in
    let rest : ids_in id_of ps ≡ stages_nodes 1 plan.stages ++ node.Egress ∷ [] = cc e in
    go p.0 here (subst (Each (λ n. n ≢ node.Ingress)) (sym rest) (no_other plan))
  where
    go : (s : NodeState) → id_of s ≡ node.Ingress → Each (λ n. n ≢ node.Ingress) (ids_in id_of ps) → HasIngress ((s, p.1) ∷ ps)
    go (state.Ingress i) here others = record { ingress = i; there = refl; admits = λ inputs may. (may, others_admit inputs ps others) }
    go (state.Replica r) here others = let z : ⊥ = cc here in absurd z
    go (state.Control c) here others = let z : ⊥ = cc here in absurd z
    go (state.Egress x) here others = let z : ⊥ = cc here in absurd z

-- ---- egress

-- the part of egress, with the tap that it has
record IsTapped {T : Type 0} (Fits : Option T → NodeState → Type 0) (t : T) (parts : List (NodeState × List Stamped)) : Type 0 where
  node_is : NodeState
  there : node_among (nodes_in parts) node.Egress ≡ Some node_is
  named : id_of node_is ≡ node.Egress
  fits : Fits (Some t) node_is

none_or : {T : Type 0} (o : Option T) → option_or o None ≡ o
none_or None = refl
none_or (Some t) = refl

no_tap : {T : Type 0} (o : Option T) → is_some o ≡ false → o ≡ None
no_tap None e = refl
no_tap (Some t) e = cc e

-- only the last of these has a tap
tapped_last : {T : Type 0} (Fits : Option T → NodeState → Type 0) (t : T) (ns : List NodeId) (taps : List (Option T)) (parts : List (NodeState × List Stamped)) → Each (λ n. is_node n node.Egress ≡ false) ns
    → map is_some taps ≡ taps_of (unlinked ns ++ record { id = node.Egress; ins = []; outs = []; tapped = true } ∷ []) → Some t ≡ last_tap taps → Pairwise (λ tap p. Fits tap p.0) taps parts
    → ids_in id_of parts ≡ ns ++ node.Egress ∷ [] → IsTapped Fits t parts
tapped_last Fits t ns [] parts others whose last fit ids = let z : ⊥ = cc last in absurd z
tapped_last Fits t ns (o ∷ taps) [] others whose last fit ids = absurd fit
tapped_last {T} Fits t [] (o ∷ taps) (p ∷ parts) others whose last fit ids =
    let ended : taps ≡ [] = none_left taps (cc whose) in
    let own : Some t ≡ o = last ∙ ap (λ (l : List (Option T)). option_or (last_tap l) o) ended in
    let named : id_of p.0 ≡ node.Egress = cc ids in
    record {
      node_is = p.0;
      there = ap (λ b. if b then Some p.0 else node_among (nodes_in parts) node.Egress) (ap (λ n. is_node n node.Egress) named);
      named = named;
      fits = subst (λ (x : Option T). Fits x p.0) (sym own) fit.0;
    }
  where
    none_left : (l : List (Option T)) → map is_some l ≡ [] → l ≡ []
    none_left [] e = refl
    none_left (x ∷ l) e = cc e
tapped_last {T} Fits t (n ∷ ns) (o ∷ taps) (p ∷ parts) others whose last fit ids =
    let untapped : o ≡ None = no_tap o (cc whose) in
    let whose_rest : map is_some taps ≡ taps_of (unlinked ns ++ record { id = node.Egress; ins = []; outs = []; tapped = true } ∷ []) = cc whose in
    let last_rest : Some t ≡ last_tap taps = last ∙ ap (option_or (last_tap taps)) untapped ∙ none_or (last_tap taps) in
    let named : id_of p.0 ≡ n = cc ids in
    let ids_rest : ids_in id_of parts ≡ ns ++ node.Egress ∷ [] = cc ids in
    let rest = tapped_last Fits t ns taps parts others.1 whose_rest last_rest fit.1 ids_rest in
    record {
      node_is = rest.node_is;
      there = ap (λ b. if b then Some p.0 else node_among (nodes_in parts) node.Egress) (ap (λ m. is_node m node.Egress) named ∙ others.0) ∙ rest.there;
      named = rest.named;
      fits = rest.fits;
    }

apart_last : (ns : List NodeId) (m : NodeId) → Apart (ns ++ m ∷ []) → Each (λ n. is_node n m ≡ false) ns
apart_last [] m h = tt
apart_last (n ∷ ns) m h = ((each_right (λ k. is_node n k ≡ false) ns (m ∷ []) h.0).0, apart_last ns m h.1)

-- what a tap took that takes row by row is what egress handed on
pub handed_on : {T : Type 0} (given : T → List Row) (plan : PlanView) (t : T) (parts : List (NodeState × List Stamped)) → ids_in id_of parts ≡ nodes_of plan
    → FitTheirTaps (TapFits true given rows_of gone_of) (taps_of (all_unlinked plan)) (Some t) parts → AreHandedOn (given t) (nodes_in parts)
handed_on {T} given plan t parts ids taps =
    let found = tapped_last (TapFits true given rows_of gone_of) t (nodes_before_egress plan) taps.taps parts (apart_last (nodes_before_egress plan) node.Egress (nodes_apart plan)) taps.whose taps.last taps.fit ids in
    go found.node_is found.there found.named found.fits
  where
    go : (s : NodeState) → node_among (nodes_in parts) node.Egress ≡ Some s → id_of s ≡ node.Egress → TapFits true given rows_of gone_of (Some t) s → AreHandedOn (given t) (nodes_in parts)
    go (state.Ingress i) there named fits = let z : ⊥ = cc named in absurd z
    go (state.Replica r) there named fits = let z : ⊥ = cc named in absurd z
    go (state.Control c) there named fits = let z : ⊥ = cc named in absurd z
    go (state.Egress e) there named fits = record { egress = e; there = there; gone = fits.0; front = fits.1 }

-- ---- a source before it was asked

-- ingress as it opens has what the source gave, which is nothing
pub fresh_supply : {S : Type 0} (gave : S → List Input) (ended : S → Bool) (supply : Supply S) (s : NodeState) → gave supply.source ≡ [] → supply.held ≡ None → supply.over ≡ false → id_of s ≡ node.Ingress
    → ((inputs : List Input) → Admits s inputs) → IsFedBy gave ended (Some supply) s
fresh_supply gave ended supply (state.Ingress i) none held over id admits =
    let empty = nothing_came i.ended i.inputs admits in
    record {
      given = record {
        all = none ∙ λ k. sym empty.1 k ++ listed (sym held k);
        whole = λ e. absurd (true≢false (sym e ∙ empty.0));
        timely = subst AreTimely (sym empty.1) (λ k d lt. absurd (omega (arith, lt)));
      };
      told = over ∙ sym empty.0;
    }
fresh_supply gave ended supply (state.Replica r) none held over id admits = tt
fresh_supply gave ended supply (state.Control c) none held over id admits = tt
fresh_supply gave ended supply (state.Egress e) none held over id admits = tt

-- a source and ingress fit that are those of a node
pub supply_of : {S : Type 0} (gave : S → List Input) (ended : S → Bool) (feed : Option (Supply S)) (s : NodeState) (supply : Supply S) (i : IngressView) → feed ≡ Some supply → s ≡ state.Ingress i → IsFedBy gave ended feed s
    → IsSupplied gave ended supply i
supply_of gave ended feed s supply i own here fits = subst (λ (x : Option (Supply _) × NodeState). IsFedBy gave ended x.0 x.1) (λ k. (own k, here k)) fits

-- ---- the whole

module _ {S : Type 0} (gave : S → List Input) (ended : S → Bool) (plan : PlanView) (script : List Order) (parts : List (NodeState × List Stamped)) (left : Left LogView) (ids : ids_in id_of parts ≡ nodes_of plan)
    (run : (inputs : List Input) → AllAdmit Admits inputs parts → AreTimely inputs → IsRun id_of StandsFor plan inputs script (nodes_of plan) parts) (of_parts : IsLeftOf (λ (l : LogView). l) parts left) where
  found : HasIngress parts
  found = has_ingress plan parts ids

  at_ingress : node_among left.nodes.items node.Ingress ≡ Some (state.Ingress found.ingress)
  at_ingress = ap (λ nodes. node_among nodes node.Ingress) of_parts.nodes ∙ found.there

  -- ingress has its source
  pub has_source : (feed : Option (Option (Supply S))) → IsFeedOf (IsFedBy gave ended) feed left.nodes.items → (supply : Supply S) × (feed ≡ Some (Some supply))
  has_source None h = let z : Some (state.Ingress found.ingress) ≡ None = sym at_ingress ∙ h in cc z
  has_source (Some None) h =
      let same : h.0 ≡ state.Ingress found.ingress = cc (sym h.1 ∙ at_ingress) in
      let none : ⊥ = subst (IsFedBy gave ended None) same h.2 in
      absurd none
  has_source (Some (Some supply)) h = (supply, refl)

  supplied : (supply : Supply S) → IsFeedOf (IsFedBy gave ended) (Some (Some supply)) left.nodes.items → IsSupplied gave ended supply found.ingress
  supplied supply h =
      let same : h.0 ≡ state.Ingress found.ingress = cc (sym h.1 ∙ at_ingress) in
      subst (IsFedBy gave ended (Some supply)) same h.2

  pub legal_stream : (supply : Supply S) → IsFeedOf (IsFedBy gave ended) (Some (Some supply)) left.nodes.items
      → IsLegalStream plan script (gave supply.source) (ended supply.source) (record { left = left; held = supply.held; ended = supply.over })
  legal_stream supply h =
      let it = supplied supply h in
      record {
        ingress = found.ingress;
        there = at_ingress;
        came = it.given;
        told = it.told;
        legal = λ inputs may. course_left plan inputs script (λ (l : LogView). l) parts left (run inputs (found.admits inputs may.begin) may.timely) of_parts;
      }

  pub begin_output : (supply : Supply S) → IsFeedOf (IsFedBy gave ended) (Some (Some supply)) left.nodes.items → (rows : List Row) (p : NodeState × List Stamped) → Among p parts → IsPrefix rows (rows_of p.0)
      → BeginOutput plan (gave supply.source) (ended supply.source) rows
  begin_output supply h rows p among front =
      let it = supplied supply h in
      record {
        came = came_to found.ingress supply.held;
        given = it.given;
        front = λ inputs may. tap_of_output plan inputs script parts (run inputs (found.admits inputs may.begin) may.timely) rows p among front;
      }
