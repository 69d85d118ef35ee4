-- A core that opens stands for the opening, and one of given nodes for a state from which the drain may begin.
use Rattle.std.proofs.Common.{◌≡◌, ◌∙◌, ◌≤◌, ◌<◌, ◌+◌, ℕ, zero, suc, ⊎_elim, Bool, true, false, List, [], ◌∷◌, ◌++◌, Option, Some, arith, length, map, slice_index_or, take, refl, sym, ap, subst, true≢false, if◌then◌else◌}
use Rattle.std.proofs.lemmas.List.{map-append}
use Rattle.tuple_edge.specs.Input.{Input}
use Rattle.tuple_edge.specs.declared.node.NodeId.{NodeId}
use Rattle.tuple_edge.specs.declared.node.NodeId.TheVariants as node
use Rattle.plan_reader.specs.PlanView.{IsPlan, PlanView}
use Rattle.ingress_egress.specs.IngressStands.{AreCome}
use Rattle.pair_machine.proofs.MachineLaws.{plan_opens_sound}
use Rattle.pair_machine.proofs.Lists.{each_more}
use Rattle.pair_machine.proofs.Names.{is_node-true, node_self}
use Rattle.pair_machine.proofs.PlanNodes.{nodes_named}
use Rattle.pair_machine.specs.Links.{HasNode}
use Rattle.pair_machine.specs.Lists.{Among, Each}
use Rattle.pair_machine.specs.Machine.{new_node, opening}
use Rattle.pair_machine.specs.Numbers.{is_node}
use Rattle.replica_node.specs.Course.{AreTimely}
use Rattle.plan_nodes.specs.NodeOrder.{nodes_of}
use Rattle.plan_nodes.specs.States.{AllCame, StandsFor as NodeStandsFor, contents_of, gone_of, has_ended, id_of, inputs_in}
use Rattle.plan_nodes.specs.declared.state.NodeState.{NodeState}
use Rattle.plan_nodes.specs.declared.state.NodeState.TheVariants as state
use Rattle.plan_nodes.proofs.NodeOrder.{all_there}
use Rattle.flux_core.specs.CoreView.{CoreView, HasItsInputs, StationView, core_of, ended_at, flow_in, found, gone_at, gone_by, inputs_at, inputs_of, names_of, standing, station}
use Rattle.flux_core.specs.Opening.{AreOpen, OpensSo, bare_core, new_station}
use Rattle.flux_core.specs.Stands.{IsCore, IsGiven, StandsFor, StationStands}
use Rattle.flux_core.proofs.Contents.{content_in, ended_contents, gone_contents, id_contents}
use Rattle.flux_core.proofs.ByName.{ingress_there}
use Rattle.flux_core.proofs.Lists.{get-at}
use Rattle.flux_core.proofs.Sendings.{take-next}

-- stations of nodes have the nodes' names
names_new : (nodes : List NodeState) → names_of (map new_station nodes) ≡ map id_of nodes
names_new [] = refl
names_new (s ∷ nodes) = λ j. id_contents s j ∷ names_new nodes j

-- the inputs are those of the first node, which is ingress
first_inputs : (plan : PlanView) (nodes : List NodeState) (d : NodeState) → map id_of nodes ≡ nodes_of plan → inputs_at (standing (found node.Ingress (map new_station nodes))).content ≡ inputs_in (slice_index_or nodes 0 d)
first_inputs plan [] d e = let z : ⊥ = cc e in absurd z
first_inputs plan (s ∷ nodes) d e = go s (let z : id_of s ≡ node.Ingress = cc e in z)
  where
    go : (s : NodeState) → id_of s ≡ node.Ingress → inputs_at (standing (found node.Ingress (map new_station (s ∷ nodes)))).content ≡ inputs_in s
    go (state.Ingress i) name = refl
    go (state.Replica v) name = let z : ⊥ = cc name in absurd z
    go (state.Control c) name = let z : ⊥ = cc name in absurd z
    go (state.Egress x) name = let z : ⊥ = cc name in absurd z

-- ---- one of them, by its name

-- the node of this name among nodes of each of which something holds
pub record IsOneOf (P : NodeState → Type 0) (n : NodeId) (nodes : List NodeState) : Type 0 where
  pub one : NodeState
  pub name : id_of one ≡ n
  pub fits : P one
  pub there : found n (map new_station nodes) ≡ Some (new_station one)

one_of : (P : NodeState → Type 0) (n : NodeId) (nodes : List NodeState) → Each P nodes → Among n (map id_of nodes) → IsOneOf P n nodes
one_of P n [] each among = absurd among
one_of P n (s ∷ nodes) each among = go (is_node (id_of (contents_of s)) n) refl (λ there. one_of P n nodes each.1 there)
  where
    later : is_node (id_of (contents_of s)) n ≡ false → (n ≡ id_of s) → ⊥
    later e same = true≢false (sym (ap (λ k. is_node k n) (id_contents s ∙ sym same) ∙ node_self n) ∙ e)

    choice : Bool → Option StationView
    choice b = if b then Some (new_station s) else found n (map new_station nodes)

    go : (b : Bool) → is_node (id_of (contents_of s)) n ≡ b → (Among n (map id_of nodes) → IsOneOf P n nodes) → IsOneOf P n (s ∷ nodes)
    go true e rest = record { one = s; name = sym (id_contents s) ∙ is_node-true (id_of (contents_of s)) n e; fits = each.0; there = ap choice e }
    go false e rest =
        let h : IsOneOf P n nodes = ⊎_elim (λ same. absurd (later e same)) rest among in
        record { one = h.one; name = h.name; fits = h.fits; there = ap choice e ∙ h.there }

came_first : (s : NodeState) → id_of s ≡ node.Ingress → AllCame s → has_ended s ≡ true
came_first (state.Ingress i) name came = came
came_first (state.Replica v) name came = let z : ⊥ = cc name in absurd z
came_first (state.Control c) name came = let z : ⊥ = cc name in absurd z
came_first (state.Egress x) name came = let z : ⊥ = cc name in absurd z

-- where no more inputs come to any node, a core of them has all
pub have_come : (plan : PlanView) (whole : Bool) (nodes : List NodeState) → Each AllCame nodes → Among node.Ingress (map id_of nodes) → HasItsInputs (core_of plan whole (map new_station nodes))
have_come plan whole nodes came first =
    let i = one_of AllCame node.Ingress nodes came first in
    ap (λ o. ended_at (standing o).content) i.there ∙ (ended_contents i.one ∙ came_first i.one i.name i.fits)

-- where none handed a row on, egress of a core of them didn't
pub none_gone_by : (plan : PlanView) (whole : Bool) (nodes : List NodeState) → Each (λ s. gone_of s ≡ []) nodes → Among node.Egress (map id_of nodes) → gone_by (core_of plan whole (map new_station nodes)) ≡ []
none_gone_by plan whole nodes gone last =
    let e = one_of (λ s. gone_of s ≡ []) node.Egress nodes gone last in
    ap (λ o. gone_at (standing o).content) e.there ∙ (gone_contents e.one ∙ e.fits)

-- ---- nodes that open

module _ (plan : PlanView) (inputs : List Input) where
  -- the node of a name that is one of theirs stands for its numbers at the start, and sent nothing
  open_at : (n : NodeId) (nodes : List NodeState) → AreOpen plan inputs nodes → Among n (map id_of nodes) → StationStands plan inputs n (standing (found n (map new_station nodes))) opening
  open_at n nodes fresh among =
      let h = one_of (OpensSo plan inputs) n nodes fresh among in
      let stands : NodeStandsFor plan inputs h.one (new_node n) = subst (λ k. NodeStandsFor plan inputs h.one (new_node k)) h.name h.fits.stands in
      subst (λ o. StationStands plan inputs n (standing o) opening) (sym h.there) (record { content = content_in plan inputs n h.one (new_node n) (h.name, stands); sent = λ to. tt })

  all_came : (nodes : List NodeState) → AreOpen plan inputs nodes → Each AllCame nodes
  all_came [] fresh = tt
  all_came (s ∷ nodes) fresh = (fresh.0.came, all_came nodes fresh.1)

  none_gone : (nodes : List NodeState) → AreOpen plan inputs nodes → Each (λ s. gone_of s ≡ []) nodes
  none_gone [] fresh = tt
  none_gone (s ∷ nodes) fresh = (fresh.0.gone, none_gone nodes fresh.1)

-- the first so many nodes of a plan are there, in their order, as they open
pub record AreOpenedTo (plan : PlanView) (inputs : List Input) (ids : List NodeId) (nodes : List NodeState) (i : ℕ) : Type 0 where
  pub names : map id_of nodes ≡ take i ids
  pub opens : AreOpen plan inputs nodes

pub opened_none : (plan : PlanView) (inputs : List Input) (ids : List NodeId) (nodes : List NodeState) → nodes ≡ [] → AreOpenedTo plan inputs ids nodes 0
opened_none plan inputs ids nodes e = subst (λ ns. AreOpenedTo plan inputs ids ns 0) (sym e) (record { names = sym (none ids); opens = tt })
  where
    none : (ids : List NodeId) → take 0 ids ≡ []
    none [] = refl
    none (id ∷ ids) = refl

pub opened_next : (plan : PlanView) (inputs : List Input) (ids : List NodeId) (nodes : List NodeState) (i : ℕ) (id : NodeId) (s : NodeState) → AreOpenedTo plan inputs ids nodes i → i < length ids → id ≡ slice_index_or ids i id
    → id_of s ≡ id → NodeStandsFor plan inputs s (new_node id) → AllCame s → gone_of s ≡ [] → AreOpenedTo plan inputs ids (nodes ++ s ∷ []) (i + 1)
opened_next plan inputs ids nodes i id s h within e name stands came gone = record {
  names =
      let next : take (i + 1) ids ≡ take i ids ++ id ∷ [] = ap (λ k. take k ids) {x = i + 1} {y = suc i} (omega arith) ∙ take-next ids i id (get-at ids i id within e) in
      map-append id_of nodes (s ∷ []) ∙ (λ j. h.names j ++ name j ∷ []) ∙ sym next;
  opens = each_more (OpensSo plan inputs) nodes s h.opens (record { stands = subst (λ k. NodeStandsFor plan inputs s (new_node k)) (sym name) stands; came = came; gone = gone });
}

pub opened_all : (plan : PlanView) (inputs : List Input) (ids : List NodeId) (nodes : List NodeState) (i : ℕ) → AreOpenedTo plan inputs ids nodes i → length ids ≤ i → map id_of nodes ≡ ids
opened_all plan inputs ids nodes i h full = h.names ∙ past ids i full
  where
    past : (xs : List NodeId) (n : ℕ) → length xs ≤ n → take n xs ≡ xs
    past [] zero l = refl
    past [] (suc n) l = refl
    past (x ∷ xs) zero l = absurd (omega (arith, l))
    past (x ∷ xs) (suc n) l = ap (λ ys. x ∷ ys) (past xs n (omega (arith, l)))

-- these nodes with no packet ever sent
abbrev pub Bare : PlanView → Bool → List NodeState → CoreView
Bare plan whole nodes = core_of plan whole (map new_station nodes)

-- what a core is that opens
pub record IsOpened (core : CoreView) (given : PlanView) (all : List Input) : Type 0 where
  pub is : IsCore core
  pub opens : StandsFor core opening
  pub plan : core.plan ≡ given
  pub inputs : inputs_of core ≡ all
  pub gone : gone_by core ≡ []

opened_bare : (plan : PlanView) (inputs : List Input) (nodes : List NodeState) (d : NodeState) → IsPlan plan → AreTimely (inputs_in (slice_index_or nodes 0 d)) → map id_of nodes ≡ nodes_of plan → AreOpen plan inputs nodes
    → IsOpened (Bare plan true nodes) plan inputs
opened_bare plan inputs nodes d limits times names fresh = record {
  is = record {
    plan = limits;
    times = subst AreTimely (sym (first_inputs plan nodes d names)) times;
    names = names_new nodes ∙ names;
    known = record {
      events = [];
      state = opening;
      legal = record { there = tt; leads = refl };
      sound = plan_opens_sound plan (inputs_of (Bare plan true nodes)) limits;
      stands = opens;
    };
    came = ended;
  };
  opens = opens;
  plan = refl;
  inputs = came;
  gone = none_gone_by plan true nodes (none_gone plan inputs nodes fresh) (among node.Egress (tt, tt));
}
  where
    among : (n : NodeId) → HasNode (flow_in (Bare plan true nodes)) n → Among n (map id_of nodes)
    among n has = subst (Among n) (sym names) (all_there plan n ((nodes_named plan (inputs_of (Bare plan true nodes)) n).named has))

    ended : HasItsInputs (Bare plan true nodes)
    ended = have_come plan true nodes (all_came plan inputs nodes fresh) (among node.Ingress (tt, tt))

    came : inputs_of (Bare plan true nodes) ≡ inputs
    came =
        let i = ingress_there plan inputs (station (Bare plan true nodes) node.Ingress).content (new_node node.Ingress) (open_at plan inputs node.Ingress nodes fresh (among node.Ingress (tt, tt))).content in
        let told : i.0.ended ≡ true = sym (ap ended_at i.1) ∙ ended in
        ap inputs_at i.1 ∙ subst (λ b. AreCome b i.0.inputs inputs) told i.2.inputs

    opens : StandsFor (Bare plan true nodes) opening
    opens = subst (λ I. (n : NodeId) → HasNode (flow_in (Bare plan true nodes)) n → StationStands plan I n (station (Bare plan true nodes) n) opening) (sym came) (λ n has. open_at plan inputs n nodes fresh (among n has))

pub opened : (plan copy : PlanView) (inputs : List Input) (nodes : List NodeState) (d : NodeState) (stations : List StationView) → stations ≡ map new_station nodes → copy ≡ plan → IsPlan plan → d ≡ slice_index_or nodes 0 d
    → AreTimely (inputs_in d) → map id_of nodes ≡ nodes_of plan → AreOpen plan inputs nodes → IsOpened (core_of copy true stations) plan inputs
opened plan copy inputs nodes d stations made same limits first times names fresh =
    let as_bare : core_of copy true stations ≡ Bare plan true nodes = λ j. core_of (same j) true (made j) in
    subst (λ core. IsOpened core plan inputs) (sym as_bare) (opened_bare plan inputs nodes d limits (subst (λ s. AreTimely (inputs_in s)) first times) names fresh)

-- there is a first node
pub first_there : (plan : PlanView) (nodes : List NodeState) → map id_of nodes ≡ nodes_of plan → 0 < length nodes
first_there plan [] e = let z : ⊥ = cc e in absurd z
first_there plan (s ∷ nodes) e = omega arith

-- ---- given nodes

-- what a core is that is made of nodes alone
pub record IsBare (core : CoreView) (bare : CoreView) : Type 0 where
  pub is : IsCore core
  pub same : core ≡ bare

pub bared : (plan copy : PlanView) (nodes : List NodeState) (d : NodeState) (stations : List StationView) → stations ≡ map new_station nodes → copy ≡ plan → IsPlan plan → d ≡ slice_index_or nodes 0 d
    → AreTimely (inputs_in d) → map id_of nodes ≡ nodes_of plan → IsGiven (bare_core plan nodes) → HasItsInputs (bare_core plan nodes) → IsBare (core_of copy false stations) (bare_core plan nodes)
bared plan copy nodes d stations made same limits first times names given came =
    let as_bare : core_of copy false stations ≡ bare_core plan nodes = λ j. core_of (same j) false (made j) in
    let timely : AreTimely (inputs_in (slice_index_or nodes 0 d)) = subst (λ s. AreTimely (inputs_in s)) first times in
    let is : IsCore (bare_core plan nodes) = record { plan = limits; times = subst AreTimely (sym (first_inputs plan nodes d names)) timely; names = names_new nodes ∙ names; known = given; came = came } in
    record { is = subst IsCore (sym as_bare) is; same = as_bare }
