-- What stands under each name, where the stations are a plan's nodes in their order, and one of them changes.
use Rattle.std.proofs.Common.{◌≡◌, ◌≢◌, ◌∙◌, ◌<◌, ℕ, zero, suc, Bool, true, false, List, [], ◌∷◌, Option, Some, length, slice_get, slice_index_or, slice_set, refl, sym, ap, subst, true≢false, unwrap_or, if◌then◌else◌}
use Rattle.std.proofs.lemmas.Option.{slice_get_within}
use Rattle.tuple_edge.specs.declared.node.NodeId.{NodeId}
use Rattle.tuple_edge.specs.declared.node.NodeId.TheVariants as node
use Rattle.pair_machine.specs.Lists.{Each}
use Rattle.pair_machine.specs.Numbers.{is_node}
use Rattle.pair_machine.proofs.Names.{is_node-true, node_self}
use Rattle.plan_nodes.specs.NodeOrder.{nodes_of}
use Rattle.plan_nodes.specs.States.{id_of}
use Rattle.plan_nodes.specs.declared.state.NodeState.{NodeState}
use Rattle.plan_nodes.proofs.NodeOrder.{Apart, differs, nodes_apart}
use Rattle.flux_core.specs.CoreView.{CoreView, HasItsInputs, Standing, StationView, core_of, ended_at, found, gone_at, gone_by, inputs_at, inputs_of, names_of, standing, station}
use Rattle.flux_core.specs.Stands.{IsCore}
use Rattle.flux_core.specs.Steps.{ActedAt}
use Rattle.flux_core.specs.declared.asked.Asked.{Asked}
use Rattle.flux_core.proofs.Lists.{get-at, get-back, length-map-of, same-there, set-same}
use Rattle.flux_core.proofs.Changes.{HasChanged}

if_true : {X : Type 0} (b : Bool) (x y : X) → b ≡ true → (if b then x else y) ≡ x
if_true true x y e = refl
if_true false x y e = absurd (true≢false (sym e))

if_false : {X : Type 0} (b : Bool) (x y : X) → b ≡ false → (if b then x else y) ≡ y
if_false true x y e = absurd (true≢false e)
if_false false x y e = refl

each_there : (P : NodeId → Type 0) (xs : List StationView) (i : ℕ) (at : StationView) → Each P (names_of xs) → slice_get xs i ≡ Some at → P (id_of at.node)
each_there P [] i at h e = let z : ⊥ = cc e in absurd z
each_there P (x ∷ xs) zero at h e = subst (λ (y : StationView). P (id_of y.node)) (ap (λ o. unwrap_or o x) e) h.0
each_there P (x ∷ xs) (suc i) at h e = each_there P xs i at h.1 e

-- ---- a station is found under its name

found_at : (n : NodeId) (xs : List StationView) (i : ℕ) (at : StationView) → Apart (names_of xs) → slice_get xs i ≡ Some at → id_of at.node ≡ n → found n xs ≡ Some at
found_at n [] i at apart e name = let z : ⊥ = cc e in absurd z
found_at n (x ∷ xs) zero at apart e name =
    let same : x ≡ at = ap (λ o. unwrap_or o x) e in
    let here : is_node (id_of x.node) n ≡ true = ap (λ (y : StationView). is_node (id_of y.node) n) same ∙ (ap (λ k. is_node k n) name ∙ node_self n) in
    if_true (is_node (id_of x.node) n) (Some x) (found n xs) here ∙ ap Some same
found_at n (x ∷ xs) (suc i) at apart e name =
    let other : is_node (id_of x.node) n ≡ false = subst (λ k. is_node (id_of x.node) k ≡ false) name (each_there (λ m. is_node (id_of x.node) m ≡ false) xs i at apart.0 e) in
    if_false (is_node (id_of x.node) n) (Some x) (found n xs) other ∙ found_at n xs i at apart.1 e name

-- what stands at the place of a node of the plan
pub record IsPlaced (core : CoreView) (n : NodeId) (i : ℕ) : Type 0 where
  pub at : StationView
  pub there : slice_get core.stations i ≡ Some at
  pub named : id_of at.node ≡ n
  pub under : found n core.stations ≡ Some at

apart_in : (core : CoreView) → IsCore core → Apart (names_of core.stations)
apart_in core is = subst Apart (sym is.names) (nodes_apart core.plan)

pub placed : (core : CoreView) → IsCore core → (n : NodeId) (i : ℕ) → slice_get (nodes_of core.plan) i ≡ Some n → IsPlaced core n i
placed core is n i place =
    let here = get-back (λ (at : StationView). id_of at.node) core.stations i n (ap (λ ns. slice_get ns i) is.names ∙ place) in
    record { at = here.0; there = here.1; named = here.2; under = found_at n core.stations i here.0 (apart_in core is) here.1 here.2 }

-- there are as many stations as nodes, and each node has its place among them
pub count_is : (core : CoreView) → IsCore core → length core.stations ≡ length (nodes_of core.plan)
count_is core is = sym (length-map-of (λ (at : StationView). id_of at.node) core.stations) ∙ ap length is.names

pub place_within : (core : CoreView) → IsCore core → (n : NodeId) (i : ℕ) → slice_get (nodes_of core.plan) i ≡ Some n → i < length core.stations
place_within core is n i place = let p = placed core is n i place in slice_get_within core.stations i p.at p.there

-- the station that is read at the place of a node is that of the node
pub read_at : (core : CoreView) → IsCore core → (n : NodeId) (i : ℕ) → slice_get (nodes_of core.plan) i ≡ Some n → (at : StationView) → at ≡ slice_index_or core.stations i at → (found n core.stations ≡ Some at) × (id_of at.node ≡ n)
read_at core is n i place at e =
    let p = placed core is n i place in
    let same : at ≡ p.at = same-there (slice_get core.stations i) at p.at (get-at core.stations i at (place_within core is n i place) e) p.there in
    (p.under ∙ ap Some (sym same), ap (λ (k : StationView). id_of k.node) same ∙ p.named)

-- ---- one station changes, and keeps its name

names_same : (xs : List StationView) (i : ℕ) (x y : StationView) → slice_get xs i ≡ Some x → id_of y.node ≡ id_of x.node → names_of (slice_set xs i y) ≡ names_of xs
names_same [] i x y e name = refl
names_same (z ∷ xs) zero x y e name = let same : z ≡ x = ap (λ o. unwrap_or o x) e in ap (λ n. n ∷ names_of xs) (name ∙ ap (λ (w : StationView). id_of w.node) (sym same))
names_same (z ∷ xs) (suc i) x y e name = ap (λ ns. id_of z.node ∷ ns) (names_same xs i x y e name)

found_other : (m n : NodeId) (xs : List StationView) (i : ℕ) (x y : StationView) → slice_get xs i ≡ Some x → id_of x.node ≡ n → id_of y.node ≡ n → m ≢ n → found m (slice_set xs i y) ≡ found m xs
found_other m n [] i x y e old new ne = refl
found_other m n (z ∷ xs) zero x y e old new ne =
    let same : z ≡ x = ap (λ o. unwrap_or o x) e in
    let apart : (k : NodeId) → k ≡ n → is_node k m ≡ false = λ k is. differs k m (λ eq. ne (sym eq ∙ is)) in
    if_false (is_node (id_of y.node) m) (Some y) (found m xs) (apart (id_of y.node) new)
    ∙ sym (if_false (is_node (id_of z.node) m) (Some z) (found m xs) (apart (id_of z.node) (ap (λ (w : StationView). id_of w.node) same ∙ old)))
found_other m n (z ∷ xs) (suc i) x y e old new ne = ap (λ o. if is_node (id_of z.node) m then Some z else o) (found_other m n xs i x y e old new ne)

-- the node at the place of a name did what was asked of it
pub changed : (old : CoreView) → IsCore old → (n : NodeId) (t : Asked) (news : List StationView) (i : ℕ) → slice_get (nodes_of old.plan) i ≡ Some n → ActedAt t i old.stations news → HasChanged n t old (core_of old.plan old.whole news)
changed old is n t news i place h =
    let p = placed old is n i place in
    let same : h.before ≡ p.at = same-there (slice_get old.stations i) h.before p.at h.was p.there in
    let named : id_of h.before.node ≡ n = ap (λ (at : StationView). id_of at.node) same ∙ p.named in
    let after_named : id_of h.after.node ≡ n = h.acted.id ∙ named in
    let kept : names_of news ≡ names_of old.stations = ap names_of h.now ∙ names_same old.stations i h.before h.after h.was h.acted.id in
    let apart : Apart (names_of news) = subst Apart (sym kept) (apart_in old is) in
    record {
      plan = refl;
      whole = refl;
      names = kept;
      others = λ m ne. ap (λ xs. standing (found m xs)) h.now ∙ ap standing (found_other m n old.stations i h.before h.after h.was named after_named ne);
      before = h.before;
      after = h.after;
      id = named;
      was = ap standing (p.under ∙ ap Some (sym same));
      now = ap standing (found_at n news i h.after apart (ap (λ xs. slice_get xs i) h.now ∙ set-same old.stations i h.before h.after h.was) after_named);
      acted = h.acted;
    }

-- what the node that changed kept stays under each name
stays_at : {X : Type 0} (f : Option NodeState → X) (m n : NodeId) (t : Asked) (old new : CoreView) (h : HasChanged n t old new) → f (Some h.after.node) ≡ f (Some h.before.node) → f (station new m).content ≡ f (station old m).content
stays_at {X} f m n t old new h kept = go (is_node m n) refl
  where
    read : Standing → X
    read at = f at.content

    go : (b : Bool) → is_node m n ≡ b → read (station new m) ≡ read (station old m)
    go true e =
        let same : m ≡ n = is_node-true m n e in
        ap (λ k. read (station new k)) same ∙ ap read h.now ∙ kept ∙ sym (ap read h.was) ∙ ap (λ k. read (station old k)) (sym same)
    go false e = ap read (h.others m (λ same. let z : true ≡ false = sym (node_self m) ∙ ap (is_node m) same ∙ e in absurd (true≢false z)))

-- the inputs stay
pub inputs_same : (n : NodeId) (t : Asked) (old new : CoreView) → HasChanged n t old new → inputs_of new ≡ inputs_of old
inputs_same n t old new h = stays_at inputs_at node.Ingress n t old new h h.acted.inputs

-- it still has all inputs
pub still_came : (n : NodeId) (t : Asked) (old new : CoreView) → HasChanged n t old new → HasItsInputs old → HasItsInputs new
still_came n t old new h came = stays_at ended_at node.Ingress n t old new h h.acted.ended ∙ came

-- no row was handed on
pub gone_same : (n : NodeId) (t : Asked) (old new : CoreView) → HasChanged n t old new → gone_by new ≡ gone_by old
gone_same n t old new h = stays_at gone_at node.Egress n t old new h h.acted.gone
