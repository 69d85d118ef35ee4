-- How inputs came to the nodes that a run leaves.
use Rattle.std.proofs.Common.{◌≡◌, ◌∙◌, Bool, true, false, List, [], ◌∷◌, ◌++◌, Option, None, Some, length, pos, refl, suc, sym, ap, subst}
use Rattle.std.specs.Option.{option_or}
use Rattle.std.specs.Prelude.{◌≢◌, if◌then◌else◌, map}
use Rattle.tuple_edge.specs.Input.{Input}
use Rattle.tuple_edge.specs.declared.event.Stamped.{Stamped}
use Rattle.tuple_edge.specs.declared.node.NodeId.{NodeId}
use Rattle.tuple_edge.specs.declared.node.NodeId.TheVariants as node
use Rattle.event_log.specs.Views.{LogView}
use Rattle.ingress_egress.specs.IngressStands.{AreCome}
use Rattle.pair_machine.specs.Lists.{Each}
use Rattle.pair_machine.specs.Numbers.{is_node}
use Rattle.linked_run.specs.Linked.{ids_of}
use Rattle.linked_run.specs.Runs.{AllAdmit, ids_in, parts_in}
use Rattle.run_node.specs.NodeView.{NodeName}
use Rattle.run_node.specs.declared.part.Part.{Part}
use Rattle.plan_nodes.specs.States.{Admits, AllCame, id_of}
use Rattle.plan_nodes.specs.declared.state.NodeState.{NodeState}
use Rattle.plan_nodes.specs.declared.state.NodeState.TheVariants as state
use Rattle.partition_runner.specs.Feeds.{HasAll, IsFeedOf, node_among}
use Rattle.partition_runner.specs.Parts.{nodes_in}

-- there are as many parts as names
pub as_many : {X K : Type 0} (kept : K → LogView) (name : X → NodeName) (ps : List (Part NodeState K)) (xs : List X) → ids_in id_of (parts_in kept ps) ≡ ids_of (map name xs) → length ps ≡ length xs
as_many kept name [] [] e = refl
as_many kept name [] (x ∷ xs) e = cc e
as_many kept name (p ∷ ps) [] e = cc e
as_many kept name (p ∷ ps) (x ∷ xs) e = let rest : ids_in id_of (parts_in kept ps) ≡ ids_of (map name xs) = cc e in ap suc (as_many kept name ps xs rest)

-- ---- the first ingress

among_more : (nodes : List NodeState) (s : NodeState) (n : NodeId) → node_among (nodes ++ s ∷ []) n ≡ option_or (node_among nodes n) (if is_node (id_of s) n then Some s else None)
among_more [] s n = refl
among_more (t ∷ nodes) s n = go (is_node (id_of t) n) (among_more nodes s n)
  where
    go : (b : Bool) → node_among (nodes ++ s ∷ []) n ≡ option_or (node_among nodes n) (if is_node (id_of s) n then Some s else None)
        → (if b then Some t else node_among (nodes ++ s ∷ []) n) ≡ option_or (if b then Some t else node_among nodes n) (if is_node (id_of s) n then Some s else None)
    go true rest = refl
    go false rest = rest

-- one node more: it counts where it is the first ingress
pub feed_more : {F : Type 0} (fits : F → NodeState → Type 0) (feed after : Option F) (its : F) (nodes more : List NodeState) (s : NodeState) → more ≡ nodes ++ s ∷ [] → after ≡ option_or feed (if is_node (id_of s) node.Ingress then Some its else None)
    → fits its s → IsFeedOf fits feed nodes → IsFeedOf fits after more
feed_more {F} fits feed after its nodes more s grown is its_fits h =
    subst (λ (o : Option F). IsFeedOf fits o more) (sym is) (subst (λ (l : List NodeState). IsFeedOf fits (option_or feed (if is_node (id_of s) node.Ingress then Some its else None)) l) (sym grown) (go feed h))
  where
    other : (b : Bool) → node_among (nodes ++ s ∷ []) node.Ingress ≡ (if b then Some s else None) → IsFeedOf fits (if b then Some its else None) (nodes ++ s ∷ [])
    other true at = (s, at, its_fits)
    other false at = at

    go : (o : Option F) → IsFeedOf fits o nodes → IsFeedOf fits (option_or o (if is_node (id_of s) node.Ingress then Some its else None)) (nodes ++ s ∷ [])
    go (Some f) k = (k.0, among_more nodes s node.Ingress ∙ ap (λ (o : Option NodeState). option_or o (if is_node (id_of s) node.Ingress then Some s else None)) k.1, k.2)
    go None k = other (is_node (id_of s) node.Ingress) (among_more nodes s node.Ingress ∙ ap (λ (o : Option NodeState). option_or o (if is_node (id_of s) node.Ingress then Some s else None)) k)

-- ---- which inputs may be those of the run

-- no inputs come to another node than ingress, so that any may be its own
pub other_admits : (inputs : List Input) (s : NodeState) → id_of s ≢ node.Ingress → Admits s inputs
other_admits inputs (state.Ingress i) other = absurd (other refl)
other_admits inputs (state.Replica r) other = (inputs, refl)
other_admits inputs (state.Control c) other = (inputs, refl)
other_admits inputs (state.Egress e) other = (inputs, refl)

all_admits : (inputs : List Input) (s : NodeState) → HasAll inputs s → Admits s inputs
all_admits inputs (state.Ingress i) h = subst (λ b. AreCome b i.inputs inputs) (sym h.0) h.1
all_admits inputs (state.Replica r) h = (inputs, refl)
all_admits inputs (state.Control c) h = (inputs, refl)
all_admits inputs (state.Egress e) h = (inputs, refl)

all_came : (inputs : List Input) (s : NodeState) → HasAll inputs s → AllCame s
all_came inputs (state.Ingress i) h = h.0
all_came inputs (state.Replica r) h = tt
all_came inputs (state.Control c) h = tt
all_came inputs (state.Egress e) h = tt

-- the inputs that came beforehand may be those of all parts
pub have_all : (F : Type 0) (inputs : List Input) (ps : List (NodeState × List Stamped)) → Each (λ s. F × HasAll inputs s) (nodes_in ps) → AllAdmit Admits inputs ps
have_all F inputs [] h = tt
have_all F inputs (p ∷ ps) h = (all_admits inputs p.0 h.0.1, have_all F inputs ps h.1)

-- and no more come
pub all_have_come : (F : Type 0) (inputs : List Input) (nodes : List NodeState) → Each (λ s. F × HasAll inputs s) nodes → Each AllCame nodes
all_have_come F inputs [] h = tt
all_have_come F inputs (s ∷ nodes) h = (all_came inputs s h.0.1, all_have_come F inputs nodes h.1)

-- ---- before anything came

some_input : Input
some_input = record { source = 0; row = record { time = pos 0; account = pos 0; symbol = pos 0; qty = pos 0; value = pos 0 } }

-- where every list may be the inputs, nothing came, and no end was said
pub nothing_came : (was : Bool) (came : List Input) → ((inputs : List Input) → AreCome was came inputs) → (was ≡ false) × (came ≡ [])
nothing_came true came all =
    let none : came ≡ [] = all [] in
    let one : came ≡ some_input ∷ [] = all (some_input ∷ []) in
    let clash : ◌≡◌ {A = List Input} [] (some_input ∷ []) = sym none ∙ one in
    cc clash
nothing_came false [] all = (refl, refl)
nothing_came false (x ∷ came) all = let z : x ∷ (came ++ (all []).0) ≡ [] = (all []).1 in cc z
