-- The nodes that the threads leave, in a core made of them.
use Rattle.std.proofs.Common.{◌≡◌, ◌∙◌, ◌⊎◌, inl, inr, Bool, true, false, List, [], ◌∷◌, Option, None, Some, map, refl, sym, ap, subst, true≢false}
use Rattle.std.specs.Prelude.{if◌then◌else◌}
use Rattle.tuple_edge.specs.Input.{Input}
use Rattle.tuple_edge.specs.declared.node.NodeId.{NodeId}
use Rattle.tuple_edge.specs.declared.node.NodeId.TheVariants as node
use Rattle.plan_reader.specs.PlanView.{PlanView}
use Rattle.pair_machine.specs.CountLaws.{output_first}
use Rattle.pair_machine.specs.Lists.{Among, Each}
use Rattle.pair_machine.specs.Machine.{egress_in}
use Rattle.pair_machine.specs.Numbers.{Node, is_node}
use Rattle.pair_machine.proofs.Names.{is_node-true, node_self}
use Rattle.ingress_egress.specs.IngressStands.{AreCome}
use Rattle.plan_nodes.specs.States.{AllCame, StandsFor, contents_of, id_of, inputs_in, rows_of}
use Rattle.plan_nodes.specs.declared.state.NodeState.{NodeState}
use Rattle.plan_nodes.specs.declared.state.NodeState.TheVariants as state
use Rattle.flux_core.specs.CoreView.{found, rows_at, standing}
use Rattle.flux_core.specs.Opening.{new_station}
use Rattle.flux_core.specs.Stands.{ContentStands}
use Rattle.flux_core.proofs.Contents.{id_contents}
use Rattle.partition_runner.specs.Ran.{emitted_in}

-- the room of edges left aside, a node has emitted the same
pub same_rows : (s : NodeState) → rows_of (contents_of s) ≡ rows_of s
same_rows (state.Ingress i) = refl
same_rows (state.Replica r) = refl
same_rows (state.Control c) = refl
same_rows (state.Egress e) = refl

-- ---- nodes by their names

-- in a core of these nodes one of them, which has this name, is found under it
pub record IsFound (P : NodeState → Type 0) (n : NodeId) (nodes : List NodeState) : Type 0 where
  pub one : NodeState
  pub holds : P one
  pub named : id_of one ≡ n
  pub there : found n (map new_station nodes) ≡ Some (new_station one)

pub find : (P : NodeState → Type 0) (n : NodeId) (nodes : List NodeState) → Among n (map id_of nodes) → Each P nodes → IsFound P n nodes
find P n [] among each = absurd among
find P n (s ∷ nodes) among each = go (is_node (id_of (contents_of s)) n) refl among (λ later. find P n nodes later each.1)
  where
    go : (b : Bool) → is_node (id_of (contents_of s)) n ≡ b → (n ≡ id_of s) ⊎ Among n (map id_of nodes) → (Among n (map id_of nodes) → IsFound P n nodes) → IsFound P n (s ∷ nodes)
    go true e a later = record {
      one = s;
      holds = each.0;
      named = sym (id_contents s) ∙ is_node-true (id_of (contents_of s)) n e;
      there = ap (λ b. if b then Some (new_station s) else found n (map new_station nodes)) e;
    }
    go false e (inl same) later = absurd (true≢false (sym (node_self n) ∙ (sym (ap (λ m. is_node m n) (id_contents s ∙ sym same)) ∙ e)))
    go false e (inr k) later =
        let f = later k in
        record { one = f.one; holds = f.holds; named = f.named; there = ap (λ b. if b then Some (new_station s) else found n (map new_station nodes)) e ∙ f.there }

-- two facts of each
pub both : (P Q : NodeState → Type 0) (nodes : List NodeState) → Each P nodes → Each Q nodes → Each (λ s. P s × Q s) nodes
both P Q [] p q = tt
both P Q (s ∷ nodes) p q = ((p.0, q.0), both P Q nodes p.1 q.1)

-- what egress emitted is the same in a core of the nodes
pub emitted_bare : (nodes : List NodeState) → rows_at (standing (found node.Egress (map new_station nodes))).content ≡ emitted_in nodes
emitted_bare [] = refl
emitted_bare (s ∷ nodes) =
    ap (λ n. rows_at (standing (if is_node n node.Egress then Some (new_station s) else found node.Egress (map new_station nodes))).content) (id_contents s) ∙ go (is_node (id_of s) node.Egress) (emitted_bare nodes)
  where
    go : (b : Bool) → rows_at (standing (found node.Egress (map new_station nodes))).content ≡ emitted_in nodes
        → rows_at (standing (if b then Some (new_station s) else found node.Egress (map new_station nodes))).content ≡ (if b then rows_of s else emitted_in nodes)
    go true rest = same_rows s
    go false rest = rest

-- ---- what ingress and egress stand for

module _ (plan : PlanView) (inputs : List Input) where
  pub inputs_stand : (s : NodeState) (x : Node) → id_of s ≡ node.Ingress → AllCame s → StandsFor plan inputs s x → inputs_in s ≡ inputs
  inputs_stand (state.Ingress i) x e came h = subst (λ b. AreCome b i.inputs inputs) came h.inputs
  inputs_stand (state.Replica r) x e came h = let z : ⊥ = cc e in absurd z
  inputs_stand (state.Control c) x e came h = let z : ⊥ = cc e in absurd z
  inputs_stand (state.Egress k) x e came h = let z : ⊥ = cc e in absurd z

  pub rows_stand : (s : NodeState) (x : Node) → id_of s ≡ node.Egress → StandsFor plan inputs s x → rows_of s ≡ output_first plan inputs (egress_in x).count
  rows_stand (state.Ingress i) x e h = let z : ⊥ = cc e in absurd z
  rows_stand (state.Replica r) x e h = let z : ⊥ = cc e in absurd z
  rows_stand (state.Control c) x e h = let z : ⊥ = cc e in absurd z
  rows_stand (state.Egress k) x e h = h.emitted

  pub emitted_stand : (c : Option NodeState) (x : Node) → ContentStands plan inputs node.Egress c x → rows_at c ≡ output_first plan inputs (egress_in x).count
  emitted_stand None x h = absurd h
  emitted_stand (Some s) x h = rows_stand s x h.0 h.1
