-- The first of a node's links to another one.
use Rattle.std.specs.Prelude.{◌≡◌, ◌<◌, ℕ, true, false, List, [], ◌∷◌, Option, None, Some, if◌then◌else◌, length, map, slice_get, take}
use Rattle.flux_link.specs.Identity.{Identity}
use Rattle.pair_machine.specs.Lists.{Each}
use Rattle.pair_machine.specs.Numbers.{is_node}
use Rattle.tuple_edge.specs.declared.node.NodeId.{NodeId}
use Rattle.run_node.specs.Ends.{OutEndView, OutLink, emitted_to, links_of}
use Rattle.run_node.specs.NodeView.{out_names}

-- the first link to a node
abbrev pub identity_to : List (NodeId × Identity) → NodeId → Option Identity
identity_to [] n = None
identity_to (l ∷ ls) n = if is_node l.0 n then Some l.1 else identity_to ls n

-- the first link to a node stands at this place
pub record IsFirstTo (outs : List OutEndView) (to : NodeId) (place : ℕ) : Type 0 where
  pub within : place < length outs
  pub leads : (e : OutEndView) → slice_get outs place ≡ Some e → is_node e.link.to to ≡ true
  pub before : Each (λ e. is_node e.link.to to ≡ false) (take place outs)
  pub identity : (e : OutEndView) → slice_get outs place ≡ Some e → identity_to (out_names (links_of outs)) to ≡ Some e.link.identity
  pub emitted : (e : OutEndView) → slice_get outs place ≡ Some e → emitted_to (links_of outs) to ≡ e.link.emitted

-- the nodes to which links lead
abbrev pub receivers : List OutLink → List NodeId
receivers links = map (λ l. l.to) links

-- each of the first so many nodes stands nowhere before its place
abbrev pub AreFirst : ℕ → List NodeId → Type 0
AreFirst n nodes = (p : ℕ) (k : NodeId) → p < n → slice_get nodes p ≡ Some k → Each (λ e. is_node e k ≡ false) (take p nodes)
