-- The histories of a run, kept in another way: what was promised of the one holds of the other.
use Rattle.std.proofs.Common.{◌≡◌, ◌∙◌, List, [], ◌∷◌, map, refl, sym, subst}
use Rattle.std.specs.Prelude.{if◌then◌else◌}
use Rattle.tuple_edge.specs.Input.{Input}
use Rattle.tuple_edge.specs.declared.event.History.{History}
use Rattle.tuple_edge.specs.declared.event.Stamped.{Stamped}
use Rattle.tuple_edge.specs.declared.node.NodeId.{NodeId}
use Rattle.event_log.specs.Views.{LogView}
use Rattle.plan_reader.specs.PlanView.{PlanView}
use Rattle.pair_machine.specs.Joint.{AreDistinct, AreRising}
use Rattle.pair_machine.specs.Lists.{Each}
use Rattle.pair_machine.specs.Numbers.{is_node}
use Rattle.pair_machine.specs.declared.order.Order.{Order}
use Rattle.plan_nodes.specs.declared.state.NodeState.{NodeState}
use Rattle.partition_runner.specs.Ran.{IsLegalCourse, IsLegalLeft, IsLegalRun, IsLegalWith, IsToldOf, history_among}
use Rattle.partition_runner.specs.declared.ran.Left.{Left}
use Rattle.partition_runner.specs.declared.ran.Ran.{Ran}

module _ {H K : Type 0} (node_in : H → NodeId) (entries_in : H → List Stamped) (node_of : K → NodeId) (entries_of : K → List Stamped) where
  -- these are the same histories of the same nodes, in one order
  abbrev pub AreSame : List H → List K → Type 0
  AreSame hs ks = map {B = NodeId × List Stamped} (λ h. (node_in h, entries_in h)) hs ≡ map {B = NodeId × List Stamped} (λ k. (node_of k, entries_of k)) ks

  same_nodes : (hs : List H) (ks : List K) → AreSame hs ks → map node_in hs ≡ map node_of ks
  same_nodes [] [] e = refl
  same_nodes [] (k ∷ ks) e = cc e
  same_nodes (h ∷ hs) [] e = cc e
  same_nodes (h ∷ hs) (k ∷ ks) e =
      let first : ◌≡◌ {A = NodeId × List Stamped} (node_in h, entries_in h) (node_of k, entries_of k) = cc e in
      let rest : AreSame hs ks = cc e in
      λ i. (first i).0 ∷ same_nodes hs ks rest i

  same_rising : (hs : List H) (ks : List K) → AreSame hs ks → Each (λ k. AreRising (entries_of k)) ks → Each (λ h. AreRising (entries_in h)) hs
  same_rising [] [] e r = tt
  same_rising [] (k ∷ ks) e r = let z : ⊥ = cc e in absurd z
  same_rising (h ∷ hs) [] e r = let z : ⊥ = cc e in absurd z
  same_rising (h ∷ hs) (k ∷ ks) e r =
      let first : ◌≡◌ {A = NodeId × List Stamped} (node_in h, entries_in h) (node_of k, entries_of k) = cc e in
      let rest : AreSame hs ks = cc e in
      (subst (λ (x : NodeId × List Stamped). AreRising x.1) (sym first) r.0, same_rising hs ks rest r.1)

  same_history : (hs : List H) (ks : List K) (n : NodeId) → AreSame hs ks → history_among node_in entries_in hs n ≡ history_among node_of entries_of ks n
  same_history [] [] n e = refl
  same_history [] (k ∷ ks) n e = let z : ⊥ = cc e in absurd z
  same_history (h ∷ hs) [] n e = let z : ⊥ = cc e in absurd z
  same_history (h ∷ hs) (k ∷ ks) n e =
      let first : ◌≡◌ {A = NodeId × List Stamped} (node_in h, entries_in h) (node_of k, entries_of k) = cc e in
      let rest : AreSame hs ks = cc e in
      λ i. if is_node (first i).0 n then (first i).1 else same_history hs ks n rest i

  pub course_kept : (plan : PlanView) (inputs : List Input) (script : List Order) (nodes : List NodeState) (hs : List H) (ks : List K) → AreSame hs ks
      → IsLegalCourse plan inputs script node_of entries_of nodes ks → IsLegalCourse plan inputs script node_in entries_in nodes hs
  course_kept plan inputs script nodes hs ks e legal =
      let named = same_nodes hs ks e in
      record {
        histories = named ∙ legal.histories;
        distinct = subst AreDistinct (sym named) legal.distinct;
        rising = same_rising hs ks e legal.rising;
        nodes_are = legal.nodes_are;
        joint = λ log l. legal.joint log (record { in_order = l.in_order; whole = λ n. l.whole n ∙ same_history hs ks n e });
      }

  pub legal_kept : (plan : PlanView) (inputs : List Input) (script : List Order) (nodes : List NodeState) (hs : List H) (ks : List K) → AreSame hs ks
      → IsLegalWith plan inputs script node_of entries_of nodes ks → IsLegalWith plan inputs script node_in entries_in nodes hs
  legal_kept plan inputs script nodes hs ks e legal = record { course = course_kept plan inputs script nodes hs ks e legal.course; came = legal.came; held = legal.held }

pub legal_told : (plan : PlanView) (inputs : List Input) (script : List Order) (left : Left LogView) (ran : Ran) → IsLegalLeft plan inputs script left → IsToldOf left ran → IsLegalRun plan inputs script ran
legal_told plan inputs script left ran legal told =
    legal_kept (λ (h : History). h.node) (λ (h : History). h.entries.items) (λ (l : LogView). l.node) (λ (l : LogView). l.entries) plan inputs script ran.nodes.items ran.histories.items left.logs.items told.histories
    (subst (λ ns. IsLegalWith plan inputs script (λ (l : LogView). l.node) (λ (l : LogView). l.entries) ns left.logs.items) (sym told.nodes) legal)
