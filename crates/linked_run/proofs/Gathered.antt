-- The parts that nodes leave, one by one.
use Rattle.std.proofs.Common.{◌≡◌, ◌∙◌, List, [], ◌∷◌, ◌++◌, length, refl, ap, sym, arith}
use Rattle.std.specs.Prelude.{map}
use Rattle.event_log.specs.Views.{LogView}
use Rattle.tuple_edge.specs.Input.{Input}
use Rattle.plan_reader.specs.PlanView.{PlanView}
use Rattle.pair_machine.specs.Joint.{AreRising}
use Rattle.pair_machine.specs.Lists.{Each}
use Rattle.pair_machine.specs.Numbers.{Node}
use Rattle.pair_machine.specs.declared.order.Order.{Order}
use Rattle.linked_run.specs.Linked.{ids_of}
use Rattle.tuple_edge.specs.declared.event.Stamped.{Stamped}
use Rattle.tuple_edge.specs.declared.node.NodeId.{NodeId}
use Rattle.run_node.specs.NodeView.{NodeView, name_of}
use Rattle.linked_run.specs.Runs.{AllAdmit, IsJointCourse, IsRun, ids_in, parts_in, parts_of}
use Rattle.run_node.specs.declared.part.Part.{Part}

pub parts_in-more : {A K : Type 0} (kept : K → LogView) (ps : List (Part A K)) (p : Part A K) → parts_in kept (ps ++ p ∷ []) ≡ parts_in kept ps ++ (p.state, (kept p.history).entries) ∷ []
parts_in-more kept [] p = refl
parts_in-more kept (q ∷ ps) p = ap (λ l. (q.state, (kept q.history).entries) ∷ l) (parts_in-more kept ps p)

module _ {A T : Type 0} (id : A → NodeId) where
  parts_of-more : (vs : List (NodeView A T)) (v : NodeView A T) → parts_of id (vs ++ v ∷ []) ≡ parts_of id vs ++ (v.state, v.history) ∷ []
  parts_of-more [] v = refl
  parts_of-more (w ∷ vs) v = ap (λ l. (w.state, w.history) ∷ l) (parts_of-more vs v)

  pub parts_more : {K : Type 0} (kept : K → LogView) (ps ps_after : List (Part A K)) (p : Part A K) (vs : List (NodeView A T)) (v : NodeView A T) → ps_after ≡ ps ++ p ∷ [] → parts_in kept ps ≡ parts_of id vs → p.state ≡ v.state → (kept p.history).entries ≡ v.history →
      parts_in kept ps_after ≡ parts_of id (vs ++ v ∷ [])
  parts_more kept ps ps_after p vs v e old state history =
      let last : ◌≡◌ {A = A × List Stamped} (p.state, (kept p.history).entries) (v.state, v.history) = λ i. (state i, history i) in
      ap (parts_in kept) e ∙ (parts_in-more kept ps p ∙ (ap (λ l. l ++ (p.state, (kept p.history).entries) ∷ []) old ∙ (ap (λ x. parts_of id vs ++ x ∷ []) last ∙ sym (parts_of-more vs v))))

pub empty_list : {X : Type 0} (xs : List X) → length xs ≡ 0 → xs ≡ []
empty_list [] e = refl
empty_list (x ∷ xs) e = absurd (omega arith)

module _ {A T : Type 0} (id : A → NodeId) where
  pub ids_same : (vs : List (NodeView A T)) → ids_in id (parts_of id vs) ≡ ids_of (map (name_of id) vs)
  ids_same [] = refl
  ids_same (v ∷ vs) = ap (λ l. id v.state ∷ l) (ids_same vs)

  rising_parts : (vs : List (NodeView A T)) → Each (λ v. AreRising v.history) vs → Each (λ p. AreRising p.1) (parts_of id vs)
  rising_parts [] h = tt
  rising_parts (v ∷ vs) h = (h.0, rising_parts vs h.1)

  pub run_of : (stands : PlanView → List Input → A → Node → Type 0) (plan : PlanView) (inputs : List Input) (script : List Order) (vs : List (NodeView A T)) → Each (λ v. AreRising v.history) vs →
      IsJointCourse id stands plan inputs script (parts_of id vs) → IsRun id stands plan inputs script (ids_of (map (name_of id) vs)) (parts_of id vs)
  run_of stands plan inputs script vs rising joint = record { nodes = ids_same vs; rising = rising_parts vs rising; joint = joint }

  pub views_admit : (admits : A → List Input → Type 0) (inputs : List Input) (vs : List (NodeView A T)) → AllAdmit admits inputs (parts_of id vs) → Each (λ v. admits v.state inputs) vs
  views_admit admits inputs [] h = tt
  views_admit admits inputs (v ∷ vs) h = (h.0, views_admit admits inputs vs h.1)
