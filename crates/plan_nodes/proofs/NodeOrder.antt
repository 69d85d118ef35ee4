-- The nodes of a plan, in their order: no node stands twice, and they are just those that the plan has.
use Rattle.std.proofs.Common.{◌≡◌, ◌∙◌, ◌+◌, ◌-◌, ◌<◌, ◌≤◌, ◌⊎◌, inl, inr, ⊎_elim, ℕ, zero, suc, Bool, true, false, List, [], ◌∷◌, ◌++◌, Some, length, get_or, take, refl, sym, ap, subst, arith, append_assoc, append-nil}
use Rattle.std.specs.Prelude.{slice_get}
use Rattle.tuple_edge.specs.declared.node.NodeId.{NodeId}
use Rattle.tuple_edge.specs.declared.node.NodeId.TheVariants as node
use Rattle.tuple_edge.specs.declared.node.Which.TheVariants.{A, B}
use Rattle.plan_reader.specs.Nodes.{has_node, parts_of}
use Rattle.plan_reader.specs.PlanView.{PlanView}
use Rattle.plan_reader.specs.declared.stage.Stage.{Stage}
use Rattle.pair_machine.specs.Counts.{flow_of}
use Rattle.pair_machine.specs.Joint as joint
use Rattle.pair_machine.specs.Lists.{Among, Each}
use Rattle.pair_machine.specs.Numbers.{is_node}
use Rattle.pair_machine.proofs.EdgeLaws.{get_of, parts_at}
use Rattle.pair_machine.proofs.Lists.{among_left, each_append, each_map}
use Rattle.pair_machine.proofs.Names.{is_node-true, node_self}
use Rattle.pair_machine.proofs.PlanNodes.{nodes_named}
use Rattle.plan_nodes.specs.NodeOrder.{nodes_before_egress, nodes_of, pair_nodes, stage_nodes, stages_nodes}

-- ---- nodes that differ

-- no node stands twice
abbrev pub Apart : List NodeId → Type 0
Apart [] = Unit {0}
Apart (n ∷ ns) = Each (λ m. is_node n m ≡ false) ns × Apart ns

pub differs : (a b : NodeId) → (a ≡ b → ⊥) → is_node a b ≡ false
differs a b h = go (is_node a b) refl
  where
    go : (c : Bool) → is_node a b ≡ c → c ≡ false
    go true e = absurd (h (is_node-true a b e))
    go false e = refl

apart_append : (xs ys : List NodeId) → Apart xs → Apart ys → Each (λ x. Each (λ y. is_node x y ≡ false) ys) xs → Apart (xs ++ ys)
apart_append [] ys a b h = b
apart_append (x ∷ xs) ys a b h = (each_append (λ m. is_node x m ≡ false) xs ys a.0 h.0, apart_append xs ys a.1 b h.1)

-- ---- where a node stands

abbrev stage_in : NodeId → ℕ
stage_in node.Ingress = 0
stage_in (node.Replica s p w) = s
stage_in (node.Control s p) = s
stage_in node.Egress = 0

abbrev part_in : NodeId → ℕ
part_in node.Ingress = 0
part_in (node.Replica s p w) = p
part_in (node.Control s p) = p
part_in node.Egress = 0

-- a node of a pair
abbrev IsOfPair : NodeId → Type 0
IsOfPair node.Ingress = ⊥
IsOfPair (node.Replica s p w) = Unit {0}
IsOfPair (node.Control s p) = Unit {0}
IsOfPair node.Egress = ⊥

record IsIn (s n : ℕ) (x : NodeId) : Type 0 where
  stage : stage_in x ≡ s
  part : part_in x < n
  pair : IsOfPair x

record IsFrom (k : ℕ) (x : NodeId) : Type 0 where
  stage : k ≤ stage_in x
  pair : IsOfPair x

in_stage : (s n : ℕ) → Each (IsIn s n) (stage_nodes s n)
in_stage s zero = tt
in_stage s (suc n) =
    let less : n < suc n = omega arith in
    let old = each_map (IsIn s n) (IsIn s (suc n)) (λ x h. record { stage = h.stage; part = (let l = h.part in omega arith); pair = h.pair }) (stage_nodes s n) (in_stage s n) in
    each_append (IsIn s (suc n)) (stage_nodes s n) (pair_nodes s n) old
    (record { stage = refl; part = less; pair = tt }, (record { stage = refl; part = less; pair = tt }, (record { stage = refl; part = less; pair = tt }, tt)))

in_stages : (k : ℕ) (ss : List Stage) → Each (IsFrom k) (stages_nodes k ss)
in_stages k [] = tt
in_stages k (s ∷ ss) =
    each_append (IsFrom k) (stage_nodes k s.parts) (stages_nodes (k + 1) ss)
    (each_map (IsIn k s.parts) (IsFrom k) (λ x h. record { stage = (let e = h.stage in omega arith); pair = h.pair }) (stage_nodes k s.parts) (in_stage k s.parts))
    (each_map (IsFrom (k + 1)) (IsFrom k) (λ x h. record { stage = (let l = h.stage in omega arith); pair = h.pair }) (stages_nodes (k + 1) ss) (in_stages (k + 1) ss))

-- ---- no node stands twice

pair_apart : (s p : ℕ) → Apart (pair_nodes s p)
pair_apart s p = (
  (differs (node.Replica s p A) (node.Replica s p B) (λ e. cc e), (differs (node.Replica s p A) (node.Control s p) (λ e. cc e), tt)),
  ((differs (node.Replica s p B) (node.Control s p) (λ e. cc e), tt), (tt, tt)),
)

stage_apart : (s n : ℕ) → Apart (stage_nodes s n)
stage_apart s zero = tt
stage_apart s (suc n) = apart_append (stage_nodes s n) (pair_nodes s n) (stage_apart s n) (pair_apart s n)
    (each_map (IsIn s n) (λ x. Each (λ y. is_node x y ≡ false) (pair_nodes s n)) (λ x h. (other x h (node.Replica s n A) refl, (other x h (node.Replica s n B) refl, (other x h (node.Control s n) refl, tt)))) (stage_nodes s n) (in_stage s n))
  where
    other : (x : NodeId) → IsIn s n x → (y : NodeId) → part_in y ≡ n → is_node x y ≡ false
    other x h y e = differs x y (λ same. let l = h.part in let k = ap part_in same in omega arith)

stages_apart : (k : ℕ) (ss : List Stage) → Apart (stages_nodes k ss)
stages_apart k [] = tt
stages_apart k (s ∷ ss) = apart_append (stage_nodes k s.parts) (stages_nodes (k + 1) ss) (stage_apart k s.parts) (stages_apart (k + 1) ss)
    (each_map (IsIn k s.parts) (λ x. Each (λ y. is_node x y ≡ false) (stages_nodes (k + 1) ss)) (λ x h. each_map (IsFrom (k + 1)) (λ y. is_node x y ≡ false) (λ y f. later x h y f) (stages_nodes (k + 1) ss) (in_stages (k + 1) ss)) (stage_nodes k s.parts) (in_stage k s.parts))
  where
    later : (x : NodeId) → IsIn k s.parts x → (y : NodeId) → IsFrom (k + 1) y → is_node x y ≡ false
    later x h y f = differs x y (λ same. let l = h.stage in let m = f.stage in let e = ap stage_in same in omega arith)

not_ingress : (y : NodeId) → IsOfPair y → is_node node.Ingress y ≡ false
not_ingress node.Ingress h = absurd h
not_ingress (node.Replica s p w) h = refl
not_ingress (node.Control s p) h = refl
not_ingress node.Egress h = absurd h

not_egress : (y : NodeId) → IsOfPair y → is_node y node.Egress ≡ false
not_egress node.Ingress h = absurd h
not_egress (node.Replica s p w) h = refl
not_egress (node.Control s p) h = refl
not_egress node.Egress h = absurd h

pub nodes_apart : (plan : PlanView) → Apart (nodes_of plan)
nodes_apart plan =
    let inner = stages_nodes 1 plan.stages in
    let from = in_stages 1 plan.stages in
    apart_append (nodes_before_egress plan) (node.Egress ∷ [])
    (each_map (IsFrom 1) (λ y. is_node node.Ingress y ≡ false) (λ y f. not_ingress y f.pair) inner from, stages_apart 1 plan.stages)
    (tt, tt)
    ((refl, tt), each_map (IsFrom 1) (λ x. Each (λ y. is_node x y ≡ false) (node.Egress ∷ [])) (λ x f. (not_egress x f.pair, tt)) inner from)

-- the same in the machine's words
pub ids_distinct : (ns : List NodeId) → Apart ns → joint.AreDistinct ns
ids_distinct [] h = tt
ids_distinct (n ∷ ns) h = (λ among. clash ns h.0 among, ids_distinct ns h.1)
  where
    clash : (ms : List NodeId) → Each (λ m. is_node n m ≡ false) ms → Among n ms → ⊥
    clash [] e a = a
    clash (m ∷ ms) e a = ⊎_elim (λ (same : n ≡ m). let z : true ≡ false = sym (node_self n) ∙ (ap (is_node n) same ∙ e.0) in cc) (λ later. clash ms e.1 later) a

-- ---- each is a node of the plan

HasStages : PlanView → ℕ → List Stage → Type 0
HasStages plan k ss = (i : ℕ) (s : Stage) → slice_get ss i ≡ Some s → slice_get plan.stages (k + i - 1) ≡ Some s

later_stages : (plan : PlanView) (k : ℕ) (s : Stage) (ss : List Stage) → HasStages plan k (s ∷ ss) → HasStages plan (k + 1) ss
unfolding HasStages
later_stages plan k s ss h i t e = let same : k + suc i - 1 ≡ k + 1 + i - 1 = omega arith in subst (λ n. slice_get plan.stages n ≡ Some t) same (h (suc i) t e)

all_stages : (plan : PlanView) → HasStages plan 1 plan.stages
unfolding HasStages
all_stages plan i s e = let same : i ≡ 1 + i - 1 = omega arith in subst (λ n. slice_get plan.stages n ≡ Some s) same e

within : (ss : List Stage) (n : ℕ) (s : Stage) → slice_get ss n ≡ Some s → n < length ss
within [] n s e = let z : ⊥ = cc e in absurd z
within (x ∷ ss) zero s e = omega arith
within (x ∷ ss) (suc n) s e = let l = within ss n s e in omega arith

module _ (plan : PlanView) where
  pair_has : (k : ℕ) (s : Stage) → 1 ≤ k → slice_get plan.stages (k - 1) ≡ Some s → (x : NodeId) → IsIn k s.parts x → has_node plan x ≡ true
  unfolding flow_of
  pair_has k s one at node.Ingress h = refl
  pair_has k s one at node.Egress h = refl
  pair_has k s one at (node.Replica t p w) h =
      let l = within plan.stages (k - 1) s at in
      let part = h.part in
      let stage = h.stage in
      let parts = parts_at plan.stages (k - 1) s at in
      let place : t + 1 - 1 ≡ suc (k - 1) = omega arith in
      (nodes_named plan [] (node.Replica t p w)).named ((omega arith, omega arith), subst (λ n. p < parts_of plan n) (sym place) (subst (λ n. p < n) (sym parts) part))
  pair_has k s one at (node.Control t p) h =
      let l = within plan.stages (k - 1) s at in
      let part = h.part in
      let stage = h.stage in
      let parts = parts_at plan.stages (k - 1) s at in
      let place : t + 1 - 1 ≡ suc (k - 1) = omega arith in
      (nodes_named plan [] (node.Control t p)).named ((omega arith, omega arith), subst (λ n. p < parts_of plan n) (sym place) (subst (λ n. p < n) (sym parts) part))

  stages_have : (k : ℕ) (ss : List Stage) → 1 ≤ k → HasStages plan k ss → Each (λ x. has_node plan x ≡ true) (stages_nodes k ss)
  unfolding HasStages
  stages_have k [] one h = tt
  stages_have k (s ∷ ss) one h =
      let same : k + 0 - 1 ≡ k - 1 = omega arith in
      let at : slice_get plan.stages (k - 1) ≡ Some s = subst (λ n. slice_get plan.stages n ≡ Some s) same (h 0 s refl) in
      each_append (λ x. has_node plan x ≡ true) (stage_nodes k s.parts) (stages_nodes (k + 1) ss)
      (each_map (IsIn k s.parts) (λ x. has_node plan x ≡ true) (λ x i. pair_has k s one at x i) (stage_nodes k s.parts) (in_stage k s.parts))
      (stages_have (k + 1) ss (omega arith) (later_stages plan k s ss h))

  pub nodes_there : Each (λ x. has_node plan x ≡ true) (nodes_of plan)
  nodes_there = each_append (λ x. has_node plan x ≡ true) (nodes_before_egress plan) (node.Egress ∷ []) (refl, stages_have 1 plan.stages (omega arith) (all_stages plan)) (refl, tt)

-- ---- and each node of the plan is there

among_right : (x : NodeId) (xs ys : List NodeId) → Among x ys → Among x (xs ++ ys)
among_right x [] ys h = h
among_right x (z ∷ xs) ys h = inr (among_right x xs ys h)

-- one of a pair's nodes
abbrev IsAt : ℕ → ℕ → NodeId → Type 0
IsAt s p node.Ingress = ⊥
IsAt s p (node.Replica t q w) = (t ≡ s) × (q ≡ p)
IsAt s p (node.Control t q) = (t ≡ s) × (q ≡ p)
IsAt s p node.Egress = ⊥

in_pair : (s p : ℕ) (x : NodeId) → IsAt s p x → Among x (pair_nodes s p)
in_pair s p node.Ingress h = absurd h
in_pair s p node.Egress h = absurd h
in_pair s p (node.Replica t q A) h = inl (λ i. node.Replica (h.0 i) (h.1 i) A)
in_pair s p (node.Replica t q B) h = inr (inl (λ i. node.Replica (h.0 i) (h.1 i) B))
in_pair s p (node.Control t q) h = inr (inr (inl (λ i. node.Control (h.0 i) (h.1 i))))

less_or_last : (p n : ℕ) → p < suc n → (p < n) ⊎ (p ≡ n)
less_or_last zero zero l = inr refl
less_or_last zero (suc n) l = inl (omega arith)
less_or_last (suc p) zero l = absurd (omega arith)
less_or_last (suc p) (suc n) l = ⊎_elim (λ (k : p < n). inl (omega arith)) (λ (e : p ≡ n). inr (ap suc e)) (less_or_last p n (omega arith))

among_stage : (s n p : ℕ) (x : NodeId) → IsAt s p x → p < n → Among x (stage_nodes s n)
among_stage s zero p x h l = absurd (omega arith)
among_stage s (suc n) p x h l = ⊎_elim (λ (k : p < n). among_left x (stage_nodes s n) (pair_nodes s n) (among_stage s n p x h k))
    (λ (e : p ≡ n). among_right x (stage_nodes s n) (pair_nodes s n) (in_pair s n x (subst (λ q. IsAt s q x) e h))) (less_or_last p n l)

among_stages : (k : ℕ) (ss : List Stage) (i : ℕ) (st : Stage) (s p : ℕ) (x : NodeId) → slice_get ss i ≡ Some st → s ≡ k + i → IsAt s p x → p < st.parts → Among x (stages_nodes k ss)
among_stages k [] i st s p x at e h l = let z : ⊥ = cc at in absurd z
among_stages k (y ∷ ss) zero st s p x at e h l =
    let same : y ≡ st = cc at in
    let here : s ≡ k = omega arith in
    among_left x (stage_nodes k y.parts) (stages_nodes (k + 1) ss) (among_stage k y.parts p x (subst (λ n. IsAt n p x) here h) (subst (λ (t : Stage). p < t.parts) (sym same) l))
among_stages k (y ∷ ss) (suc i) st s p x at e h l = among_right x (stage_nodes k y.parts) (stages_nodes (k + 1) ss) (among_stages (k + 1) ss i st s p x at (omega arith) h l)

module _ (plan : PlanView) where
  by_pair : (s p : ℕ) (x : NodeId) → IsAt s p x → (1 ≤ s) × (s ≤ length plan.stages) → p < parts_of plan s → Among x (nodes_of plan)
  by_pair s p x h within part =
      let l = within.0 in
      let m = within.1 in
      let found = get_of plan.stages (s - 1) (omega arith) in
      let place : s ≡ suc (s - 1) = omega arith in
      let parts : parts_of plan s ≡ found.0.parts = ap (parts_of plan) place ∙ parts_at plan.stages (s - 1) found.0 found.1 in
      among_left x (nodes_before_egress plan) (node.Egress ∷ []) (inr (among_stages 1 plan.stages (s - 1) found.0 s p x found.1 (omega arith) h (subst (λ n. p < n) parts part)))

  pub all_there : (x : NodeId) → has_node plan x ≡ true → Among x (nodes_of plan)
  unfolding flow_of
  all_there node.Ingress e = inl refl
  all_there node.Egress e = among_right node.Egress (nodes_before_egress plan) (node.Egress ∷ []) (inl refl)
  all_there (node.Replica s p w) e =
      let h = (nodes_named plan [] (node.Replica s p w)).there e in
      let same : s + 1 - 1 ≡ s = omega arith in
      by_pair s p (node.Replica s p w) (refl, refl) h.0 (subst (λ n. p < parts_of plan n) same h.1)
  all_there (node.Control s p) e =
      let h = (nodes_named plan [] (node.Control s p)).there e in
      let same : s + 1 - 1 ≡ s = omega arith in
      by_pair s p (node.Control s p) (refl, refl) h.0 (subst (λ n. p < parts_of plan n) same h.1)

-- ---- as code lists them

pub stages_more : (k : ℕ) (ss : List Stage) (s : Stage) → stages_nodes k (ss ++ s ∷ []) ≡ stages_nodes k ss ++ stage_nodes (k + length ss) s.parts
stages_more k [] s = let same : k ≡ k + 0 = omega arith in append-nil (stage_nodes k s.parts) ∙ ap (λ n. stage_nodes n s.parts) same
stages_more k (x ∷ ss) s =
    let same : k + 1 + length ss ≡ k + suc (length ss) = omega arith in
    ap (λ l. stage_nodes k x.parts ++ l) (stages_more (k + 1) ss s) ∙ (sym (append_assoc (stage_nodes k x.parts) (stages_nodes (k + 1) ss) (stage_nodes (k + 1 + length ss) s.parts))
    ∙ ap (λ n. (stage_nodes k x.parts ++ stages_nodes (k + 1) ss) ++ stage_nodes n s.parts) same)

pub stage_next : (s n : ℕ) → stage_nodes s (n + 1) ≡ stage_nodes s n ++ pair_nodes s n
stage_next s n = let one : n + 1 ≡ suc n = omega arith in ap (stage_nodes s) one

pub length_take : (ss : List Stage) (i : ℕ) → i ≤ length ss → length (take i ss) ≡ i
length_take [] zero l = refl
length_take [] (suc i) l = absurd (omega arith)
length_take (s ∷ ss) zero l = refl
length_take (s ∷ ss) (suc i) l = let e = length_take ss i (omega arith) in omega arith

take_one : (ss : List Stage) (i : ℕ) (d : Stage) → i < length ss → take (suc i) ss ≡ take i ss ++ get_or ss i d ∷ []
take_one [] i d l = absurd (omega arith)
take_one (s ∷ ss) zero d l = refl
take_one (s ∷ ss) (suc i) d l = ap (λ xs. s ∷ xs) (take_one ss i d (omega arith))

-- the first so many elements and the next one
pub take_next_of : (ss : List Stage) (i : ℕ) (s : Stage) → slice_get ss i ≡ Some s → take (suc i) ss ≡ take i ss ++ s ∷ []
take_next_of [] i s at = let z : ⊥ = cc at in absurd z
take_next_of (x ∷ ss) zero s at = let e : x ≡ s = cc at in ap (λ y. y ∷ []) e
take_next_of (x ∷ ss) (suc i) s at = ap (λ xs. x ∷ xs) (take_next_of ss i s at)

pub next_stage : (ids ids_after : List NodeId) (ss : List Stage) (place : ℕ) (d : Stage) → place < length ss → ids ≡ node.Ingress ∷ stages_nodes 1 (take place ss) →
    ids_after ≡ ids ++ stage_nodes (place + 1) (get_or ss place d).parts → ids_after ≡ node.Ingress ∷ stages_nodes 1 (take (place + 1) ss)
next_stage ids ids_after ss place d l before e =
    let s = get_or ss place d in
    let long = length_take ss place (omega arith) in
    let number : 1 + length (take place ss) ≡ place + 1 = omega arith in
    let one : suc place ≡ place + 1 = omega arith in
    let more : stages_nodes 1 (take (place + 1) ss) ≡ stages_nodes 1 (take place ss) ++ stage_nodes (place + 1) s.parts =
    ap (λ n. stages_nodes 1 (take n ss)) (sym one) ∙ (ap (stages_nodes 1) (take_one ss place d l) ∙ (stages_more 1 (take place ss) s ∙ ap (λ n. stages_nodes 1 (take place ss) ++ stage_nodes n s.parts) number)) in
    e ∙ (ap (λ l. l ++ stage_nodes (place + 1) s.parts) before ∙ ap (λ l. node.Ingress ∷ l) (sym more))
