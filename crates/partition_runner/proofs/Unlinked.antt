-- Nodes with no link yet.
use Rattle.std.proofs.Common.{◌≡◌, ◌∙◌, ◌+◌, ◌<◌, ◌||◌, ◌&&◌, ℕ, zero, suc, Bool, true, false, List, [], ◌∷◌, ◌++◌, length, ◌≤◌, drop, get_or, take, refl, sym, ap, subst, arith, true≢false}
use Rattle.std.specs.Prelude.{◌≢◌, IsSome, IsTrue, map}
use Rattle.tuple_edge.specs.Input.{Input}
use Rattle.tuple_edge.specs.declared.node.NodeId.{NodeId}
use Rattle.tuple_edge.specs.declared.node.NodeId.TheVariants as node
use Rattle.plan_reader.specs.Nodes.{carries_any, has_link, has_node}
use Rattle.plan_reader.specs.PlanView.{PlanView}
use Rattle.pair_machine.specs.Counts.{flow_of}
use Rattle.pair_machine.specs.Links.{HasNode, link}
use Rattle.pair_machine.specs.Numbers.{is_node}
use Rattle.pair_machine.proofs.Lists.{each_at, each_left, each_map, each_right}
use Rattle.pair_machine.proofs.Names.{node_self}
use Rattle.pair_machine.proofs.PlanNodes.{nodes_named}
use Rattle.pair_machine.specs.Courses.{Pairwise}
use Rattle.pair_machine.specs.Lists.{Each}
use Rattle.linked_run.specs.Drafts.{Grows, LeadsTo, LeadsToAll}
use Rattle.partition_runner.specs.Drafts.{all_unlinked, unlinked}
use Rattle.linked_run.specs.Linked.{AreDistinct, AreLinked, IsLinkFrom, ids_of}
use Rattle.run_node.specs.FirstLinks.{identity_to}
use Rattle.plan_nodes.specs.NodeOrder.{nodes_before_egress, nodes_of, stages_nodes}
use Rattle.run_node.specs.NodeView.{NodeName}
use Rattle.partition_runner.specs.Ready.{AreNodesOf, HaveTheirLinks}
use Rattle.linked_run.specs.Runs.{any_tapped, taps_of}
use Rattle.linked_run.proofs.Joining.{same_ids}
use Rattle.plan_nodes.proofs.NodeOrder.{Apart, all_there, nodes_apart, nodes_there}

-- no name stands twice where no node does
pub names_distinct : (ms : List NodeName) → Apart (ids_of ms) → AreDistinct ms
names_distinct [] h = tt
names_distinct (m ∷ ms) h = (others ms h.0, names_distinct ms h.1)
  where
    others : (ns : List NodeName) → Each (λ k. is_node m.id k ≡ false) (ids_of ns) → Each (λ n. is_node m.id n.id ≡ false) ns
    others [] e = tt
    others (n ∷ ns) e = (e.0, others ns e.1)

take_next : (ns : List NodeId) (i : ℕ) (d : NodeId) → i < length ns → take (i + 1) ns ≡ take i ns ++ get_or ns i d ∷ []
take_next ns i d l = let one : suc i ≡ i + 1 = omega arith in ap (λ k. take k ns) (sym one) ∙ go ns i l
  where
    go : (ns : List NodeId) (i : ℕ) → i < length ns → take (suc i) ns ≡ take i ns ++ get_or ns i d ∷ []
    go [] i l = absurd (omega arith)
    go (n ∷ ns) zero l = refl
    go (n ∷ ns) (suc i) l = ap (λ xs. n ∷ xs) (go ns i (omega arith))

unlinked_more : (ns : List NodeId) (n : NodeId) → unlinked (ns ++ n ∷ []) ≡ unlinked ns ++ record { id = n; ins = []; outs = []; tapped = false } ∷ []
unlinked_more [] n = refl
unlinked_more (m ∷ ns) n = ap (λ l. record { id = m; ins = []; outs = []; tapped = false } ∷ l) (unlinked_more ns n)

pub unlinked_next : (drafts drafts_after : List NodeName) (ns : List NodeId) (i : ℕ) (d n : NodeId) (m : NodeName) → i < length ns → drafts ≡ unlinked (take i ns) → drafts_after ≡ drafts ++ m ∷ [] → n ≡ get_or ns i d →
    m ≡ record { id = n; ins = []; outs = []; tapped = false } → drafts_after ≡ unlinked (take (i + 1) ns)
unlinked_next drafts drafts_after ns i d n m l before e is made =
    let it : m ≡ record { id = get_or ns i d; ins = []; outs = []; tapped = false } = made ∙ ap (λ k. record { id = k; ins = []; outs = []; tapped = false }) is in
    e ∙ ((λ p. before p ++ it p ∷ []) ∙ (sym (unlinked_more (take i ns) (get_or ns i d)) ∙ ap unlinked (sym (take_next ns i d l))))

-- nodes behind the first that is ingress are others
pub other_at : (ids : List NodeId) (i : ℕ) (d : NodeId) → Each (λ n. n ≢ node.Ingress) (drop 1 ids) → 1 ≤ i → i < length ids → get_or ids i d ≢ node.Ingress
other_at [] i d h from l = absurd (omega arith)
other_at (n ∷ ids) zero d h from l = absurd (omega arith)
other_at (n ∷ ids) (suc i) d h from l = go ids i h (omega arith)
  where
    go : (ns : List NodeId) (k : ℕ) → Each (λ n. n ≢ node.Ingress) ns → k < length ns → get_or ns k d ≢ node.Ingress
    go [] k e m = absurd (omega arith)
    go (n ∷ ns) zero e m = e.0
    go (n ∷ ns) (suc k) e m = go ns k e.1 (omega arith)

pub others_apart : (plan : PlanView) → Each (λ n. n ≢ node.Ingress) (drop 1 (nodes_before_egress plan))
others_apart plan =
    let apart = (nodes_apart plan).0 in
    each_map (λ n. is_node node.Ingress n ≡ false) (λ n. n ≢ node.Ingress) (λ n e same. true≢false (sym (node_self node.Ingress) ∙ ap (is_node node.Ingress) (sym same) ∙ e)) (stages_nodes 1 plan.stages)
    (each_left (λ n. is_node node.Ingress n ≡ false) (stages_nodes 1 plan.stages) (node.Egress ∷ []) apart)

ids_append : (xs ys : List NodeName) → ids_of (xs ++ ys) ≡ ids_of xs ++ ids_of ys
ids_append [] ys = refl
ids_append (x ∷ xs) ys = ap (λ l. x.id ∷ l) (ids_append xs ys)

ids_unlinked : (ns : List NodeId) → ids_of (unlinked ns) ≡ ns
ids_unlinked [] = refl
ids_unlinked (n ∷ ns) = ap (λ l. n ∷ l) (ids_unlinked ns)

pub ids_all : (plan : PlanView) → ids_of (all_unlinked plan) ≡ nodes_of plan
ids_all plan = ids_append (unlinked (nodes_before_egress plan)) (record { id = node.Egress; ins = []; outs = []; tapped = true } ∷ []) ∙ ap (λ l. l ++ node.Egress ∷ []) (ids_unlinked (nodes_before_egress plan))

pub all_distinct : (plan : PlanView) → AreDistinct (all_unlinked plan)
all_distinct plan = names_distinct (all_unlinked plan) (subst Apart (sym (ids_all plan)) (nodes_apart plan))

abbrev NoIns : NodeName → Type 0
NoIns m = m.ins ≡ []

none_in : (ns : List NodeId) (m : NodeName) → NoIns m → Each NoIns (unlinked ns ++ m ∷ [])
none_in [] m h = (h, tt)
none_in (n ∷ ns) m h = (refl, none_in ns m h)

pub all_linked : (plan : PlanView) → AreLinked (all_unlinked plan) (all_unlinked plan)
all_linked plan = go (all_unlinked plan) (none_in (nodes_before_egress plan) (record { id = node.Egress; ins = []; outs = []; tapped = true }) refl)
  where
    go : (ms : List NodeName) → Each NoIns ms → AreLinked (all_unlinked plan) ms
    go [] h = tt
    go (m ∷ ms) h = (subst (Each (λ l. IsLinkFrom (all_unlinked plan) m.id l.0 l.1)) (sym h.0) tt, go ms h.1)

still_tapped : (xs ys : List NodeName) → Pairwise Grows xs ys → taps_of ys ≡ taps_of xs
still_tapped [] [] g = refl
still_tapped [] (y ∷ ys) g = absurd g
still_tapped (x ∷ xs) [] g = absurd g
still_tapped (x ∷ xs) (y ∷ ys) g = λ p. g.0.tapped p ∷ still_tapped xs ys g.1 p

same_tapped : (xs ys : List NodeName) → taps_of xs ≡ taps_of ys → any_tapped xs ≡ any_tapped ys
same_tapped [] [] e = refl
same_tapped [] (y ∷ ys) e = cc
same_tapped (x ∷ xs) [] e = cc
same_tapped (x ∷ xs) (y ∷ ys) e =
    let first : x.tapped ≡ y.tapped = cc e in
    let rest : taps_of xs ≡ taps_of ys = cc e in
    λ i. first i || same_tapped xs ys rest i

-- a node of a plan has a tap
pub some_tapped : (plan : PlanView) (names : List NodeName) → taps_of names ≡ taps_of (all_unlinked plan) → any_tapped names ≡ true
some_tapped plan names e = same_tapped names (all_unlinked plan) e ∙ last (nodes_before_egress plan)
  where
    last : (ns : List NodeId) → any_tapped (unlinked ns ++ record { id = node.Egress; ins = []; outs = []; tapped = true } ∷ []) ≡ true
    last [] = refl
    last (n ∷ ns) = last ns

pub have_links : (plan : PlanView) (xs ys : List NodeName) → xs ≡ all_unlinked plan → Pairwise Grows xs ys → AreLinked ys ys → Each (λ m. LeadsToAll plan m (ids_of xs)) ys → HaveTheirLinks plan ys
have_links plan xs ys e g linked leads =
    let ids : ids_of xs ≡ nodes_of plan = ap ids_of e ∙ ids_all plan in
    record {
      nodes = record {
        ids = same_ids xs ys g ∙ ids;
        linked = linked;
        tapped = still_tapped xs ys g ∙ ap taps_of e;
      };
      leads = subst (λ ns. Each (λ m. LeadsToAll plan m ns) ys) ids leads;
    }

-- a plan has nodes
pub some_nodes : {X : Type 0} (name : X → NodeName) (plan : PlanView) (xs : List X) → AreNodesOf plan (map name xs) → 0 < length xs
some_nodes name plan [] h = let e : [] ≡ nodes_of plan = h.ids in let z : ⊥ = cc e in absurd z
some_nodes name plan (x ∷ xs) h = omega arith

-- ---- a node that has its links

both_left : (a b : Bool) → (a && b) ≡ true → (a ≡ true) × (b ≡ true)
both_left true b e = (refl, e)
both_left false b e = cc

to_there : (plan : PlanView) (from to : NodeId) → has_link plan (link from to) ≡ true → has_node plan to ≡ true
to_there plan from to h = let a = both_left (has_node plan from && has_node plan to) (carries_any plan from to) h in (both_left (has_node plan from) (has_node plan to) a.0).1

named_ids : (plan : PlanView) (ms : List NodeName) → Each (λ n. has_node plan n ≡ true) (ids_of ms) → Each (λ m. has_node plan m.id ≡ true) ms
named_ids plan [] h = tt
named_ids plan (m ∷ ms) h = (h.0, named_ids plan ms h.1)

pub record IsFinished (plan : PlanView) (inputs : List Input) (d : NodeName) : Type 0 where
  pub there : HasNode (flow_of plan inputs) d.id
  pub linked : (to : NodeId) → IsTrue (has_link plan (link d.id to)) → IsSome (identity_to d.outs to)

pub is_finished : (plan : PlanView) (inputs : List Input) (all : List NodeName) → HaveTheirLinks plan all → (before rest : List NodeName) (d : NodeName) → before ++ d ∷ rest ≡ all → IsFinished plan inputs d
is_finished plan inputs all h before rest d e =
    let ids : Each (λ n. has_node plan n ≡ true) (ids_of all) = subst (Each (λ n. has_node plan n ≡ true)) (sym h.nodes.ids) (nodes_there plan) in
    let has = (each_right (λ (m : NodeName). has_node plan m.id ≡ true) before (d ∷ rest) (subst (Each (λ (m : NodeName). has_node plan m.id ≡ true)) (sym e) (named_ids plan all ids))).0 in
    let leads = (each_right (λ (m : NodeName). LeadsToAll plan m (nodes_of plan)) before (d ∷ rest) (subst (Each (λ (m : NodeName). LeadsToAll plan m (nodes_of plan))) (sym e) h.leads)).0 in
    record {
      there = (nodes_named plan inputs d.id).there has;
      linked = λ to k. each_at (LeadsTo plan d) to (nodes_of plan) (all_there plan to (to_there plan d.id to k)) leads k;
    }

pub map_last : (X : Type 0) (f : X → NodeName) (xs xs_after : List X) (x : X) (names : List NodeName) (n : NodeName) → xs_after ≡ xs ++ x ∷ [] → map f xs ≡ names → f x ≡ n → map f xs_after ≡ names ++ n ∷ []
map_last X f xs xs_after x names n e h is = ap (map f) e ∙ (go xs ∙ (λ p. h p ++ is p ∷ []))
  where
    go : (ys : List X) → map f (ys ++ x ∷ []) ≡ map f ys ++ f x ∷ []
    go [] = refl
    go (y ∷ ys) = ap (λ l. f y ∷ l) (go ys)
