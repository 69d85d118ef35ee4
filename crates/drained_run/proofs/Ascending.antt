-- The nodes of a plan, as it lists them, are in their order.
use Rattle.std.proofs.Common.{◌≡◌, ◌∙◌, ◌<◌, ◌≤◌, ◌+◌, ℕ, zero, suc, List, [], ◌∷◌, ◌++◌, refl, sym, ap, arith}
use Rattle.std.specs.Ordering.{nat_cmp, ordering_then}
use Rattle.std.specs.declared.cmp.Ordering.{Ordering}
use Rattle.std.specs.declared.cmp.Ordering.TheVariants.{Less, Equal}
use Rattle.std.specs.Cmp.{nat_cmp_is}
use Rattle.tuple_edge.specs.Node.{group_of, node_cmp, part_of, rank_of, stage_of}
use Rattle.tuple_edge.specs.declared.node.NodeId.{NodeId}
use Rattle.tuple_edge.specs.declared.node.NodeId.TheVariants as node
use Rattle.tuple_edge.specs.declared.node.Which.TheVariants.{A, B}
use Rattle.plan_reader.specs.PlanView.{PlanView}
use Rattle.plan_reader.specs.declared.stage.Stage.{Stage}
use Rattle.pair_machine.specs.Lists.{Each}
use Rattle.pair_machine.proofs.Lists.{each_append, each_map}
use Rattle.plan_nodes.specs.NodeOrder.{nodes_before_egress, nodes_of, pair_nodes, stage_nodes, stages_nodes}
use Rattle.journal_writer.specs.Merged.{AreAscending}

-- ---- which of two nodes comes first

less_then : (a b : ℕ) (r : Ordering) → a < b → ordering_then (nat_cmp a b) r ≡ Less
less_then a b r less = ap (λ o. ordering_then o r) (sym (nat_cmp_is a b Less less))

same_then : (a b : ℕ) (r : Ordering) → a ≡ b → ordering_then (nat_cmp a b) r ≡ r
same_then a b r same = ap (λ o. ordering_then o r) (sym (nat_cmp_is a b Equal same))

abbrev rank_order : NodeId → NodeId → Ordering
rank_order x y = nat_cmp (rank_of x) (rank_of y)

abbrev part_order : NodeId → NodeId → Ordering
part_order x y = ordering_then (nat_cmp (part_of x) (part_of y)) (rank_order x y)

abbrev stage_order : NodeId → NodeId → Ordering
stage_order x y = ordering_then (nat_cmp (stage_of x) (stage_of y)) (part_order x y)

by_group : (x y : NodeId) → group_of x < group_of y → node_cmp x y ≡ Less
by_group x y less = less_then (group_of x) (group_of y) (stage_order x y) less

by_stage : (x y : NodeId) → group_of x ≡ group_of y → stage_of x < stage_of y → node_cmp x y ≡ Less
by_stage x y group less = same_then (group_of x) (group_of y) (stage_order x y) group ∙ less_then (stage_of x) (stage_of y) (part_order x y) less

by_part : (x y : NodeId) → group_of x ≡ group_of y → stage_of x ≡ stage_of y → part_of x < part_of y → node_cmp x y ≡ Less
by_part x y group stage less =
    same_then (group_of x) (group_of y) (stage_order x y) group ∙ same_then (stage_of x) (stage_of y) (part_order x y) stage ∙ less_then (part_of x) (part_of y) (rank_order x y) less

by_rank : (x y : NodeId) → group_of x ≡ group_of y → stage_of x ≡ stage_of y → part_of x ≡ part_of y → rank_of x < rank_of y → node_cmp x y ≡ Less
by_rank x y group stage part less =
    same_then (group_of x) (group_of y) (stage_order x y) group ∙ same_then (stage_of x) (stage_of y) (part_order x y) stage
    ∙ same_then (part_of x) (part_of y) (rank_order x y) part ∙ sym (nat_cmp_is (rank_of x) (rank_of y) Less less)

ascending_append : (xs ys : List NodeId) → AreAscending xs → AreAscending ys → Each (λ x. Each (λ y. node_cmp x y ≡ Less) ys) xs → AreAscending (xs ++ ys)
ascending_append [] ys one other over = other
ascending_append (x ∷ xs) ys one other over = (each_append (λ y. node_cmp x y ≡ Less) xs ys one.0 over.0, ascending_append xs ys one.1 other over.1)

-- ---- where a node stands

-- a node of a pair in one of the first partitions of a stage
record IsIn (stage parts : ℕ) (x : NodeId) : Type 0 where
  group : group_of x ≡ 1
  stage_is : stage_of x ≡ stage
  part : part_of x < parts

-- a node of a pair in this stage or a later one
record IsFrom (stage : ℕ) (x : NodeId) : Type 0 where
  group : group_of x ≡ 1
  from : stage ≤ stage_of x

in_stage : (stage parts : ℕ) → Each (IsIn stage parts) (stage_nodes stage parts)
in_stage stage zero = tt
in_stage stage (suc part) =
    let less : part < suc part = omega arith in
    each_append (IsIn stage (suc part)) (stage_nodes stage part) (pair_nodes stage part)
    (each_map (IsIn stage part) (IsIn stage (suc part)) (λ x h. record { group = h.group; stage_is = h.stage_is; part = (let l = h.part in omega arith) }) (stage_nodes stage part) (in_stage stage part))
    (record { group = refl; stage_is = refl; part = less }, (record { group = refl; stage_is = refl; part = less }, (record { group = refl; stage_is = refl; part = less }, tt)))

in_stages : (stage : ℕ) (ss : List Stage) → Each (IsFrom stage) (stages_nodes stage ss)
in_stages stage [] = tt
in_stages stage (s ∷ ss) =
    each_append (IsFrom stage) (stage_nodes stage s.parts) (stages_nodes (stage + 1) ss)
    (each_map (IsIn stage s.parts) (IsFrom stage) (λ x h. record { group = h.group; from = (let e = h.stage_is in omega arith) }) (stage_nodes stage s.parts) (in_stage stage s.parts))
    (each_map (IsFrom (stage + 1)) (IsFrom stage) (λ x h. record { group = h.group; from = (let l = h.from in omega arith) }) (stages_nodes (stage + 1) ss) (in_stages (stage + 1) ss))

-- ---- in order

pair_ascends : (s p : ℕ) → AreAscending (pair_nodes s p)
pair_ascends s p = (
  (by_rank (node.Replica s p A) (node.Replica s p B) refl refl refl (omega arith), (by_rank (node.Replica s p A) (node.Control s p) refl refl refl (omega arith), tt)),
  ((by_rank (node.Replica s p B) (node.Control s p) refl refl refl (omega arith), tt), (tt, tt)),
)

-- a node of an earlier partition
before_pair : (s p : ℕ) (x : NodeId) → IsIn s p x → Each (λ y. node_cmp x y ≡ Less) (pair_nodes s p)
before_pair s p x h = (
  by_part x (node.Replica s p A) h.group h.stage_is h.part,
  (by_part x (node.Replica s p B) h.group h.stage_is h.part, (by_part x (node.Control s p) h.group h.stage_is h.part, tt)),
)

stage_ascends : (stage parts : ℕ) → AreAscending (stage_nodes stage parts)
stage_ascends stage zero = tt
stage_ascends stage (suc part) = ascending_append (stage_nodes stage part) (pair_nodes stage part) (stage_ascends stage part) (pair_ascends stage part)
    (each_map (IsIn stage part) (λ x. Each (λ y. node_cmp x y ≡ Less) (pair_nodes stage part)) (λ x h. before_pair stage part x h) (stage_nodes stage part) (in_stage stage part))

before_later : (stage parts : ℕ) (x y : NodeId) → IsIn stage parts x → IsFrom (stage + 1) y → node_cmp x y ≡ Less
before_later stage parts x y h f = by_stage x y (h.group ∙ sym f.group) (let e = h.stage_is in let l = f.from in omega arith)

stages_ascend : (stage : ℕ) (ss : List Stage) → AreAscending (stages_nodes stage ss)
stages_ascend stage [] = tt
stages_ascend stage (s ∷ ss) = ascending_append (stage_nodes stage s.parts) (stages_nodes (stage + 1) ss) (stage_ascends stage s.parts) (stages_ascend (stage + 1) ss)
    (each_map (IsIn stage s.parts) (λ x. Each (λ y. node_cmp x y ≡ Less) (stages_nodes (stage + 1) ss))
    (λ x h. each_map (IsFrom (stage + 1)) (λ y. node_cmp x y ≡ Less) (λ y f. before_later stage s.parts x y h f) (stages_nodes (stage + 1) ss) (in_stages (stage + 1) ss))
    (stage_nodes stage s.parts) (in_stage stage s.parts))

after_ingress : (y : NodeId) → IsFrom 1 y → node_cmp node.Ingress y ≡ Less
after_ingress y f = by_group node.Ingress y (let e = f.group in omega arith)

before_egress : (x : NodeId) → IsFrom 1 x → node_cmp x node.Egress ≡ Less
before_egress x f = by_group x node.Egress (let e = f.group in omega arith)

pub nodes_ascend : (plan : PlanView) → AreAscending (nodes_of plan)
nodes_ascend plan =
    let inner = stages_nodes 1 plan.stages in
    let from = in_stages 1 plan.stages in
    ascending_append (nodes_before_egress plan) (node.Egress ∷ [])
    (each_map (IsFrom 1) (λ y. node_cmp node.Ingress y ≡ Less) (λ y f. after_ingress y f) inner from, stages_ascend 1 plan.stages)
    (tt, tt)
    ((by_group node.Ingress node.Egress (omega arith), tt), each_map (IsFrom 1) (λ x. Each (λ y. node_cmp x y ≡ Less) (node.Egress ∷ [])) (λ x f. (before_egress x f, tt)) inner from)
