-- What a newcomer has once the items that it holds are folded in, in the machine's numbers.
use Rattle.std.proofs.Common.{◌≡◌, ℕ, zero, suc, ◌+◌, ◌<◌, ◌≤◌, Bool, true, false, List, [], ◌∷◌, fold, length, map, refl, sym, ap, ◌∙◌, subst, slice_index_or, arith}
use Rattle.std.specs.Prelude.{◌==◌, replicate, slice_index}
use Rattle.std.specs.List.{All}
use Rattle.std.proofs.lemmas.List.{length-map, length-replicate}
use Rattle.tuple_edge.specs.declared.item.Item.{Item}
use Rattle.tuple_edge.specs.Input.{Input}
use Rattle.merge_order.specs.MergeView.{MergeView, after_offer, mark_of}
use Rattle.flux_consumer.specs.ConsumerView.{ConsumerView, over, with_merge}
use Rattle.plan_reader.specs.Nodes.{sources_of}
use Rattle.plan_reader.specs.PlanView.{PlanView}
use Rattle.pair_machine.specs.Consumers.{offered}
use Rattle.pair_machine.specs.CountLaws.{IsMerging}
use Rattle.pair_machine.specs.Counts.{flow_of, items_on}
use Rattle.pair_machine.specs.Numbers.{Consumer, MoveNumbers, Partition, in_edge}
use Rattle.pair_machine.specs.Replicas.{caught_up, run_up}
use Rattle.node_edges.specs.InEdges.{ConsumerStands}
use Rattle.node_edges.proofs.Consumers.{offers}
use Rattle.catch_up.specs.Fold.{AllRising, IsRunFrom}
use Rattle.catch_up.specs.Rebuild as rebuild
use Rattle.catch_up.proofs.Folds.{all_fold}
use Rattle.replica_node.specs.CaughtUp.{HoldsNumbers, IsItemOf}
use Rattle.replica_node.proofs.Runs.{one_end, runs_up}

zero_at : (n q : ℕ) → slice_index (replicate n 0) q ≡ 0
zero_at zero q = refl
zero_at (suc n) zero = refl
zero_at (suc n) (suc q) = zero_at n q

-- offers count nothing
count_offered : (x : Consumer) (q n : ℕ) → (offered x q n).count ≡ x.count
count_offered x q n = by_test (n == x.marks q + 1) refl
  where
    by_test : (t : Bool) → (n == x.marks q + 1) ≡ t → (offered x q n).count ≡ x.count
    by_test true is = rw is refl
    by_test false is = rw is refl

-- what is held of an in-edge, offered to the machine's consumer
abbrev all_to : ℕ → Consumer → List (ℕ × Item) → Consumer
all_to q x held = fold (λ y e. offered y q e.0) x held

abbrev below_to : ℕ → Consumer → List (List (ℕ × Item)) → Consumer
below_to zero x held = x
below_to (suc n) x held = all_to n (below_to n x held) (slice_index_or held n [])

count_all : (q : ℕ) (x : Consumer) (held : List (ℕ × Item)) → (all_to q x held).count ≡ x.count
count_all q x [] = refl
count_all q x (e ∷ held) = count_all q (offered x q e.0) held ∙ count_offered x q e.0

count_below : (n : ℕ) (x : Consumer) (held : List (List (ℕ × Item))) → (below_to n x held).count ≡ x.count
count_below zero x held = refl
count_below (suc n) x held = count_all n (below_to n x held) (slice_index_or held n []) ∙ count_below n x held

module _ (plan : PlanView) (inputs : List Input) (p : Partition) (merging : IsMerging (flow_of plan inputs) p) where
  one_edge : (q : ℕ) (held : List (ℕ × Item)) (x : Consumer) (y : ConsumerView) → q < sources_of plan p.stage → All (IsItemOf (items_on plan inputs (in_edge p q))) held
      → ConsumerStands plan inputs p x y → ConsumerStands plan inputs p (all_to q x held) (with_merge y (rebuild.all_offered q y.merge held))
  one_edge q [] x y inside items stands = stands
  one_edge q (e ∷ held) x y inside items stands =
      one_edge q held (offered x q e.0) (with_merge y (after_offer y.merge q e.0 e.1)) inside (λ k d below. items (suc k) d (omega (arith, below)))
      (offers plan inputs p x y q e.0 e.1 merging inside (λ next. items zero e (omega arith)) stands)

  all_edges : (n : ℕ) (held : List (List (ℕ × Item))) (x : Consumer) (y : ConsumerView) → n ≤ sources_of plan p.stage
      → ((q : ℕ) → q < n → All (IsItemOf (items_on plan inputs (in_edge p q))) (slice_index_or held q []))
      → ConsumerStands plan inputs p x y → ConsumerStands plan inputs p (below_to n x held) (with_merge y (rebuild.folded_below n y.merge held))
  all_edges zero held x y inside items stands = stands
  all_edges (suc n) held x y inside items stands =
      one_edge n (slice_index_or held n []) (below_to n x held) (with_merge y (rebuild.folded_below n y.merge held)) (omega (arith, inside)) (items n (omega arith))
      (all_edges n held x y (omega (arith, inside)) (λ q below. items q (omega (arith, below))) stands)

  -- the consumer that has caught up
  pub consumer_stands : (inc : ℕ) (n : MoveNumbers) (numbers : ℕ → List ℕ) (merge : MergeView) (held : List (List (ℕ × Item)))
      → ConsumerStands plan inputs p (record { marks = n.marks; told = λ q. 0; count = n.count }) (over merge)
      → HoldsNumbers plan inputs p held numbers → AllRising held (length held)
      → ConsumerStands plan inputs p (caught_up inc n numbers).consumer (over (rebuild.folded merge held))
  consumer_stands inc n numbers merge held stands holds rising =
      record {
        edges = after.edges;
        listed = length-replicate (length (rebuild.folded merge held).marks) 0;
        merge = after.merge;
        count = after.count ∙ count_below (length held) start held;
        marks = λ q inside. mark_is q inside;
        told = λ q inside. zero_at (length (rebuild.folded merge held).marks) q;
      }
    where
      start : Consumer
      start = record { marks = n.marks; told = λ q. 0; count = n.count }

      sources : length held ≡ sources_of plan p.stage
      sources = holds.sources

      after : ConsumerStands plan inputs p (below_to (length held) start held) (with_merge (over merge) (rebuild.folded merge held))
      after = all_edges (length held) held start (over merge) (omega (arith, sources)) holds.items stands

      mark_is : (q : ℕ) → q < sources_of plan p.stage → mark_of (rebuild.folded merge held) q ≡ run_up (length (numbers q)) (n.marks q) (numbers q)
      mark_is q inside =
          one_end here (n.marks q) (mark_of (rebuild.folded merge held) q) (run_up (length (numbers q)) (n.marks q) (numbers q))
          (subst (λ mark. IsRunFrom here mark (mark_of (rebuild.folded merge held) q)) (stands.marks q inside) (all_fold (length held) q merge held below marked (rising q below)))
          (subst (λ k. IsRunFrom here (n.marks q) (run_up k (n.marks q) (numbers q))) long
          (subst (λ ks. IsRunFrom here (n.marks q) (run_up (length here) (n.marks q) ks)) named (runs_up (length here) (n.marks q) here (rising q below) (omega arith))))
        where
          here : List (ℕ × Item)
          here = slice_index_or held q []

          below : q < length held
          below = omega (arith, inside, sources)

          marked : q < length merge.marks
          marked = let many : length merge.marks ≡ sources_of plan p.stage = stands.edges in omega (arith, inside, many)

          named : map (λ e. e.0) (slice_index_or held q []) ≡ numbers q
          named = holds.under q below

          long : length (slice_index_or held q []) ≡ length (numbers q)
          long = sym (length-map (slice_index_or held q []) (λ e. e.0)) ∙ ap length named
