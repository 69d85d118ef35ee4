-- What is shown of each source of ingress: a change of one producer, what work sends, and what a pull takes.
use Rattle.std.proofs.Common.{◌≡◌, ◌<◌, ◌≤◌, ℕ, zero, suc, Bool, true, false, List, ◌-◌, ◌⊎◌, inl, inr, Option, None, Some, Result, Ok, Err, refl, sym, ◌∙◌, subst, arith}
use Rattle.std.specs.Prelude.{◌==◌, if◌then◌else◌, is_some, unwrap_or}
use Rattle.std.specs.Option.{option_or}
use Rattle.std.proofs.lemmas.Bool.{cases_lt, eqb-true, true≢false}
use Rattle.tuple_edge.specs.Node.{part_of}
use Rattle.tuple_edge.specs.declared.node.NodeId.{NodeId}
use Rattle.pair_machine.specs.Boundary.{ingress_sends, ingress_source, ingress_works, source_due, source_made, source_sends, with_producer}
use Rattle.pair_machine.specs.Consumers.{first_below}
use Rattle.pair_machine.specs.Flow.{Flow}
use Rattle.pair_machine.specs.Machine.{is_behind, mark_of, pulled_source}
use Rattle.pair_machine.specs.Messages.{Envelope, NothingDue, Refusal}
use Rattle.pair_machine.specs.Numbers.{Ingress, Node, Producer}
use Rattle.pair_machine.specs.Producers.{Due, sends_due, sent_on}
use Rattle.pair_machine.proofs.Found.{FoundIn, IsDue, first_found, is_due}
use Rattle.pair_machine.proofs.Tests.{if_elim}

-- what holds of every source's producer, and of another one for source q, holds with that one
pub each_producer : (P : ℕ → Producer → Type 0) (x : Ingress) (q : ℕ) (y : Producer) → P q y → ((j : ℕ) → P j (x.producers j)) → (j : ℕ) → P j ((with_producer x q y).producers j)
each_producer P x q y new old j = if_elim (P j) (j == q) y (x.producers j) (λ e. subst (λ i. P i y) (sym (eqb-true j q e)) new) (λ e. old j)

-- what holds where nothing is due, and where any source sends what is due of it, holds of what work does
pub works_by : (f : Flow) (x : Ingress) (P : Result (Ingress × List Envelope) Refusal → Type 0) → P (Err NothingDue)
    → ((q : ℕ) (d : Due) → q < f.sources 1 → IsDue (source_made f x q) (x.producers q) (f.targets 0) (Some d)
    → P (Ok (with_producer x q (sent_on (x.producers q) d), sends_due f (ingress_source q) d)))
    → P (ingress_works f x)
works_by f x P none some = by (first_below (λ q. is_some (source_due f x q)) (f.sources 1)) (first_found (f.sources 1) (λ q. is_some (source_due f x q)))
  where
    of_source : (q : ℕ) → q < f.sources 1 → (d : Option Due) → IsDue (source_made f x q) (x.producers q) (f.targets 0) d → P (source_sends f x q d)
    of_source q l None h = none
    of_source q l (Some d) h = some q d l h

    by : (o : Option ℕ) → FoundIn (λ q. is_some (source_due f x q)) (f.sources 1) o → P (ingress_sends f x o)
    by None h = none
    by (Some q) h = of_source q h.1 (source_due f x q) (is_due f (ingress_source q) (source_made f x q) (x.producers q))

-- ---- the source of which a pull takes

none_found : (n : ℕ) (test : ℕ → Bool) → first_below test n ≡ None → (q : ℕ) → q < n → test q ≡ false
none_found zero test e q l = absurd (omega arith)
none_found (suc n) test e q l = go (first_below test n) refl (test n) refl e (λ found. none_found n test found q)
  where
    go : (o : Option ℕ) → first_below test n ≡ o → (b : Bool) → test n ≡ b → option_or o (if b then Some n else None) ≡ None
        → (first_below test n ≡ None → q < n → test q ≡ false) → test q ≡ false
    go (Some j) found b at none before = let z : ⊥ = cc none in absurd z
    go None found true at none before = let z : ⊥ = cc none in absurd z
    go None found false at none before = by (cases_lt q n)
      where
        by : (q < n) ⊎ (n ≤ q) → test q ≡ false
        by (inl less) = before found less
        by (inr after) = subst (λ k. test k ≡ false) (omega arith) at

-- of the searched sources, or the last one, one passes the test where any does
pub passes : (sources : ℕ) (test : ℕ → Bool) (q : ℕ) → q < sources → test q ≡ true → test (unwrap_or (first_below test (sources - 1)) (sources - 1)) ≡ true
passes sources test q l e = go (first_below test (sources - 1)) refl (first_found (sources - 1) test)
  where
    go : (o : Option ℕ) → first_below test (sources - 1) ≡ o → FoundIn test (sources - 1) o → test (unwrap_or o (sources - 1)) ≡ true
    go (Some j) found h = h.0
    go None found h = by (cases_lt q (sources - 1))
      where
        by : (q < sources - 1) ⊎ (sources - 1 ≤ q) → test (sources - 1) ≡ true
        by (inl before) = absurd (true≢false (sym e ∙ none_found (sources - 1) test found q before))
        by (inr after) = subst (λ k. test k ≡ true) (omega arith) e

-- So a pull from ingress takes of a source that has made an item above the node's mark, as long as any has.
pub pull_takes : (f : Flow) (x : Ingress) (to : NodeId) (n : Node) (q : ℕ) → q < f.sources 1 → is_behind (mark_of q to n) (source_made f x q (part_of to)) ≡ true
    → is_behind (mark_of (pulled_source f x to n) to n) (source_made f x (pulled_source f x to n) (part_of to)) ≡ true
pull_takes f x to n q l e = passes (f.sources 1) (λ j. is_behind (mark_of j to n) (source_made f x j (part_of to))) q l e
