-- What is told of pairs comes pair by pair, and stage by stage.
use Rattle.std.proofs.Common.{◌≡◌, ◌∙◌, ◌+◌, ℕ, suc, List, [], ◌∷◌, ◌++◌, append-nil, ap, arith}
use Rattle.std.proofs.lemmas.List.Concat.{flat_map-append}
use Rattle.std.specs.List.{flat_map}
use Rattle.pair_machine.specs.Drain.{pairs_up_to, partition, parts_below}
use Rattle.pair_machine.specs.Flow.{Flow}
use Rattle.pair_machine.specs.Numbers.{Partition}

each_one_more : {X A : Type 0} (f : X → List A) (xs : List X) (x : X) → flat_map f (xs ++ x ∷ []) ≡ flat_map f xs ++ f x
each_one_more f xs x = flat_map-append f xs (x ∷ []) ∙ ap (λ r. flat_map f xs ++ r) (append-nil (f x))

pub parts_next : {A : Type 0} (f : Partition → List A) (stage n : ℕ) → flat_map f (parts_below stage (n + 1)) ≡ flat_map f (parts_below stage n) ++ f (partition stage n)
parts_next f stage n = ap (λ k. flat_map f (parts_below stage k)) {x = n + 1} {y = suc n} (omega arith) ∙ each_one_more f (parts_below stage n) (partition stage n)

pub pairs_next : {A : Type 0} (f : Partition → List A) (flow : Flow) (n : ℕ) → flat_map f (pairs_up_to flow (n + 1)) ≡ flat_map f (pairs_up_to flow n) ++ flat_map f (parts_below (n + 1) (flow.sources (n + 1 + 1)))
pairs_next f flow n =
    ap (λ k. flat_map f (pairs_up_to flow k)) {x = n + 1} {y = suc n} (omega arith)
    ∙ flat_map-append f (pairs_up_to flow n) (parts_below (suc n) (flow.sources (suc n + 1)))
    ∙ ap (λ k. flat_map f (pairs_up_to flow n) ++ flat_map f (parts_below k (flow.sources (k + 1)))) {x = suc n} {y = n + 1} (omega arith)
