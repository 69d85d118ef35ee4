-- Which lists are fronts of the drain's events.
use Rattle.std.proofs.Common.{◌≡◌, ◌<◌, ◌≤◌, ◌⊎◌, inl, inr, ℕ, zero, suc, List, [], ◌∷◌, ◌++◌, refl, sym, ap, ◌∙◌, subst, arith, append_assoc}
use Rattle.std.specs.Prelude.{◌+◌}
use Rattle.std.proofs.lemmas.Bool.{cases_lt}
use Rattle.std.proofs.lemmas.List.{append-nil}
use Rattle.pair_machine.specs.Drain.{pairs_up_to, partition, parts_below}
use Rattle.pair_machine.specs.Flow.{Flow}
use Rattle.pair_machine.specs.Numbers.{Consumer, Partition}
use Rattle.trio_machine.specs.Drain.{drain_group, drain_groups, pulls_below}
use Rattle.trio_machine.specs.Machine.{State}
use Rattle.trio_machine.specs.declared.node.TrioNode.{TrioNode}

pub record IsFront {X : Type 0} (xs ys : List X) : Type 0 where
  pub rest : List X
  pub whole : xs ++ rest ≡ ys

pub front_self : {X : Type 0} (xs : List X) → IsFront xs xs
front_self xs = record { rest = []; whole = append-nil xs }

pub front_more : {X : Type 0} (xs ys : List X) → IsFront xs (xs ++ ys)
front_more xs ys = record { rest = ys; whole = refl }

pub front_on : {X : Type 0} (xs ys zs : List X) → IsFront xs ys → IsFront ys zs → IsFront xs zs
front_on xs ys zs a b = record { rest = a.rest ++ b.rest; whole = sym (append_assoc xs a.rest b.rest) ∙ (ap (λ ws. ws ++ b.rest) a.whole ∙ b.whole) }

pub front_after : {X : Type 0} (ws xs ys : List X) → IsFront xs ys → IsFront (ws ++ xs) (ws ++ ys)
front_after ws xs ys a = record { rest = a.rest; whole = append_assoc ws xs a.rest ∙ ap (λ zs. ws ++ zs) a.whole }

-- ---- groups

pub parts_front : (stage n m : ℕ) → n ≤ m → IsFront (parts_below stage n) (parts_below stage m)
parts_front stage n zero l = let e : n ≡ 0 = omega arith in subst (λ k. IsFront (parts_below stage k) []) (sym e) (front_self [])
parts_front stage n (suc m) l = go (cases_lt n (suc m)) (λ h. parts_front stage n m h)
  where
    go : (n < suc m) ⊎ (suc m ≤ n) → (n ≤ m → IsFront (parts_below stage n) (parts_below stage m)) → IsFront (parts_below stage n) (parts_below stage (suc m))
    go (inl h) before = front_on (parts_below stage n) (parts_below stage m) (parts_below stage (suc m)) (before (omega arith)) (front_more (parts_below stage m) (partition stage m ∷ []))
    go (inr h) before = let e : suc m ≡ n = omega arith in subst (λ k. IsFront (parts_below stage k) (parts_below stage (suc m))) e (front_self (parts_below stage (suc m)))

pub stages_front : (f : Flow) (k n : ℕ) → k ≤ n → IsFront (pairs_up_to f k) (pairs_up_to f n)
stages_front f k zero l = let e : k ≡ 0 = omega arith in subst (λ j. IsFront (pairs_up_to f j) []) (sym e) (front_self [])
stages_front f k (suc n) l = go (cases_lt k (suc n)) (λ h. stages_front f k n h)
  where
    go : (k < suc n) ⊎ (suc n ≤ k) → (k ≤ n → IsFront (pairs_up_to f k) (pairs_up_to f n)) → IsFront (pairs_up_to f k) (pairs_up_to f (suc n))
    go (inl h) before = front_on (pairs_up_to f k) (pairs_up_to f n) (pairs_up_to f (suc n)) (before (omega arith)) (front_more (pairs_up_to f n) (parts_below (suc n) (f.sources (suc n + 1))))
    go (inr h) before = let e : suc n ≡ k = omega arith in subst (λ j. IsFront (pairs_up_to f j) (pairs_up_to f (suc n))) e (front_self (pairs_up_to f (suc n)))

pub groups_append : (f : Flow) (s : State) (ps qs : List Partition) → drain_groups f s (ps ++ qs) ≡ drain_groups f s ps ++ drain_groups f s qs
groups_append f s [] qs = refl
groups_append f s (p ∷ ps) qs = ap (λ es. drain_group f s p ++ es) (groups_append f s ps qs) ∙ sym (append_assoc (drain_group f s p) (drain_groups f s ps) (drain_groups f s qs))

pub events_front : (f : Flow) (s : State) (ps qs : List Partition) → IsFront ps qs → IsFront (drain_groups f s ps) (drain_groups f s qs)
events_front f s ps qs a = record { rest = drain_groups f s a.rest; whole = sym (groups_append f s ps a.rest) ∙ ap (drain_groups f s) a.whole }

-- the groups before one, and it
pub groups_next : (f : Flow) (s : State) (ps : List Partition) (p : Partition) → drain_groups f s (ps ++ p ∷ []) ≡ drain_groups f s ps ++ drain_group f s p
groups_next f s ps p = groups_append f s ps (p ∷ []) ∙ ap (λ es. drain_groups f s ps ++ es) (append-nil (drain_group f s p))

-- ---- pulls

pub pulls_front : (f : Flow) (s : State) (p : Partition) (to : TrioNode) (c : Consumer) (n m : ℕ) → n ≤ m → IsFront (pulls_below f s p to c n) (pulls_below f s p to c m)
pulls_front f s p to c n zero l = let e : n ≡ 0 = omega arith in subst (λ k. IsFront (pulls_below f s p to c k) []) (sym e) (front_self [])
pulls_front f s p to c n (suc m) l = go (cases_lt n (suc m)) (λ h. pulls_front f s p to c n m h)
  where
    go : (n < suc m) ⊎ (suc m ≤ n) → (n ≤ m → IsFront (pulls_below f s p to c n) (pulls_below f s p to c m)) → IsFront (pulls_below f s p to c n) (pulls_below f s p to c (suc m))
    go (inl h) before = front_on (pulls_below f s p to c n) (pulls_below f s p to c m) (pulls_below f s p to c (suc m)) (before (omega arith)) (front_more (pulls_below f s p to c m) _)
    go (inr h) before = let e : suc m ≡ n = omega arith in subst (λ k. IsFront (pulls_below f s p to c k) (pulls_below f s p to c (suc m))) e (front_self (pulls_below f s p to c (suc m)))
