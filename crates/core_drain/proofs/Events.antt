-- What holds along the drain's events.
use Rattle.std.proofs.Common.{◌≡◌, ◌+◌, ℕ, zero, suc, List, [], ◌∷◌, ◌++◌, Result, Ok, Err, replicate, refl, sym, ap, ◌∙◌, subst, arith}
use Rattle.tuple_edge.specs.declared.event.Event.{Event}
use Rattle.pair_machine.specs.Drain.{AreDrainEvents, IsDrainable}
use Rattle.pair_machine.specs.Flow.{Flow, IsFlow}
use Rattle.pair_machine.specs.Legal.{IsLegalFrom}
use Rattle.pair_machine.specs.Machine.{State, follow, step}
use Rattle.pair_machine.specs.Messages.{Refusal}
use Rattle.pair_machine.proofs.Drain.{Went, went_none, went_on}
use Rattle.pair_machine.proofs.DrainSteps.{drain_step}
use Rattle.pair_machine.proofs.Legal.{follow_err}

pub record IsAlong (f : Flow) (s : State) (es : List Event) (t : State) : Type 0 where
  pub went : Went f s es t
  pub drainable : IsDrainable f t

pub along : (f : Flow) → IsFlow f → (es : List Event) (s t : State) → IsDrainable f s → IsLegalFrom f s es t → AreDrainEvents f es (Ok s) → IsAlong f s es t
along f flow [] s t g legal ready = let same : s ≡ t = cc legal.leads in subst (IsAlong f s []) same (record { went = went_none f s; drainable = g })
along f flow (e ∷ es) s t g legal ready = go (step f s e) refl legal.leads ready.1 (λ m. along f flow es m t)
  where
    go : (r : Result State Refusal) → step f s e ≡ r → follow f es r ≡ Ok t → AreDrainEvents f es r → ((m : State) → IsDrainable f m → IsLegalFrom f m es t → AreDrainEvents f es (Ok m) → IsAlong f m es t) → IsAlong f s (e ∷ es) t
    go (Ok m) q l r later =
        let x = drain_step f flow s m e legal.there.0 ready.0 g q in
        let one : Went f s (e ∷ []) m = record { legal = record { there = (legal.there.0, tt); leads = q }; ready = (ready.0, tt); ahead = x.ahead; quiet = x.quiet } in
        let y = later m x.drainable (record { there = legal.there.1; leads = l }) r in
        record { went = went_on f s m t (e ∷ []) es one y.went; drainable = y.drainable }
    go (Err x) q l r later = let z : Err x ≡ Ok t = sym (follow_err f es x) ∙ l in let w : ⊥ = cc z in absurd w

pub drains_split : (f : Flow) (xs ys : List Event) (r : Result State Refusal) (t : State) → follow f xs r ≡ Ok t → AreDrainEvents f (xs ++ ys) r → AreDrainEvents f ys (Ok t)
drains_split f [] ys r t l h = subst (AreDrainEvents f ys) l h
drains_split f (x ∷ xs) ys (Ok s) t l h = drains_split f xs ys (step f s x) t l h.1
drains_split f (x ∷ xs) ys (Err e) t l h = let w : ⊥ = cc l in absurd w

-- the first events
pub drains_front : (f : Flow) (xs ys : List Event) (r : Result State Refusal) → AreDrainEvents f (xs ++ ys) r → AreDrainEvents f xs r
drains_front f [] ys r h = tt
drains_front f (x ∷ xs) ys (Ok s) h = (h.0, drains_front f xs ys (step f s x) h.1)
drains_front f (x ∷ xs) ys (Err e) h = tt

-- and one list after another
pub drains_on : (f : Flow) (xs ys : List Event) (r : Result State Refusal) (t : State) → follow f xs r ≡ Ok t → AreDrainEvents f xs r → AreDrainEvents f ys (Ok t) → AreDrainEvents f (xs ++ ys) r
drains_on f [] ys r t leads a b = subst (AreDrainEvents f ys) (sym leads) b
drains_on f (x ∷ xs) ys (Ok s) t leads a b = (a.0, drains_on f xs ys (step f s x) t leads a.1 b)
drains_on f (x ∷ xs) ys (Err e) t leads a b = tt

-- ---- the same event again and again

pub replicate_join : {X : Type 0} (x : X) (m k n : ℕ) → n ≡ m + k → replicate n x ≡ replicate m x ++ replicate k x
replicate_join x zero k n h = let e : n ≡ k = omega arith in ap (λ j. replicate j x) e
replicate_join x (suc m) k zero h = absurd (omega arith)
replicate_join x (suc m) k (suc n) h = let e : n ≡ m + k = omega arith in ap (λ xs. x ∷ xs) (replicate_join x m k n e)
