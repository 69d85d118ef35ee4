-- Legal lists of events over `++`, and what holds along them.
use Rattle.std.proofs.Common.{◌≡◌, List, [], ◌∷◌, ◌++◌, Result, Ok, Err, refl, sym, ap, ◌∙◌, subst}
use Rattle.std.proofs.lemmas.List.{append-nil}
use Rattle.pair_machine.specs.Flow.{Flow}
use Rattle.pair_machine.specs.Legal.{HoldsThroughout, IsLegalFrom}
use Rattle.pair_machine.specs.Links.{IsThere}
use Rattle.pair_machine.specs.Lists.{Each}
use Rattle.pair_machine.specs.Machine.{Leads, State, follow, opening, step}
use Rattle.pair_machine.specs.Messages.{Refusal}
use Rattle.tuple_edge.specs.declared.event.Event.{Event}
use Rattle.pair_machine.proofs.Lists.{each_append, each_left, each_right}

pub follow_err : (f : Flow) (es : List Event) (x : Refusal) → follow f es (Err x) ≡ Err x
follow_err f [] x = refl
follow_err f (e ∷ es) x = refl

pub follow_append : (f : Flow) (xs ys : List Event) (r : Result State Refusal) → follow f (xs ++ ys) r ≡ follow f ys (follow f xs r)
follow_append f [] ys r = refl
follow_append f (x ∷ xs) ys (Ok s) = follow_append f xs ys (step f s x)
follow_append f (x ∷ xs) ys (Err e) = sym (follow_err f ys e)

pub leads_join : (f : Flow) (s m t : State) (xs ys : List Event) → Leads f s xs m → Leads f m ys t → Leads f s (xs ++ ys) t
leads_join f s m t xs ys a b = follow_append f xs ys (Ok s) ∙ (ap (follow f ys) a ∙ b)

pub leads_split : (f : Flow) (s t : State) (xs ys : List Event) → Leads f s (xs ++ ys) t → (m : State) × Leads f s xs m × Leads f m ys t
leads_split f s t xs ys e = go (follow f xs (Ok s)) refl
  where
    go : (r : Result State Refusal) → follow f xs (Ok s) ≡ r → (m : State) × Leads f s xs m × Leads f m ys t
    go (Ok m) q = (m, q, ap (follow f ys) (sym q) ∙ (sym (follow_append f xs ys (Ok s)) ∙ e))
    go (Err x) q = let z : Err x ≡ Ok t = sym (follow_err f ys x) ∙ (ap (follow f ys) (sym q) ∙ (sym (follow_append f xs ys (Ok s)) ∙ e)) in absurd (let y : ⊥ = cc z in y)

pub leads_one : (f : Flow) (s t u : State) (es : List Event) → Leads f s es t → Leads f s es u → t ≡ u
leads_one f s t u es a b = let z : Ok t ≡ Ok u = sym a ∙ b in cc z

pub legal_join : (f : Flow) (s m t : State) (xs ys : List Event) → IsLegalFrom f s xs m → IsLegalFrom f m ys t → IsLegalFrom f s (xs ++ ys) t
legal_join f s m t xs ys a b = record { there = each_append (IsThere f) xs ys a.there b.there; leads = leads_join f s m t xs ys a.leads b.leads }

pub legal_split : (f : Flow) (s t : State) (xs ys : List Event) → IsLegalFrom f s (xs ++ ys) t → (m : State) × IsLegalFrom f s xs m × IsLegalFrom f m ys t
legal_split f s t xs ys h =
    let z = leads_split f s t xs ys h.leads in
    (z.0, record { there = each_left (IsThere f) xs ys h.there; leads = z.1 }, record { there = each_right (IsThere f) xs ys h.there; leads = z.2 })

-- a front of a legal list is legal
pub legal_front : (f : Flow) (s t m : State) (es front rest : List Event) → IsLegalFrom f s es t → front ++ rest ≡ es → Leads f s front m → IsLegalFrom f s front m
legal_front f s t m es front rest h e l = record { there = each_left (IsThere f) front rest (subst (Each (IsThere f)) (sym e) h.there); leads = l }

-- what holds along a list holds at its end
pub at_the_end : (f : Flow) (P : State → Type 0) (es : List Event) (t : State) → HoldsThroughout f P es → Leads f opening es t → P t
at_the_end f P es t h l = h es [] t (append-nil es) l
