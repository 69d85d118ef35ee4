-- Lists of events over `++`, and what they leave as it was.
use Rattle.std.proofs.Common.{◌≡◌, ◌≢◌, Bool, true, false, List, [], ◌∷◌, ◌++◌, Result, Ok, Err, refl, sym, ap, ◌∙◌}
use Rattle.std.specs.Prelude.{if◌then◌else◌}
use Rattle.pair_machine.specs.Flow.{Flow}
use Rattle.pair_machine.specs.Lists.{Each}
use Rattle.pair_machine.proofs.Lists.{each_append, each_left, each_right}
use Rattle.trio_machine.specs.Legal.{IsLegalFrom, ListsGoOn}
use Rattle.trio_machine.specs.Links.{IsThere}
use Rattle.trio_machine.specs.Machine.{Leads, State, act_of, acted, after, at_node, changed, does, follow, put, step}
use Rattle.trio_machine.specs.Messages.{Act, Envelope, Refusal}
use Rattle.trio_machine.specs.Numbers.{Node, is_node}
use Rattle.trio_machine.specs.declared.event.TrioEvent.{TrioEvent}
use Rattle.trio_machine.specs.declared.node.TrioNode.{TrioNode}
use Rattle.trio_machine.proofs.Names.{is_node-true}

pub follow_err : (f : Flow) (es : List TrioEvent) (x : Refusal) → follow f es (Err x) ≡ Err x
follow_err f [] x = refl
follow_err f (e ∷ es) x = refl

follow_append : (f : Flow) (xs ys : List TrioEvent) (r : Result State Refusal) → follow f (xs ++ ys) r ≡ follow f ys (follow f xs r)
follow_append f [] ys r = refl
follow_append f (x ∷ xs) ys (Ok s) = follow_append f xs ys (step f s x)
follow_append f (x ∷ xs) ys (Err e) = sym (follow_err f ys e)

pub legal_join : (f : Flow) (s m t : State) (xs ys : List TrioEvent) → IsLegalFrom f s xs m → IsLegalFrom f m ys t → IsLegalFrom f s (xs ++ ys) t
legal_join f s m t xs ys a b = record { there = each_append (IsThere f) xs ys a.there b.there; leads = follow_append f xs ys (Ok s) ∙ (ap (follow f ys) a.leads ∙ b.leads) }

pub legal_split : (f : Flow) (s t : State) (xs ys : List TrioEvent) → IsLegalFrom f s (xs ++ ys) t → (m : State) × IsLegalFrom f s xs m × IsLegalFrom f m ys t
legal_split f s t xs ys h = go (follow f xs (Ok s)) refl
  where
    through : follow f ys (follow f xs (Ok s)) ≡ Ok t
    through = sym (follow_append f xs ys (Ok s)) ∙ h.leads

    go : (r : Result State Refusal) → follow f xs (Ok s) ≡ r → (m : State) × IsLegalFrom f s xs m × IsLegalFrom f m ys t
    go (Ok m) q = (m, record { there = each_left (IsThere f) xs ys h.there; leads = q }, record { there = each_right (IsThere f) xs ys h.there; leads = ap (follow f ys) (sym q) ∙ through })
    go (Err x) q = let z : Err x ≡ Ok t = sym (follow_err f ys x) ∙ (ap (follow f ys) (sym q) ∙ through) in absurd (let y : ⊥ = cc z in y)

pub one_end : (f : Flow) (s t u : State) (es : List TrioEvent) → IsLegalFrom f s es t → IsLegalFrom f s es u → t ≡ u
one_end f s t u es a b = let z : Ok t ≡ Ok u = sym a.leads ∙ b.leads in cc z

pub go_on : ListsGoOn
go_on f = record { joined = legal_join f; split = legal_split f; one_end = one_end f }

-- ---- nodes at which no event is

changed_elsewhere : (n m : TrioNode) (x : Node) (nodes : TrioNode → Node) → m ≢ n → changed n x nodes m ≡ nodes m
changed_elsewhere n m x nodes apart = go (is_node m n) (is_node-true m n)
  where
    go : (b : Bool) → (b ≡ true → m ≡ n) → (if b then x else nodes m) ≡ nodes m
    go true same = absurd (apart (same refl))
    go false same = refl

pub at_one_node : (f : Flow) (s t : State) (e : TrioEvent) → step f s e ≡ Ok t → (n : TrioNode) → n ≢ at_node e → t.nodes n ≡ s.nodes n
unfolding step
at_one_node f s t e done n apart = by_act (act_of f s e) done
  where
    by_done : (r : Result (Node × List Envelope) Refusal) → after (at_node e) s r ≡ Ok t → t.nodes n ≡ s.nodes n
    by_done (Ok d) q = let same : put (at_node e) s d.0 d.1 ≡ t = cc q in ap (λ (u : State). u.nodes n) (sym same) ∙ changed_elsewhere (at_node e) n d.0 s.nodes apart
    by_done (Err x) q = let z : ⊥ = cc q in absurd z

    by_act : (r : Result Act Refusal) → acted f (at_node e) s r ≡ Ok t → t.nodes n ≡ s.nodes n
    by_act (Ok a) q = by_done (does f (at_node e) a (s.nodes (at_node e))) q
    by_act (Err x) q = let z : ⊥ = cc q in absurd z

pub leads_elsewhere : (f : Flow) (es : List TrioEvent) (s t : State) → Leads f s es t → (n : TrioNode) → Each (λ e. n ≢ at_node e) es → t.nodes n ≡ s.nodes n
leads_elsewhere f [] s t l n h = let same : s ≡ t = cc l in ap (λ (u : State). u.nodes n) (sym same)
leads_elsewhere f (e ∷ es) s t l n h = go (step f s e) refl l (λ m k. leads_elsewhere f es m t k n h.1)
  where
    go : (r : Result State Refusal) → step f s e ≡ r → follow f es r ≡ Ok t → ((m : State) → Leads f m es t → t.nodes n ≡ m.nodes n) → t.nodes n ≡ s.nodes n
    go (Ok m) q l later = later m l ∙ at_one_node f s m e q n h.0
    go (Err x) q l later = let z : Err x ≡ Ok t = sym (follow_err f es x) ∙ l in let w : ⊥ = cc z in absurd w
