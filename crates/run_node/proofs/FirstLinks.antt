-- Whether a node has a link to another one.
use Rattle.std.proofs.Common.{◌≡◌, ◌<◌, ◌+◌, ◌⊎◌, inl, inr, ◌||◌, ℕ, zero, suc, Bool, true, false, List, [], ◌∷◌, Some, length, get_or, take, refl, sym, ap, subst, arith}
use Rattle.std.specs.Prelude.{if◌then◌else◌, IsSome, is_some, slice_get}
use Rattle.tuple_edge.specs.declared.node.NodeId.{NodeId}
use Rattle.pair_machine.specs.Lists.{Each}
use Rattle.pair_machine.specs.Numbers.{is_node}
use Rattle.pair_machine.proofs.Names.{is_node-true}
use Rattle.run_node.specs.Ends.{OutEndView, OutLink, leads_to, links_of}
use Rattle.run_node.specs.FirstLinks.{AreFirst, IsFirstTo, identity_to, receivers}
use Rattle.run_node.specs.NodeView.{out_names}
use Rattle.run_node.proofs.Places.{get_there}
use Rattle.run_node.proofs.SentPackets.{first_to}

pub leads_named : (ls : List OutLink) (n : NodeId) → IsSome (identity_to (out_names ls) n) → leads_to ls n ≡ true
leads_named [] n h = cc
leads_named (l ∷ ls) n h = go (is_node l.to n) h (λ k. leads_named ls n k)
  where
    go : (b : Bool) → IsSome (if b then Some l.identity else identity_to (out_names ls) n) → (IsSome (identity_to (out_names ls) n) → leads_to ls n ≡ true) → (b || leads_to ls n) ≡ true
    go true k more = refl
    go false k more = more k

there : {X : Type 0} (xs : List X) (i : ℕ) → i < length xs → (x : X) × (slice_get xs i ≡ Some x)
there [] i lt = absurd (omega arith)
there (x ∷ xs) zero lt = (x, refl)
there (x ∷ xs) (suc i) lt = there xs i (omega arith)

-- where the first link to a node stands somewhere, there is one
pub first_some : (outs : List OutEndView) (to : NodeId) (place : ℕ) → IsFirstTo outs to place → is_some (identity_to (out_names (links_of outs)) to) ≡ true
first_some outs to place first = let e = there outs place first.within in ap is_some (first.identity e.0 e.1)

-- ---- the first links

receiver_at : (es : List OutEndView) (i : ℕ) (e : OutEndView) → slice_get es i ≡ Some e → slice_get (receivers (links_of es)) i ≡ Some e.link.to
receiver_at [] i e at = cc
receiver_at (x ∷ es) zero e at = let same : x ≡ e = cc at in ap (λ (k : OutEndView). Some k.link.to) same
receiver_at (x ∷ es) (suc i) e at = receiver_at es i e at

-- no end before a place leads to a node exactly where no receiver before it is that node
from_receivers : (to : NodeId) (es : List OutEndView) (i : ℕ) → Each (λ k. is_node k to ≡ false) (take i (receivers (links_of es))) → Each (λ e. is_node e.link.to to ≡ false) (take i es)
from_receivers to [] zero h = tt
from_receivers to [] (suc i) h = tt
from_receivers to (x ∷ es) zero h = tt
from_receivers to (x ∷ es) (suc i) h = (h.0, from_receivers to es i h.1)

to_receivers : (to : NodeId) (es : List OutEndView) (i : ℕ) → Each (λ e. is_node e.link.to to ≡ false) (take i es) → Each (λ k. is_node k to ≡ false) (take i (receivers (links_of es)))
to_receivers to [] zero h = tt
to_receivers to [] (suc i) h = tt
to_receivers to (x ∷ es) zero h = tt
to_receivers to (x ∷ es) (suc i) h = (h.0, to_receivers to es i h.1)

-- one of the first links that leads to a node is the first one there
pub first_among : (to : NodeId) (es : List OutEndView) (n i : ℕ) (d : OutEndView) → AreFirst n (receivers (links_of es)) → i < n → i < length es → is_node (get_or es i d).link.to to ≡ true → IsFirstTo es to i
first_among to es n i d firsts below within leads =
    let same = is_node-true (get_or es i d).link.to to leads in
    let before = firsts i to below (subst (λ k. slice_get (receivers (links_of es)) i ≡ Some k) same (receiver_at es i (get_or es i d) (get_there es i d within))) in
    first_to to es i d within (from_receivers to es i before) leads

below_or : (j n : ℕ) → j < n + 1 → (j < n) ⊎ (n ≡ j)
below_or zero zero l = inr refl
below_or zero (suc n) l = inl (omega arith)
below_or (suc j) zero l = absurd (omega arith)
below_or (suc j) (suc n) l = elim (below_or j n (omega arith)) [ inl k ↦ inl (omega arith) | inr e ↦ inr (ap suc e) ]

-- one more link is the first one to its receiver
pub first_too : (es : List OutEndView) (n : ℕ) (d : OutEndView) → AreFirst n (receivers (links_of es)) → IsFirstTo es (get_or es n d).link.to n → AreFirst (n + 1) (receivers (links_of es))
first_too es n d firsts first p k below at = elim (below_or p n below) [
  | inl l ↦ firsts p k l at
  | inr e ↦
      let here : slice_get (receivers (links_of es)) n ≡ Some k = subst (λ j. slice_get (receivers (links_of es)) j ≡ Some k) (sym e) at in
      let there = receiver_at es n (get_or es n d) (get_there es n d first.within) in
      let same : (get_or es n d).link.to ≡ k = cc in
      subst (λ j. Each (λ b. is_node b k ≡ false) (take j (receivers (links_of es)))) e
      (subst (λ m. Each (λ b. is_node b m ≡ false) (take n (receivers (links_of es)))) same (to_receivers (get_or es n d).link.to es n first.before))
]
