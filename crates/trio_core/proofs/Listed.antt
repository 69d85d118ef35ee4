-- Places listed by receiver: where nothing was sent, where more is, where one more packet is listed, and a packet found again.
use Rattle.std.proofs.Common.{◌≡◌, ◌∙◌, ◌⊎◌, inl, inr, ◌<◌, ◌≤◌, ◌+◌, ◌-◌, ℕ, zero, suc, Bool, true, false, List, [], ◌∷◌, ◌++◌, Option, None, Some, IsSome, length, slice_get, slice_index_or, refl, sym, ap, subst, unwrap_or, append-nil, arith, if◌then◌else◌, length-append}
use Rattle.std.proofs.lemmas.List.{take-append-le}
use Rattle.std.proofs.lemmas.Option.{slice_get_within}
use Rattle.pair_machine.specs.Machine.{nth_from_one}
use Rattle.trio_machine.specs.Numbers.{is_node}
use Rattle.trio_machine.specs.declared.body.TrioBody.{TrioBody}
use Rattle.trio_machine.specs.declared.node.TrioNode.{TrioNode}
use Rattle.trio_core.specs.CoreView.{Log}
use Rattle.trio_core.specs.Sent.{AreListed, AreOf, Counted, IsNthTo, LinkView, bodies_to, body_at, listed_for, of_packet}
use Rattle.trio_core.proofs.OnLinks.{counted_none, counted_some, found_here}

-- ---- nothing was sent

pub nothing_listed : (packets : Log) (links : List LinkView) → packets ≡ [] → links ≡ [] → AreListed packets (listed_for links) 0
nothing_listed packets links none no_link = subst (λ ps. AreListed ps (listed_for links) 0) (sym none) (subst (λ ls. AreListed [] (listed_for ls) 0) (sym no_link) (record {
  within = omega arith;
  each = λ to. record {
    each = λ nth place e. let z : ⊥ = cc e in absurd z;
    all = record { few = omega arith; count = refl };
  };
}))

-- ---- more is sent

get_append : {X : Type 0} (xs ys : List X) (k : ℕ) → k < length xs → slice_get (xs ++ ys) k ≡ slice_get xs k
get_append [] ys k l = absurd (omega (arith, l))
get_append (x ∷ xs) ys zero l = refl
get_append (x ∷ xs) ys (suc k) l = get_append xs ys k (omega arith)

there_within : (to : TrioNode) (packets : Log) (place : ℕ) → IsSome (body_at to packets place) → place < length packets
there_within to packets place h = go (slice_get packets place) refl h
  where
    go : (o : Option (TrioNode × TrioBody)) → slice_get packets place ≡ o → IsSome (of_packet to o) → place < length packets
    go None e h = let z : ⊥ = cc h in absurd z
    go (Some p) e h = slice_get_within packets place p e

counted_more : (to : TrioNode) (packets more : Log) (nth sent : ℕ) → nth ≤ length packets → Counted to packets nth sent → Counted to (packets ++ more) nth sent
counted_more to packets more nth sent l h = record { few = h.few; count = h.count ∙ ap (λ ps. length (bodies_to to ps)) (sym (take-append-le nth packets more l)) }

pub listed_more : (packets more : Log) (lists : TrioNode → List ℕ) (n : ℕ) → AreListed packets lists n → AreListed (packets ++ more) lists n
listed_more packets more lists n h = record {
  within = let w = h.within in omega (arith, length-append packets more);
  each = λ to. record {
    each = λ nth place e.
        let z = (h.each to).each nth place e in
        let l = there_within to packets place z.there in
        record { before = counted_more to packets more place nth (omega (arith, l)) z.before; there = subst (λ o. IsSome (of_packet to o)) (sym (get_append packets more place l)) z.there };
    all = counted_more to packets more n (length (lists to)) h.within (h.each to).all;
  };
}

-- ---- one more packet is listed

-- what stands in a list with one element more
get_pushed : {X : Type 0} (xs : List X) (y : X) (k : ℕ) (x : X) → slice_get (xs ++ y ∷ []) k ≡ Some x → (slice_get xs k ≡ Some x) ⊎ ((k ≡ length xs) × (x ≡ y))
get_pushed [] y zero x e = inr (refl, ap (λ o. unwrap_or o x) (sym e))
get_pushed [] y (suc k) x e = let z : ⊥ = cc e in absurd z
get_pushed (z ∷ xs) y zero x e = inl e
get_pushed (z ∷ xs) y (suc k) x e = go (get_pushed xs y k x e)
  where
    go : (slice_get xs k ≡ Some x) ⊎ ((k ≡ length xs) × (x ≡ y)) → (slice_get (z ∷ xs) (suc k) ≡ Some x) ⊎ ((suc k ≡ length (z ∷ xs)) × (x ≡ y))
    go (inl h) = inl h
    go (inr h) = inr (ap suc h.0, h.1)

pub listed_next : (packets : Log) (lists later : TrioNode → List ℕ) (n : ℕ) (p : TrioNode × TrioBody) → AreListed packets lists n → slice_get packets n ≡ Some p → n < length packets
    → ((q : TrioNode) → later q ≡ lists q ++ (if is_node p.0 q then n ∷ [] else [])) → AreListed packets later (n + 1)
listed_next packets lists later n p h at below more = record {
  within = omega (arith, below);
  each = λ q. subst (λ l. AreOf q packets l (n + 1)) (sym (more q)) (go q (is_node p.0 q) refl);
}
  where
    go : (q : TrioNode) (b : Bool) → is_node p.0 q ≡ b → AreOf q packets (lists q ++ (if b then n ∷ [] else [])) (n + 1)
    go q true e =
        let body : body_at q packets n ≡ Some p.1 = ap (of_packet q) at ∙ ap (λ (b : Bool). if b then Some p.1 else None) e in
        let there : IsSome (body_at q packets n) = subst IsSome (sym body) refl in
        let count : length (lists q) + 1 ≡ length (lists q ++ n ∷ []) = omega (arith, length-append (lists q) (n ∷ [])) in
        record {
          each = λ nth place f. by q there nth place (get_pushed (lists q) n nth place f);
          all = subst (Counted q packets (n + 1)) count (counted_some q packets n (length (lists q)) p.1 below (h.each q).all body);
        }
      where
        by : (q : TrioNode) → IsSome (body_at q packets n) → (nth place : ℕ) → (slice_get (lists q) nth ≡ Some place) ⊎ ((nth ≡ length (lists q)) × (place ≡ n)) → IsNthTo q packets place nth
        by q there nth place (inl f) = (h.each q).each nth place f
        by q there nth place (inr f) = subst (λ k. IsNthTo q packets k nth) (sym f.1) (subst (λ k. IsNthTo q packets n k) (sym f.0) (record { before = (h.each q).all; there = there }))
    go q false e =
        let body : body_at q packets n ≡ None = ap (of_packet q) at ∙ ap (λ (b : Bool). if b then Some p.1 else None) e in
        subst (λ l. AreOf q packets l (n + 1)) (sym (append-nil (lists q))) (record {
          each = (h.each q).each;
          all = counted_none q packets n (length (lists q)) below (h.each q).all body;
        })

-- ---- a packet is found again

get_within : {X : Type 0} (xs : List X) (k : ℕ) (d : X) → k < length xs → slice_get xs k ≡ Some (slice_index_or xs k d)
get_within [] k d l = absurd (omega (arith, l))
get_within (x ∷ xs) zero d l = refl
get_within (x ∷ xs) (suc k) d l = get_within xs k d (omega arith)

module _ (to : TrioNode) (log : Log) (lists : TrioNode → List ℕ) (listed : ℕ) (h : AreListed log lists listed) (places : List ℕ) (same : places ≡ lists to) (index : ℕ) (one : 1 ≤ index) (few : index ≤ length places) where
  nth_listed : IsNthTo to log (slice_index_or places (index - 1) 0) (index - 1)
  nth_listed =
      let z : AreOf to log places listed = subst (λ l. AreOf to log l listed) (sym same) (h.each to) in
      z.each (index - 1) (slice_index_or places (index - 1) 0) (get_within places (index - 1) 0 (omega (arith, one, few)))

  pub found_listed : (b : TrioBody) → body_at to log (slice_index_or places (index - 1) 0) ≡ Some b → nth_from_one (bodies_to to log) index ≡ Some b
  found_listed b e = found_here to log (slice_index_or places (index - 1) 0) (index - 1) index b nth_listed.before e (omega (arith, one))

  pub never_missing : body_at to log (slice_index_or places (index - 1) 0) ≡ None → ⊥
  never_missing e = let z : IsSome {T = TrioBody} None = subst (λ (o : Option TrioBody). IsSome o) e nth_listed.there in cc z
