-- Packets counted for their receivers, one after another.
use Rattle.std.proofs.Common.{◌≡◌, ◌∙◌, ℕ, zero, suc, ◌+◌, ◌<◌, ◌≤◌, List, [], ◌∷◌, ◌++◌, Some, Bool, true, false, length, take, slice_get, refl, sym, ap, arith, if◌then◌else◌, cond, length-append, unwrap_or}
use Rattle.std.specs.BTreeMap.{BTreeMap, get, is_at}
use Rattle.std.specs.Fmt.{decimal}
use Rattle.std.specs.Prelude.{◌≢◌, codes}
use Rattle.tuple_edge.specs.declared.node.LinkId.{LinkId}
use Rattle.run_journal.specs.Text.{link_name}
use Rattle.state_text.specs.StateText.{sent_line}
use Rattle.tuple_edge.specs.Node.{node_cmp}
use Rattle.tuple_edge.specs.declared.node.NodeId.{NodeId}
use Rattle.tuple_edge.specs.declared.packet.Body.{Body}
use Rattle.pair_machine.specs.Numbers.{is_node}
use Rattle.pair_machine.proofs.Names.{is_node-true}
use Rattle.pair_machine.specs.Courses.{Pairwise}
use Rattle.flux_core.specs.Sent.{bodies_to}
use Rattle.flux_core.proofs.Names.{same_name}
use Rattle.flux_core.proofs.Sendings.{bodies-append, length-take-of, take-next}
use Rattle.state_text.specs.Counted.{AreCounted, count_in, packets_to}

-- the count of one receiver is raised
pub count_raised : (m n : BTreeMap NodeId ℕ) (to : NodeId) → ((q : NodeId) → get node_cmp n q ≡ cond (is_at (node_cmp to) q) (Some (count_in m to + 1)) (get node_cmp m q))
    → (q : NodeId) → count_in n q ≡ count_in m q + (if is_node to q then 1 else 0)
count_raised m n to updates q = go (is_node to q) (updates q ∙ ap (λ b. cond b (Some (count_in m to + 1)) (get node_cmp m q)) (sym (same_name to q))) (λ e. ap (count_in m) (is_node-true to q e))
  where
    go : (b : Bool) → get node_cmp n q ≡ cond b (Some (count_in m to + 1)) (get node_cmp m q) → (b ≡ true → count_in m to ≡ count_in m q) → count_in n q ≡ count_in m q + (if b then 1 else 0)
    go true e same = ap (λ o. unwrap_or o 0) e ∙ ap (λ k. k + 1) (same refl)
    go false e same = let z : count_in n q ≡ count_in m q = ap (λ o. unwrap_or o 0) e in omega (arith, z)

one_more : (to : NodeId) (p : NodeId × Body) → packets_to to (p ∷ []) ≡ (if is_node p.0 to then 1 else 0)
one_more to p = go (is_node p.0 to)
  where
    go : (b : Bool) → length (if b then p.1 ∷ [] else []) ≡ (if b then 1 else 0)
    go true = refl
    go false = refl

-- the next packet is counted
pub counted_next : (packets : List (NodeId × Body)) (m n : BTreeMap NodeId ℕ) (nth : ℕ) (p : NodeId × Body) → AreCounted m (take nth packets) → slice_get packets nth ≡ Some p
    → ((q : NodeId) → count_in n q ≡ count_in m q + (if is_node p.0 q then 1 else 0)) → AreCounted n (take (nth + 1) packets)
counted_next packets m n nth p h at raised to =
    let next : take (nth + 1) packets ≡ take nth packets ++ p ∷ [] = ap (λ k. take k packets) {x = nth + 1} {y = suc nth} (omega arith) ∙ take-next packets nth p at in
    let both : packets_to to (take nth packets ++ p ∷ []) ≡ packets_to to (take nth packets) + packets_to to (p ∷ []) =
    ap length (bodies-append to (take nth packets) (p ∷ [])) ∙ length-append (bodies_to to (take nth packets)) (bodies_to to (p ∷ [])) in
    raised to ∙ (λ j. h to j + sym (one_more to p) j) ∙ sym both ∙ ap (packets_to to) (sym next)

packets_most : (to : NodeId) (xs : List (NodeId × Body)) → packets_to to xs ≤ length xs
packets_most to [] = omega arith
packets_most to (p ∷ xs) = go (is_node p.0 to) (packets_most to xs)
  where
    go : (b : Bool) → packets_to to xs ≤ length xs → length (if b then p.1 ∷ bodies_to to xs else bodies_to to xs) ≤ length (p ∷ xs)
    go true h = omega (arith, h)
    go false h = omega (arith, h)

-- no count is above the number of packets that were counted
pub counts_most : (packets : List (NodeId × Body)) (m : BTreeMap NodeId ℕ) (nth : ℕ) (to : NodeId) → AreCounted m (take nth packets) → nth < length packets → count_in m to ≤ nth
counts_most packets m nth to h l = omega (arith, h to, packets_most to (take nth packets), length-take-of packets nth (omega (arith, l)))

pub pairwise_length : {X Y : Type 0} (R : X → Y → Type 0) (xs : List X) (ys : List Y) → Pairwise R xs ys → length xs ≡ length ys
pairwise_length R [] [] h = refl
pairwise_length R [] (b ∷ ys) h = absurd h
pairwise_length R (a ∷ xs) [] h = absurd h
pairwise_length R (a ∷ xs) (b ∷ ys) h = let r = pairwise_length R xs ys h.1 in omega arith

-- a link that has packets has a line
pub sent_some : (l : LinkId) (n : ℕ) → n ≢ 0 → sent_line l n ≡ codes "sent " ++ link_name l ++ codes " " ++ decimal n ++ codes "\n"
sent_some l zero some = absurd (some refl)
sent_some l (suc n) some = refl
