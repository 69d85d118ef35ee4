-- A packet listed for its receiver, and found again.
use Rattle.std.proofs.Common.{◌≡◌, ◌∙◌, ℕ, ◌+◌, ◌<◌, List, [], ◌∷◌, ◌++◌, Some, Bool, true, false, Vec, append-nil, length, suc, take, slice_get, refl, sym, ap, subst, arith, if◌then◌else◌, cond}
use Rattle.std.specs.BTreeMap.{BTreeMap, get, is_at}
use Rattle.std.specs.declared.alloc.Global.{Global}
use Rattle.tuple_edge.specs.Node.{node_cmp}
use Rattle.tuple_edge.specs.declared.node.NodeId.{NodeId}
use Rattle.tuple_edge.specs.declared.packet.Body.{Body}
use Rattle.pair_machine.specs.Numbers.{is_node}
use Rattle.pair_machine.proofs.Names.{is_node-true}
use Rattle.std.specs.Option.{option_and_then}
use Rattle.flux_core.specs.Sent.{AreListed, bodies_to, body_of, listed_for, places_in, places_to}
use Rattle.flux_core.proofs.Names.{same_name}
use Rattle.flux_core.proofs.Sendings.{found_at, length-places, length-take-of, places-next, take-next}

-- one more place is put at the end of a receiver's list
pub listed-put : (m n : BTreeMap NodeId (Vec ℕ Global)) (to : NodeId) (v w : Vec ℕ Global) (place : ℕ) → get node_cmp m to ≡ Some v → w.items ≡ v.items ++ place ∷ []
    → ((q : NodeId) → get node_cmp n q ≡ cond (is_at (node_cmp to) q) (Some w) (get node_cmp m q))
    → (q : NodeId) → listed_for n q ≡ listed_for m q ++ (if is_node to q then place ∷ [] else [])
listed-put m n to v w place found items updates q = go (is_node to q) (updates q ∙ ap (λ b. cond b (Some w) (get node_cmp m q)) (sym (same_name to q))) (λ e. subst (λ k. get node_cmp m k ≡ Some v) (is_node-true to q e) found)
  where
    go : (b : Bool) → get node_cmp n q ≡ cond b (Some w) (get node_cmp m q) → (b ≡ true → get node_cmp m q ≡ Some v)
        → listed_for n q ≡ listed_for m q ++ (if b then place ∷ [] else [])
    go true e at = ap places_in e ∙ items ∙ ap (λ o. places_in o ++ place ∷ []) (sym (at refl))
    go false e at = ap places_in e ∙ sym (append-nil (listed_for m q))

-- the next packet is listed
pub listed-next : (packets : List (NodeId × Body)) (lists lists_after : NodeId → List ℕ) (n : ℕ) (p : NodeId × Body) → AreListed packets lists n → slice_get packets n ≡ Some p → n < length packets
    → ((q : NodeId) → lists_after q ≡ lists q ++ (if is_node p.0 q then n ∷ [] else [])) → AreListed packets lists_after (n + 1)
listed-next packets lists lists_after n p h at below more = record {
  within = omega arith;
  places = λ to.
      let next : take (n + 1) packets ≡ take n packets ++ p ∷ [] = ap (λ k. take k packets) {x = n + 1} {y = suc n} (omega arith) ∙ take-next packets n p at in
      let len = length-take-of packets n h.within in
      more to ∙ ap (λ l. l ++ (if is_node p.0 to then n ∷ [] else [])) (h.places to)
      ∙ ap (λ k. places_to to (take n packets) ++ (if is_node p.0 to then k ∷ [] else [])) {x = n} {y = length (take n packets)} (sym len)
      ∙ sym (places-next to (take n packets) p) ∙ ap (places_to to) (sym next);
}

-- lists with the same places say the same
pub listed-same : (packets : List (NodeId × Body)) (lists lists_after : NodeId → List ℕ) (n : ℕ) → AreListed packets lists n → ((q : NodeId) → lists_after q ≡ lists q) → AreListed packets lists_after n
listed-same packets lists lists_after n h e = record { within = h.within; places = λ to. e to ∙ h.places to }

take-all : {X : Type 0} (xs : List X) → take (length xs) xs ≡ xs
take-all [] = refl
take-all (x ∷ xs) = ap (λ r. x ∷ r) (take-all xs)

-- where all are listed, the packet at the k-th place listed for a receiver has the k-th of the bodies to it
pub body-listed : (packets : List (NodeId × Body)) (lists : NodeId → List ℕ) (to : NodeId) (k : ℕ) → AreListed packets lists (length packets)
    → option_and_then (body_of packets) (slice_get (lists to) k) ≡ slice_get (bodies_to to packets) k
body-listed packets lists to k h = ap (λ l. option_and_then (body_of packets) (slice_get l k)) (h.places to ∙ ap (places_to to) (take-all packets)) ∙ found_at packets to k

pub count-listed : (packets : List (NodeId × Body)) (lists : NodeId → List ℕ) (to : NodeId) → AreListed packets lists (length packets) → length (lists to) ≡ length (bodies_to to packets)
count-listed packets lists to h = ap length (h.places to ∙ ap (places_to to) (take-all packets)) ∙ length-places 0 to packets
