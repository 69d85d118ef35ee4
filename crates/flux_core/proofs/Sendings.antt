-- What of the packets of a node went to each receiver, and where it stands among them.
use Rattle.std.proofs.Common.{◌≡◌, ◌∙◌, ℕ, ◌+◌, ◌≤◌, List, [], ◌∷◌, ◌++◌, Some, Bool, true, false, length, take, slice_get, refl, sym, ap, append_assoc, arith, if◌then◌else◌, length-append, unwrap_or, zero, suc}
use Rattle.std.specs.Option.{option_and_then, option_map}
use Rattle.tuple_edge.specs.declared.node.NodeId.{NodeId}
use Rattle.tuple_edge.specs.declared.packet.Body.{Body}
use Rattle.pair_machine.specs.Numbers.{is_node}
use Rattle.flux_core.specs.Sent.{bodies_to, body_of, places_from, places_to}

pub bodies-append : (to : NodeId) (xs ys : List (NodeId × Body)) → bodies_to to (xs ++ ys) ≡ bodies_to to xs ++ bodies_to to ys
bodies-append to [] ys = refl
bodies-append to (p ∷ xs) ys = go (is_node p.0 to) (bodies-append to xs ys)
  where
    go : (b : Bool) → bodies_to to (xs ++ ys) ≡ bodies_to to xs ++ bodies_to to ys
        → (if b then p.1 ∷ bodies_to to (xs ++ ys) else bodies_to to (xs ++ ys)) ≡ (if b then p.1 ∷ bodies_to to xs else bodies_to to xs) ++ bodies_to to ys
    go true e = ap (λ r. p.1 ∷ r) e
    go false e = e

pub places-append : (n : ℕ) (to : NodeId) (xs ys : List (NodeId × Body)) → places_from n to (xs ++ ys) ≡ places_from n to xs ++ places_from (n + length xs) to ys
places-append n to [] ys = ap (λ k. places_from k to ys) (omega arith)
places-append n to (p ∷ xs) ys = go (is_node p.0 to) (places-append (n + 1) to xs ys ∙ ap (λ k. places_from (n + 1) to xs ++ places_from k to ys) (omega arith))
  where
    go : (b : Bool) → places_from (n + 1) to (xs ++ ys) ≡ places_from (n + 1) to xs ++ places_from (n + length (p ∷ xs)) to ys
        → (if b then n ∷ places_from (n + 1) to (xs ++ ys) else places_from (n + 1) to (xs ++ ys))
        ≡ (if b then n ∷ places_from (n + 1) to xs else places_from (n + 1) to xs) ++ places_from (n + length (p ∷ xs)) to ys
    go true e = ap (λ r. n ∷ r) e
    go false e = e

-- one more packet
pub places-next : (to : NodeId) (xs : List (NodeId × Body)) (p : NodeId × Body) → places_to to (xs ++ p ∷ []) ≡ places_to to xs ++ (if is_node p.0 to then length xs ∷ [] else [])
places-next to xs p = places-append 0 to xs (p ∷ []) ∙ ap (λ k. places_to to xs ++ (if is_node p.0 to then k ∷ [] else [])) (omega arith)

-- there are as many places as bodies
pub length-places : (n : ℕ) (to : NodeId) (xs : List (NodeId × Body)) → length (places_from n to xs) ≡ length (bodies_to to xs)
length-places n to [] = refl
length-places n to (p ∷ xs) = go (is_node p.0 to) (length-places (n + 1) to xs)
  where
    go : (b : Bool) → length (places_from (n + 1) to xs) ≡ length (bodies_to to xs)
        → length (if b then n ∷ places_from (n + 1) to xs else places_from (n + 1) to xs) ≡ length (if b then p.1 ∷ bodies_to to xs else bodies_to to xs)
    go true e = omega (arith, e)
    go false e = e

slice_get-middle : {X : Type 0} (xs : List X) (x : X) (ys : List X) → slice_get (xs ++ x ∷ ys) (length xs) ≡ Some x
slice_get-middle [] x ys = refl
slice_get-middle (z ∷ xs) x ys = slice_get-middle xs x ys

-- the packet at the k-th of the places has the k-th of the bodies
found_from : (before packets : List (NodeId × Body)) (to : NodeId) (k : ℕ)
    → option_and_then (body_of (before ++ packets)) (slice_get (places_from (length before) to packets) k) ≡ slice_get (bodies_to to packets) k
found_from before [] to k = refl
found_from before (p ∷ packets) to k =
    go (is_node p.0 to) k (λ j. ap (λ ps. option_and_then (body_of ps) (slice_get (places_from (length before + 1) to packets) j)) (sym (append_assoc before (p ∷ []) packets))
    ∙ ap (λ n. option_and_then (body_of ((before ++ p ∷ []) ++ packets)) (slice_get (places_from n to packets) j)) (sym (length-append before (p ∷ [])))
    ∙ found_from (before ++ p ∷ []) packets to j)
  where
    go : (b : Bool) (k : ℕ)
        → ((j : ℕ) → option_and_then (body_of (before ++ p ∷ packets)) (slice_get (places_from (length before + 1) to packets) j) ≡ slice_get (bodies_to to packets) j)
        → option_and_then (body_of (before ++ p ∷ packets)) (slice_get (if b then length before ∷ places_from (length before + 1) to packets else places_from (length before + 1) to packets) k)
        ≡ slice_get (if b then p.1 ∷ bodies_to to packets else bodies_to to packets) k
    go true zero e = ap (option_map (λ (q : NodeId × Body). q.1)) (slice_get-middle before p packets)
    go true (suc k) e = e k
    go false k e = e k

pub found_at : (packets : List (NodeId × Body)) (to : NodeId) (k : ℕ) → option_and_then (body_of packets) (slice_get (places_to to packets) k) ≡ slice_get (bodies_to to packets) k
found_at packets to k = found_from [] packets to k

-- ---- of the first so many packets

pub take-next : {X : Type 0} (xs : List X) (n : ℕ) (x : X) → slice_get xs n ≡ Some x → take (suc n) xs ≡ take n xs ++ x ∷ []
take-next [] n x e = cc
take-next (y ∷ xs) zero x e = ap (λ o. unwrap_or o y ∷ []) e
take-next (y ∷ xs) (suc n) x e = ap (λ r. y ∷ r) (take-next xs n x e)

pub length-take-of : {X : Type 0} (xs : List X) (n : ℕ) → n ≤ length xs → length (take n xs) ≡ n
length-take-of [] zero h = refl
length-take-of [] (suc n) h = absurd (omega (arith, h))
length-take-of (x ∷ xs) zero h = refl
length-take-of (x ∷ xs) (suc n) h = let r = length-take-of xs n (omega arith) in omega arith
