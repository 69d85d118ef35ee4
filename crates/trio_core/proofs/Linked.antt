-- Links by their receivers: what is listed for each where one gets a place more, or a link joins the others.
use Rattle.std.proofs.Common.{◌≡◌, ◌≢◌, ◌∙◌, ◌<◌, ℕ, zero, suc, Bool, true, false, List, [], ◌∷◌, ◌++◌, Option, None, Some, Result, Ok, Err, OnOk, length, slice_get, slice_set, refl, sym, ap, subst, true≢false, unwrap_or, append-nil, arith, if◌then◌else◌}
use Rattle.std.specs.Option.{option_and_then, option_or}
use Rattle.pair_machine.specs.Consumers.{first_below}
use Rattle.pair_machine.proofs.Found.{FoundIn, first_found}
use Rattle.trio_machine.specs.Numbers.{is_node}
use Rattle.trio_machine.specs.declared.node.TrioNode.{TrioNode}
use Rattle.trio_machine.proofs.Names.{is_node-true, node_self}
use Rattle.trio_core.specs.Sent.{LinkView, is_link, link_of, listed_for, longer, places_in}
use Rattle.trio_core.proofs.Lists.{length_set, same_there, set_other, set_same}

-- ---- the search for one

-- a place has a link to this receiver
pub record IsLinkAt (to : TrioNode) (xs : List LinkView) (i : ℕ) : Type 0 where
  pub within : i < length xs
  pub at : LinkView
  pub there : slice_get xs i ≡ Some at
  pub name : at.to ≡ to

pub link_at : (to : TrioNode) (xs : List LinkView) (i : ℕ) → link_of to xs ≡ Some i → IsLinkAt to xs i
link_at to xs i e = go (slice_get xs i) refl here.0
  where
    here : FoundIn (λ k. is_link to (slice_get xs k)) (length xs) (Some i)
    here = subst (FoundIn (λ k. is_link to (slice_get xs k)) (length xs)) e (first_found (length xs) (λ k. is_link to (slice_get xs k)))

    go : (o : Option LinkView) → slice_get xs i ≡ o → is_link to o ≡ true → IsLinkAt to xs i
    go None q h = absurd (true≢false (sym h))
    go (Some at) q h = record { within = here.1; at = at; there = q; name = is_node-true at.to to h }

-- links to two receivers stand at two places
apart_at : (to q : TrioNode) (xs : List LinkView) (i j : ℕ) → link_of to xs ≡ Some i → link_of q xs ≡ Some j → is_node to q ≡ false → j ≢ i
apart_at to q xs i j e f apart same =
    let here = link_at q xs j f in
    let there = link_at to xs i e in
    let one : here.at ≡ there.at = same_there (slice_get xs j) here.at there.at here.there (ap (slice_get xs) same ∙ there.there) in
    let name : q ≡ to = sym here.name ∙ ap (λ (l : LinkView). l.to) one ∙ there.name in
    true≢false (sym (ap (is_node to) name ∙ node_self to) ∙ apart)

-- ---- one place more of a link

test_same : (q : TrioNode) (xs : List LinkView) (i k : ℕ) (x y : LinkView) → slice_get xs i ≡ Some x → y.to ≡ x.to → is_link q (slice_get (slice_set xs i y) k) ≡ is_link q (slice_get xs k)
test_same q [] i k x y at name = refl
test_same q (z ∷ xs) zero zero x y at name = let same : z ≡ x = ap (λ o. unwrap_or o x) at in ap (λ w. is_node w q) (name ∙ ap (λ (w : LinkView). w.to) (sym same))
test_same q (z ∷ xs) zero (suc k) x y at name = refl
test_same q (z ∷ xs) (suc i) zero x y at name = refl
test_same q (z ∷ xs) (suc i) (suc k) x y at name = test_same q xs i k x y at name

link_same : (q : TrioNode) (xs : List LinkView) (i : ℕ) (x y : LinkView) → slice_get xs i ≡ Some x → y.to ≡ x.to → link_of q (slice_set xs i y) ≡ link_of q xs
link_same q xs i x y at name = λ j. first_below (λ k. test_same q xs i k x y at name j) (length_set xs i y j)

-- the places at what a search found
abbrev places_at : List LinkView → Option ℕ → List ℕ
places_at xs o = places_in (option_and_then (slice_get xs) o)

pub listed_put : (to : TrioNode) (xs : List LinkView) (i place : ℕ) (l : LinkView) → link_of to xs ≡ Some i → slice_get xs i ≡ Some l
    → (q : TrioNode) → listed_for (slice_set xs i (longer l place)) q ≡ listed_for xs q ++ (if is_node to q then place ∷ [] else [])
listed_put to xs i place l e at q = go (is_node to q) refl (link_of q xs) refl
  where
    moved : listed_for (slice_set xs i (longer l place)) q ≡ places_at (slice_set xs i (longer l place)) (link_of q xs)
    moved = ap (places_at (slice_set xs i (longer l place))) (link_same q xs i l (longer l place) at refl)

    go : (b : Bool) → is_node to q ≡ b → (o : Option ℕ) → link_of q xs ≡ o → listed_for (slice_set xs i (longer l place)) q ≡ listed_for xs q ++ (if b then place ∷ [] else [])
    go true same o found =
        let at_q : link_of q xs ≡ Some i = subst (λ n. link_of n xs ≡ Some i) (is_node-true to q same) e in
        moved ∙ ap (places_at (slice_set xs i (longer l place))) at_q ∙ ap places_in (set_same xs i l (longer l place) at) ∙ ap (λ p. places_in p ++ place ∷ []) (sym at)
        ∙ ap (λ p. places_at xs p ++ place ∷ []) (sym at_q)
    go false apart None found = moved ∙ ap (places_at (slice_set xs i (longer l place))) found ∙ ap (places_at xs) (sym found) ∙ sym (append-nil (listed_for xs q))
    go false apart (Some j) found =
        moved ∙ ap (places_at (slice_set xs i (longer l place))) found ∙ ap places_in (set_other xs i j (longer l place) (apart_at to q xs i j e found apart))
        ∙ ap (places_at xs) (sym found) ∙ sym (append-nil (listed_for xs q))

-- ---- one link more

get_before : {X : Type 0} (xs : List X) (y : X) (k : ℕ) → k < length xs → slice_get (xs ++ y ∷ []) k ≡ slice_get xs k
get_before [] y k l = absurd (omega (arith, l))
get_before (z ∷ xs) y zero l = refl
get_before (z ∷ xs) y (suc k) l = get_before xs y k (omega arith)

get_last : {X : Type 0} (xs : List X) (y : X) → slice_get (xs ++ y ∷ []) (length xs) ≡ Some y
get_last [] y = refl
get_last (z ∷ xs) y = get_last xs y

length_more : {X : Type 0} (xs : List X) (y : X) → length (xs ++ y ∷ []) ≡ suc (length xs)
length_more [] y = refl
length_more (z ∷ xs) y = ap suc (length_more xs y)

first_same : (n : ℕ) (t u : ℕ → Bool) → ((k : ℕ) → k < n → t k ≡ u k) → first_below t n ≡ first_below u n
first_same zero t u h = refl
first_same (suc n) t u h =
    let rest = first_same n t u (λ k l. h k (omega arith)) in
    let last : t n ≡ u n = h n (omega arith) in
    λ i. option_or (rest i) (if last i then Some n else None)

-- the link to a receiver with its first place
abbrev first_link : TrioNode → ℕ → LinkView
first_link to place = record { to = to; places = place ∷ [] }

joined_of : (to q : TrioNode) (xs : List LinkView) (place : ℕ) → link_of q (xs ++ first_link to place ∷ []) ≡ option_or (link_of q xs) (if is_node to q then Some (length xs) else None)
joined_of to q xs place =
    let link = first_link to place in
    let before = first_same (length xs) (λ k. is_link q (slice_get (xs ++ link ∷ []) k)) (λ k. is_link q (slice_get xs k)) (λ k l. ap (is_link q) (get_before xs link k l)) in
    let last : is_link q (slice_get (xs ++ link ∷ []) (length xs)) ≡ is_node to q = ap (is_link q) (get_last xs link) in
    ap (first_below (λ k. is_link q (slice_get (xs ++ link ∷ []) k))) (length_more xs link) ∙ (λ i. option_or (before i) (if last i then Some (length xs) else None))

pub listed_joined : (to : TrioNode) (xs : List LinkView) (place : ℕ) → link_of to xs ≡ None
    → (q : TrioNode) → listed_for (xs ++ first_link to place ∷ []) q ≡ listed_for xs q ++ (if is_node to q then place ∷ [] else [])
listed_joined to xs place none q = go (is_node to q) refl (link_of q xs) refl
  where
    go : (b : Bool) → is_node to q ≡ b → (o : Option ℕ) → link_of q xs ≡ o → listed_for (xs ++ first_link to place ∷ []) q ≡ listed_for xs q ++ (if b then place ∷ [] else [])
    go true same o found =
        let none_q : link_of q xs ≡ None = subst (λ n. link_of n xs ≡ None) (is_node-true to q same) none in
        let at_q : link_of q (xs ++ first_link to place ∷ []) ≡ Some (length xs) = joined_of to q xs place ∙ (λ i. option_or (none_q i) (if same i then Some (length xs) else None)) in
        ap (places_at (xs ++ first_link to place ∷ [])) at_q ∙ ap places_in (get_last xs (first_link to place)) ∙ ap (λ p. places_at xs p ++ place ∷ []) (sym none_q)
    go false apart None found =
        let at_q : link_of q (xs ++ first_link to place ∷ []) ≡ None = joined_of to q xs place ∙ (λ i. option_or (found i) (if apart i then Some (length xs) else None)) in
        ap (places_at (xs ++ first_link to place ∷ [])) at_q ∙ ap (places_at xs) (sym found) ∙ sym (append-nil (listed_for xs q))
    go false apart (Some j) found =
        let at_q : link_of q (xs ++ first_link to place ∷ []) ≡ Some j = joined_of to q xs place ∙ (λ i. option_or (found i) (if apart i then Some (length xs) else None)) in
        ap (places_at (xs ++ first_link to place ∷ [])) at_q ∙ ap places_in (get_before xs (first_link to place) j (link_at q xs j found).within)
        ∙ ap (places_at xs) (sym found) ∙ sym (append-nil (listed_for xs q))

-- ---- by whatever name the links go

pub puts : {X E : Type 0} (r : Result X E) (to : TrioNode) (xs ys news : List LinkView) (i place : ℕ) → ys ≡ xs → Some i ≡ link_of to ys
    → OnOk r ((l : LinkView) → slice_get xs i ≡ Some l → news ≡ slice_set xs i (longer l place))
    → OnOk r ((q : TrioNode) → listed_for news q ≡ listed_for xs q ++ (if is_node to q then place ∷ [] else []))
puts (Ok x) to xs ys news i place same found h =
    let e : link_of to xs ≡ Some i = sym (found ∙ ap (link_of to) same) in
    let z = link_at to xs i e in
    λ q. ap (λ ls. listed_for ls q) (h z.at z.there) ∙ listed_put to xs i place z.at e z.there q
puts (Err x) to xs ys news i place same found h = h

pub joins : {X E : Type 0} (r : Result X E) (to : TrioNode) (xs ys news : List LinkView) (place : ℕ) → ys ≡ xs → None ≡ link_of to ys
    → OnOk r (news ≡ xs ++ record { to = to; places = place ∷ [] } ∷ [])
    → OnOk r ((q : TrioNode) → listed_for news q ≡ listed_for xs q ++ (if is_node to q then place ∷ [] else []))
joins (Ok x) to xs ys news place same none h = λ q. ap (λ ls. listed_for ls q) h ∙ listed_joined to xs place (sym (none ∙ ap (link_of to) same)) q
joins (Err x) to xs ys news place same none h = h
