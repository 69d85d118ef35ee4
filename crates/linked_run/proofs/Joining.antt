-- Links that are made between nodes.
use Rattle.std.proofs.Common.{◌≡◌, ◌⊎◌, ⊎_elim, ◌∙◌, ◌+◌, ◌<◌, ◌&&◌, ◌==◌, ℕ, zero, suc, Bool, true, false, List, [], ◌∷◌, ◌++◌, Option, Some, length, get_or, set, take, refl, sym, ap, subst, arith, true≢false}
use Rattle.std.specs.Prelude.{if◌then◌else◌, IsSome, is_some, slice_get}
use Rattle.flux_link.specs.Identity.{Identity}
use Rattle.tuple_edge.specs.declared.node.NodeId.{NodeId}
use Rattle.tuple_edge.specs.declared.node.NodeId.TheVariants as node
use Rattle.tuple_edge.specs.declared.node.Which.TheVariants.{A, B}
use Rattle.plan_reader.specs.Nodes.{has_link, has_pair}
use Rattle.plan_reader.specs.PlanView.{PlanView}
use Rattle.pair_machine.specs.Courses.{Pairwise}
use Rattle.pair_machine.specs.Links.{link}
use Rattle.pair_machine.specs.Lists.{Each}
use Rattle.pair_machine.specs.Numbers.{is_node}
use Rattle.pair_machine.proofs.Lists.{each_map}
use Rattle.pair_machine.proofs.Names.{is_node-true, node_self}
use Rattle.pair_machine.proofs.Tests.{nat_self}
use Rattle.linked_run.specs.Drafts.{Grows, LeadsTo, LeadsToAll}
use Rattle.linked_run.specs.Linked.{AreDistinct, AreLinked, IsLinkFrom, ids_of, name_at}
use Rattle.run_node.specs.FirstLinks.{identity_to}
use Rattle.std.proofs.lemmas.Bool.{eqb-true}
use Rattle.run_node.specs.NodeView.{NodeName}

-- ---- names that grow

pub same_grows : (m : NodeName) → Grows m m
same_grows m = record { id = refl; tapped = refl; outs = λ n h. refl }

some_same : (o p : Option Identity) → o ≡ p → IsSome p → IsSome o
some_same o p e h = subst IsSome (sym e) h

pub more_grows : (a b c : NodeName) → Grows a b → Grows b c → Grows a c
more_grows a b c g h = record { id = h.id ∙ g.id; tapped = h.tapped ∙ g.tapped; outs = λ n s. h.outs n (some_same _ _ (g.outs n s) s) ∙ g.outs n s }

pub all_same : (ms : List NodeName) → Pairwise Grows ms ms
all_same [] = tt
all_same (m ∷ ms) = (same_grows m, all_same ms)

pub all_more : (xs ys zs : List NodeName) → Pairwise Grows xs ys → Pairwise Grows ys zs → Pairwise Grows xs zs
all_more [] [] [] g h = tt
all_more [] [] (z ∷ zs) g h = absurd h
all_more [] (y ∷ ys) zs g h = absurd g
all_more (x ∷ xs) [] zs g h = absurd g
all_more (x ∷ xs) (y ∷ ys) [] g h = absurd h
all_more (x ∷ xs) (y ∷ ys) (z ∷ zs) g h = (more_grows x y z g.0 h.0, all_more xs ys zs g.1 h.1)

-- one element was replaced by one that grew
pub one_grows : (ms : List NodeName) (i : ℕ) (new d : NodeName) → Grows (get_or ms i d) new → Pairwise Grows ms (set ms i new)
one_grows [] i new d g = tt
one_grows (m ∷ ms) zero new d g = (g, all_same ms)
one_grows (m ∷ ms) (suc i) new d g = (same_grows m, one_grows ms i new d g)

pub same_ids : (xs ys : List NodeName) → Pairwise Grows xs ys → ids_of ys ≡ ids_of xs
same_ids [] [] g = refl
same_ids [] (y ∷ ys) g = absurd g
same_ids (x ∷ xs) [] g = absurd g
same_ids (x ∷ xs) (y ∷ ys) g = (λ i. g.0.id i ∷ same_ids xs ys g.1 i)

pub same_length : (xs ys : List NodeName) → Pairwise Grows xs ys → length ys ≡ length xs
same_length [] [] g = refl
same_length [] (y ∷ ys) g = absurd g
same_length (x ∷ xs) [] g = absurd g
same_length (x ∷ xs) (y ∷ ys) g = let e = same_length xs ys g.1 in omega arith

pub still_distinct : (xs ys : List NodeName) → Pairwise Grows xs ys → AreDistinct xs → AreDistinct ys
still_distinct [] [] g h = tt
still_distinct [] (y ∷ ys) g h = absurd g
still_distinct (x ∷ xs) [] g h = absurd g
still_distinct (x ∷ xs) (y ∷ ys) g h = (others xs ys g.1 h.0, still_distinct xs ys g.1 h.1)
  where
    others : (us vs : List NodeName) → Pairwise Grows us vs → Each (λ (m : NodeName). is_node x.id m.id ≡ false) us → Each (λ (m : NodeName). is_node y.id m.id ≡ false) vs
    others [] [] k e = tt
    others [] (v ∷ vs) k e = absurd k
    others (u ∷ us) [] k e = absurd k
    others (u ∷ us) (v ∷ vs) k e = (ap (λ n. is_node n v.id) g.0.id ∙ (ap (is_node x.id) k.0.id ∙ e.0), others us vs k.1 e.1)

-- the name of a node that is found has grown
abbrev Later : List NodeName → NodeId → NodeName → Type 0
Later ks n m = (k : NodeName) × (name_at ks n ≡ Some k) × Grows m k

found_later : (ms ks : List NodeName) (n : NodeId) (m : NodeName) → Pairwise Grows ms ks → name_at ms n ≡ Some m → Later ks n m
found_later [] [] n m g e = cc
found_later [] (k ∷ ks) n m g e = absurd g
found_later (x ∷ ms) [] n m g e = absurd g
found_later (x ∷ ms) (k ∷ ks) n m g e = go (is_node x.id n) refl (λ w. found_later ms ks n m g.1 w) e
  where
    go : (b : Bool) → is_node x.id n ≡ b → (name_at ms n ≡ Some m → Later ks n m) → (if b then Some x else name_at ms n) ≡ Some m → Later (k ∷ ks) n m
    go true is more w =
        let same : x ≡ m = cc w in
        let here : is_node k.id n ≡ true = ap (λ j. is_node j n) g.0.id ∙ is in
        (k, simp here, subst (λ y. Grows y k) same g.0)
    go false is more w =
        let r = more w in
        let here : is_node k.id n ≡ false = ap (λ j. is_node j n) g.0.id ∙ is in
        (r.0, simp here r.1, r.2)

link_later : (ms ks : List NodeName) (me from : NodeId) (i : Identity) → Pairwise Grows ms ks → IsLinkFrom ms me from i → IsLinkFrom ks me from i
link_later ms ks me from i g l =
    let r = found_later ms ks from l.sender g l.there in
    let some : IsSome (identity_to l.sender.outs me) = subst IsSome (sym l.same) refl in
    record { sender = r.0; there = r.1; other = l.other; same = r.2.outs me some ∙ l.same }

-- ---- a link is added

abbrev AllLinked : List NodeName → NodeName → Type 0
AllLinked all n = Each (λ l. IsLinkFrom all n.id l.0 l.1) n.ins

all_later : (ms ks : List NodeName) → Pairwise Grows ms ks → (ns : List NodeName) → Each (AllLinked ms) ns → Each (AllLinked ks) ns
all_later ms ks g ns h = each_map (AllLinked ms) (AllLinked ks) (λ (n : NodeName) l. each_map (λ (x : NodeId × Identity). IsLinkFrom ms n.id x.0 x.1) (λ (x : NodeId × Identity). IsLinkFrom ks n.id x.0 x.1) (λ x k. link_later ms ks n.id x.0 x.1 g k) n.ins l) ns h

each_set : (P : NodeName → Type 0) (ms : List NodeName) (i : ℕ) (new : NodeName) → Each P ms → P new → Each P (set ms i new)
each_set P [] i new h k = tt
each_set P (m ∷ ms) zero new h k = (k, h.1)
each_set P (m ∷ ms) (suc i) new h k = (h.0, each_set P ms i new h.1 k)

each_get : (P : NodeName → Type 0) (ms : List NodeName) (i : ℕ) (d : NodeName) → i < length ms → Each P ms → P (get_or ms i d)
each_get P [] i d lt h = absurd (omega arith)
each_get P (m ∷ ms) zero d lt h = h.0
each_get P (m ∷ ms) (suc i) d lt h = each_get P ms i d (omega arith) h.1

-- where no id stands twice, the node at a place is the one that is found
pub at_place : (ms : List NodeName) (i : ℕ) (d : NodeName) → i < length ms → AreDistinct ms → name_at ms (get_or ms i d).id ≡ Some (get_or ms i d)
at_place [] i d lt h = absurd (omega arith)
at_place (m ∷ ms) zero d lt h = let s = node_self m.id in simp s
at_place (m ∷ ms) (suc i) d lt h =
    let other = each_get (λ (k : NodeName). is_node m.id k.id ≡ false) ms i d (omega arith) h.0 in
    simp other (at_place ms i d (omega arith) h.1)

-- a link more leaves those that are there
identity_more : (ls : List (NodeId × Identity)) (l : NodeId × Identity) (n : NodeId) → IsSome (identity_to ls n) → identity_to (ls ++ l ∷ []) n ≡ identity_to ls n
identity_more [] l n h = cc
identity_more (k ∷ ls) l n h = go (is_node k.0 n) h (λ w. identity_more ls l n w)
  where
    go : (b : Bool) → IsSome (if b then Some k.1 else identity_to ls n) → (IsSome (identity_to ls n) → identity_to (ls ++ l ∷ []) n ≡ identity_to ls n) → (if b then Some k.1 else identity_to (ls ++ l ∷ []) n) ≡ (if b then Some k.1 else identity_to ls n)
    go true h more = refl
    go false h more = more h

identity_new : (ls : List (NodeId × Identity)) (n : NodeId) (i : Identity) → is_some (identity_to ls n) ≡ false → identity_to (ls ++ (n, i) ∷ []) n ≡ Some i
identity_new [] n i h = let s = node_self n in simp s
identity_new (k ∷ ls) n i h = go (is_node k.0 n) h (λ w. identity_new ls n i w)
  where
    go : (b : Bool) → is_some (if b then Some k.1 else identity_to ls n) ≡ false → (is_some (identity_to ls n) ≡ false → identity_to (ls ++ (n, i) ∷ []) n ≡ Some i) → (if b then Some k.1 else identity_to (ls ++ (n, i) ∷ []) n) ≡ Some i
    go true h more = cc
    go false h more = more h

each_last : (P : (NodeId × Identity) → Type 0) (ls : List (NodeId × Identity)) (l : NodeId × Identity) → Each P ls → P l → Each P (ls ++ l ∷ [])
each_last P [] l h k = (k, tt)
each_last P (x ∷ ls) l h k = (h.0, each_last P ls l h.1 k)

get_set : (ms : List NodeName) (i : ℕ) (new d : NodeName) → i < length ms → get_or (set ms i new) i d ≡ new
get_set [] i new d lt = absurd (omega arith)
get_set (m ∷ ms) zero new d lt = refl
get_set (m ∷ ms) (suc i) new d lt = get_set ms i new d (omega arith)

length_set : (ms : List NodeName) (i : ℕ) (new : NodeName) → length (set ms i new) ≡ length ms
length_set [] i new = refl
length_set (m ∷ ms) zero new = refl
length_set (m ∷ ms) (suc i) new = let e = length_set ms i new in omega arith

id_at : (xs ys : List NodeName) (i : ℕ) (d : NodeName) → Pairwise Grows xs ys → i < length xs → (get_or ys i d).id ≡ (get_or xs i d).id
id_at [] ys i d g lt = absurd (omega arith)
id_at (x ∷ xs) [] i d g lt = absurd g
id_at (x ∷ xs) (y ∷ ys) zero d g lt = g.0.id
id_at (x ∷ xs) (y ∷ ys) (suc i) d g lt = id_at xs ys i d g.1 (omega arith)

-- Two nodes get the two ends of a link: the one that sends has no link to the other yet.
module _ (ms : List NodeName) (i j : ℕ) (d : NodeName) (k : Identity) (i_in : i < length ms) (j_in : j < length ms) (apart : AreDistinct ms) (linked : AreLinked ms ms)
    (none : is_some (identity_to (get_or ms i d).outs (get_or ms j d).id) ≡ false) (other : is_node (get_or ms i d).id (get_or ms j d).id ≡ false)
    (sender receiver : NodeName) (sends : sender ≡ record (get_or ms i d) { outs = (get_or ms i d).outs ++ ((get_or ms j d).id, k) ∷ [] })
    (receives : receiver ≡ record (get_or (set ms i sender) j d) { ins = (get_or (set ms i sender) j d).ins ++ ((get_or ms i d).id, k) ∷ [] }) where
  after : List NodeName
  after = set (set ms i sender) j receiver

  sender_grows : Grows (get_or ms i d) sender
  sender_grows = subst (Grows (get_or ms i d)) (sym sends) (record { id = refl; tapped = refl; outs = λ n h. identity_more (get_or ms i d).outs ((get_or ms j d).id, k) n h })

  first : Pairwise Grows ms (set ms i sender)
  first = one_grows ms i sender d sender_grows

  receiver_grows : Grows (get_or (set ms i sender) j d) receiver
  receiver_grows = subst (Grows (get_or (set ms i sender) j d)) (sym receives) (record { id = refl; tapped = refl; outs = λ n h. refl })

  second : Pairwise Grows (set ms i sender) (set (set ms i sender) j receiver)
  second = one_grows (set ms i sender) j receiver d receiver_grows

  pub grown : Pairwise Grows ms (set (set ms i sender) j receiver)
  grown = all_more ms (set ms i sender) (set (set ms i sender) j receiver) first second

  -- the link's sender is found, and has the link
  new_link : IsLinkFrom (set ms i sender) (get_or ms j d).id (get_or ms i d).id k
  new_link =
      let at : get_or (set ms i sender) i d ≡ sender = get_set ms i sender d i_in in
      let lt : i < length (set ms i sender) = omega (arith, length_set ms i sender) in
      let there = at_place (set ms i sender) i d lt (still_distinct ms (set ms i sender) first apart) in
      record {
        sender = sender;
        there = ap (name_at (set ms i sender)) (sym (ap (λ (m : NodeName). m.id) at ∙ sender_grows.id)) ∙ (there ∙ ap Some at);
        other = other;
        same = ap (λ (m : NodeName). identity_to m.outs (get_or ms j d).id) sends ∙ identity_new (get_or ms i d).outs (get_or ms j d).id k none;
      }

  pub still_linked : AreLinked (set (set ms i sender) j receiver) (set (set ms i sender) j receiver)
  still_linked =
      let zs = set ms i sender in
      let lt : j < length zs = omega (arith, length_set ms i sender) in
      let own : AllLinked ms sender = subst (AllLinked ms) (sym sends) (each_get (AllLinked ms) ms i d i_in linked) in
      let all : Each (AllLinked zs) zs = all_later ms zs first zs (each_set (AllLinked ms) ms i sender linked own) in
      let id : (get_or zs j d).id ≡ (get_or ms j d).id = id_at ms zs j d first j_in in
      let here : IsLinkFrom zs (get_or zs j d).id (get_or ms i d).id k = subst (λ n. IsLinkFrom zs n (get_or ms i d).id k) (sym id) new_link in
      let its : AllLinked zs receiver = subst (AllLinked zs) (sym receives) (each_last (λ (l : NodeId × Identity). IsLinkFrom zs (get_or zs j d).id l.0 l.1) (get_or zs j d).ins ((get_or ms i d).id, k) (each_get (AllLinked zs) zs j d lt all) here) in
      all_later zs (set zs j receiver) second (set zs j receiver) (each_set (AllLinked zs) zs j receiver all its)

-- ---- links that the plan has

module _ (plan : PlanView) where
  pub leads_later : (m k : NodeName) (n : NodeId) → Grows m k → LeadsTo plan m n → LeadsTo plan k n
  leads_later m k n g h has =
      let some = h (ap (λ x. has_link plan (link x n)) (sym g.id) ∙ has) in
      some_same (identity_to k.outs n) (identity_to m.outs n) (g.outs n some) some

  pub all_later_led : (m k : NodeName) (ns : List NodeId) → Grows m k → LeadsToAll plan m ns → LeadsToAll plan k ns
  all_later_led m k ns g h = each_map (LeadsTo plan m) (LeadsTo plan k) (λ n l. leads_later m k n g l) ns h

  -- those of the first nodes that had their links have them after more were made
  pub first_led : (xs ys : List NodeName) (i : ℕ) (ns : List NodeId) → Pairwise Grows xs ys → Each (λ m. LeadsToAll plan m ns) (take i xs) → Each (λ m. LeadsToAll plan m ns) (take i ys)
  first_led [] [] zero ns g h = tt
  first_led [] [] (suc i) ns g h = tt
  first_led [] (y ∷ ys) i ns g h = absurd g
  first_led (x ∷ xs) [] i ns g h = absurd g
  first_led (x ∷ xs) (y ∷ ys) zero ns g h = tt
  first_led (x ∷ xs) (y ∷ ys) (suc i) ns g h = (all_later_led x y ns g.0 h.0, first_led xs ys i ns g.1 h.1)

-- what stands at a place before it grew
pub at_before : (xs ys : List NodeName) (i : ℕ) (k : NodeName) → Pairwise Grows xs ys → slice_get ys i ≡ Some k → (m : NodeName) × (slice_get xs i ≡ Some m) × Grows m k
at_before [] [] i k g e = let z : ⊥ = cc e in absurd z
at_before [] (y ∷ ys) i k g e = absurd g
at_before (x ∷ xs) [] i k g e = absurd g
at_before (x ∷ xs) (y ∷ ys) zero k g e = let same : y ≡ k = cc e in (x, refl, subst (Grows x) same g.0)
at_before (x ∷ xs) (y ∷ ys) (suc i) k g e = at_before xs ys i k g.1 e

pub at_after : (xs ys : List NodeName) (i : ℕ) (n : NodeId) → Pairwise Grows xs ys → slice_get (ids_of xs) i ≡ Some n → (k : NodeName) × (slice_get ys i ≡ Some k) × (k.id ≡ n)
at_after [] [] i n g e = let z : ⊥ = cc e in absurd z
at_after [] (y ∷ ys) i n g e = absurd g
at_after (x ∷ xs) [] i n g e = absurd g
at_after (x ∷ xs) (y ∷ ys) zero n g e = let same : x.id ≡ n = cc e in (y, refl, g.0.id ∙ same)
at_after (x ∷ xs) (y ∷ ys) (suc i) n g e = at_after xs ys i n g.1 e

pub many_ids : (xs : List NodeName) → length (ids_of xs) ≡ length xs
many_ids [] = refl
many_ids (x ∷ xs) = let e = many_ids xs in omega arith

-- a node has no link to itself
same_level : (n : ℕ) → (n == n + 1) ≡ false
same_level n = go (n == n + 1) refl
  where
    go : (b : Bool) → (n == n + 1) ≡ b → b ≡ false
    go true e = let z = eqb-true n (n + 1) e in absurd (omega arith)
    go false e = refl

pub none_to_itself : (plan : PlanView) (n : NodeId) → has_link plan (link n n) ≡ false
none_to_itself plan n = go (has_link plan (link n n)) refl
  where
    no : (h : Bool) → ((h && h) && false) ≡ true → ⊥
    no true e = true≢false (sym e)
    no false e = true≢false (sym e)

    none : (m : NodeId) → has_link plan (link m m) ≡ true → ⊥
    none node.Ingress e = true≢false (sym e)
    none (node.Replica s p A) e = let f = same_level s in no (has_pair plan s p) (simp (f, nat_self) at e)
    none (node.Replica s p B) e = let f = same_level s in no (has_pair plan s p) (simp (f, nat_self) at e)
    none (node.Control s p) e = no (has_pair plan s p) e
    none node.Egress e = true≢false (sym e)

    go : (b : Bool) → has_link plan (link n n) ≡ b → b ≡ false
    go true e = absurd (none n e)
    go false e = refl

pub link_differs : (plan : PlanView) (m n : NodeId) → has_link plan (link m n) ≡ true → is_node m n ≡ false
link_differs plan m n h = go (is_node m n) refl
  where
    go : (b : Bool) → is_node m n ≡ b → b ≡ false
    go true e = let same = is_node-true m n e in let z : true ≡ false = sym h ∙ (ap (λ k. has_link plan (link k n)) same ∙ none_to_itself plan n) in absurd (true≢false z)
    go false e = refl

-- ---- one call, as code makes it

pub any_default : (ms : List NodeName) (i : ℕ) (d e : NodeName) → i < length ms → get_or ms i d ≡ get_or ms i e
any_default [] i d e lt = absurd (omega arith)
any_default (m ∷ ms) zero d e lt = refl
any_default (m ∷ ms) (suc i) d e lt = any_default ms i d e (omega arith)

at_index : (ms : List NodeName) (i : ℕ) (d m : NodeName) → slice_get ms i ≡ Some m → get_or ms i d ≡ m
at_index [] i d m e = let z : ⊥ = cc e in absurd z
at_index (x ∷ ms) zero d m e = let same : x ≡ m = cc e in same
at_index (x ∷ ms) (suc i) d m e = at_index ms i d m e

-- where the plan has no link, or the link is there, nothing is to be made
pub led_already : (plan : PlanView) (ms : List NodeName) (i j : ℕ) (d1 d2 d3 : NodeName) (from to : NodeId) → i < length ms → from ≡ (get_or ms i d1).id → to ≡ (get_or ms j d2).id →
    ((has_link plan (link from to) ≡ false) ⊎ (is_some (identity_to (get_or ms i d3).outs to) ≡ true)) →
    (m k : NodeName) → slice_get ms i ≡ Some m → slice_get ms j ≡ Some k → LeadsTo plan m k.id
led_already plan ms i j d1 d2 d3 from to lt f t why m k at_m at_k has =
    let is_m : (get_or ms i d1).id ≡ m.id = ap (λ (x : NodeName). x.id) (at_index ms i d1 m at_m) in
    let is_k : (get_or ms j d2).id ≡ k.id = ap (λ (x : NodeName). x.id) (at_index ms j d2 k at_k) in
    let same : has_link plan (link from to) ≡ has_link plan (link m.id k.id) = λ p. has_link plan (link ((f ∙ is_m) p) ((t ∙ is_k) p)) in
    ⊎_elim (λ (no : has_link plan (link from to) ≡ false). absurd (true≢false (sym has ∙ (sym same ∙ no))))
    (λ (yes : is_some (identity_to (get_or ms i d3).outs to) ≡ true). let z : is_some (identity_to (get_or ms i d3).outs to) ≡ is_some (identity_to m.outs k.id) = λ p. is_some (identity_to (at_index ms i d3 m at_m p).outs ((t ∙ is_k) p)) in sym z ∙ yes) why

pub record IsConnected (plan : PlanView) (ms : List NodeName) (i j : ℕ) (after : List NodeName) : Type 0 where
  pub grown : Pairwise Grows ms after
  pub linked : AreLinked after after
  pub leads : (m k : NodeName) → slice_get after i ≡ Some m → slice_get after j ≡ Some k → LeadsTo plan m k.id

slice_set : (ms : List NodeName) (i : ℕ) (new : NodeName) → i < length ms → slice_get (set ms i new) i ≡ Some new
slice_set [] i new lt = absurd (omega arith)
slice_set (m ∷ ms) zero new lt = refl
slice_set (m ∷ ms) (suc i) new lt = slice_set ms i new (omega arith)

pub connected : (plan : PlanView) (ms : List NodeName) (i j : ℕ) (d1 d2 d3 d4 d5 : NodeName) (from to : NodeId) (k l : Identity) (sender receiver : NodeName) → i < length ms → j < length ms → AreDistinct ms → AreLinked ms ms →
    from ≡ (get_or ms i d1).id → to ≡ (get_or ms j d2).id → has_link plan (link from to) ≡ true → is_some (identity_to (get_or ms i d3).outs to) ≡ false → k ≡ l →
    sender ≡ record (get_or ms i d4) { outs = (get_or ms i d4).outs ++ (to, k) ∷ [] } →
    receiver ≡ record (get_or (set ms i sender) j d5) { ins = (get_or (set ms i sender) j d5).ins ++ (from, l) ∷ [] } → IsConnected plan ms i j (set (set ms i sender) j receiver)
connected plan ms i j d1 d2 d3 d4 d5 from to k l sender receiver i_in j_in apart linked f t has none same sends receives =
    let to_is : to ≡ (get_or ms j d1).id = t ∙ ap (λ (x : NodeName). x.id) (any_default ms j d2 d1 j_in) in
    let zs = set ms i sender in
    let j_later : j < length zs = omega (arith, length_set ms i sender) in
    let sends_1 : sender ≡ record (get_or ms i d1) { outs = (get_or ms i d1).outs ++ ((get_or ms j d1).id, k) ∷ [] } =
    sends ∙ (λ p. record (any_default ms i d4 d1 i_in p) { outs = (any_default ms i d4 d1 i_in p).outs ++ (to_is p, k) ∷ [] }) in
    let receives_1 : receiver ≡ record (get_or zs j d1) { ins = (get_or zs j d1).ins ++ ((get_or ms i d1).id, k) ∷ [] } =
    receives ∙ (λ p. record (any_default zs j d5 d1 j_later p) { ins = (any_default zs j d5 d1 j_later p).ins ++ (f p, sym same p) ∷ [] }) in
    let none_1 : is_some (identity_to (get_or ms i d1).outs (get_or ms j d1).id) ≡ false = sym (λ p. is_some (identity_to (any_default ms i d3 d1 i_in p).outs (to_is p))) ∙ none in
    let other : is_node (get_or ms i d1).id (get_or ms j d1).id ≡ false = sym (λ p. is_node (f p) (to_is p)) ∙ link_differs plan from to has in
    let g = grown ms i j d1 k i_in j_in apart linked none_1 other sender receiver sends_1 receives_1 in
    let first = one_grows ms i sender d1 (subst (Grows (get_or ms i d1)) (sym sends_1) (record { id = refl; tapped = refl; outs = λ n h. identity_more (get_or ms i d1).outs ((get_or ms j d1).id, k) n h })) in
    let second = one_grows zs j receiver d1 (subst (Grows (get_or zs j d1)) (sym receives_1) (record { id = refl; tapped = refl; outs = λ n h. refl })) in
    record {
      grown = g;
      linked = still_linked ms i j d1 k i_in j_in apart linked none_1 other sender receiver sends_1 receives_1;
      leads = λ m n at_m at_n h.
          let before = at_before zs (set zs j receiver) i m second at_m in
          let is_sender : sender ≡ before.0 = let e : Some sender ≡ Some before.0 = sym (slice_set ms i sender i_in) ∙ before.1 in cc in
          let its = at_before ms (set zs j receiver) j n g at_n in
          let n_is : n.id ≡ (get_or ms j d1).id = its.2.id ∙ ap (λ (x : NodeName). x.id) (sym (at_index ms j d1 its.0 its.1)) in
          let has_it : identity_to sender.outs (get_or ms j d1).id ≡ Some k = ap (λ (x : NodeName). identity_to x.outs (get_or ms j d1).id) sends_1 ∙ identity_new (get_or ms i d1).outs (get_or ms j d1).id k none_1 in
          let at_n_id : identity_to before.0.outs n.id ≡ Some k = sym (λ p. identity_to (is_sender p).outs (sym n_is p)) ∙ has_it in
          let some : IsSome (identity_to before.0.outs n.id) = ap is_some at_n_id in
          some_same (identity_to m.outs n.id) (identity_to before.0.outs n.id) (before.2.outs n.id some) some;
    }
