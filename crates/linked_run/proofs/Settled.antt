-- What nodes that fit together show of each other's links.
use Rattle.std.proofs.Common.{◌≡◌, ◌<◌, ℕ, zero, suc, Bool, true, false, List, [], ◌∷◌, Option, None, Some, length, get_or, take, drop, refl, sym, ap, ◌∙◌, subst, arith, true≢false}
use Rattle.std.specs.Prelude.{if◌then◌else◌, map, slice_get}
use Rattle.flux_link.specs.Arrivals.{WasSent}
use Rattle.flux_link.specs.Identity.{Identity}
use Rattle.tuple_edge.specs.declared.node.NodeId.{NodeId}
use Rattle.pair_machine.specs.Lists.{Each}
use Rattle.pair_machine.specs.Numbers.{is_node}
use Rattle.pair_machine.proofs.Names.{is_node-true, node_self}
use Rattle.run_node.specs.Ends.{InLink, emitted_to}
use Rattle.linked_run.specs.Linked.{AreLinked, IsLinkFrom, name_at}
use Rattle.run_node.specs.FirstLinks.{identity_to}
use Rattle.run_node.specs.NodeView.{NodeName, NodeView, in_names, name_of, out_names}
use Rattle.linked_run.specs.Runs.{IsFirstWith, IsSettled, view_at}

pub some_same : {X : Type 0} (o : Option X) (x y : X) → o ≡ Some x → o ≡ Some y → x ≡ y
some_same o x y e f = let z : Some x ≡ Some y = sym e ∙ f in cc

-- ---- places of lists

module _ {X : Type 0} where
  pub each_get : (P : X → Type 0) (xs : List X) (i : ℕ) (x : X) → Each P xs → slice_get xs i ≡ Some x → P x
  each_get P [] i x h e = cc
  each_get P (y ∷ ys) zero x h e = let same : y ≡ x = cc e in subst P same h.0
  each_get P (y ∷ ys) (suc i) x h e = each_get P ys i x h.1 e

  pub get_within : (xs : List X) (i : ℕ) (x : X) → slice_get xs i ≡ Some x → i < length xs
  get_within [] i x e = cc
  get_within (y ∷ ys) zero x e = omega arith
  get_within (y ∷ ys) (suc i) x e = let lt = get_within ys i x e in omega arith

  pub at_front : (xs left : List X) (n i : ℕ) (d : X) → left ≡ take n xs → i < n → i < length xs → slice_get xs i ≡ Some (get_or left i d)
  at_front xs left n i d e lt within = subst (λ l. slice_get xs i ≡ Some (get_or l i d)) (sym e) (by xs n i lt within)
    where
      by : (xs : List X) (n i : ℕ) → i < n → i < length xs → slice_get xs i ≡ Some (get_or (take n xs) i d)
      by [] n i lt within = absurd (omega arith)
      by (x ∷ xs) zero i lt within = absurd (omega arith)
      by (x ∷ xs) (suc n) zero lt within = refl
      by (x ∷ xs) (suc n) (suc i) lt within = by xs n i (omega arith) (omega arith)

  pub at_back : (xs right : List X) (n : ℕ) (d : X) → right ≡ drop n xs → n < length xs → slice_get xs n ≡ Some (get_or right 0 d)
  at_back xs right n d e within = subst (λ l. slice_get xs n ≡ Some (get_or l 0 d)) (sym e) (by xs n within)
    where
      by : (xs : List X) (n : ℕ) → n < length xs → slice_get xs n ≡ Some (get_or (drop n xs) 0 d)
      by [] n within = absurd (omega arith)
      by (x ∷ xs) zero within = refl
      by (x ∷ xs) (suc n) within = by xs n (omega arith)

-- ---- nodes by their ids

each_in : (P : (NodeId × Identity) → Type 0) (ls : List InLink) (q : ℕ) (l : InLink) → Each P (in_names ls) → slice_get ls q ≡ Some l → P (l.from, l.identity)
each_in P [] q l h e = cc
each_in P (k ∷ ls) zero l h e = let same : k ≡ l = cc e in subst (λ (x : InLink). P (x.from, x.identity)) same h.0
each_in P (k ∷ ls) (suc q) l h e = each_in P ls q l h.1 e

module _ {A T : Type 0} (id : A → NodeId) where
  pub first_with : (n : NodeId) (vs : List (NodeView A T)) (i : ℕ) (d : NodeView A T) → i < length vs → Each (λ v. is_node (id v.state) n ≡ false) (take i vs) → is_node (id (get_or vs i d).state) n ≡ true → IsFirstWith id vs n i
  first_with n vs i d lt none has = record { within = lt; found = λ v at. go vs i v lt none has at }
    where
      go : (vs : List (NodeView A T)) (i : ℕ) (v : NodeView A T) → i < length vs → Each (λ v. is_node (id v.state) n ≡ false) (take i vs) → is_node (id (get_or vs i d).state) n ≡ true → slice_get vs i ≡ Some v → view_at id vs n ≡ Some v
      go [] i v lt none has at = cc
      go (w ∷ vs) zero v lt none has at = let here : is_node (id w.state) n ≡ true = has in let same : w ≡ v = cc at in simp here (ap Some same)
      go (w ∷ vs) (suc i) v lt none has at = let e = none.0 in simp e (go vs i v (omega arith) none.1 has at)

  pub none_with : (n : NodeId) (vs : List (NodeView A T)) → Each (λ v. is_node (id v.state) n ≡ false) vs → view_at id vs n ≡ None
  none_with n [] h = refl
  none_with n (v ∷ vs) h = let e = h.0 in simp e (none_with n vs h.1)

  abbrev named : Option (NodeView A T) → Option NodeName
  named None = None
  named (Some v) = Some (name_of id v)

  name_there : (vs : List (NodeView A T)) (n : NodeId) → name_at (map (name_of id) vs) n ≡ named (view_at id vs n)
  name_there [] n = refl
  name_there (v ∷ vs) n = go (is_node (id v.state) n) (name_there vs n)
    where
      go : (b : Bool) → name_at (map (name_of id) vs) n ≡ named (view_at id vs n) → (if b then Some (name_of id v) else name_at (map (name_of id) vs) n) ≡ named (if b then Some v else view_at id vs n)
      go true old = refl
      go false old = old

  -- a fact on each name, of the view at a place
  each_named : (P : NodeName → Type 0) (vs : List (NodeView A T)) (i : ℕ) (v : NodeView A T) → Each P (map (name_of id) vs) → slice_get vs i ≡ Some v → P (name_of id v)
  each_named P [] i v h e = cc
  each_named P (w ∷ vs) zero v h e = let same : w ≡ v = cc e in subst (λ (x : NodeView A T). P (name_of id x)) same h.0
  each_named P (w ∷ vs) (suc i) v h e = each_named P vs i v h.1 e

  module _ (vs : List (NodeView A T)) (linked : AreLinked (map (name_of id) vs) (map (name_of id) vs)) (to inlet : ℕ) (v : NodeView A T) (l : InLink) (at : slice_get vs to ≡ Some v) (in_at : slice_get v.ins inlet ≡ Some l) where
    comes : IsLinkFrom (map (name_of id) vs) (id v.state) l.from l.identity
    comes = each_in (λ k. IsLinkFrom (map (name_of id) vs) (id v.state) k.0 k.1) v.ins inlet l
        (each_named (λ n. Each (λ k. IsLinkFrom (map (name_of id) vs) n.id k.0 k.1) n.ins) vs to v linked at) in_at

    -- its sender is there
    pub sender_there : view_at id vs l.from ≡ None → ⊥
    sender_there none =
        let k = comes in
        let e : None ≡ Some k.sender = sym (name_there vs l.from ∙ ap named none) ∙ k.there in cc

    module _ (from : ℕ) (first : IsFirstWith id vs l.from from) (w : NodeView A T) (w_at : slice_get vs from ≡ Some w) where
      -- and its link to this node is this one
      pub sender_links : identity_to (out_names w.outs) (id v.state) ≡ Some l.identity
      sender_links =
          let k = comes in
          let is : name_of id w ≡ k.sender = some_same (name_at (map (name_of id) vs) l.from) (name_of id w) k.sender (name_there vs l.from ∙ ap named (first.found w w_at)) k.there in
          ap (λ (n : NodeName). identity_to n.outs (id v.state)) is ∙ k.same

      pub settled_by : Each (WasSent (emitted_to w.outs (id v.state))) l.given → IsSettled id vs (id v.state) l
      settled_by h = record { sender = w; there = first.found w w_at; sent = h }

      -- it is another node
      pub sender_other : from ≡ to → ⊥
      sender_other e =
          let same : w ≡ v = some_same (slice_get vs to) w v (ap (slice_get vs) (sym e) ∙ w_at) at in
          let id_w : id w.state ≡ l.from = has_id vs l.from w (first.found w w_at) in
          let k = comes in
          let yes : is_node l.from (id v.state) ≡ true = ap (λ n. is_node n (id v.state)) (sym id_w ∙ ap (λ (x : NodeView A T). id x.state) same) ∙ node_self (id v.state) in
          true≢false (sym yes ∙ k.other)
        where
          has_id : (us : List (NodeView A T)) (n : NodeId) (u : NodeView A T) → view_at id us n ≡ Some u → id u.state ≡ n
          has_id [] n u e = cc
          has_id (x ∷ us) n u e = go (is_node (id x.state) n) (is_node-true (id x.state) n) (λ k. has_id us n u k) e
            where
              go : (b : Bool) → (b ≡ true → id x.state ≡ n) → (view_at id us n ≡ Some u → id u.state ≡ n) → (if b then Some x else view_at id us n) ≡ Some u → id u.state ≡ n
              go true is more e = let same : x ≡ u = cc e in ap (λ (y : NodeView A T). id y.state) (sym same) ∙ is refl
              go false is more e = more e
