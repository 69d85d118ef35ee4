-- There is a log of given histories; and where all histories are true, a node stands for its numbers in the state that their log reaches.
use Rattle.std.proofs.Common.{◌≡◌, ◌<◌, ◌≤◌, inl, inr, Bool, true, false, List, [], ◌∷◌, refl, sym, ap, ◌∙◌, subst, arith}
use Rattle.std.specs.Prelude.{◌==◌, if◌then◌else◌, nat_lt}
use Rattle.std.proofs.lemmas.Bool.{eqb-true, ltb-false, ltb-true}
use Rattle.std.specs.Ordering.{is_le}
use Rattle.tuple_edge.specs.Node.{node_cmp}
use Rattle.tuple_edge.specs.declared.event.Stamped.{Stamped}
use Rattle.tuple_edge.specs.declared.node.NodeId.{NodeId}
use Rattle.pair_machine.specs.Joint.{AreDistinct, AreRising, ClocksRise, Logged, comes_before, log_of, log_by_clocks, put_history, put_in}
use Rattle.pair_machine.specs.Lists.{Among, Each}
use Rattle.pair_machine.specs.MachineLaws.{LogsAreThere}
use Rattle.pair_machine.specs.Numbers.{is_node}
use Rattle.pair_machine.proofs.Lists.{each_all, each_map}
use Rattle.pair_machine.proofs.Names.{is_node-true, node_self}
use Rattle.pair_machine.proofs.Tests.{if_elim}

-- ---- in the order of clocks

before_clock : (j k : Logged) → comes_before j k ≡ true → j.stamped.clock ≤ k.stamped.clock
before_clock j k e = go (nat_lt j.stamped.clock k.stamped.clock) (ltb-true j.stamped.clock k.stamped.clock) (j.stamped.clock == k.stamped.clock) (eqb-true j.stamped.clock k.stamped.clock) e
  where
    go : (less : Bool) → (less ≡ true → j.stamped.clock < k.stamped.clock) → (same : Bool) → (same ≡ true → j.stamped.clock ≡ k.stamped.clock)
        → (if less then true else if same then is_le (node_cmp j.at k.at) else false) ≡ true → j.stamped.clock ≤ k.stamped.clock
    go true l same s e = let x = l refl in omega arith
    go false l true s e = let x = s refl in omega arith
    go false l false s e = let z : ⊥ = cc e in absurd z

after_clock : (j k : Logged) → comes_before j k ≡ false → k.stamped.clock ≤ j.stamped.clock
after_clock j k e = go (nat_lt j.stamped.clock k.stamped.clock) (ltb-false j.stamped.clock k.stamped.clock) e
  where
    go : (less : Bool) → (less ≡ false → k.stamped.clock ≤ j.stamped.clock)
        → (if less then true else if j.stamped.clock == k.stamped.clock then is_le (node_cmp j.at k.at) else false) ≡ false → k.stamped.clock ≤ j.stamped.clock
    go true l e = let z : ⊥ = cc e in absurd z
    go false l e = l refl

each_put : (P : Logged → Type 0) (j : Logged) (log : List Logged) → P j → Each P log → Each P (put_in j log)
each_put P j [] h old = (h, tt)
each_put P j (k ∷ ks) h old = if_elim (Each P) (comes_before j k) (j ∷ k ∷ ks) (k ∷ put_in j ks) (λ e. (h, old)) (λ e. (old.0, each_put P j ks h old.1))

put_rises : (j : Logged) (log : List Logged) → ClocksRise log → ClocksRise (put_in j log)
put_rises j [] h = (tt, tt)
put_rises j (k ∷ ks) h = if_elim ClocksRise (comes_before j k) (j ∷ k ∷ ks) (k ∷ put_in j ks)
    (λ e. let first = before_clock j k e in
    ((first, each_map (λ (x : Logged). k.stamped.clock ≤ x.stamped.clock) (λ (x : Logged). j.stamped.clock ≤ x.stamped.clock) (λ x l. omega arith) ks h.0), h))
    (λ e. (each_put (λ (x : Logged). k.stamped.clock ≤ x.stamped.clock) j ks (after_clock j k e) h.0, put_rises j ks h.1))

history_rises : (n : NodeId) (hs : List Stamped) (log : List Logged) → ClocksRise log → ClocksRise (put_history n hs log)
history_rises n [] log h = h
history_rises n (x ∷ hs) log h = put_rises (record { at = n; stamped = x }) (put_history n hs log) (history_rises n hs log h)

all_rise : (history : NodeId → List Stamped) (ns : List NodeId) → ClocksRise (log_by_clocks history ns)
all_rise history [] = tt
all_rise history (n ∷ ns) = history_rises n (history n) (log_by_clocks history ns) (all_rise history ns)

-- ---- of each node its history

each_history : (P : Logged → Type 0) (n : NodeId) (hs : List Stamped) (log : List Logged) → Each (λ h. P (record { at = n; stamped = h })) hs → Each P log → Each P (put_history n hs log)
each_history P n [] log new old = old
each_history P n (x ∷ hs) log new old = each_put P (record { at = n; stamped = x }) (put_history n hs log) new.0 (each_history P n hs log new.1 old)

put_elsewhere : (n : NodeId) (j : Logged) (log : List Logged) → is_node j.at n ≡ false → log_of n (put_in j log) ≡ log_of n log
put_elsewhere n j [] e = ap (λ b. if b then j.stamped ∷ [] else []) e
put_elsewhere n j (k ∷ ks) e = if_elim (λ l. log_of n l ≡ log_of n (k ∷ ks)) (comes_before j k) (j ∷ k ∷ ks) (k ∷ put_in j ks)
    (λ z. ap (λ b. if b then j.stamped ∷ log_of n (k ∷ ks) else log_of n (k ∷ ks)) e)
    (λ z. ap (λ x. if is_node k.at n then k.stamped ∷ x else x) (put_elsewhere n j ks e))

-- an entry that is before all others of its node
put_first : (j : Logged) (log : List Logged) → Each (λ k. is_node k.at j.at ≡ true → j.stamped.clock < k.stamped.clock) log → log_of j.at (put_in j log) ≡ j.stamped ∷ log_of j.at log
put_first j [] h = ap (λ b. if b then j.stamped ∷ [] else []) (node_self j.at)
put_first j (k ∷ ks) h = if_elim (λ l. log_of j.at l ≡ j.stamped ∷ log_of j.at (k ∷ ks)) (comes_before j k) (j ∷ k ∷ ks) (k ∷ put_in j ks)
    (λ z. ap (λ b. if b then j.stamped ∷ log_of j.at (k ∷ ks) else log_of j.at (k ∷ ks)) (node_self j.at))
    (λ z. go (is_node k.at j.at) h.0 (after_clock j k z) (put_first j ks h.1))
  where
    go : (c : Bool) → (c ≡ true → j.stamped.clock < k.stamped.clock) → k.stamped.clock ≤ j.stamped.clock → log_of j.at (put_in j ks) ≡ j.stamped ∷ log_of j.at ks
        → (if c then k.stamped ∷ log_of j.at (put_in j ks) else log_of j.at (put_in j ks)) ≡ j.stamped ∷ (if c then k.stamped ∷ log_of j.at ks else log_of j.at ks)
    go true less most old = let x = less refl in let z : ⊥ = omega arith in absurd z
    go false less most old = old

history_elsewhere : (m n : NodeId) (hs : List Stamped) (log : List Logged) → is_node n m ≡ false → log_of m (put_history n hs log) ≡ log_of m log
history_elsewhere m n [] log e = refl
history_elsewhere m n (x ∷ hs) log e = put_elsewhere m (record { at = n; stamped = x }) (put_history n hs log) e ∙ history_elsewhere m n hs log e

abbrev IsAbsent : NodeId → List Logged → Type 0
IsAbsent n log = Each (λ k. is_node k.at n ≡ true → ⊥) log

none_there : (n : NodeId) (log : List Logged) → IsAbsent n log → log_of n log ≡ []
none_there n [] h = refl
none_there n (k ∷ ks) h = go (is_node k.at n) h.0 (none_there n ks h.1)
  where
    go : (c : Bool) → (c ≡ true → ⊥) → log_of n ks ≡ [] → (if c then k.stamped ∷ log_of n ks else log_of n ks) ≡ []
    go true never old = absurd (never refl)
    go false never old = old

history_there : (n : NodeId) (hs : List Stamped) (log : List Logged) → AreRising hs → IsAbsent n log → log_of n (put_history n hs log) ≡ hs
history_there n [] log h never = none_there n log never
history_there n (x ∷ hs) log h never =
    let j : Logged = record { at = n; stamped = x } in
    put_first j (put_history n hs log)
    (each_history (λ k. is_node k.at n ≡ true → x.clock < k.stamped.clock) n hs log
    (each_map (λ (y : Stamped). x.clock < y.clock) (λ (y : Stamped). is_node n n ≡ true → x.clock < y.clock) (λ y l e. l) hs h.0)
    (each_map (λ (k : Logged). is_node k.at n ≡ true → ⊥) (λ (k : Logged). is_node k.at n ≡ true → x.clock < k.stamped.clock) (λ k none e. absurd (none e)) log never))
    ∙ ap (λ ys. x ∷ ys) (history_there n hs log h.1 never)

of_these : (history : NodeId → List Stamped) (ns : List NodeId) → Each (λ k. Among k.at ns) (log_by_clocks history ns)
of_these history [] = tt
of_these history (n ∷ ns) = each_history (λ k. Among k.at (n ∷ ns)) n (history n) (log_by_clocks history ns)
    (each_all (λ (h : Stamped). Among n (n ∷ ns)) (λ h. inl refl) (history n))
    (each_map (λ (k : Logged). Among k.at ns) (λ (k : Logged). Among k.at (n ∷ ns)) (λ k a. inr a) (log_by_clocks history ns) (of_these history ns))

absent : (history : NodeId → List Stamped) (n : NodeId) (ns : List NodeId) → (Among n ns → ⊥) → IsAbsent n (log_by_clocks history ns)
absent history n ns never = each_map (λ (k : Logged). Among k.at ns) (λ (k : Logged). is_node k.at n ≡ true → ⊥)
    (λ k a e. never (subst (λ m. Among m ns) (is_node-true k.at n e) a)) (log_by_clocks history ns) (of_these history ns)

each_whole : (history : NodeId → List Stamped) (ns : List NodeId) → ((n : NodeId) → AreRising (history n)) → AreDistinct ns → (m : NodeId) → ((Among m ns → ⊥) → history m ≡ []) → log_of m (log_by_clocks history ns) ≡ history m
each_whole history [] rising distinct m others = sym (others (λ z. z))
each_whole history (n ∷ ns) rising distinct m others = go (is_node n m) refl (λ e. each_whole history ns rising distinct.1 m (older e))
  where
    older : (is_node n m ≡ false) → (Among m ns → ⊥) → history m ≡ []
    older e never = others by
      where
        by : Among m (n ∷ ns) → ⊥
        by (inl at) = let same : is_node n m ≡ true = subst (λ k. is_node n k ≡ true) (sym at) (node_self n) in let z : ⊥ = cc (e, same) in z
        by (inr a) = never a

    go : (c : Bool) → is_node n m ≡ c → (is_node n m ≡ false → log_of m (log_by_clocks history ns) ≡ history m) → log_of m (put_history n (history n) (log_by_clocks history ns)) ≡ history m
    go true e old = subst (λ k. log_of k (put_history n (history n) (log_by_clocks history ns)) ≡ history k) (is_node-true n m e)
        (history_there n (history n) (log_by_clocks history ns) (rising n) (absent history n ns distinct.0))
    go false e old = history_elsewhere m n (history n) (log_by_clocks history ns) e ∙ old e

pub logs_there : LogsAreThere
logs_there nodes history h = record { in_order = all_rise history nodes; whole = λ m. each_whole history nodes h.rising h.distinct m (h.others m) }
