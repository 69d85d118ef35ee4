-- What was emitted, after packets were sent.
use Rattle.std.proofs.Common.{◌≡◌, ◌≤◌, ◌<◌, ◌||◌, ◌+◌, ◌-◌, ◌*◌, ℕ, zero, suc, Bool, true, false, List, [], ◌∷◌, ◌++◌, length, get_or, set, take, drop, refl, sym, ap, ◌∙◌, arith, append_assoc, append-nil, true≢false}
use Rattle.std.specs.Prelude.{None, Some, if◌then◌else◌, slice_get}
use Rattle.run_node.specs.FirstLinks.{IsFirstTo, identity_to, receivers}
use Rattle.tuple_edge.specs.declared.node.NodeId.{NodeId}
use Rattle.tuple_edge.specs.declared.packet.Body.{Body}
use Rattle.tuple_edge.specs.declared.packet.Packet.{Packet}
use Rattle.pair_machine.specs.Courses.{packets_to}
use Rattle.pair_machine.specs.Lists.{Each}
use Rattle.pair_machine.specs.Numbers.{is_node}
use Rattle.pair_machine.proofs.Names.{is_node-true, node_self}
use Rattle.run_node.specs.Ends.{OutEndView, OutLink, emitted_to, leads_to, links_of}
use Rattle.run_node.specs.NodeView.{out_names}
use Rattle.run_node.specs.Sends.{with_all_sent, with_sent, with_steps_sent}
use Rattle.node_tasks.specs.Steps.{pieces}
use Rattle.run_node.proofs.Places.{get_there}

abbrev one_if : Bool → Packet → List Packet
one_if true p = p ∷ []
one_if false p = []

not_both : (b : Bool) → b ≡ true → b ≡ false → ⊥
not_both b t f = true≢false (sym t ∙ f)

emitted-with_sent : (to n : NodeId) (p : Packet) (ls : List OutLink) → leads_to ls to ≡ true → emitted_to (with_sent to p ls) n ≡ emitted_to ls n ++ one_if (is_node to n) p
emitted-with_sent to n p [] h = cc
emitted-with_sent to n p (l ∷ ls) h = go (is_node l.to to) refl (is_node to n) refl (is_node l.to n) refl h (emitted-with_sent to n p ls)
  where
    first : (d : Bool) → is_node l.to n ≡ d → emitted_to ((record l { emitted = l.emitted ++ p ∷ [] }) ∷ ls) n ≡ (if d then l.emitted ++ p ∷ [] else emitted_to ls n)
    first d e = ap (λ x. if x then l.emitted ++ p ∷ [] else emitted_to ls n) e

    later : (d : Bool) → is_node l.to n ≡ d → emitted_to (l ∷ with_sent to p ls) n ≡ (if d then l.emitted else emitted_to (with_sent to p ls) n)
    later d e = ap (λ x. if x then l.emitted else emitted_to (with_sent to p ls) n) e

    same : is_node l.to to ≡ true → (c d : Bool) → is_node to n ≡ c → is_node l.to n ≡ d → c ≡ d
    same b c d ec ed = sym ec ∙ (ap (λ k. is_node k n) (sym (is_node-true l.to to b)) ∙ ed)

    go : (b : Bool) → is_node l.to to ≡ b → (c : Bool) → is_node to n ≡ c → (d : Bool) → is_node l.to n ≡ d → (b || leads_to ls to) ≡ true →
        (leads_to ls to ≡ true → emitted_to (with_sent to p ls) n ≡ emitted_to ls n ++ one_if (is_node to n) p) →
        emitted_to (if b then (record l { emitted = l.emitted ++ p ∷ [] }) ∷ ls else l ∷ with_sent to p ls) n ≡ (if d then l.emitted else emitted_to ls n) ++ one_if c p
    go true eb true ec true ed h old = first true ed
    go true eb false ec false ed h old = first false ed ∙ sym (append-nil (emitted_to ls n))
    go true eb true ec false ed h old = absurd (true≢false (same eb true false ec ed))
    go true eb false ec true ed h old = absurd (true≢false (sym (same eb false true ec ed)))
    go false eb c ec false ed h old = later false ed ∙ (old h ∙ ap (λ x. emitted_to ls n ++ one_if x p) ec)
    go false eb false ec true ed h old = later true ed ∙ sym (append-nil l.emitted)
    go false eb true ec true ed h old =
        let to_n = is_node-true to n ec in
        let l_n = is_node-true l.to n ed in
        let yes : is_node l.to to ≡ true = ap (λ k. is_node k to) (l_n ∙ sym to_n) ∙ node_self to in
        absurd (not_both (is_node l.to to) yes eb)

leads-with_sent : (to n : NodeId) (p : Packet) (ls : List OutLink) → leads_to (with_sent to p ls) n ≡ leads_to ls n
leads-with_sent to n p [] = refl
leads-with_sent to n p (l ∷ ls) = go (is_node l.to to) (leads-with_sent to n p ls)
  where
    go : (b : Bool) → leads_to (with_sent to p ls) n ≡ leads_to ls n → leads_to (if b then (record l { emitted = l.emitted ++ p ∷ [] }) ∷ ls else l ∷ with_sent to p ls) n ≡ (is_node l.to n || leads_to ls n)
    go true old = refl
    go false old = ap (λ x. is_node l.to n || x) old

names-with_sent : (to : NodeId) (p : Packet) (ls : List OutLink) → out_names (with_sent to p ls) ≡ out_names ls
names-with_sent to p [] = refl
names-with_sent to p (l ∷ ls) = go (is_node l.to to) (names-with_sent to p ls)
  where
    go : (b : Bool) → out_names (with_sent to p ls) ≡ out_names ls → out_names (if b then (record l { emitted = l.emitted ++ p ∷ [] }) ∷ ls else l ∷ with_sent to p ls) ≡ (l.to, l.identity) ∷ out_names ls
    go true old = refl
    go false old = ap (λ x. (l.to, l.identity) ∷ x) old

pub receivers-with_sent : (to : NodeId) (p : Packet) (ls : List OutLink) → receivers (with_sent to p ls) ≡ receivers ls
receivers-with_sent to p [] = refl
receivers-with_sent to p (l ∷ ls) = go (is_node l.to to) (receivers-with_sent to p ls)
  where
    go : (b : Bool) → receivers (with_sent to p ls) ≡ receivers ls → receivers (if b then (record l { emitted = l.emitted ++ p ∷ [] }) ∷ ls else l ∷ with_sent to p ls) ≡ l.to ∷ receivers ls
    go true old = refl
    go false old = ap (λ x. l.to ∷ x) old

-- ---- all packets of an event

pub receivers-with_all_sent : (clock : ℕ) (xs : List (NodeId × Body)) (ls : List OutLink) → receivers (with_all_sent clock xs ls) ≡ receivers ls
receivers-with_all_sent clock [] ls = refl
receivers-with_all_sent clock (x ∷ xs) ls = receivers-with_all_sent clock xs (with_sent x.0 (record { at = clock; body = x.1 }) ls) ∙ receivers-with_sent x.0 (record { at = clock; body = x.1 }) ls

pub leads-with_all_sent : (clock : ℕ) (n : NodeId) (xs : List (NodeId × Body)) (ls : List OutLink) → leads_to (with_all_sent clock xs ls) n ≡ leads_to ls n
leads-with_all_sent clock n [] ls = refl
leads-with_all_sent clock n (x ∷ xs) ls = leads-with_all_sent clock n xs (with_sent x.0 (record { at = clock; body = x.1 }) ls) ∙ leads-with_sent x.0 n (record { at = clock; body = x.1 }) ls

pub names-with_all_sent : (clock : ℕ) (xs : List (NodeId × Body)) (ls : List OutLink) → out_names (with_all_sent clock xs ls) ≡ out_names ls
names-with_all_sent clock [] ls = refl
names-with_all_sent clock (x ∷ xs) ls = names-with_all_sent clock xs (with_sent x.0 (record { at = clock; body = x.1 }) ls) ∙ names-with_sent x.0 (record { at = clock; body = x.1 }) ls

pub emitted-with_all_sent : (clock : ℕ) (n : NodeId) (xs : List (NodeId × Body)) (ls : List OutLink) → Each (λ x. leads_to ls x.0 ≡ true) xs →
    emitted_to (with_all_sent clock xs ls) n ≡ emitted_to ls n ++ packets_to clock n xs
emitted-with_all_sent clock n [] ls h = sym (append-nil (emitted_to ls n))
emitted-with_all_sent clock n (x ∷ xs) ls h =
    let p : Packet = record { at = clock; body = x.1 } in
    let later : Each (λ (y : NodeId × Body). leads_to (with_sent x.0 p ls) y.0 ≡ true) xs = still xs h.1 in
    emitted-with_all_sent clock n xs (with_sent x.0 p ls) later
    ∙ (ap (λ l. l ++ packets_to clock n xs) (emitted-with_sent x.0 n p ls h.0) ∙ (append_assoc (emitted_to ls n) (one_if (is_node x.0 n) p) (packets_to clock n xs) ∙ ap (λ l. emitted_to ls n ++ l) (go (is_node x.0 n))))
  where
    still : (ys : List (NodeId × Body)) → Each (λ (y : NodeId × Body). leads_to ls y.0 ≡ true) ys → Each (λ (y : NodeId × Body). leads_to (with_sent x.0 (record { at = clock; body = x.1 }) ls) y.0 ≡ true) ys
    still [] k = tt
    still (y ∷ ys) k = (leads-with_sent x.0 y.0 (record { at = clock; body = x.1 }) ls ∙ k.0, still ys k.1)

    go : (b : Bool) → one_if b (record { at = clock; body = x.1 }) ++ packets_to clock n xs ≡ (if b then record { at = clock; body = x.1 } ∷ packets_to clock n xs else packets_to clock n xs)
    go true = refl
    go false = refl

-- ---- all packets of steps

pub receivers-with_steps_sent : (clock : ℕ) (sends : List (List (NodeId × Body))) (ls : List OutLink) → receivers (with_steps_sent clock sends ls) ≡ receivers ls
receivers-with_steps_sent clock [] ls = refl
receivers-with_steps_sent clock (xs ∷ later) ls = receivers-with_steps_sent (clock + 1) later (with_all_sent (clock + 1) xs ls) ∙ receivers-with_all_sent (clock + 1) xs ls

pub names-with_steps_sent : (clock : ℕ) (sends : List (List (NodeId × Body))) (ls : List OutLink) → out_names (with_steps_sent clock sends ls) ≡ out_names ls
names-with_steps_sent clock [] ls = refl
names-with_steps_sent clock (xs ∷ later) ls = names-with_steps_sent (clock + 1) later (with_all_sent (clock + 1) xs ls) ∙ names-with_all_sent (clock + 1) xs ls

-- steps without packets
pub none-with_steps_sent : (clock count each : ℕ) (ls : List OutLink) → with_steps_sent clock (pieces count each []) ls ≡ ls
none-with_steps_sent clock zero each ls = refl
none-with_steps_sent clock (suc count) zero ls = none-with_steps_sent (clock + 1) count zero ls
none-with_steps_sent clock (suc count) (suc each) ls = none-with_steps_sent (clock + 1) count (suc each) ls

-- what is left of the packets of steps was emitted: so many packets of one step, with its clock, and then those of more steps
abbrev pub with_rest_sent : (clock left more each : ℕ) → List (NodeId × Body) → List OutLink → List OutLink
with_rest_sent clock left more each xs ls = with_steps_sent clock (pieces more each (drop left xs)) (with_all_sent clock (take left xs) ls)

pub none-with_rest_sent : (clock left more each : ℕ) (ls : List OutLink) → with_rest_sent clock left more each [] ls ≡ ls
none-with_rest_sent clock zero more each ls = none-with_steps_sent clock more each ls
none-with_rest_sent clock (suc left) more each ls = none-with_steps_sent clock more each ls

-- one packet, and then what is left
pub one-with_rest_sent : (clock left more each : ℕ) (x : NodeId × Body) (xs : List (NodeId × Body)) (ls : List OutLink) → 0 < left →
    with_rest_sent clock (left - 1) more each xs (with_sent x.0 (record { at = clock; body = x.1 }) ls) ≡ with_rest_sent clock left more each (x ∷ xs) ls
one-with_rest_sent clock zero more each x xs ls some = absurd (omega (arith, some))
one-with_rest_sent clock (suc left) more each x xs ls some =
    let one : suc left - 1 ≡ left = omega arith in
    ap (λ n. with_rest_sent clock n more each xs (with_sent x.0 (record { at = clock; body = x.1 }) ls)) one

-- Of packets that are left, the next one is sent with this clock, one of so many of its step, and what is left to be sent is the same as
-- it was with the clock and the packets of a step before.
pub record HasNext (last each rest clock_before left_before clock left : ℕ) : Type 0 where
  pub clocks : clock ≤ last
  pub some : 0 < left
  pub whole : rest ≡ left + (last - clock) * each
  pub sent : (xs : List (NodeId × Body)) (ls : List OutLink) → with_rest_sent clock left (last - clock) each xs ls ≡ with_rest_sent clock_before left_before (last - clock_before) each xs ls

-- where none of a step is left, a further one begins
pub step_begins : (last each rest clock : ℕ) → 0 < rest → rest ≡ (last - clock) * each → HasNext last each rest clock 0 (clock + 1) each
step_begins last each rest clock some whole = go (last - clock) refl each whole
  where
    go : (more : ℕ) → last - clock ≡ more → (each : ℕ) → rest ≡ more * each → HasNext last each rest clock 0 (clock + 1) each
    go zero e each w = absurd (omega (arith, some, w))
    go (suc more) e zero w = absurd (omega (arith, some, w))
    go (suc more) e (suc each) w =
        let fewer : last - (clock + 1) ≡ more = omega (arith, e) in
        let first : suc more * suc each ≡ suc each + more * suc each = omega arith in
        record {
          clocks = omega (arith, e);
          some = omega arith;
          whole = w ∙ first ∙ ap (λ m. suc each + m * suc each) (sym fewer);
          sent = λ xs ls. ap (λ m. with_rest_sent (clock + 1) (suc each) m (suc each) xs ls) fewer ∙ ap (λ m. with_rest_sent clock 0 m (suc each) xs ls) (sym e);
        }

-- ---- one packet, by the place of its link

pub sent_nowhere : (to : NodeId) (p : Packet) (ls : List OutLink) → identity_to (out_names ls) to ≡ None → with_sent to p ls ≡ ls
sent_nowhere to p [] h = refl
sent_nowhere to p (l ∷ ls) h = go (is_node l.to to) h (sent_nowhere to p ls)
  where
    go : (b : Bool) → (if b then Some l.identity else identity_to (out_names ls) to) ≡ None → (identity_to (out_names ls) to ≡ None → with_sent to p ls ≡ ls)
        → (if b then (record l { emitted = l.emitted ++ p ∷ [] }) ∷ ls else l ∷ with_sent to p ls) ≡ l ∷ ls
    go true none rest = let never : ⊥ = cc none in absurd never
    go false none rest = ap (λ ks. l ∷ ks) (rest none)

pub sent_at_place : (to : NodeId) (p : Packet) (es : List OutEndView) (i : ℕ) (d new : OutEndView) → i < length es →
    Each (λ e. is_node e.link.to to ≡ false) (take i es) → is_node (get_or es i d).link.to to ≡ true → new.link ≡ record (get_or es i d).link { emitted = (get_or es i d).link.emitted ++ p ∷ [] } →
    links_of (set es i new) ≡ with_sent to p (links_of es)
sent_at_place to p [] i d new lt none leads e = absurd (omega arith)
sent_at_place to p (x ∷ es) zero d new lt none leads e = simp leads (ap (λ l. l ∷ links_of es) e)
sent_at_place to p (x ∷ es) (suc i) d new lt none leads e =
    let n = none.0 in simp n (ap (λ l. x.link ∷ l) (sent_at_place to p es i d new (omega arith) none.1 leads e))

-- ---- the first link to a node

pub first_to : (to : NodeId) (es : List OutEndView) (i : ℕ) (d : OutEndView) → i < length es → Each (λ e. is_node e.link.to to ≡ false) (take i es) → is_node (get_or es i d).link.to to ≡ true → IsFirstTo es to i
first_to to es i d lt none leads = record {
  within = lt;
  leads = λ e at. let there = get_there es i d lt in let same : get_or es i d ≡ e = cc in ap (λ (k : OutEndView). is_node k.link.to to) (sym same) ∙ leads;
  before = none;
  identity = λ e at. (both es i e lt none leads at).0;
  emitted = λ e at. (both es i e lt none leads at).1;
}
  where
    both : (es : List OutEndView) (i : ℕ) (e : OutEndView) → i < length es → Each (λ e. is_node e.link.to to ≡ false) (take i es) → is_node (get_or es i d).link.to to ≡ true → slice_get es i ≡ Some e →
        (identity_to (out_names (links_of es)) to ≡ Some e.link.identity) × (emitted_to (links_of es) to ≡ e.link.emitted)
    both [] i e lt none leads at = absurd (omega arith)
    both (x ∷ es) zero e lt none leads at = let same : x ≡ e = cc at in
        let here : is_node x.link.to to ≡ true = leads in (simp here (ap (λ (k : OutEndView). Some k.link.identity) same), simp here (ap (λ (k : OutEndView). k.link.emitted) same))
    both (x ∷ es) (suc i) e lt none leads at = let n = none.0 in let r = both es i e (omega arith) none.1 leads at in (simp n r.0, simp n r.1)

pub none_to : (to : NodeId) (es : List OutEndView) → Each (λ e. is_node e.link.to to ≡ false) es → identity_to (out_names (links_of es)) to ≡ None
none_to to [] h = refl
none_to to (e ∷ es) h = let n = h.0 in simp n (none_to to es h.1)
