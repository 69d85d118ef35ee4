-- What is acknowledged, one in-edge after the other: the packets, and the numbers.
use Rattle.std.proofs.Common.{◌≡◌, ◌≢◌, ◌<◌, ◌≤◌, ◌+◌, ◌-◌, ◌++◌, ◌∙◌, ℕ, zero, suc, List, [], ◌∷◌, Option, length, slice_index, max, refl, ap, sym, append_assoc, arith}
use Rattle.std.specs.Prelude.{◌==◌, nat_lt}
use Rattle.std.proofs.lemmas.List.{append-nil}
use Rattle.std.proofs.lemmas.Bool.{eqb-true, eq-eqb, ltb-true, ltb-false}
use Rattle.tuple_edge.specs.declared.node.NodeId.{NodeId}
use Rattle.tuple_edge.specs.declared.node.Which.{Which}
use Rattle.tuple_edge.specs.declared.packet.Body.{Body}
use Rattle.tuple_edge.specs.declared.status.Status.{Status}
use Rattle.tuple_edge.specs.declared.status.Status.TheVariants as status
use Rattle.pair_machine.specs.Consumers.{with_at}
use Rattle.pair_machine.specs.Controllers.{acks, acks_from, least, least_of}
use Rattle.pair_machine.specs.Messages.{Envelope}
use Rattle.pair_machine.specs.Numbers.{Controller, Partition}
use Rattle.pair_machine.proofs.Tests.{if_elim}
use Rattle.pair_control.specs.ControllerView.{ControllerView, WatchedView, by_which, numbers_of, watched_numbers}
use Rattle.pair_control.specs.Packets.{ack_due, body_of, packets_of}
use Rattle.pair_control.specs.Raised.{raised}

-- ---- packets

pub packets_of-append : (xs ys : List Envelope) → packets_of (xs ++ ys) ≡ packets_of xs ++ packets_of ys
packets_of-append [] ys = refl
packets_of-append (x ∷ xs) ys = ap (λ ms. (x.to, body_of x.message) ∷ ms) (packets_of-append xs ys)

-- those of the in-edges from q on
one_more : (edges q : ℕ) (p : Partition) (c : Controller) → q < edges →
    packets_of (acks_from (edges - q) q p c) ≡ packets_of (ack_due p q (c.acked q) (least c q)) ++ packets_of (acks_from (edges - (q + 1)) (q + 1) p c)
one_more edges q p c h =
    let e : edges - q ≡ suc (edges - (q + 1)) = omega arith in
    rw e (packets_of-append (ack_due p q (c.acked q) (least c q)) (acks_from (edges - (q + 1)) (q + 1) p c))

-- what was sent, with what is left to be sent, stays the same
pub sent_more : (edges q : ℕ) (p : Partition) (c : Controller) (start before after : List (NodeId × Body)) → q < edges →
    before ++ packets_of (acks_from (edges - q) q p c) ≡ start ++ packets_of (acks_from edges 0 p c) →
    after ≡ before ++ packets_of (ack_due p q (c.acked q) (least c q)) →
    after ++ packets_of (acks_from (edges - (q + 1)) (q + 1) p c) ≡ start ++ packets_of (acks_from edges 0 p c)
sent_more edges q p c start before after h old e =
    rw e (append_assoc before (packets_of (ack_due p q (c.acked q) (least c q))) (packets_of (acks_from (edges - (q + 1)) (q + 1) p c))
    ∙ ap (λ ms. before ++ ms) (sym (one_more edges q p c h)) ∙ old)

-- where none is due from an in-edge on all is sent
pub sent_all : (edges q : ℕ) (p : Partition) (c : Controller) (start now : List (NodeId × Body)) → acks_from (edges - q) q p c ≡ [] →
    now ++ packets_of (acks_from (edges - q) q p c) ≡ start ++ packets_of (acks_from edges 0 p c) → now ≡ start ++ packets_of (acks_from edges 0 p c)
sent_all edges q p c start now none e = sym (append-nil now) ∙ ap (λ es. now ++ packets_of es) (sym none) ∙ e

-- ---- numbers

pub done_more : (old now new low : ℕ → ℕ) (edge v : ℕ) → ((q : ℕ) → q < edge → now q ≡ max (old q) (low q)) →
    new ≡ with_at now edge v → v ≡ max (old edge) (low edge) → (q : ℕ) → q < edge + 1 → new q ≡ max (old q) (low q)
done_more old now new low edge v d e ev q h =
    ap (λ (f : ℕ → ℕ). f q) e ∙ if_elim (λ n. n ≡ max (old q) (low q)) (q == edge) v (now q)
    (λ t. let s = eqb-true q edge t in let k : v ≡ max (old q) (low q) = rw s ev in k)
    (λ t. d q (let ne : q ≢ edge = λ z. (let y = eq-eqb q edge z in cc) in omega arith))

pub left_more : (old now new : ℕ → ℕ) (edge v : ℕ) → ((q : ℕ) → edge ≤ q → now q ≡ old q) →
    new ≡ with_at now edge v → (q : ℕ) → edge + 1 ≤ q → new q ≡ old q
left_more old now new edge v l e q h =
    ap (λ (f : ℕ → ℕ). f q) e ∙ if_elim (λ n. n ≡ old q) (q == edge) v (now q)
    (λ t. let s = eqb-true q edge t in absurd (omega arith))
    (λ t. l q (omega arith))

-- past the last in-edge that may be due nothing changes, so all stand as the machine has them
pub all_done : (c : ControllerView) (acked : List ℕ) (edge end : ℕ) → ((q : ℕ) → q < edge → slice_index acked q ≡ max (slice_index c.acked q) (least (numbers_of c) q)) →
    ((q : ℕ) → edge ≤ q → slice_index acked q ≡ slice_index c.acked q) → ((q : ℕ) → end ≤ q → least (numbers_of c) q ≤ slice_index c.acked q) → end ≤ edge →
    (q : ℕ) → slice_index acked q ≡ max (slice_index c.acked q) (least (numbers_of c) q)
all_done c acked edge end done left behind le q =
    if_elim (λ n. slice_index acked q ≡ max (slice_index c.acked q) (least (numbers_of c) q)) (nat_lt q edge) q q (λ t. done q (ltb-true q edge t))
    (λ t. let past = ltb-false q edge t in let same = left q (omega arith) in let none = behind q (omega arith) in omega arith)

pub least_is : (c : ControllerView) (a b : WatchedView) (known edge r : ℕ) → a ≡ c.a → b ≡ c.b → known ≡ slice_index c.acked edge →
    r ≡ least_of known a.status (slice_index a.reports edge) b.status (slice_index b.reports edge) → r ≡ least (numbers_of c) edge
least_is c a b known edge r ea eb ek e =
    e ∙ (λ i. least_of (ek i) (ea i).status (slice_index (ea i).reports edge) (eb i).status (slice_index (eb i).reports edge))

pub past_end : (xs : List ℕ) (q : ℕ) → length xs ≤ q → slice_index xs q ≡ 0
past_end [] q h = refl
past_end (x ∷ xs) zero h = absurd (omega arith)
past_end (x ∷ xs) (suc q) h = past_end xs q (omega arith)

least_zero : (k : ℕ) (a b : Status) → max k (least_of k a 0 b 0) ≡ k
least_zero k status.Down status.Down = omega arith
least_zero k status.Down status.Up = omega arith
least_zero k status.Down status.Catching = omega arith
least_zero k status.Up status.Down = omega arith
least_zero k status.Up status.Up = omega arith
least_zero k status.Up status.Catching = omega arith
least_zero k status.Catching status.Down = omega arith
least_zero k status.Catching status.Up = omega arith
least_zero k status.Catching status.Catching = omega arith

-- past the last in-edge nothing changes
least_past : (c : ControllerView) (q : ℕ) → length c.a.reports ≤ q → length c.b.reports ≤ q → max (slice_index c.acked q) (least (numbers_of c) q) ≡ slice_index c.acked q
least_past c q h k =
    ap (λ n. max (slice_index c.acked q) (least_of (slice_index c.acked q) c.a.status n c.b.status (slice_index c.b.reports q))) (past_end c.a.reports q h)
    ∙ ap (λ n. max (slice_index c.acked q) (least_of (slice_index c.acked q) c.a.status 0 c.b.status n)) (past_end c.b.reports q k)
    ∙ least_zero (slice_index c.acked q) c.a.status c.b.status

pub numbers_done : (edges : ℕ) (p : Partition) (c : ControllerView) (a b : WatchedView) (acked : List ℕ) (term : ℕ) (leader : Option Which) → a ≡ c.a → b ≡ c.b → term ≡ c.term → leader ≡ c.leader →
    length c.a.reports ≡ edges → length c.b.reports ≡ edges →
    ((q : ℕ) → q < edges → slice_index acked q ≡ max (slice_index c.acked q) (least (numbers_of c) q)) →
    ((q : ℕ) → edges ≤ q → slice_index acked q ≡ slice_index c.acked q) →
    numbers_of (record { stage = c.stage; part = c.part; a = a; b = b; acked = acked; term = term; leader = leader }) ≡ (acks edges p (numbers_of c)).0
numbers_done edges p c a b acked term leader ea eb et el la lb d l =
    λ i. record { watched = by_which (watched_numbers (ea i)) (watched_numbers (eb i)); acked = λ q. all q i; term = et i; leader = el i }
  where
    all : (q : ℕ) → slice_index acked q ≡ max (slice_index c.acked q) (least (numbers_of c) q)
    all q = if_elim (λ n. slice_index acked q ≡ max (slice_index c.acked q) (least (numbers_of c) q)) (nat_lt q edges) q q
        (λ t. d q (ltb-true q edges t)) (λ t. l q (ltb-false q edges t) ∙ sym (least_past c q (let z = ltb-false q edges t in omega arith) (let z = ltb-false q edges t in omega arith)))

pub raised_is : (k : ℕ) (a_status : Status) (a : ℕ) (b_status : Status) (b : ℕ) → max k (least_of k a_status a b_status b) ≡ raised k a_status a b_status b
raised_is k status.Down a status.Down b = omega arith
raised_is k status.Down a status.Up b = omega arith
raised_is k status.Down a status.Catching b = omega arith
raised_is k status.Up a status.Down b = omega arith
raised_is k status.Up a status.Up b = omega arith
raised_is k status.Up a status.Catching b = omega arith
raised_is k status.Catching a status.Down b = omega arith
raised_is k status.Catching a status.Up b = omega arith
raised_is k status.Catching a status.Catching b = omega arith

-- what is acknowledged never falls
pub raised-grows : (k : ℕ) (a_status : Status) (a : ℕ) (b_status : Status) (b : ℕ) → k ≤ raised k a_status a b_status b
raised-grows k status.Down a status.Down b = omega arith
raised-grows k status.Down a status.Up b = omega arith
raised-grows k status.Down a status.Catching b = omega arith
raised-grows k status.Up a status.Down b = omega arith
raised-grows k status.Up a status.Up b = omega arith
raised-grows k status.Up a status.Catching b = omega arith
raised-grows k status.Catching a status.Down b = omega arith
raised-grows k status.Catching a status.Up b = omega arith
raised-grows k status.Catching a status.Catching b = omega arith
