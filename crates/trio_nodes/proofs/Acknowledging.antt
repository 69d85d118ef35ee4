-- What is acknowledged, one in-edge after the other: the packets, and the numbers.
use Rattle.std.proofs.Common.{◌≡◌, ◌≢◌, ◌<◌, ◌≤◌, ◌+◌, ◌-◌, ◌++◌, ◌∙◌, ℕ, zero, suc, Bool, true, false, List, [], ◌∷◌, Option, None, Some, length, slice_index, max, min, refl, ap, sym, append_assoc, arith}
use Rattle.std.specs.Prelude.{◌==◌, nat_lt, if◌then◌else◌, unwrap_or}
use Rattle.std.proofs.lemmas.List.{append-nil}
use Rattle.std.proofs.lemmas.Bool.{eqb-true, eq-eqb, ltb-true, ltb-false}
use Rattle.pair_machine.specs.Consumers.{with_at}
use Rattle.pair_machine.specs.Numbers.{Partition}
use Rattle.pair_machine.proofs.Tests.{if_elim}
use Rattle.trio_machine.specs.Controllers.{acks, acks_from, least, least_below, least_with}
use Rattle.trio_machine.specs.Messages.{Envelope}
use Rattle.trio_machine.specs.Numbers.{Controller, group_size}
use Rattle.trio_machine.specs.declared.body.TrioBody.{TrioBody}
use Rattle.trio_machine.specs.declared.node.TrioNode.{TrioNode}
use Rattle.trio_nodes.specs.ControllerPackets.{ack_due, body_of, packets_of}
use Rattle.trio_nodes.specs.ControllerView.{ControllerView, TrioWatchedView, least_report, numbers_in, numbers_of, watched_in}

-- ---- packets

pub packets_of-append : (xs ys : List Envelope) → packets_of (xs ++ ys) ≡ packets_of xs ++ packets_of ys
packets_of-append [] ys = refl
packets_of-append (x ∷ xs) ys = ap (λ ms. (x.to, body_of x.message) ∷ ms) (packets_of-append xs ys)

-- those of the in-edges from q on
one_more : (edges q : ℕ) (p : Partition) (x : Controller) → q < edges →
    packets_of (acks_from (edges - q) q p x) ≡ packets_of (ack_due p q (x.acked q) (least x q)) ++ packets_of (acks_from (edges - (q + 1)) (q + 1) p x)
one_more edges q p x h =
    let e : edges - q ≡ suc (edges - (q + 1)) = omega arith in
    rw e (packets_of-append (ack_due p q (x.acked q) (least x q)) (acks_from (edges - (q + 1)) (q + 1) p x))

-- what was sent, with what is left to be sent, stays the same
pub sent_more : (edges q : ℕ) (p : Partition) (x : Controller) (start before after : List (TrioNode × TrioBody)) → q < edges →
    before ++ packets_of (acks_from (edges - q) q p x) ≡ start ++ packets_of (acks_from edges 0 p x) →
    after ≡ before ++ packets_of (ack_due p q (x.acked q) (least x q)) →
    after ++ packets_of (acks_from (edges - (q + 1)) (q + 1) p x) ≡ start ++ packets_of (acks_from edges 0 p x)
sent_more edges q p x start before after h old e =
    rw e (append_assoc before (packets_of (ack_due p q (x.acked q) (least x q))) (packets_of (acks_from (edges - (q + 1)) (q + 1) p x))
    ∙ ap (λ ms. before ++ ms) (sym (one_more edges q p x h)) ∙ old)

-- past the last in-edge all is sent
pub sent_all : (edges q : ℕ) (p : Partition) (x : Controller) (start now : List (TrioNode × TrioBody)) → edges ≤ q →
    now ++ packets_of (acks_from (edges - q) q p x) ≡ start ++ packets_of (acks_from edges 0 p x) → now ≡ start ++ packets_of (acks_from edges 0 p x)
sent_all edges q p x start now h e =
    let none : 0 ≡ edges - q = omega arith in
    sym (append-nil now) ∙ ap (λ n. now ++ packets_of (acks_from n q p x)) none ∙ e

-- ---- numbers

pub done_more : (old now new low : ℕ → ℕ) (edge v : ℕ) → ((q : ℕ) → q < edge → now q ≡ max (old q) (low q)) →
    new ≡ with_at now edge v → v ≡ max (old edge) (low edge) → (q : ℕ) → q < edge + 1 → new q ≡ max (old q) (low q)
done_more old now new low edge v d e ev q h =
    ap (λ (f : ℕ → ℕ). f q) e ∙ if_elim (λ n. n ≡ max (old q) (low q)) (q == edge) v (now q)
    (λ t. let s = eqb-true q edge t in let k : v ≡ max (old q) (low q) = rw s ev in k)
    (λ t. d q (let ne : q ≢ edge = λ z. (let y = eq-eqb q edge z in cc) in omega arith))

pub left_more : (old now new : ℕ → ℕ) (edge v : ℕ) → ((q : ℕ) → edge ≤ q → now q ≡ old q) →
    new ≡ with_at now edge v → (q : ℕ) → edge + 1 ≤ q → new q ≡ old q
left_more old now new edge v l e q h =
    ap (λ (f : ℕ → ℕ). f q) e ∙ if_elim (λ n. n ≡ old q) (q == edge) v (now q)
    (λ t. let s = eqb-true q edge t in absurd (omega arith))
    (λ t. l q (omega arith))

-- the least report of the replicas that are known is the machine's
pub least_is : (c : ControllerView) (q n : ℕ) → least_report c.watched q n ≡ least_below (numbers_of c) q n
least_is c q zero = refl
least_is c q (suc n) = ap (λ o. if (watched_in c.watched n).up then Some (least_with o (slice_index (watched_in c.watched n).reports q)) else o) (least_is c q n)

pub past_end : (xs : List ℕ) (q : ℕ) → length xs ≤ q → slice_index xs q ≡ 0
past_end [] q h = refl
past_end (x ∷ xs) zero h = absurd (omega arith)
past_end (x ∷ xs) (suc q) h = past_end xs q (omega arith)

-- where no report is above a bound, neither is the least of them
least_most : (x : Controller) (q k n : ℕ) → ((d : ℕ) → d < n → x.reports d q ≤ k) → unwrap_or (least_below x q n) k ≤ k
least_most x q k zero h = omega arith
least_most x q k (suc n) h =
    if_elim (λ o. unwrap_or o k ≤ k) (x.up n) (Some (least_with (least_below x q n) (x.reports n q))) (least_below x q n)
    (λ t. one (least_below x q n))
    (λ t. least_most x q k n (λ d l. h d (omega arith)))
  where
    one : (o : Option ℕ) → least_with o (x.reports n q) ≤ k
    one None = h n (omega arith)
    one (Some j) = let z = h n (omega arith) in omega arith

-- past the last in-edge nothing changes
least_past : (c : ControllerView) (q : ℕ) → ((d : ℕ) → d < group_size → slice_index (watched_in c.watched d).reports q ≡ 0)
    → max (slice_index c.acked q) (least (numbers_of c) q) ≡ slice_index c.acked q
least_past c q h =
    let l : least (numbers_of c) q ≤ slice_index c.acked q = least_most (numbers_of c) q (slice_index c.acked q) group_size (λ d there. let z = h d there in omega arith) in omega arith

pub numbers_done : (edges : ℕ) (p : Partition) (c : ControllerView) (watched : List TrioWatchedView) (acked : List ℕ) (term : ℕ) (leader : Option ℕ) → watched ≡ c.watched → term ≡ c.term → leader ≡ c.leader →
    ((d : ℕ) → d < group_size → length (watched_in c.watched d).reports ≡ edges) →
    ((q : ℕ) → q < edges → slice_index acked q ≡ max (slice_index c.acked q) (least (numbers_of c) q)) →
    ((q : ℕ) → edges ≤ q → slice_index acked q ≡ slice_index c.acked q) →
    numbers_of (record { stage = c.stage; part = c.part; watched = watched; acked = acked; term = term; leader = leader }) ≡ (acks edges p (numbers_of c)).0
numbers_done edges p c watched acked term leader ew et el reports d l =
    λ i. record { up = λ k. (watched_in (ew i) k).up; reports = λ k. numbers_in (watched_in (ew i) k).reports; acked = λ q. all q i; term = et i; leader = el i }
  where
    all : (q : ℕ) → slice_index acked q ≡ max (slice_index c.acked q) (least (numbers_of c) q)
    all q = if_elim (λ n. slice_index acked q ≡ max (slice_index c.acked q) (least (numbers_of c) q)) (nat_lt q edges) q q
        (λ t. d q (ltb-true q edges t))
        (λ t. l q (ltb-false q edges t) ∙ sym (least_past c q (λ k there. past_end (watched_in c.watched k).reports q (let y = reports k there in let z = ltb-false q edges t in omega arith))))
