-- How many packets follow from one packet.
use Rattle.std.proofs.Common.{◌⊎◌, inl, inr, ◌≡◌, ◌+◌, ℕ, length, ap, arith}
use Rattle.tuple_edge.specs.Outbox.{OutboxView}
use Rattle.pair_control.specs.Packets.{SendsAtMost}

sends_none : (before after : OutboxView) → after ≡ before → SendsAtMost 0 before after
sends_none before after e =
    let packets = ap (λ (o : OutboxView). length o.packets) e in
    let spare = ap (λ (o : OutboxView). o.spare) e in
    (omega arith, omega arith)

sends_more : (n m : ℕ) (before now after : OutboxView) → SendsAtMost n before now → SendsAtMost m now after → SendsAtMost (n + m) before after
sends_more n m before now after h k = (omega (arith, h.0, k.0), omega (arith, h.1, k.1))

-- One packet of the hearing, two of one replica that is brought back or stopped, and two for each of eight in-edges: a replica that is
-- brought back leaves none to be brought back or stopped, and one that is stopped leaves none to be stopped.
pub at_most_nineteen : (Back Back_after Stopped : Type 0) (start heard a_back b_back a_stopped b_stopped last : OutboxView) → SendsAtMost 1 start heard →
    SendsAtMost 2 heard a_back → (a_back ≡ heard) ⊎ Back →
    SendsAtMost 2 a_back b_back → (b_back ≡ a_back) ⊎ Back_after → (Back → (b_back ≡ a_back) × Back_after) →
    SendsAtMost 2 b_back a_stopped → (a_stopped ≡ b_back) ⊎ Stopped → (Back_after → (a_stopped ≡ b_back) × Stopped) →
    SendsAtMost 2 a_stopped b_stopped → (Stopped → b_stopped ≡ a_stopped) →
    SendsAtMost 16 b_stopped last → SendsAtMost 19 start last
at_most_nineteen Back Back_after Stopped start heard a_back b_back a_stopped b_stopped last hears one a two b after_a three a_stop after_b four b_stop acks = go a b a_stop
  where
    whole : (m n k l : ℕ) → SendsAtMost m heard a_back → SendsAtMost n a_back b_back → SendsAtMost k b_back a_stopped → SendsAtMost l a_stopped b_stopped → SendsAtMost (1 + m + n + k + l + 16) start last
    whole m n k l x y z u =
        sends_more (1 + m + n + k + l) 16 start b_stopped last (sends_more (1 + m + n + k) l start a_stopped b_stopped (sends_more (1 + m + n) k start b_back a_stopped (sends_more (1 + m) n start a_back b_back (sends_more 1 m start heard a_back hears x) y) z) u) acks

    none_stopped : Back_after → SendsAtMost 0 b_back a_stopped × SendsAtMost 0 a_stopped b_stopped
    none_stopped h = (sends_none b_back a_stopped (after_b h).0, sends_none a_stopped b_stopped (b_stop (after_b h).1))

    go : (a_back ≡ heard) ⊎ Back → (b_back ≡ a_back) ⊎ Back_after → (a_stopped ≡ b_back) ⊎ Stopped → SendsAtMost 19 start last
    go (inr h) y z = whole 2 0 0 0 one (sends_none a_back b_back (after_a h).0) (none_stopped (after_a h).1).0 (none_stopped (after_a h).1).1
    go (inl e) (inr h) z = whole 0 2 0 0 (sends_none heard a_back e) two (none_stopped h).0 (none_stopped h).1
    go (inl e) (inl e_b) (inr h) = whole 0 0 2 0 (sends_none heard a_back e) (sends_none a_back b_back e_b) three (sends_none a_stopped b_stopped (b_stop h))
    go (inl e) (inl e_b) (inl e_stop) = whole 0 0 0 2 (sends_none heard a_back e) (sends_none a_back b_back e_b) (sends_none b_back a_stopped e_stop) four
