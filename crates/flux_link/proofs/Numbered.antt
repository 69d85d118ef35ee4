-- Packets numbered by their places.
use Rattle.flux_link.specs.Arrivals.{arrival_at, next_after, numbered, numbered_after}
use Rattle.std.proofs.Common.{◌≡◌, ℕ, ◌+◌, List, [], ◌∷◌, ◌++◌, length, ap, refl, subst, sym, ◌∙◌, arith}
use Rattle.std.specs.Prelude.{IfSome}
use Rattle.tuple_edge.specs.declared.packet.Packet.{Packet}
use mathlib.Core.List.{IsPrefix}

-- numbering goes on where it stopped
numbered_after-append : (before : ℕ) (packets later : List Packet)
    → numbered_after before (packets ++ later) ≡ numbered_after before packets ++ numbered_after (before + length packets) later
numbered_after-append before [] later = ap (λ n. numbered_after n later) (omega arith)
numbered_after-append before (packet ∷ packets) later =
    ap (λ l. arrival_at (before + 1) packet ∷ l) (numbered_after-append (before + 1) packets later
    ∙ ap (λ n. numbered_after (before + 1) packets ++ numbered_after n later) (omega arith))

-- one packet more is one arrival more, at the next place
pub numbered_push : (packets : List Packet) (packet : Packet) (place : ℕ) → place ≡ length packets + 1
    → numbered (packets ++ packet ∷ []) ≡ numbered packets ++ arrival_at place packet ∷ []
numbered_push packets packet place is =
    numbered_after-append 0 packets (packet ∷ []) ∙ ap (λ n. numbered packets ++ arrival_at n packet ∷ []) (omega arith)

-- the first packets of a list are numbered as in the whole list
pub numbered_front : (front rest all : List Packet) → front ++ rest ≡ all → IsPrefix (numbered front) (numbered all)
numbered_front front rest all e =
    (numbered_after (0 + length front) rest, sym (numbered_after-append 0 front rest) ∙ ap numbered e)

-- the first of those that wait is given: one arrival more, at the next place
pub numbered_next : (given waiting later all : List Packet) (packet : Packet) → waiting ≡ packet ∷ later → all ≡ given ++ packet ∷ []
    → IfSome (next_after (length given) waiting) (λ arrival. numbered all ≡ numbered given ++ arrival ∷ [])
numbered_next given waiting later all packet first more =
    subst (λ l. IfSome (next_after (length given) l) (λ arrival. numbered all ≡ numbered given ++ arrival ∷ [])) (sym first)
    (ap numbered more ∙ numbered_push given packet (length given + 1) refl)

-- it stands before the others
pub next_first : (before : ℕ) (waiting later : List Packet) (packet : Packet) → waiting ≡ packet ∷ later
    → IfSome (next_after before waiting) (λ arrival. waiting ≡ arrival.packet ∷ later)
next_first before waiting later packet first =
    subst (λ l. IfSome (next_after before l) (λ arrival. l ≡ arrival.packet ∷ later)) (sym first) refl
