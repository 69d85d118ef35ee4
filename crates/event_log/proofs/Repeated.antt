-- Events that are repeated: one more of them, and one more block.
use Rattle.std.proofs.Common.{ℕ, zero, suc, ◌≡◌, ◌+◌, ◌<◌, List, [], ◌∷◌, ◌++◌, get_or, length, take, refl, sym, ap, ◌∙◌, append_assoc, append-nil, add-one}
use Rattle.std.specs.Prelude.{replicate}
use Rattle.std.proofs.lemmas.List.{take_more}
use Rattle.tuple_edge.specs.declared.event.Event.{Event}
use Rattle.event_log.specs.declared.blocks.Block.{Block}
use Rattle.event_log.specs.Blocks.{events_in}

once_more : (n : ℕ) (e : Event) → replicate (suc n) e ≡ replicate n e ++ e ∷ []
once_more zero e = refl
once_more (suc n) e = ap (λ l. e ∷ l) (once_more n e)

-- one more at the end
pub replicate-more : (n : ℕ) (e : Event) → replicate (n + 1) e ≡ replicate n e ++ e ∷ []
replicate-more n e = ap (λ k. replicate k e) (add-one n) ∙ once_more n e

-- one more block at the end
pub events_in-more : (bs : List Block) (b : Block) → events_in (bs ++ b ∷ []) ≡ events_in bs ++ replicate b.count b.event
events_in-more [] b = append-nil (replicate b.count b.event)
events_in-more (x ∷ bs) b = ap (λ l. replicate x.count x.event ++ l) (events_in-more bs b) ∙ sym (append_assoc (replicate x.count x.event) (events_in bs) (replicate b.count b.event))

-- the events of one block more were appended
pub appended : (bs same : List Block) (i : ℕ) (d : Block) (old before after : List Event) → i < length bs → bs ≡ same → before ≡ old ++ events_in (take i same)
    → after ≡ before ++ replicate (get_or bs i d).count (get_or bs i d).event → after ≡ old ++ events_in (take (i + 1) same)
appended bs same i d old before after within is earlier now =
    let b : Block = get_or bs i d in
    let next : events_in (take (i + 1) bs) ≡ events_in (take i bs) ++ replicate b.count b.event = ap events_in (take_more bs i d within) ∙ events_in-more (take i bs) b in
    now ∙ ap (λ l. l ++ replicate b.count b.event) (earlier ∙ ap (λ l. old ++ events_in (take i l)) (sym is))
    ∙ append_assoc old (events_in (take i bs)) (replicate b.count b.event)
    ∙ ap (λ l. old ++ l) (sym next)
    ∙ ap (λ l. old ++ events_in (take (i + 1) l)) is
