-- A log with one more event, and its reader with one less.
use Rattle.std.proofs.Common.{ℕ, suc, ◌≡◌, ◌+◌, ◌<◌, ◌≤◌, List, [], ◌∷◌, ◌++◌, length, drop, get_or, ◌⊎◌, inl, inr, refl, sym, ap, subst, ◌∙◌, arith, length-append}
use Rattle.std.specs.Prelude.{Some, IfSome, replicate, slice_get}
use Rattle.std.proofs.lemmas.List.{get_or_default, length-replicate}
use Rattle.tuple_edge.specs.declared.event.Stamped.{Stamped}
use Rattle.tuple_edge.specs.declared.node.NodeId.{NodeId}
use Rattle.event_log.specs.declared.entry.Entry.{Entry}
use Rattle.event_log.specs.declared.entry.Entry.TheVariants as entry
use Rattle.event_log.specs.Reading.{AreKnown, Continues, IsKnown, IsReadTo, Names, Progress, after_entry, after_event, at_start, by_place, meaning, names_of, needed, progress_of, reading, short_meaning, whole_of}
use Rattle.event_log.specs.Views.{SendersView}
use Rattle.event_log.proofs.Readings.{length-whole_of, meaning_kept, read_on, read_to, used_within}

pub length-reading : (names : Names) (now : Progress) (es : List Entry) → length (reading names now es) ≡ length es
length-reading names now [] = refl
length-reading names now (e ∷ es) = ap suc (length-reading names (after_entry names now e) es)

pub length-more : (es after : List Entry) (e : Entry) (n : ℕ) → length es ≡ n → after ≡ es ++ e ∷ [] → length after ≡ n + 1
length-more es after e n long pushed = ap length pushed ∙ length-append es (e ∷ []) ∙ ap (λ k. k + 1) long

pub length-times : (es after : List Entry) (e : Entry) (n times : ℕ) → length es ≡ n → after ≡ es ++ replicate times e → length after ≡ n + times
length-times es after e n times long pushed =
    ap length pushed ∙ length-append es (replicate times e) ∙ ap (λ k. k + length (replicate times e)) long ∙ ap (λ k. n + k) (length-replicate times e)

-- the next entry means the event, by the names that there are then
next_means : (node : NodeId) (before after : SendersView) (clock : ℕ) (whole : List Stamped) (e : Entry) (stamped : Stamped) → (k : Continues node before clock e stamped after)
    → meaning (names_of node (before.nodes ++ k.more) (whole ++ whole_of e stamped)) (progress_of clock before.taken (length whole)) e ≡ stamped
next_means node before after clock whole e stamped k =
    meaning_kept node (before.nodes ++ k.more) clock (by_place before.taken) whole e stamped
    (subst (λ l. IfSome (short_meaning node l clock (by_place before.taken) e) (λ m. m ≡ stamped)) k.nodes k.means)

names_after : (node : NodeId) (before after : SendersView) (clock : ℕ) (whole whole_after : List Stamped) (e : Entry) (stamped : Stamped) → (k : Continues node before clock e stamped after)
    → whole_after ≡ whole ++ whole_of e stamped → names_of node (before.nodes ++ k.more) (whole ++ whole_of e stamped) ≡ names_of node after.nodes whole_after
names_after node before after clock whole whole_after e stamped k kept = λ i. record { node = node; senders = sym k.nodes i; whole = sym kept i }

pub pushed_read : (node : NodeId) (before after : SendersView) (clock : ℕ) (entries entries_after : List Entry) (whole whole_after : List Stamped) (e : Entry) (stamped : Stamped)
    → IsReadTo (names_of node before.nodes whole) entries (progress_of clock before.taken (length whole))
    → Continues node before clock e stamped after → whole_after ≡ whole ++ whole_of e stamped → entries_after ≡ entries ++ e ∷ []
    → IsReadTo (names_of node after.nodes whole_after) entries_after (progress_of stamped.clock after.taken (length whole_after))
pushed_read node before after clock entries entries_after whole whole_after e stamped read k kept pushed =
    let now : Progress = progress_of clock before.taken (length whole) in
    let names : Names = names_of node (before.nodes ++ k.more) (whole ++ whole_of e stamped) in
    let known : IsKnown (length (before.nodes ++ k.more)) e = subst (λ l. IsKnown (length l) e) k.nodes k.known in
    let base : IsReadTo names (entries ++ e ∷ []) (after_event now e stamped)
    = read_to (names_of node before.nodes whole) entries now k.more (whole_of e stamped) e stamped read known (length-whole_of e stamped) (next_means node before after clock whole e stamped k) in
    let count : length whole + needed e ≡ length whole_after = sym (ap length kept ∙ length-append whole (whole_of e stamped) ∙ ap (λ n. length whole + n) (length-whole_of e stamped)) in
    let there : after_event now e stamped ≡ progress_of stamped.clock after.taken (length whole_after) = λ i. record { clock = stamped.clock; taken = sym k.taken i; used = count i } in
    subst (λ p. IsReadTo (names_of node after.nodes whole_after) entries_after p) there
    (subst (λ es. IsReadTo (names_of node after.nodes whole_after) es (after_event now e stamped)) (sym pushed)
    (subst (λ ns. IsReadTo ns (entries ++ e ∷ []) (after_event now e stamped)) (names_after node before after clock whole whole_after e stamped k kept) base))

pub pushed_reading : (node : NodeId) (before after : SendersView) (clock : ℕ) (entries entries_after : List Entry) (whole whole_after : List Stamped) (e : Entry) (stamped : Stamped)
    → IsReadTo (names_of node before.nodes whole) entries (progress_of clock before.taken (length whole))
    → Continues node before clock e stamped after → whole_after ≡ whole ++ whole_of e stamped → entries_after ≡ entries ++ e ∷ []
    → reading (names_of node after.nodes whole_after) at_start entries_after ≡ reading (names_of node before.nodes whole) at_start entries ++ stamped ∷ []
pushed_reading node before after clock entries entries_after whole whole_after e stamped read k kept pushed =
    ap (reading (names_of node after.nodes whole_after) at_start) pushed
    ∙ ap (λ ns. reading ns at_start (entries ++ e ∷ [])) (sym (names_after node before after clock whole whole_after e stamped k kept))
    ∙ read_on (names_of node before.nodes whole) entries (progress_of clock before.taken (length whole)) k.more (whole_of e stamped) e stamped read (next_means node before after clock whole e stamped k)

-- ---- the first entry

-- the whole event that the first entry needs is there
pub head_within : (senders used whole : ℕ) (es rest : List Entry) (e : Entry) → es ≡ e ∷ rest → AreKnown senders used whole es → used + needed e ≤ whole
head_within senders used whole es rest e is known =
    let there : AreKnown senders used whole (e ∷ rest) = subst (AreKnown senders used whole) is known in
    used_within senders (used + needed e) whole rest there.1

pub first_within : (senders used whole : ℕ) (es : List Entry) (e : Entry) → es ≡ e ∷ drop 1 es → needed e ≡ 1 → AreKnown senders used whole es → used < whole
first_within senders used whole es e is one known =
    let few : used + needed e ≤ whole = head_within senders used whole es (drop 1 es) e is known in
    omega arith

meaning_whole : (names : Names) (now : Progress) (e : Entry) (d : Stamped) → needed e ≡ 1 → now.used < length names.whole → get_or names.whole now.used d ≡ meaning names now e
meaning_whole names now (entry.Work rise) d one within = absurd (omega arith)
meaning_whole names now (entry.Make rise) d one within = absurd (omega arith)
meaning_whole names now (entry.Take sender rise) d one within = absurd (omega arith)
meaning_whole names now (entry.Jump sender) d one within = get_or_default names.whole now.used d _ within
meaning_whole names now entry.Whole d one within = get_or_default names.whole now.used d _ within

pub first_whole : (names : Names) (now : Progress) (es : List Entry) (e : Entry) (d : Stamped) → es ≡ e ∷ drop 1 es → needed e ≡ 1 → now.used < length names.whole
    → Some (get_or names.whole now.used d) ≡ slice_get (reading names now es) 0
first_whole names now es e d is one within =
    ap Some (meaning_whole names now e d one within) ∙ ap (λ l. slice_get (reading names now l) 0) (sym is)

pub needed_one : (e : Entry) → ((sender : ℕ) × (e ≡ entry.Jump sender)) ⊎ (e ≡ entry.Whole) → needed e ≡ 1
needed_one e (inl jumps) = ap needed jumps.1
needed_one e (inr is) = ap needed is
