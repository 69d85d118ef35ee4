-- Reading a log: more senders and more whole events at the ends of their lists change nothing, and one more entry gives one more event.
use Rattle.std.proofs.Common.{ℕ, ◌≡◌, ◌+◌, ◌<◌, ◌≤◌, List, [], ◌∷◌, ◌++◌, length, refl, sym, ap, subst, ◌∙◌, arith, length-append}
use Rattle.std.specs.Prelude.{IfSome}
use Rattle.std.proofs.Math.ListN.{get_or-append}
use Rattle.std.proofs.lemmas.List.{get_or_push}
use Rattle.tuple_edge.specs.declared.event.Stamped.{Stamped}
use Rattle.tuple_edge.specs.declared.event.Event.TheVariants as event
use Rattle.tuple_edge.specs.declared.node.NodeId.{NodeId}
use Rattle.event_log.specs.declared.entry.Entry.{Entry}
use Rattle.event_log.specs.declared.entry.Entry.TheVariants as entry
use Rattle.event_log.specs.Reading.{AreKnown, IsKnown, IsReadTo, Names, Progress, after_all, after_entry, after_event, at_start, later, meaning, needed, reading, short_meaning, whole_of}

-- ---- what is known

-- no more whole events are met than there are
pub used_within : (senders used whole : ℕ) (es : List Entry) → AreKnown senders used whole es → used ≤ whole
used_within senders used whole [] known = omega (arith, known)
used_within senders used whole (e ∷ es) known = let rest : used + needed e ≤ whole = used_within senders (used + needed e) whole es known.1 in omega arith

known_more : (senders more : ℕ) (e : Entry) → IsKnown senders e → IsKnown (senders + more) e
known_more senders more (entry.Work rise) known = tt
known_more senders more (entry.Make rise) known = tt
known_more senders more (entry.Take sender rise) known = let within : sender < senders = known in omega arith
known_more senders more (entry.Jump sender) known = let within : sender < senders = known in omega arith
known_more senders more entry.Whole known = tt

known_snoc : (senders more used whole : ℕ) (es : List Entry) (e : Entry) → AreKnown senders used whole es → IsKnown (senders + more) e
    → AreKnown (senders + more) used (whole + needed e) (es ++ e ∷ [])
known_snoc senders more used whole [] e known last = (last, ap (λ n. n + needed e) known)
known_snoc senders more used whole (x ∷ es) e known last =
    (known_more senders more x known.0, known_snoc senders more (used + needed x) whole es e known.1 last)

-- ---- more names

-- names with more senders and more whole events
abbrev pub larger : Names → List NodeId → List Stamped → Names
larger names more extra = record { node = names.node; senders = names.senders ++ more; whole = names.whole ++ extra }

meaning_larger : (names : Names) (more : List NodeId) (extra : List Stamped) (now : Progress) (e : Entry) → IsKnown (length names.senders) e → now.used + needed e ≤ length names.whole
    → meaning (larger names more extra) now e ≡ meaning names now e
meaning_larger names more extra now (entry.Work rise) known few = refl
meaning_larger names more extra now (entry.Make rise) known few = refl
meaning_larger names more extra now (entry.Take sender rise) known few =
    ap (λ (source : NodeId). record {
      clock = later now.clock rise;
      event = event.Take (record { «from» = source; to = names.node }) (later (now.taken sender) 1);
    }) (get_or-append names.senders more names.node sender known)
meaning_larger names more extra now (entry.Jump sender) known few = get_or-append names.whole extra _ now.used (omega (arith, few))
meaning_larger names more extra now entry.Whole known few = get_or-append names.whole extra _ now.used (omega (arith, few))

after_larger : (names : Names) (more : List NodeId) (extra : List Stamped) (now : Progress) (e : Entry) → IsKnown (length names.senders) e → now.used + needed e ≤ length names.whole
    → after_entry (larger names more extra) now e ≡ after_entry names now e
after_larger names more extra now e known few = ap (after_event now e) (meaning_larger names more extra now e known few)

reading_larger : (names : Names) (more : List NodeId) (extra : List Stamped) (now : Progress) (es : List Entry) → AreKnown (length names.senders) now.used (length names.whole) es
    → reading (larger names more extra) now es ≡ reading names now es
reading_larger names more extra now [] known = refl
reading_larger names more extra now (e ∷ es) known =
    let few : now.used + needed e ≤ length names.whole = used_within _ _ _ es known.1 in
    let first : meaning (larger names more extra) now e ≡ meaning names now e = meaning_larger names more extra now e known.0 few in
    let after : after_entry (larger names more extra) now e ≡ after_entry names now e = after_larger names more extra now e known.0 few in
    let rest : reading (larger names more extra) (after_entry names now e) es ≡ reading names (after_entry names now e) es
    = reading_larger names more extra (after_entry names now e) es known.1 in
    ap (λ m. m ∷ reading (larger names more extra) (after_entry (larger names more extra) now e) es) first
    ∙ ap (λ p. meaning names now e ∷ reading (larger names more extra) p es) after
    ∙ ap (λ l. meaning names now e ∷ l) rest

progress_larger : (names : Names) (more : List NodeId) (extra : List Stamped) (now : Progress) (es : List Entry) → AreKnown (length names.senders) now.used (length names.whole) es
    → after_all (larger names more extra) now es ≡ after_all names now es
progress_larger names more extra now [] known = refl
progress_larger names more extra now (e ∷ es) known =
    let few : now.used + needed e ≤ length names.whole = used_within _ _ _ es known.1 in
    ap (λ p. after_all (larger names more extra) p es) (after_larger names more extra now e known.0 few)
    ∙ progress_larger names more extra (after_entry names now e) es known.1

-- ---- one more entry

reading_snoc : (names : Names) (now : Progress) (es : List Entry) (e : Entry) → reading names now (es ++ e ∷ []) ≡ reading names now es ++ meaning names (after_all names now es) e ∷ []
reading_snoc names now [] e = refl
reading_snoc names now (x ∷ es) e = ap (λ l. meaning names now x ∷ l) (reading_snoc names (after_entry names now x) es e)

progress_snoc : (names : Names) (now : Progress) (es : List Entry) (e : Entry) → after_all names now (es ++ e ∷ []) ≡ after_entry names (after_all names now es) e
progress_snoc names now [] e = refl
progress_snoc names now (x ∷ es) e = progress_snoc names (after_entry names now x) es e

-- where the entries were read to here, and the next one stands for an event by the larger names, the log holds that event too
pub read_on : (names : Names) (es : List Entry) (now : Progress) (more : List NodeId) (extra : List Stamped) (e : Entry) (stamped : Stamped) → IsReadTo names es now
    → meaning (larger names more extra) now e ≡ stamped
    → reading (larger names more extra) at_start (es ++ e ∷ []) ≡ reading names at_start es ++ stamped ∷ []
read_on names es now more extra e stamped read means =
    let there : after_all (larger names more extra) at_start es ≡ now = progress_larger names more extra at_start es read.known ∙ read.progress in
    reading_snoc (larger names more extra) at_start es e
    ∙ ap (λ p. reading (larger names more extra) at_start es ++ meaning (larger names more extra) p e ∷ []) there
    ∙ ap (λ m. reading (larger names more extra) at_start es ++ m ∷ []) means
    ∙ ap (λ l. l ++ stamped ∷ []) (reading_larger names more extra at_start es read.known)

pub read_to : (names : Names) (es : List Entry) (now : Progress) (more : List NodeId) (extra : List Stamped) (e : Entry) (stamped : Stamped) → IsReadTo names es now
    → IsKnown (length (names.senders ++ more)) e → length extra ≡ needed e
    → meaning (larger names more extra) now e ≡ stamped
    → IsReadTo (larger names more extra) (es ++ e ∷ []) (after_event now e stamped)
read_to names es now more extra e stamped read known long means =
    let there : after_all (larger names more extra) at_start es ≡ now = progress_larger names more extra at_start es read.known ∙ read.progress in
    let last : IsKnown (length names.senders + length more) e = subst (λ n. IsKnown n e) (length-append names.senders more) known in
    let whole : length names.whole + needed e ≡ length (names.whole ++ extra) = sym (length-append names.whole extra ∙ ap (λ n. length names.whole + n) long) in
    let all : AreKnown (length names.senders + length more) 0 (length names.whole + needed e) (es ++ e ∷ []) = known_snoc (length names.senders) (length more) 0 (length names.whole) es e read.known last in
    record {
      known = subst (λ n. AreKnown n 0 (length (names.whole ++ extra)) (es ++ e ∷ [])) (sym (length-append names.senders more))
          (subst (λ n. AreKnown (length names.senders + length more) 0 n (es ++ e ∷ [])) whole all);
      progress = progress_snoc (larger names more extra) at_start es e
          ∙ ap (λ p. after_entry (larger names more extra) p e) there
          ∙ ap (after_event now e) means;
    }

-- ---- from what is said of the next entry

-- with the event behind the whole ones where the entry needs it, the entry means the event
pub meaning_kept : (node : NodeId) (senders : List NodeId) (clock : ℕ) (taken : ℕ → ℕ) (whole : List Stamped) (e : Entry) (stamped : Stamped)
    → IfSome (short_meaning node senders clock taken e) (λ m. m ≡ stamped)
    → meaning (record { node = node; senders = senders; whole = whole ++ whole_of e stamped }) (record { clock = clock; taken = taken; used = length whole }) e ≡ stamped
meaning_kept node senders clock taken whole (entry.Work rise) stamped means = means
meaning_kept node senders clock taken whole (entry.Make rise) stamped means = means
meaning_kept node senders clock taken whole (entry.Take sender rise) stamped means = means
meaning_kept node senders clock taken whole (entry.Jump sender) stamped means = get_or_push whole stamped _ (length whole) refl
meaning_kept node senders clock taken whole entry.Whole stamped means = get_or_push whole stamped _ (length whole) refl

pub length-whole_of : (e : Entry) (stamped : Stamped) → length (whole_of e stamped) ≡ needed e
length-whole_of (entry.Work rise) stamped = refl
length-whole_of (entry.Make rise) stamped = refl
length-whole_of (entry.Take sender rise) stamped = refl
length-whole_of (entry.Jump sender) stamped = refl
length-whole_of entry.Whole stamped = refl
