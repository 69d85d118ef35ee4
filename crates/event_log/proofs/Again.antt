-- A log whose last entry comes again, so many times, each with the next clock.
use Rattle.std.proofs.Common.{ℕ, zero, suc, ◌≡◌, ◌+◌, ◌-◌, ◌<◌, ◌≤◌, ◌^◌, List, [], ◌∷◌, ◌++◌, length, refl, sym, ap, subst, ◌∙◌, append_assoc, arith}
use Rattle.std.specs.Prelude.{replicate}
use Rattle.tuple_edge.specs.declared.event.Event.{Event}
use Rattle.tuple_edge.specs.declared.event.Event.TheVariants as event
use Rattle.tuple_edge.specs.declared.event.Stamped.{Stamped}
use Rattle.event_log.specs.declared.entry.Entry.{Entry}
use Rattle.event_log.specs.declared.entry.Entry.TheVariants as entry
use Rattle.event_log.specs.Reading.{AreKnown, IsKnown, IsReadTo, Names, Progress, after_all, after_entry, after_event, at_start, counted, later, meaning, needed, reading}
use Rattle.event_log.specs.Views.{repeated_after}

-- ---- one list of entries behind another

reading_append : (names : Names) (now : Progress) (es fs : List Entry) → reading names now (es ++ fs) ≡ reading names now es ++ reading names (after_all names now es) fs
reading_append names now [] fs = refl
reading_append names now (e ∷ es) fs = ap (λ l. meaning names now e ∷ l) (reading_append names (after_entry names now e) es fs)

progress_append : (names : Names) (now : Progress) (es fs : List Entry) → after_all names now (es ++ fs) ≡ after_all names (after_all names now es) fs
progress_append names now [] fs = refl
progress_append names now (e ∷ es) fs = progress_append names (after_entry names now e) es fs

-- ---- the clock of the last event

abbrev last_clock : ℕ → List Stamped → ℕ
last_clock clock [] = clock
last_clock clock (s ∷ ss) = last_clock s.clock ss

last_pushed : (clock : ℕ) (ss : List Stamped) (s : Stamped) → last_clock clock (ss ++ s ∷ []) ≡ s.clock
last_pushed clock [] s = refl
last_pushed clock (x ∷ ss) s = last_pushed x.clock ss s

clock_read : (names : Names) (now : Progress) (es : List Entry) → (after_all names now es).clock ≡ last_clock now.clock (reading names now es)
clock_read names now [] = refl
clock_read names now (e ∷ es) = clock_read names (after_entry names now e) es

-- a log was read as far as the clock of its last event
clock_of_last : (names : Names) (es : List Entry) (now : Progress) (before : List Stamped) (s : Stamped) → IsReadTo names es now → reading names at_start es ≡ before ++ s ∷ [] → now.clock ≡ s.clock
clock_of_last names es now before s read last =
    ap (λ (p : Progress). p.clock) (sym read.progress) ∙ clock_read names at_start es ∙ ap (last_clock 0) last ∙ last_pushed 0 before s

-- ---- an entry so many times

-- so much later, and else as far as before
abbrev later_by : Progress → ℕ → Progress
later_by now n = record { clock = now.clock + n; taken = now.taken; used = now.used }

-- an entry stands for an event with the next clock, and for nothing else
pub record IsNext (names : Names) (e : Entry) (is : Event) : Type 0 where
  pub known : (senders : ℕ) → IsKnown senders e
  pub means : (now : Progress) → meaning names now e ≡ record { clock = later now.clock 1; event = is }
  pub counts : (taken : ℕ → ℕ) → counted e is taken ≡ taken
  pub needs : needed e ≡ 0

pub next_work : (names : Names) → IsNext names (entry.Work 1) (event.Work names.node)
next_work names = record { known = λ senders. tt; means = λ now. refl; counts = λ taken. refl; needs = refl }

pub next_make : (names : Names) → IsNext names (entry.Make 1) event.Make
next_make names = record { known = λ senders. tt; means = λ now. refl; counts = λ taken. refl; needs = refl }

later_one : (clock : ℕ) → clock + 1 < 2 ^ 64 → later clock 1 ≡ clock + 1
later_one clock few = omega (arith, few)

module _ (names : Names) (e : Entry) (is : Event) (next : IsNext names e is) where
  entry_again : (now : Progress) → now.clock + 1 < 2 ^ 64 → after_entry names now e ≡ later_by now 1
  entry_again now few =
      let used : now.used + needed e ≡ now.used = omega (arith, next.needs) in
      ap (after_event now e) (next.means now) ∙ (λ i. record { clock = later_one now.clock few i; taken = next.counts now.taken i; used = used i })

  means_again : (now : Progress) → now.clock + 1 < 2 ^ 64 → meaning names now e ≡ record { clock = now.clock + 1; event = is }
  means_again now few = next.means now ∙ (λ i. record { clock = later_one now.clock few i; event = is })

  reading_again : (n : ℕ) (now : Progress) → now.clock + n < 2 ^ 64 → reading names now (replicate n e) ≡ repeated_after is now.clock n
  reading_again zero now few = refl
  reading_again (suc n) now few =
      let one : now.clock + 1 < 2 ^ 64 = omega (arith, few) in
      ap (λ m. m ∷ reading names (after_entry names now e) (replicate n e)) (means_again now one)
      ∙ ap (λ p. record { clock = now.clock + 1; event = is } ∷ reading names p (replicate n e)) (entry_again now one)
      ∙ ap (λ l. record { clock = now.clock + 1; event = is } ∷ l) (reading_again n (later_by now 1) (omega (arith, few)))

  progress_again : (n : ℕ) (now : Progress) → now.clock + n < 2 ^ 64 → after_all names now (replicate n e) ≡ later_by now n
  progress_again zero now few = let same : now.clock ≡ now.clock + 0 = omega arith in (λ i. record { clock = same i; taken = now.taken; used = now.used })
  progress_again (suc n) now few =
      let one : now.clock + 1 < 2 ^ 64 = omega (arith, few) in
      let same : now.clock + 1 + n ≡ now.clock + suc n = omega arith in
      ap (λ p. after_all names p (replicate n e)) (entry_again now one)
      ∙ progress_again n (later_by now 1) (omega (arith, few))
      ∙ (λ i. record { clock = same i; taken = now.taken; used = now.used })

  known_again : (senders used whole n : ℕ) (es : List Entry) → AreKnown senders used whole es → AreKnown senders used whole (es ++ replicate n e)
  known_again senders used whole zero [] known = known
  known_again senders used whole (suc n) [] known =
      let there : used + needed e ≡ whole = omega (arith, known, next.needs) in
      (next.known senders, known_again senders (used + needed e) whole n [] there)
  known_again senders used whole n (x ∷ es) known = (known.0, known_again senders (used + needed x) whole n es known.1)

  -- the log is read so much further
  read_again : (n : ℕ) (now : Progress) (es : List Entry) → now.clock + n < 2 ^ 64 → IsReadTo names es now → IsReadTo names (es ++ replicate n e) (later_by now n)
  read_again n now es few read = record {
    known = known_again (length names.senders) 0 (length names.whole) n es read.known;
    progress = progress_append names at_start es (replicate n e) ∙ ap (λ p. after_all names p (replicate n e)) read.progress ∙ progress_again n now few;
  }

  -- and holds the event so many times more
  holds_again : (n : ℕ) (now : Progress) (es : List Entry) → now.clock + n < 2 ^ 64 → IsReadTo names es now → reading names at_start (es ++ replicate n e) ≡ reading names at_start es ++ repeated_after is now.clock n
  holds_again n now es few read =
      reading_append names at_start es (replicate n e)
      ∙ ap (λ p. reading names at_start es ++ reading names p (replicate n e)) read.progress
      ∙ ap (λ l. reading names at_start es ++ l) (reading_again n now few)

  -- ---- after one such event: so many in all

  module _ (clock times : ℕ) (now : Progress) (es after : List Entry) (old : List Stamped) (some : 1 ≤ times) (few : clock + times < 2 ^ 64) (read : IsReadTo names es now)
      (last : reading names at_start es ≡ old ++ record { clock = clock + 1; event = is } ∷ []) (pushed : after ≡ es ++ replicate (times - 1) e) where
    at : now.clock ≡ clock + 1
    at = clock_of_last names es now old (record { clock = clock + 1; event = is }) read last

    left : now.clock + (times - 1) < 2 ^ 64
    left = omega (arith, at, some, few)

    pub run_read : IsReadTo names after (record { clock = clock + times; taken = now.taken; used = now.used })
    run_read =
        let sum : now.clock + (times - 1) ≡ clock + times = omega (arith, at, some) in
        subst (λ l. IsReadTo names l (record { clock = clock + times; taken = now.taken; used = now.used })) (sym pushed)
        (subst (λ n. IsReadTo names (es ++ replicate (times - 1) e) (record { clock = n; taken = now.taken; used = now.used })) sum
        (read_again (times - 1) now es left read))

    pub run_holds : reading names at_start after ≡ old ++ repeated_after is clock times
    run_holds =
        let all : suc (times - 1) ≡ times = omega (arith, some) in
        ap (reading names at_start) pushed ∙ holds_again (times - 1) now es left read
        ∙ ap (λ l. l ++ repeated_after is now.clock (times - 1)) last
        ∙ append_assoc old (record { clock = clock + 1; event = is } ∷ []) (repeated_after is now.clock (times - 1))
        ∙ ap (λ n. old ++ record { clock = clock + 1; event = is } ∷ repeated_after is n (times - 1)) at
        ∙ ap (λ n. old ++ repeated_after is clock n) all
