-- What a mover gives next, and what it is after that.
use Rattle.std.proofs.Common.{◌≡◌, ℕ, zero, suc, ◌+◌, ◌-◌, ◌<◌, ◌≤◌, ◌↔◌, Bool, true, false, List, ◌++◌, length, length-append, min, nat_lt, if◌then◌else◌, refl, sym, ap, ◌∙◌, subst, Option, Some, None, slice_get, arith}
use Rattle.std.proofs.lemmas.Option.{slice_get_past, slice_get_within}
use Rattle.std.proofs.lemmas.Bool.Decides.{nat_tests}
use Rattle.std.specs.Option.{IfSome, IsSome, option_and_then}
use Rattle.tuple_edge.specs.declared.packet.Entry.{Entry}
use Rattle.stream_ops.specs.Entries.{last_place, place_of}
use Rattle.move_list.proofs.Lists.{get_right, some_there}
use Rattle.state_mover.specs.MoverView.{IsMidway, IsSound, MoverView, after_next, keyed_among, keyed_given, moved_at, moved_from, place_next, total_of}
use Rattle.state_mover.specs.declared.mover.Moved.TheVariants as moved

pub if_some : {X : Type 0} {P : X → Type 0} (o : Option X) → ((x : X) → o ≡ Some x → P x) → IfSome o P
if_some None p = tt
if_some (Some x) p = p x refl

pub when_some : {X : Type 0} (P : X → Type 0) (o : Option X) (x : X) → IfSome o P → o ≡ Some x → P x
when_some {X} P o x all is = subst (λ (o : Option X). IfSome o P) is all

-- the place that it has is that of the last operator's entry given
place_now : (m : MoverView) (old : List Entry) → IsSound m → IsMidway m old → m.last ≡ last_place (keyed_given m) old
place_now m old holds midway = by_given (keyed_given m) refl
  where
    by_given : (n : ℕ) → keyed_given m ≡ n → m.last ≡ last_place (keyed_given m) old
    by_given zero is = holds.unplaced is ∙ ap (λ n. last_place n old) (sym is)
    by_given (suc n) is = midway.place (omega (arith, is))

-- past the fixed part, what follows its place is next
past_fixed : (fixed old : List Entry) (sent entries : ℕ) → length old ≡ entries → length fixed ≤ sent → slice_get old (min (sent - length fixed) entries) ≡ slice_get (fixed ++ old) sent
past_fixed fixed old sent entries count past =
    sym (get_right fixed old sent (sent - length fixed) (omega arith) ∙ capped (sent - length fixed))
  where
    by_less : (d : ℕ) (t : Bool) → nat_lt d entries ≡ t → slice_get old d ≡ slice_get old (min d entries)
    by_less d true is =
        let less : d ≡ min d entries = grind (arith, nat_tests, is) in
        ap (slice_get old) less
    by_less d false is =
        let more : entries ≡ min d entries = grind (arith, nat_tests, is) in
        let past_it : length old ≤ d = grind (arith, nat_tests, is, count) in
        slice_get_past old d past_it ∙ sym (slice_get_past old entries (omega (arith, count))) ∙ ap (slice_get old) more

    capped : (d : ℕ) → slice_get old d ≡ slice_get old (min d entries)
    capped d = by_less d (nat_lt d entries) refl

-- past the fixed part, a state gives the next entry
pub next_entry : (m : MoverView) (o : Option (List Entry)) (r : Option Entry) → IsSound m → IfSome o (IsMidway m) → length m.fixed ≤ m.sent
    → ((old : List Entry) (n : ℕ) → o ≡ Some old → n ≤ length old → m.last ≡ last_place n old → r ≡ slice_get old n)
    → IfSome o (λ old. r ≡ slice_get (m.fixed ++ old) m.sent)
next_entry m o r holds midway past turns =
    if_some o (λ old is.
    let here : IsMidway m old = when_some (IsMidway m) o old midway is in
    turns old (keyed_given m) is (within old here) (place_now m old holds here)
    ∙ past_fixed m.fixed old m.sent m.entries here.count past)
  where
    within : (old : List Entry) → IsMidway m old → keyed_given m ≤ length old
    within old here = let count : length old ≡ m.entries = here.count in omega arith

-- the place of the next entry
pub place_after : (m : MoverView) (old : List Entry) (e : Entry) → length old ≡ m.entries → slice_get (m.fixed ++ old) m.sent ≡ Some e → place_next m e ≡ last_place (keyed_among m (m.sent + 1)) old
place_after m old e count there = by_test (nat_lt m.sent (length m.fixed)) refl
  where
    by_test : (t : Bool) → nat_lt m.sent (length m.fixed) ≡ t → (if t then None else place_of e) ≡ last_place (keyed_among m (m.sent + 1)) old
    by_test true is =
        let none : keyed_among m (m.sent + 1) ≡ 0 = grind (arith, nat_tests, is) in
        ap (λ n. last_place n old) (sym none)
    by_test false is =
        let past : length m.fixed ≤ m.sent = grind (arith, nat_tests, is) in
        let got : slice_get old (m.sent - length m.fixed) ≡ Some e = sym (get_right m.fixed old m.sent (m.sent - length m.fixed) (omega arith)) ∙ there in
        let less : m.sent - length m.fixed < length old = slice_get_within old (m.sent - length m.fixed) e got in
        let one : keyed_among m (m.sent + 1) ≡ suc (m.sent - length m.fixed) = omega (arith, count, less, past) in
        ap (option_and_then place_of) (sym got) ∙ ap (λ n. last_place n old) (sym one)

-- where there is a next entry, not all were given
pub entry_within : (m : MoverView) (old : List Entry) (e : Entry) → length old ≡ m.entries → slice_get (m.fixed ++ old) m.sent ≡ Some e → m.sent < length m.fixed + m.entries
entry_within m old e count there =
    let inside : m.sent < length (m.fixed ++ old) = slice_get_within (m.fixed ++ old) m.sent e there in
    let both : length (m.fixed ++ old) ≡ length m.fixed + length old = length-append m.fixed old in
    omega (arith, inside, both, count)

-- where there is none, all were given
pub all_given : (m : MoverView) (old : List Entry) → length old ≡ m.entries → slice_get (m.fixed ++ old) m.sent ≡ None → length m.fixed + m.entries ≤ m.sent
all_given m old count none = by_test (nat_lt m.sent (length m.fixed + m.entries)) refl
  where
    both : length (m.fixed ++ old) ≡ length m.fixed + length old
    both = length-append m.fixed old

    by_test : (t : Bool) → nat_lt m.sent (length m.fixed + m.entries) ≡ t → length m.fixed + m.entries ≤ m.sent
    by_test true is = absurd (some_there (m.fixed ++ old) m.sent (grind (arith, nat_tests, is, both, count)) none)
    by_test false is = grind (arith, nat_tests, is)

-- after an entry
pub after_entry : (m : MoverView) (old : List Entry) (e : Entry) → length old ≡ m.entries → slice_get (m.fixed ++ old) m.sent ≡ Some e
    → record m { sent = m.sent + 1; last = place_next m e } ≡ after_next m old
after_entry m old e count there = by_test (nat_lt m.sent (total_of m)) refl
  where
    inside : m.sent < length m.fixed + m.entries
    inside = entry_within m old e count there

    by_test : (t : Bool) → nat_lt m.sent (total_of m) ≡ t → record m { sent = m.sent + 1; last = place_next m e } ≡ (if t then record m { sent = m.sent + 1; last = last_place (keyed_among m (m.sent + 1)) old } else m)
    by_test true is = ap (λ p. record m { sent = m.sent + 1; last = p }) (place_after m old e count there)
    by_test false is = absurd (grind (arith, nat_tests, is, inside))

-- after the end
pub after_end : (m : MoverView) (old : List Entry) → IsSound m → IsMidway m old → slice_get (m.fixed ++ old) m.sent ≡ None → record m { sent = total_of m } ≡ after_next m old
after_end m old holds midway none = by_test (nat_lt m.sent (total_of m)) refl
  where
    given : length m.fixed + m.entries ≤ m.sent
    given = all_given m old midway.count none

    by_test : (t : Bool) → nat_lt m.sent (total_of m) ≡ t → record m { sent = total_of m } ≡ (if t then record m { sent = m.sent + 1; last = last_place (keyed_among m (m.sent + 1)) old } else m)
    by_test true is =
        let one : total_of m ≡ m.sent + 1 = grind (arith, nat_tests, is, given) in
        let same : keyed_given m ≡ keyed_among m (m.sent + 1) = omega (arith, one, given) in
        ap (λ n. record m { sent = n }) one
        ∙ ap (λ p. record m { sent = m.sent + 1; last = p }) (place_now m old holds midway ∙ ap (λ n. last_place n old) same)
    by_test false is =
        let within : m.sent ≤ length m.fixed + m.entries + 1 = holds.within in
        let all : total_of m ≡ m.sent = grind (arith, nat_tests, is, within) in
        ap (λ n. record m { sent = n }) all

-- it stays midway
pub midway_after : (m : MoverView) (old : List Entry) → IsMidway m old → IsMidway (after_next m old) old
midway_after m old midway = by_test (nat_lt m.sent (total_of m))
  where
    by_test : (t : Bool) → IsMidway (if t then record m { sent = m.sent + 1; last = last_place (keyed_among m (m.sent + 1)) old } else m) old
    by_test true = record { count = midway.count; place = λ some. refl }
    by_test false = midway

-- the facts of a turn, for the state that is watched
module _ (m : MoverView) (o : Option (List Entry)) (r : Option Entry) (watched : IsSome o) (midway : IfSome o (IsMidway m)) (entry : IfSome o (λ old. r ≡ slice_get (m.fixed ++ old) m.sent)) where
  the_old : (P : Type 0) → ((old : List Entry) → o ≡ Some old → IsMidway m old → r ≡ slice_get (m.fixed ++ old) m.sent → P) → P
  the_old P use_it = by_old o refl watched
    where
      by_old : (w : Option (List Entry)) → o ≡ w → IsSome w → P
      by_old None is some = cc
      by_old (Some old) is some = use_it old is (when_some (IsMidway m) o old midway is) (when_some (λ old. r ≡ slice_get (m.fixed ++ old) m.sent) o old entry is)

  pub some_within : (e : Entry) → r ≡ Some e → m.sent < length m.fixed + m.entries
  some_within e is = the_old (m.sent < length m.fixed + m.entries) (λ old there here at. entry_within m old e here.count (sym at ∙ is))

  pub none_given : r ≡ None → length m.fixed + m.entries ≤ m.sent
  none_given is = the_old (length m.fixed + m.entries ≤ m.sent) (λ old there here at. all_given m old here.count (sym at ∙ is))

  pub some_gives : (e : Entry) → r ≡ Some e → IfSome o (λ old. Some (moved.Chunk (m.sent + 1) e) ≡ moved_at (m.fixed ++ old) m.sent)
  some_gives e is = if_some o (λ old there.
      ap (moved_from m.sent (length (m.fixed ++ old))) (sym is ∙ when_some (λ old. r ≡ slice_get (m.fixed ++ old) m.sent) o old entry there))

  pub none_gives : r ≡ None → IfSome o (λ old. moved_from m.sent (length m.fixed + m.entries) None ≡ moved_at (m.fixed ++ old) m.sent)
  none_gives is = if_some o (λ old there.
      let here : IsMidway m old = when_some (IsMidway m) o old midway there in
      let many : length m.fixed + m.entries ≡ length (m.fixed ++ old) = ap (λ n. length m.fixed + n) (sym here.count) ∙ sym (length-append m.fixed old) in
      ap (λ n. moved_from m.sent n None) many
      ∙ ap (moved_from m.sent (length (m.fixed ++ old))) (sym is ∙ when_some (λ old. r ≡ slice_get (m.fixed ++ old) m.sent) o old entry there))

  pub some_after : (e : Entry) → r ≡ Some e → IfSome o (λ old. record m { sent = m.sent + 1; last = place_next m e } ≡ after_next m old)
  some_after e is = if_some o (λ old there.
      after_entry m old e (when_some (IsMidway m) o old midway there).count (sym (when_some (λ old. r ≡ slice_get (m.fixed ++ old) m.sent) o old entry there) ∙ is))

  pub none_after : IsSound m → r ≡ None → IfSome o (λ old. record m { sent = total_of m } ≡ after_next m old)
  none_after sound is = if_some o (λ old there.
      after_end m old sound (when_some (IsMidway m) o old midway there) (sym (when_some (λ old. r ≡ slice_get (m.fixed ++ old) m.sent) o old entry there) ∙ is))

  pub midway_next : (new : MoverView) → IfSome o (λ old. new ≡ after_next m old) → IfSome o (IsMidway new)
  midway_next new after = if_some o (λ old there.
      subst (λ (n : MoverView). IsMidway n old) (sym (when_some (λ old. new ≡ after_next m old) o old after there)) (midway_after m old (when_some (IsMidway m) o old midway there)))

-- the end is given once
pub end_known : (m : MoverView) → m.sent ≤ total_of m → length m.fixed + m.entries ≤ m.sent → IsSome (moved_from m.sent (length m.fixed + m.entries) None) ↔ (m.sent < total_of m)
end_known m within given = grind (arith, nat_tests)
