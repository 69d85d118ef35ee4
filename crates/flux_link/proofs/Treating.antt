-- What one more arrival adds to what is given by choices.
use Rattle.flux_link.specs.Choices.{at_own_place, left_behind, treated_behind, treated}
use Rattle.flux_link.specs.Treating.{IsTreating, arrivals_since, choice_after, held_after, given_but_for}
use Rattle.flux_link.specs.declared.arrival.Arrival.{Arrival}
use Rattle.flux_link.specs.declared.lossy.Choice.{Choice}
use Rattle.flux_link.specs.declared.lossy.Choice.TheVariants.{Pass}
use Rattle.std.proofs.Common.{◌≡◌, ℕ, ◌+◌, ◌-◌, ◌≤◌, min, subst, List, [], ◌∷◌, ◌++◌, length, take, Option, None, Some, refl, ap, sym, ◌∙◌, arith, append_assoc, append-nil, length-append}
use Rattle.std.proofs.lemmas.List.{take_at, drop-append-le, get_or_past}
use Rattle.std.specs.Prelude.{option_to_list, MatchOption}

-- one more arrival gives what it gives at its own place, and then comes the one that was held
pub treated_push : (choices : List Choice) (held : Option Arrival) (arrivals : List Arrival) (last : Arrival)
    → treated_behind choices held (arrivals ++ last ∷ [])
    ≡ treated_behind choices held arrivals ++ (at_own_place (choice_after choices (length arrivals)) last ++ option_to_list (held_after choices held arrivals))
treated_push [] held [] last = append-nil (last ∷ option_to_list held)
treated_push (choice ∷ choices) held [] last = append-nil (at_own_place choice last ++ option_to_list held)
treated_push [] held (arrival ∷ arrivals) last =
    let given = arrival ∷ option_to_list held in
    let more = last ∷ option_to_list (held_after [] None arrivals) in
    ap (λ l. given ++ l) (treated_push [] None arrivals last) ∙ sym (append_assoc given (treated_behind [] None arrivals) more)
treated_push (choice ∷ choices) held (arrival ∷ arrivals) last =
    let given = at_own_place choice arrival ++ option_to_list held in
    let left = left_behind choice arrival in
    let more = at_own_place (choice_after choices (length arrivals)) last ++ option_to_list (held_after choices left arrivals) in
    ap (λ l. given ++ l) (treated_push choices left arrivals last) ∙ sym (append_assoc given (treated_behind choices left arrivals) more)

-- after one more arrival what it leaves behind is held
pub held_after_push : (choices : List Choice) (held : Option Arrival) (arrivals : List Arrival) (last : Arrival)
    → held_after choices held (arrivals ++ last ∷ []) ≡ left_behind (choice_after choices (length arrivals)) last
held_after_push [] held [] last = refl
held_after_push (choice ∷ choices) held [] last = refl
held_after_push [] held (arrival ∷ arrivals) last = held_after_push [] None arrivals last
held_after_push (choice ∷ choices) held (arrival ∷ arrivals) last = held_after_push choices (left_behind choice arrival) arrivals last

-- where what was given stands before what is ready, it is what was given but for that
pub given_front : (choices : List Choice) (arrivals given waiting : List Arrival)
    → treated choices arrivals ≡ given ++ waiting → given_but_for waiting choices arrivals ≡ given
given_front choices arrivals given waiting all =
    let count : length given ≡ length (treated choices arrivals) - length waiting = omega (arith, ap length all, length-append given waiting) in
    ap (take (length (treated choices arrivals) - length waiting)) all
    ∙ take_at given waiting (length (treated choices arrivals) - length waiting) count

-- one more arrival is treated by its choice
module _ {before arrivals arrivals_after ready ready_after : List Arrival} {choices : List Choice} {next taken : ℕ}
    {held : Option Arrival} (last : Arrival) (choice : Choice)
    (was : IsTreating before arrivals choices next held ready taken)
    (none : ready ≡ [])
    (came : arrivals_after ≡ arrivals ++ last ∷ [])
    (chosen : choice ≡ choice_after choices (length (arrivals_since before arrivals)))
    (ready_is : ready_after ≡ at_own_place choice last ++ option_to_list held) where
  pub since_after : arrivals_since before arrivals_after ≡ arrivals_since before arrivals ++ last ∷ []
  since_after = ap (arrivals_since before) came ∙ drop-append-le (length before) arrivals (last ∷ []) was.began

  treated_after : treated choices (arrivals_since before arrivals_after) ≡ treated choices (arrivals_since before arrivals) ++ ready_after
  treated_after =
      ap (treated choices) since_after ∙ (treated_push choices None (arrivals_since before arrivals) last
      ∙ ap (λ l. treated choices (arrivals_since before arrivals) ++ l)
      (ap (λ o. at_own_place (choice_after choices (length (arrivals_since before arrivals))) last ++ option_to_list o) (sym was.holds)
      ∙ (ap (λ o. at_own_place o last ++ option_to_list held) (sym chosen) ∙ sym ready_is)))

  all_given : given_but_for ready choices (arrivals_since before arrivals) ≡ treated choices (arrivals_since before arrivals)
  all_given =
      sym (append-nil (given_but_for ready choices (arrivals_since before arrivals)))
      ∙ (ap (λ l. given_but_for ready choices (arrivals_since before arrivals) ++ l) (sym none) ∙ was.waits)

  given_after : given_but_for ready_after choices (arrivals_since before arrivals_after) ≡ treated choices (arrivals_since before arrivals)
  given_after =
      given_front choices (arrivals_since before arrivals_after) (treated choices (arrivals_since before arrivals)) ready_after treated_after

  -- what was given stays as it was
  pub given_same : given_but_for ready_after choices (arrivals_since before arrivals_after)
      ≡ given_but_for ready choices (arrivals_since before arrivals)
  given_same = given_after ∙ sym all_given

  -- past the end of the choices it is passed, and is ready
  one_ready : length choices ≤ length (arrivals_since before arrivals) → 1 ≤ length ready_after
  one_ready past =
      let passed : choice ≡ Pass = chosen ∙ get_or_past choices (length (arrivals_since before arrivals)) Pass past in
      omega (arith, ap length (ready_is ∙ ap (λ o. at_own_place o last ++ option_to_list held) passed))

  pub treats : (next_after taken_after : ℕ) (left : Option Arrival)
      → next_after ≡ min (next + 1) (length choices) → left ≡ left_behind choice last → taken_after ≤ taken + 1
      → IsTreating before arrivals_after choices next_after left ready_after taken_after
  treats next_after taken_after left on leaves more =
      let longer : length arrivals_after ≡ length arrivals + 1 = ap length came ∙ length-append arrivals (last ∷ []) in
      let since_longer : length (arrivals_since before arrivals_after) ≡ length (arrivals_since before arrivals) + 1 =
      ap length since_after ∙ length-append (arrivals_since before arrivals) (last ∷ []) in
      record {
        began = omega (arith, longer, was.began);
        place = omega (arith, was.place, since_longer, on);
        holds = leaves ∙ (ap (λ o. left_behind o last) chosen
            ∙ (sym (held_after_push choices None (arrivals_since before arrivals) last) ∙ ap (held_after choices None) (sym since_after)));
        waits = ap (λ l. l ++ ready_after) given_after ∙ sym treated_after;
        few = grind (arith, was.few, was.place, ap length none, ap length given_same, more, on, one_ready);
      }

-- the first of what is ready is given, where something is ready
module _ (choices : List Choice) (arrivals ready ready_after : List Arrival)
    (waits : given_but_for ready choices arrivals ++ ready ≡ treated choices arrivals) where
  pub gives : (result : Option Arrival) → MatchOption result ((ready ≡ []) × (ready_after ≡ [])) (λ arrival. ready ≡ arrival ∷ ready_after)
      → MatchOption result
      ((ready ≡ []) × (ready_after ≡ []) × (given_but_for ready_after choices arrivals ≡ given_but_for ready choices arrivals))
      (λ arrival. given_but_for ready_after choices arrivals ≡ given_but_for ready choices arrivals ++ arrival ∷ [])
  gives None took = (took.0, took.1, ap (λ l. given_but_for l choices arrivals) (took.1 ∙ sym took.0))
  gives (Some arrival) took =
      let given = given_but_for ready choices arrivals in
      given_front choices arrivals (given ++ arrival ∷ []) ready_after
      (sym waits ∙ (ap (λ l. given ++ l) took ∙ sym (append_assoc given (arrival ∷ []) ready_after)))

-- and all else stays as it was
pub gives_sound : {before arrivals ready ready_after : List Arrival} {choices : List Choice} {next taken : ℕ} {held : Option Arrival}
    → IsTreating before arrivals choices next held ready taken
    → (result : Option Arrival) → MatchOption result ((ready ≡ []) × (ready_after ≡ [])) (λ arrival. ready ≡ arrival ∷ ready_after)
    → IsTreating before arrivals choices next held ready_after taken
gives_sound {before} {arrivals} {ready} {ready_after} {choices} {next} {taken} {held} was None took =
    subst (λ l. IsTreating before arrivals choices next held l taken) (took.0 ∙ sym took.1) was
gives_sound {before} {arrivals} {ready} {ready_after} {choices} {next} {taken} {held} was (Some arrival) took =
    let given = given_but_for ready choices (arrivals_since before arrivals) in
    let more : given_but_for ready_after choices (arrivals_since before arrivals) ≡ given ++ arrival ∷ [] =
    gives choices (arrivals_since before arrivals) ready ready_after was.waits (Some arrival) took in
    record {
      began = was.began;
      place = was.place;
      holds = was.holds;
      waits = ap (λ l. l ++ ready_after) more ∙ (append_assoc given (arrival ∷ []) ready_after ∙ (ap (λ l. given ++ l) (sym took) ∙ was.waits));
      few = omega (arith, was.few, ap length more, length-append given (arrival ∷ []));
    }
