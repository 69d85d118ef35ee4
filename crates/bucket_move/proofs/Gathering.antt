-- One more answer in the order of the rows.
use Rattle.std.proofs.Common.{ℕ, ◌≡◌, ◌≢◌, ◌<◌, ◌+◌, Bool, true, false, cond, List, [], ◌∷◌, ◌++◌, length, refl, sym, ap, subst, ◌∙◌, get_or, get_or-set_same, get_or-set_other, take, drop, Option, None, inl, inr, append_assoc, length-set, Some}
use Rattle.std.specs.Prelude.{◌==◌, flat_map, slice_set}
use Rattle.std.specs.Option.{option_to_list}
use Rattle.std.proofs.lemmas.Bool.{cases_Bool, eq-eqb, eqb-true}
use Rattle.std.proofs.Math.Seq.{map-set_same}
use Rattle.std.proofs.lemmas.Grind.{flat_map-append}
use Rattle.std.proofs.lemmas.List.{append-nil, drop_more, get_or-map, length-map, map-set, take_more}
use Rattle.tuple_edge.specs.declared.row.Row.{Row}
use Rattle.bucket_move.specs.Working.{AllAnswered, first_of, kept_in, picked, queues_in}
use Rattle.bucket_move.specs.declared.partition.Partition.{Partition}
use Rattle.bucket_move.specs.declared.partition.Place.{Place}

-- the first answer is that of the first place's partition
picked-first : {X : Type 0} (part : ℕ) (place : Place) (places : List Place) (x : X) (xs : List X) (t : Bool) → (place.part == part) ≡ t
    → picked part (place ∷ places) (x ∷ xs) ≡ cond t (x ∷ []) [] ++ picked part places xs
unfolding picked
picked-first part place places x xs t is = ap (λ (b : Bool). cond b (x ∷ []) [] ++ picked part places xs) is

module _ (places : List Place) (answers : List (Option Row)) (i : ℕ) (no_place : Place) (queues new : List (List (Option Row)))
    (inside : i < length places) (same : length answers ≡ length places) (there : (get_or places i no_place).part < length queues)
    (had : AllAnswered (drop i places) (drop i answers) queues)
    (is : new ≡ slice_set queues (get_or places i no_place).part (drop 1 (get_or queues (get_or places i no_place).part []))) where
  abbrev place : Place
  place = get_or places i no_place

  abbrev answer : Option Row
  answer = get_or answers i None

  within : i < length answers
  within = subst (λ (n : ℕ). i < n) (sym same) inside

  rest_picked : (part : ℕ) (t : Bool) → (place.part == part) ≡ t → part < length queues
      → get_or queues part [] ≡ cond t (answer ∷ []) [] ++ picked part (drop (i + 1) places) (drop (i + 1) answers)
  rest_picked part t test below =
      had part below
      ∙ ap (λ (ps : List Place). picked part ps (drop i answers)) (drop_more places i no_place inside)
      ∙ ap (λ (xs : List (Option Row)). picked part (place ∷ drop (i + 1) places) xs) (drop_more answers i None within)
      ∙ picked-first part place (drop (i + 1) places) answer (drop (i + 1) answers) t test

  pub answer_is : first_of (get_or queues place.part []) ≡ answer
  answer_is = ap first_of (rest_picked place.part true (eq-eqb place.part place.part refl) there)

  pub answered_further : AllAnswered (drop (i + 1) places) (drop (i + 1) answers) new
  answered_further part below =
      let old : part < length queues = subst (λ (n : ℕ). part < n) (ap length is ∙ length-set queues place.part (drop 1 (get_or queues place.part []))) below in
      ap (λ (qs : List (List (Option Row))). get_or qs part []) is
      ∙ elim (cases_Bool (place.part == part)) [
        | inl here ↦
            let at : place.part ≡ part = eqb-true place.part part here in
            ap (λ (p : ℕ). get_or (slice_set queues p (drop 1 (get_or queues p []))) part []) at
            ∙ get_or-set_same queues part (drop 1 (get_or queues part [])) [] old
            ∙ ap (drop 1) (rest_picked part true here old)
        | inr away ↦
            let apart : part ≢ place.part = λ e. absurd_eq part e away in
            get_or-set_other queues place.part part (drop 1 (get_or queues place.part [])) [] apart ∙ rest_picked part false away old
      ]
    where
      absurd_eq : (part : ℕ) → part ≡ place.part → (place.part == part) ≡ false → ⊥
      absurd_eq part e away = let same_test : (place.part == part) ≡ true = eq-eqb place.part part (sym e) in cc

-- the answers so far, with one more
pub told_further : (answers : List (Option Row)) (i : ℕ) (told more : List Row) → i < length answers → more ≡ told ++ option_to_list (get_or answers i None)
    → (had : List Row) → told ≡ had ++ flat_map option_to_list (take i answers) → more ≡ had ++ flat_map option_to_list (take (i + 1) answers)
told_further answers i told more inside is had was =
    is ∙ ap (λ (front : List Row). front ++ option_to_list (get_or answers i None)) was
    ∙ append_assoc had (flat_map option_to_list (take i answers)) (option_to_list (get_or answers i None))
    ∙ ap (λ (back : List Row). had ++ back)
    (ap (λ (back : List Row). flat_map option_to_list (take i answers) ++ back) (sym (append-nil (option_to_list (get_or answers i None))))
    ∙ sym (flat_map-append option_to_list (take i answers) (get_or answers i None ∷ []))
    ∙ ap (flat_map option_to_list) (sym (take_more answers i None inside)))

-- a partition that gave its first answer
module _ (parts : List Partition) (part : ℕ) (d new : Partition) (below : part < length parts) where
  pub kept_still : new.states.items ≡ (get_or parts part d).states.items → kept_in (slice_set parts part new) ≡ kept_in parts
  kept_still same = map-set_same (λ p. p.states.items) parts part new d same

  pub queues_further : new.answers.items ≡ drop 1 (get_or parts part d).answers.items → queues_in (slice_set parts part new) ≡ slice_set (queues_in parts) part (drop 1 (get_or (queues_in parts) part []))
  queues_further rest =
      map-set (λ p. p.answers.items) parts part new
      ∙ ap (λ (queue : List (Option Row)). slice_set (queues_in parts) part queue) (rest ∙ ap (drop 1) (sym (get_or-map (λ p. p.answers.items) parts part d [] below)))

  pub queue_is : (get_or parts part d).answers.items ≡ get_or (queues_in parts) part []
  queue_is = sym (get_or-map (λ p. p.answers.items) parts part d [] below)

pub below_queues : (parts : List Partition) (part : ℕ) → part < length parts → part < length (queues_in parts)
below_queues parts part below = subst (λ (n : ℕ). part < n) (sym (length-map parts (λ p. p.answers.items))) below

-- what an answer adds
pub told_some : (told more : List Row) (given : Option Row) (r : Row) → given ≡ Some r → more ≡ told ++ r ∷ [] → more ≡ told ++ option_to_list given
told_some told more given r is added = added ∙ ap (λ (a : Option Row). told ++ option_to_list a) (sym is)

pub told_none : (told : List Row) (given : Option Row) → given ≡ None → told ≡ told ++ option_to_list given
told_none told given is = sym (append-nil told) ∙ ap (λ (a : Option Row). told ++ option_to_list a) (sym is)
