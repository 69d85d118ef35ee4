-- What `clap` finds in words that may stand somewhere is what they give.
use Rattle.std.proofs.Common.{◌≡◌, ◌∙◌, inl, inr, refl, ap, sym, ℕ, ◌+◌, ◌&&◌, Bool, List, [], ◌∷◌, ◌++◌, Option, Some, None, true, false, fold}
use Rattle.std.specs.Prelude.{option_map, slice_get}
use Rattle.std.specs.List.{list_all}
use Rattle.clap.specs.Faults.{settle_fault, turn_fault, use_fault, walk_fault}
use Rattle.clap.specs.Kinds.{Kinds, or_else}
use Rattle.clap.specs.Walk.{Held, Row, Walk, idle, option, pushed, settled, used, walked}
use Rattle.clap.specs.declared.error.kind.ErrorKind.TheVariants as kind
use Rattle.command_line.specs.Words.{Kept, Reading, Text, finish, holds, is_option, is_plain, may_stand, onward, places, read}
use Rattle.command_line.proofs.Built.{made, rules, shape}
use Rattle.command_line.proofs.Names.{known_option, place_known}
use Rattle.command_line.proofs.Rows.{rows, used_once}
use Rattle.command_line.proofs.OneWord.{IsLongWord, IsPlainWord, word_kind}
use Rattle.command_line.proofs.Walks.{IsKnownLast, Last, held_at, held_with, keep_last, no_value_turn, option_turn, option_walk, other_turn, plain_turn, plain_walk, repeats, settles, stray_turn, use_once, value_turn, value_walk, valued_turn, valued_walk, valueless, waiting_walk, walk_at}

-- the rows, where there is no fault
abbrev pub unless_fault : Kinds → List Row → Option (List Row)
unless_fault [] rs = Some rs
unless_fault (k ∷ ks) rs = None

abbrev pub walk_on : Walk → List Text → Held
walk_on w words = (fold (walked rules []) w words).held

abbrev pub faults_from : Walk → List Text → Kinds
faults_from w words = or_else (walk_fault shape [] w words) (settle_fault rules false (walk_on w words))

-- what the walk comes to from here
abbrev pub outcome : Walk → List Text → Option (List Row)
outcome w words = unless_fault (faults_from w words) (settled rules (walk_on w words)).rows

goes_on : (w after : Walk) (word : Text) (rest : List Text) → turn_fault shape [] w word ≡ [] → walked rules [] w word ≡ after → outcome w (word ∷ rest) ≡ outcome after rest
unfolding walk_fault
goes_on w after word rest calm is = rw calm (ap (λ (v : Walk). outcome v rest) is)

fails : (w : Walk) (word : Text) (rest : List Text) (k : _) → turn_fault shape [] w word ≡ k ∷ [] → outcome w (word ∷ rest) ≡ None
unfolding walk_fault
fails w word rest k fault = rw fault refl

-- the same of the reading
abbrev reads_to : Option Reading → List Text → Option (List Row)
reads_to r words = option_map rows (finish (read r words))

read_none : (words : List Text) → read None words ≡ None
read_none [] = refl
read_none (word ∷ words) = read_none words

reads_none : (words : List Text) → reads_to None words ≡ None
reads_none words = rw (read_none words) refl

abbrev IdleReads : List Text → Type 0
IdleReads words = (kept : Kept) (last : Last) (place : ℕ) → IsKnownLast last
    → outcome (walk_at (held_with kept last) idle (place + 1)) words ≡ reads_to (onward place (keep_last last kept)) words

abbrev WaitingReads : List Text → Type 0
WaitingReads words = (kept : Kept) (name : Text) (place : ℕ) (known : is_option name ≡ true)
    → outcome (waiting_walk (rows kept) name known (place + 1)) words ≡ reads_to (Some (record { kept = kept; place = place; waiting = Some name })) words

-- ---- at the end

idle_end : IdleReads []
unfolding walk_fault
idle_end kept last place known = go (keep_last last kept) refl
  where
    go : (now : Option Kept) → keep_last last kept ≡ now → outcome (walk_at (held_with kept last) idle (place + 1)) [] ≡ reads_to (onward place (keep_last last kept)) []
    go None e = rw (repeats last kept known e, e) refl
    go (Some now) e =
        let s = settles last kept now known e in
        rw (s.0, e) (ap (λ (h : Held). Some h.rows) s.1)

waiting_end : WaitingReads []
unfolding walk_fault
waiting_end kept name place known = rw (valueless (rows kept) name known (place + 1)) refl

-- ---- one more word

module _ (word : Text) (rest : List Text) (idle_rest : IdleReads rest) (waiting_rest : WaitingReads rest) where
  idle_plain : IsPlainWord word → IdleReads (word ∷ rest)
  idle_plain is kept last place known = by_place (slice_get places place) refl
    where
      none_of : (now : Option Kept) → slice_get places place ≡ None → reads_to (onward place now) (word ∷ rest) ≡ None
      none_of None at = reads_none rest
      none_of (Some now) at = rw (is.plain, at) (reads_none rest)

      by_kept : (now : Option Kept) (name : Text) → keep_last last kept ≡ now → slice_get places place ≡ Some name
          → outcome (walk_at (held_with kept last) idle (place + 1)) (word ∷ rest) ≡ reads_to (onward place (keep_last last kept)) (word ∷ rest)
      by_kept None name e at =
          fails _ word rest kind.ArgumentConflict (plain_turn (held_with kept last) (place + 1) word place name is (place_known place name at) refl ∙ repeats last kept known e)
          ∙ sym (rw e (reads_none rest))
      by_kept (Some now) name e at =
          let s = settles last kept now known e in
          goes_on _ (walk_at (held_with now (Some (name, word))) idle (place + 1 + 1)) word rest
          (plain_turn (held_with kept last) (place + 1) word place name is (place_known place name at) refl ∙ s.0)
          (plain_walk (held_with kept last) (place + 1) word place name is (place_known place name at) refl ∙ ap (λ (h : Held). walk_at (pushed name word h) idle (place + 1 + 1)) s.1)
          ∙ idle_rest now (Some (name, word)) (place + 1) (place_known place name at).known
          ∙ sym (rw (e, is.plain, at) refl)

      by_place : (at : Option Text) → slice_get places place ≡ at
          → outcome (walk_at (held_with kept last) idle (place + 1)) (word ∷ rest) ≡ reads_to (onward place (keep_last last kept)) (word ∷ rest)
      by_place None at =
          fails _ word rest kind.UnknownArgument (stray_turn (held_with kept last) (place + 1) word place is at refl)
          ∙ sym (none_of (keep_last last kept) at)
      by_place (Some name) at = by_kept (keep_last last kept) name refl at

  idle_long : IsLongWord word → IdleReads (word ∷ rest)
  idle_long is kept last place known = by_name (is_option is.name) refl
    where
      none_of : (now : Option Kept) → is_option is.name ≡ false → reads_to (onward place now) (word ∷ rest) ≡ None
      none_of None e = reads_none rest
      none_of (Some now) e = go is.value refl
        where
          go : (value : Option Text) → is.value ≡ value → reads_to (onward place (Some now)) (word ∷ rest) ≡ None
          go None v = rw (is.other, is.read, v, e) (reads_none rest)
          go (Some value) v = rw (is.other, is.read, v, e) (reads_none rest)

      waits : (now : Option Kept) → keep_last last kept ≡ now → is_option is.name ≡ true → is.value ≡ None
          → outcome (walk_at (held_with kept last) idle (place + 1)) (word ∷ rest) ≡ reads_to (onward place (keep_last last kept)) (word ∷ rest)
      waits None e named v =
          fails _ word rest kind.ArgumentConflict (option_turn (held_with kept last) (place + 1) word is named v ∙ repeats last kept known e) ∙ sym (rw e (reads_none rest))
      waits (Some now) e named v =
          let s = settles last kept now known e in
          goes_on _ (waiting_walk (rows now) is.name named (place + 1)) word rest
          (option_turn (held_with kept last) (place + 1) word is named v ∙ s.0)
          (option_walk (held_with kept last) (place + 1) word is named v
          ∙ ap (λ (h : Held). walk_at (record h { pending = Some (is.name, []) }) (option is.name) (place + 1)) s.1)
          ∙ waiting_rest now is.name place named
          ∙ sym (rw (e, is.other, is.read, v, named) refl)

      valued : (value : Text) (now : Option Kept) → keep_last last kept ≡ now → is_option is.name ≡ true → is.value ≡ Some value
          → outcome (walk_at (held_with kept last) idle (place + 1)) (word ∷ rest) ≡ reads_to (onward place (keep_last last kept)) (word ∷ rest)
      valued value None e named v =
          fails _ word rest kind.ArgumentConflict (valued_turn (held_with kept last) (place + 1) word is value named v ∙ rw (repeats last kept known e) refl)
          ∙ sym (rw e (reads_none rest))
      valued value (Some now) e named v = go (holds is.name now) refl
        where
          plain_value : is_plain value ≡ true
          plain_value = rw v at is.value_plain

          after_fault : settled rules (held_with kept last) ≡ held_at (rows now) None → settle_fault rules false (held_with kept last) ≡ []
              → turn_fault shape [] (walk_at (held_with kept last) idle (place + 1)) word ≡ use_fault false (made is.name (Some is.name) None) (value ∷ []) (rows now)
          after_fault is_settled calm = valued_turn (held_with kept last) (place + 1) word is value named v
              ∙ rw calm (ap (λ (h : Held). use_fault false (made is.name (Some is.name) None) (value ∷ []) h.rows) is_settled)

          go : (t : Bool) → holds is.name now ≡ t
              → outcome (walk_at (held_with kept last) idle (place + 1)) (word ∷ rest) ≡ reads_to (onward place (keep_last last kept)) (word ∷ rest)
          go true f =
              let s = settles last kept now known e in
              fails _ word rest kind.ArgumentConflict (after_fault s.1 s.0 ∙ use_once is.name value (Some is.name) None now ∙ rw f refl)
              ∙ sym (rw (e, is.other, is.read, v, named, plain_value, f) (reads_none rest))
          go false f =
              let s = settles last kept now known e in
              goes_on _ (walk_at (held_with (now ++ (is.name, value) ∷ []) None) idle (place + 1)) word rest
              (after_fault s.1 s.0 ∙ use_once is.name value (Some is.name) None now ∙ rw f refl)
              (valued_walk (held_with kept last) (place + 1) word is value named v
              ∙ ap (λ (h : Held). walk_at (held_at (used (made is.name (Some is.name) None) (value ∷ []) h.rows) None) idle (place + 1)) s.1
              ∙ ap (λ (rs : List Row). walk_at (held_at rs None) idle (place + 1)) (used_once is.name value (Some is.name) None now f))
              ∙ idle_rest (now ++ (is.name, value) ∷ []) None place tt
              ∙ sym (rw (e, is.other, is.read, v, named, plain_value, f) refl)

      by_name : (t : Bool) → is_option is.name ≡ t
          → outcome (walk_at (held_with kept last) idle (place + 1)) (word ∷ rest) ≡ reads_to (onward place (keep_last last kept)) (word ∷ rest)
      by_name false e = fails _ word rest kind.UnknownArgument (other_turn (held_with kept last) (place + 1) word is e) ∙ sym (none_of (keep_last last kept) e)
      by_name true e = by_value is.value refl
        where
          by_value : (value : Option Text) → is.value ≡ value
              → outcome (walk_at (held_with kept last) idle (place + 1)) (word ∷ rest) ≡ reads_to (onward place (keep_last last kept)) (word ∷ rest)
          by_value None v = waits (keep_last last kept) refl e v
          by_value (Some value) v = valued value (keep_last last kept) refl e v

  waiting_plain : IsPlainWord word → WaitingReads (word ∷ rest)
  waiting_plain is kept name place known =
      goes_on _ (walk_at (held_with kept (Some (name, word))) idle (place + 1)) word rest (value_turn (rows kept) name known (place + 1) word is)
      (value_walk (rows kept) name known (place + 1) word is)
      ∙ idle_rest kept (Some (name, word)) place (known_option name known)
      ∙ sym (rw is.plain refl)

  waiting_long : IsLongWord word → WaitingReads (word ∷ rest)
  waiting_long is kept name place known =
      let fault = no_value_turn (rows kept) name known (place + 1) word is in
      fails _ word rest fault.0 fault.1 ∙ sym (rw is.other (reads_none rest))

-- ---- all words

both : (a b : Bool) → (a && b) ≡ true → (a ≡ true) × (b ≡ true)
both true b e = (refl, e)
both false b e = cc

pub reads_all : (words : List Text) → list_all may_stand words ≡ true → IdleReads words × WaitingReads words
reads_all [] stand = (idle_end, waiting_end)
reads_all (word ∷ rest) stand =
    let parts = both (may_stand word) (list_all may_stand rest) stand in
    let more = reads_all rest parts.1 in
    elim (word_kind word parts.0) [
      | inl is ↦ (idle_plain word rest more.0 more.1 is, waiting_plain word rest more.0 more.1 is)
      | inr is ↦ (idle_long word rest more.0 more.1 is, waiting_long word rest more.0 more.1 is)
    ]
