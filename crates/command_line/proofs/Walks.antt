-- The walk of `clap` over the words, one word after the other.
use Rattle.std.proofs.Common.{◌≡◌, ◌∙◌, refl, ap, ℕ, ◌+◌, ◌&&◌, Bool, List, [], ◌∷◌, ◌++◌, Option, Some, None, true, false}
use Rattle.std.specs.Prelude.{if◌then◌else◌, slice_get}
use Rattle.std.specs.Str.{bytes_eq}
use Rattle.std.proofs.lemmas.Slice.Eq.{bytes_eq-Decides}
use Rattle.clap.specs.Faults.{settle_fault, turn_fault, use_fault}
use Rattle.clap.specs.Kinds.{Kinds, or_else}
use Rattle.clap.specs.Walk.{Held, Row, Text, Waiting, Walk, idle, option, pushed, settled, used, walked}
use Rattle.clap.specs.declared.error.kind.ErrorKind.TheVariants as kind
use Rattle.command_line.specs.Words.{Kept, holds, is_option, keep, places}
use Rattle.command_line.proofs.Built.{made, rules, shape}
use Rattle.command_line.proofs.Names.{IsKnown, IsPlace, option_by_id, option_by_long, other_by_long, no_place}
use Rattle.command_line.proofs.Rows.{has_row_kept, rows, used_once}
use Rattle.command_line.proofs.OneWord.{IsLongWord, IsPlainWord}

-- ---- what is held between two words

abbrev pub held_at : List Row → Option (Text × List Text) → Held
held_at rs pending = record { rows = rs; pending = pending; skip = 0 }

abbrev pub walk_at : Held → Waiting → ℕ → Walk
walk_at h waiting position = record { held = h; waiting = waiting; position = position; is_trailing = false; stopped = None }

-- the last word, or the last option with its value, is used only with what comes next
abbrev pub Last : Type 0
Last = Option (Text × Text)

abbrev pub last_pending : Last → Option (Text × List Text)
last_pending None = None
last_pending (Some pair) = Some (pair.0, pair.1 ∷ [])

abbrev pub IsKnownLast : Last → Type 0
IsKnownLast None = Unit {0}
IsKnownLast (Some pair) = IsKnown pair.0

abbrev pub keep_last : Last → Kept → Option Kept
keep_last None kept = Some kept
keep_last (Some pair) kept = keep pair.0 pair.1 kept

abbrev pub held_with : Kept → Last → Held
held_with kept last = held_at (rows kept) (last_pending last)

-- a use of an argument with one value fails where it was used before
pub use_once : (id value : Text) (long : Option Text) (index : Option ℕ) (kept : Kept)
    → use_fault false (made id long index) (value ∷ []) (rows kept) ≡ (if holds id kept then kind.ArgumentConflict ∷ [] else [])
use_once id value long index kept = rw (has_row_kept id kept) (go (holds id kept))
  where
    go : (t : Bool) → or_else (if t && true then kind.ArgumentConflict ∷ [] else []) [] ≡ (if t then kind.ArgumentConflict ∷ [] else [])
    go true = refl
    go false = refl

pub settles : (last : Last) (kept now : Kept) → IsKnownLast last → keep_last last kept ≡ Some now
    → (settle_fault rules false (held_with kept last) ≡ []) × (settled rules (held_with kept last) ≡ held_at (rows now) None)
settles None kept now known is = (refl, ap (λ (k : Kept). held_at (rows k) None) (some_kept kept now is))
  where
    some_kept : (a b : Kept) → ◌≡◌ {A = Option Kept} (Some a) (Some b) → a ≡ b
    some_kept a b e = cc
settles (Some pair) kept now known is = go (holds pair.0 kept) refl is
  where
    go : (t : Bool) → holds pair.0 kept ≡ t → (if t then None else Some (kept ++ pair ∷ [])) ≡ Some now
        → (settle_fault rules false (held_with kept (Some pair)) ≡ []) × (settled rules (held_with kept (Some pair)) ≡ held_at (rows now) None)
    go true f e = cc
    go false f e =
        let same : kept ++ pair ∷ [] ≡ now = cc in (
          rw known.found (use_once pair.0 pair.1 known.long known.index kept ∙ rw f refl),
          rw known.found (ap (λ rs. held_at rs None) (used_once pair.0 pair.1 known.long known.index kept f ∙ ap rows same)),
        )

pub repeats : (last : Last) (kept : Kept) → IsKnownLast last → keep_last last kept ≡ None → settle_fault rules false (held_with kept last) ≡ kind.ArgumentConflict ∷ []
repeats None kept known is = cc
repeats (Some pair) kept known is = go (holds pair.0 kept) refl is
  where
    go : (t : Bool) → holds pair.0 kept ≡ t → ◌≡◌ {A = Option Kept} (if t then None else Some (kept ++ pair ∷ [])) None
        → settle_fault rules false (held_with kept (Some pair)) ≡ kind.ArgumentConflict ∷ []
    go true f e = rw known.found (use_once pair.0 pair.1 known.long known.index kept ∙ rw f refl)
    go false f e = cc

-- ---- one word, where no option waits

and_false : (t : Bool) → (t && false) ≡ false
and_false true = refl
and_false false = refl

pub or_none : (kinds : Kinds) → or_else kinds [] ≡ kinds
or_none [] = refl
or_none (k ∷ ks) = refl

module _ (h : Held) (position : ℕ) (word : Text) where
  -- a plain word is the next positional one
  pub plain_turn : (place : ℕ) (name : Text) → IsPlainWord word → IsPlace place name → position ≡ place + 1
      → turn_fault shape [] (walk_at h idle position) word ≡ settle_fault rules false h
  plain_turn place name is at here = rw (here, is.no_end, is.no_long, is.no_short, at.found, and_false) refl

  pub plain_walk : (place : ℕ) (name : Text) → IsPlainWord word → IsPlace place name → position ≡ place + 1
      → walked rules [] (walk_at h idle position) word ≡ walk_at (pushed name word (settled rules h)) idle (place + 1 + 1)
  unfolding walked
  plain_walk place name is at here = rw (here, is.no_end, is.no_long, is.no_short, at.found, at.next, and_false) refl

  -- and there may be no more of them
  pub stray_turn : (place : ℕ) → IsPlainWord word → slice_get places place ≡ None → position ≡ place + 1
      → turn_fault shape [] (walk_at h idle position) word ≡ kind.UnknownArgument ∷ []
  stray_turn place is none here = rw (here, is.no_end, is.no_long, is.no_short, no_place place none) refl

  module _ (is : IsLongWord word) where
    pub other_turn : is_option is.name ≡ false → turn_fault shape [] (walk_at h idle position) word ≡ kind.UnknownArgument ∷ []
    other_turn other = rw (is.no_end, is.long, other_by_long is.name other) refl

    -- an option whose value is the next word
    pub option_turn : is_option is.name ≡ true → is.value ≡ None → turn_fault shape [] (walk_at h idle position) word ≡ settle_fault rules false h
    option_turn known none = rw (is.no_end, is.long, none, option_by_long is.name known) (or_none (settle_fault rules false h))

    pub option_walk : is_option is.name ≡ true → is.value ≡ None
        → walked rules [] (walk_at h idle position) word ≡ walk_at (record (settled rules h) { pending = Some (is.name, []) }) (option is.name) position
    unfolding walked
    option_walk known none = rw (is.no_end, is.long, none, option_by_long is.name known) refl

    -- an option with its value
    pub valued_turn : (value : Text) → is_option is.name ≡ true → is.value ≡ Some value → turn_fault shape [] (walk_at h idle position) word
        ≡ or_else (settle_fault rules false h) (use_fault false (made is.name (Some is.name) None) (value ∷ []) (settled rules h).rows)
    valued_turn value known some = rw (is.no_end, is.long, some, option_by_long is.name known) (or_none _)

    pub valued_walk : (value : Text) → is_option is.name ≡ true → is.value ≡ Some value → walked rules [] (walk_at h idle position) word
        ≡ walk_at (record h { rows = used (made is.name (Some is.name) None) (value ∷ []) (settled rules h).rows; pending = None }) idle position
    unfolding walked
    valued_walk value known some = rw (is.no_end, is.long, some, option_by_long is.name known) refl

-- ---- one word, where an option waits for its value

same_text : (text : Text) → bytes_eq text text ≡ true
same_text text = (bytes_eq-Decides text text).1 refl

module _ (rs : List Row) (name : Text) (known : is_option name ≡ true) (position : ℕ) where
  abbrev pub waiting_walk : Walk
  waiting_walk = walk_at (held_at rs (Some (name, []))) (option name) position

  pub value_turn : (word : Text) → IsPlainWord word → turn_fault shape [] waiting_walk word ≡ []
  value_turn word is = rw (is.no_end, is.no_long, is.no_short) refl

  pub value_walk : (word : Text) → IsPlainWord word → walked rules [] waiting_walk word ≡ walk_at (held_at rs (Some (name, word ∷ []))) idle position
  unfolding walked
  value_walk word is = rw (is.no_end, is.no_long, is.no_short, option_by_id name known, same_text name) refl

  -- an option without its value
  pub valueless : settle_fault rules false (held_at rs (Some (name, []))) ≡ kind.InvalidValue ∷ []
  valueless = rw (option_by_id name known) refl

  pub no_value_turn : (word : Text) → IsLongWord word → (k : _) × (turn_fault shape [] waiting_walk word ≡ k ∷ [])
  no_value_turn word is = by_name (is_option is.name) refl
    where
      by_value : (value : Option Text) → is.value ≡ value → is_option is.name ≡ true → (k : _) × (turn_fault shape [] waiting_walk word ≡ k ∷ [])
      by_value None v e = (kind.InvalidValue, rw (is.no_end, is.long, v, option_by_long is.name e, option_by_id name known) refl)
      by_value (Some value) v e = (kind.InvalidValue, rw (is.no_end, is.long, v, option_by_long is.name e, option_by_id name known) refl)

      by_name : (t : Bool) → is_option is.name ≡ t → (k : _) × (turn_fault shape [] waiting_walk word ≡ k ∷ [])
      by_name true e = by_value is.value refl e
      by_name false e = (kind.UnknownArgument, rw (is.no_end, is.long, other_by_long is.name e) refl)
