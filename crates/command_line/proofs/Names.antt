-- The arguments by their names and places.
use Rattle.std.proofs.Common.{◌≡◌, refl, subst, ℕ, zero, suc, ◌+◌, ◌<◌, ◌==◌, Bool, Option, Some, None, true, false, ◌||◌, codes, arith}
use Rattle.std.specs.Prelude.{slice_get}
use Rattle.std.specs.Str.{bytes_eq}
use Rattle.std.proofs.lemmas.Slice.Eq.{bytes_eq-Decides}
use Rattle.std.proofs.lemmas.Bool.Decides.{nat_tests}
use Rattle.clap.specs.Walk.{Text, arg_by_id, arg_by_index, arg_by_long, next_position}
use Rattle.command_line.specs.Words.{is_option, places}
use Rattle.command_line.proofs.Built.{made, rules}

some_is : (a b : Text) → ◌≡◌ {A = Option Text} (Some a) (Some b) → a ≡ b
some_is a b e = cc

-- what holds of each option's name holds of every name that is an option's
pub each_option : (P : Text → Type 0) → P (codes "cash") → P (codes "script") → P (codes "threads") → P (codes "turns") → P (codes "journal")
    → (name : Text) → is_option name ≡ true → P name
each_option P cash script threads turns journal name e = cash_or (bytes_eq (codes "cash") name) refl
  where
    is : (text : Text) → P text → bytes_eq text name ≡ true → P name
    is text p same = subst P ((bytes_eq-Decides text name).0 same) p

    journal_or : (t : Bool) → bytes_eq (codes "journal") name ≡ t → bytes_eq (codes "cash") name ≡ false → bytes_eq (codes "script") name ≡ false
        → bytes_eq (codes "threads") name ≡ false → bytes_eq (codes "turns") name ≡ false → P name
    journal_or true f a b c d = is (codes "journal") journal f
    journal_or false f a b c d =
        let none : is_option name ≡ false = rw (a, b, c, d, f) refl in
        cc

    turns_or : (t : Bool) → bytes_eq (codes "turns") name ≡ t → bytes_eq (codes "cash") name ≡ false → bytes_eq (codes "script") name ≡ false
        → bytes_eq (codes "threads") name ≡ false → P name
    turns_or true f a b c = is (codes "turns") turns f
    turns_or false f a b c = journal_or (bytes_eq (codes "journal") name) refl a b c f

    threads_or : (t : Bool) → bytes_eq (codes "threads") name ≡ t → bytes_eq (codes "cash") name ≡ false → bytes_eq (codes "script") name ≡ false → P name
    threads_or true f a b = is (codes "threads") threads f
    threads_or false f a b = turns_or (bytes_eq (codes "turns") name) refl a b f

    script_or : (t : Bool) → bytes_eq (codes "script") name ≡ t → bytes_eq (codes "cash") name ≡ false → P name
    script_or true f a = is (codes "script") script f
    script_or false f a = threads_or (bytes_eq (codes "threads") name) refl a f

    cash_or : (t : Bool) → bytes_eq (codes "cash") name ≡ t → P name
    cash_or true f = is (codes "cash") cash f
    cash_or false f = script_or (bytes_eq (codes "script") name) refl f

-- an argument is found by its id
pub record IsKnown (id : Text) : Type 0 where
  pub long : Option Text
  pub index : Option ℕ
  pub found : arg_by_id rules id ≡ Some (made id long index)

abbrev pub is_known : (long : Option Text) (index : Option ℕ) (id : Text) → arg_by_id rules id ≡ Some (made id long index) → IsKnown id
is_known long index id found = record { long = long; index = index; found = found }

abbrev FoundByLong : Text → Type 0
FoundByLong name = arg_by_long rules name ≡ Some (made name (Some name) None)

pub option_by_long : (name : Text) → is_option name ≡ true → arg_by_long rules name ≡ Some (made name (Some name) None)
option_by_long = each_option FoundByLong refl refl refl refl refl

abbrev FoundById : Text → Type 0
FoundById name = arg_by_id rules name ≡ Some (made name (Some name) None)

pub option_by_id : (name : Text) → is_option name ≡ true → arg_by_id rules name ≡ Some (made name (Some name) None)
option_by_id = each_option FoundById refl refl refl refl refl

pub known_option : (name : Text) → is_option name ≡ true → IsKnown name
known_option name is = record { long = Some name; index = None; found = option_by_id name is }

either : (a b : Bool) → (a || b) ≡ false → (a ≡ false) × (b ≡ false)
either true b e = cc
either false b e = (refl, e)

pub other_by_long : (name : Text) → is_option name ≡ false → arg_by_long rules name ≡ None
other_by_long name e =
    let cash = either _ _ e in
    let script = either _ _ cash.1 in
    let threads = either _ _ script.1 in
    let turns = either _ _ threads.1 in
    let journal = either _ _ turns.1 in
    let no_cash : bytes_eq (codes "cash") name ≡ false = cash.0 in
    let no_script : bytes_eq (codes "script") name ≡ false = script.0 in
    let no_threads : bytes_eq (codes "threads") name ≡ false = threads.0 in
    let no_turns : bytes_eq (codes "turns") name ≡ false = turns.0 in
    let no_journal : bytes_eq (codes "journal") name ≡ false = journal.0 in
    rw (no_cash, no_script, no_threads, no_turns, no_journal) refl

-- the positional at a place
pub record IsPlace (place : ℕ) (name : Text) : Type 0 where
  pub known : IsKnown name
  pub found : arg_by_index rules (place + 1) ≡ Some (made name None (Some (place + 1)))
  pub next : next_position (made name None (Some (place + 1))) (place + 1) ≡ place + 1 + 1

pub place_known : (place : ℕ) (name : Text) → slice_get places place ≡ Some name → IsPlace place name
place_known zero name is = subst (IsPlace 0) (some_is (codes "first") name is) (record { known = is_known None (Some 1) (codes "first") refl; found = refl; next = refl })
place_known (suc zero) name is = subst (IsPlace 1) (some_is (codes "second") name is) (record { known = is_known None (Some 2) (codes "second") refl; found = refl; next = refl })
place_known (suc (suc zero)) name is = subst (IsPlace 2) (some_is (codes "third") name is) (record { known = is_known None (Some 3) (codes "third") refl; found = refl; next = refl })
place_known (suc (suc (suc n))) name is = cc

other_number : (k n : ℕ) → k < n → (k == n) ≡ false
other_number k n less = grind (arith, nat_tests)

-- and there are no more
pub no_place : (place : ℕ) → slice_get places place ≡ None → arg_by_index rules (place + 1) ≡ None
no_place zero none = cc
no_place (suc zero) none = cc
no_place (suc (suc zero)) none = cc
no_place (suc (suc (suc n))) none =
    let m = suc (suc (suc n)) + 1 in
    rw (other_number 1 m (omega arith), other_number 2 m (omega arith), other_number 3 m (omega arith)) refl
