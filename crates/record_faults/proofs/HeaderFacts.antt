-- The first place of a name.
use Rattle.std.proofs.Common.{ℕ, ◌≡◌, ◌<◌, Bool, true, List, length, take, get_or, position, sym, ap}
use Rattle.std.specs.Prelude.{unwrap_or}
use Rattle.std.specs.List.{position_or_len}
use Rattle.trade_text.proofs.Places.{position-first}

pub first_place : {A : Type 0} (p : A → Bool) (xs : List A) (i : ℕ) (d : A) → i < length xs → position_or_len p (take i xs) ≡ i → p (get_or xs i d) ≡ true
    → i ≡ unwrap_or (position p xs) 0
first_place p xs i d here none at = sym (ap (λ found. unwrap_or found 0) (position-first p xs i d here none at))
