-- The first elements of a list.
use Rattle.std.proofs.Common.{ℕ, ◌≡◌, List, length, take, min}
use Rattle.std.proofs.lemmas.List.{take_min}

pub take_least : {X : Type 0} (n : ℕ) (xs : List X) → take (min n (length xs)) xs ≡ take n xs
take_least n xs = take_min n xs
