-- The numbers that a newcomer holds, written one after another.
use Rattle.std.proofs.Common.{◌≡◌, ℕ, List, ◌∷◌, ◌++◌, codes, ap}
use Rattle.std.specs.Fmt.{decimal}
use Rattle.std.specs.List.{flat_map}
use Rattle.state_text.specs.StateText.{held_text}

abbrev pub after_comma : ℕ → List ℕ
after_comma n = codes "," ++ decimal n

pub held_from : (ns : List ℕ) (n : ℕ) (rest : List ℕ) → ns ≡ n ∷ rest → held_text ns ≡ decimal n ++ flat_map after_comma rest
held_from ns n rest e = ap held_text e
