-- Text within SVG.
use Rattle.std.specs.Prelude.{ℕ, Bool, true, not, ◌&&◌, ◌==◌, List, [], ◌∷◌, codes, if◌then◌else◌, nat_lt}
use Rattle.std.specs.List.{flat_map}

-- What is written for a byte: a name for each of those that markup is made of, and a blank for a control character.
abbrev pub escape : ℕ → List ℕ
escape b =
    if b == 38 then codes "&amp;"
    else if b == 60 then codes "&lt;"
    else if b == 62 then codes "&gt;"
    else if b == 34 then codes "&quot;"
    else if b == 39 then codes "&#39;"
    else if nat_lt b 32 then codes " "
    else b ∷ []

-- a text as it is written within SVG
abbrev pub escaped : List ℕ → List ℕ
escaped text = flat_map escape text

-- whether a byte neither begins nor ends a tag or a value
abbrev pub is_plain : ℕ → Bool
is_plain b = not (b == 60) && not (b == 62) && not (b == 34) && not (b == 39)

-- whether none of these bytes does
abbrev pub are_plain : List ℕ → Bool
are_plain [] = true
are_plain (b ∷ bs) = is_plain b && are_plain bs
