-- Texts that are appended one after the other.
use Rattle.std.proofs.Common.{ℕ, ◌≡◌, List, ◌++◌, length, take, min, ap, ◌∙◌, append_assoc, rules}
use Rattle.std.proofs.lemmas.List.{take_min}

pub take_least : (n : ℕ) (xs : List ℕ) → take (min n (length xs)) xs ≡ take n xs
take_least n xs = take_min n xs

pub two_parts : (before more all part last : List ℕ) → more ≡ before ++ part → all ≡ more ++ last → all ≡ before ++ (part ++ last)
two_parts before more all part last first second = second ∙ ap (λ text. text ++ last) first ∙ search (append_assoc, rules)

pub three_parts : (before more most all mark part last : List ℕ) → more ≡ before ++ mark → most ≡ more ++ part → all ≡ most ++ last → all ≡ before ++ (mark ++ (part ++ last))
three_parts before more most all mark part last first second third =
    two_parts more most all part last second third ∙ ap (λ text. text ++ (part ++ last)) first ∙ search (append_assoc, rules)
