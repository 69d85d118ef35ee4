-- Texts that grow piece by piece.
use Rattle.std.proofs.Common.{ℕ, ◌≡◌, List, ◌++◌, ap, ◌∙◌, append_assoc}

-- what was appended in two steps was appended in one
pub then : (before between after a b : List ℕ) → between ≡ before ++ a → after ≡ between ++ b → after ≡ before ++ (a ++ b)
then before between after a b first second = second ∙ ap (λ (t : List ℕ). t ++ b) first ∙ append_assoc before a b
