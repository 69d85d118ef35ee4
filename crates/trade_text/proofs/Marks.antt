-- The mark at the front of a text.
use Rattle.std.proofs.Common.{ℕ, ◌≡◌, ◌≤◌, true, false, List, [], ◌∷◌, drop, length, refl, arith}
use Rattle.std.proofs.lemmas.Bool.{false≢true}
use Rattle.csv.specs.Reading.{strip_bom}
use Rattle.trade_text.specs.Records.{starts_with_mark}

-- nothing is dropped of a text with no mark
pub strip_bom-plain : (text : List ℕ) → starts_with_mark text ≡ false → strip_bom text ≡ text
unfolding strip_bom
strip_bom-plain [] plain = refl
strip_bom-plain (a ∷ []) plain = refl
strip_bom-plain (a ∷ b ∷ []) plain = refl
strip_bom-plain (a ∷ b ∷ c ∷ rest) plain = rw plain refl

-- three bytes are dropped of a text with a mark
pub strip_bom-marked : (text : List ℕ) → starts_with_mark text ≡ true → strip_bom text ≡ drop 3 text
unfolding strip_bom
strip_bom-marked [] marked = absurd (false≢true marked)
strip_bom-marked (a ∷ []) marked = absurd (false≢true marked)
strip_bom-marked (a ∷ b ∷ []) marked = absurd (false≢true marked)
strip_bom-marked (a ∷ b ∷ c ∷ rest) marked = rw marked refl

-- a mark has three bytes
pub marked-long : (text : List ℕ) → starts_with_mark text ≡ true → 3 ≤ length text
marked-long [] marked = absurd (false≢true marked)
marked-long (a ∷ []) marked = absurd (false≢true marked)
marked-long (a ∷ b ∷ []) marked = absurd (false≢true marked)
marked-long (a ∷ b ∷ c ∷ rest) marked = omega arith
