-- Moves of which none is made sooner than the one before it.
use Rattle.std.proofs.Common.{ℕ, suc, ◌≡◌, ◌≤◌, ◌-◌, List, [], ◌∷◌, ◌++◌, length, refl, ap, subst, ◌∙◌, arith}
use Rattle.std.specs.Prelude.{slice_get, unwrap_or}
use Rattle.std.specs.Option.{option_map}
use Rattle.bucket_move.specs.Shifts.{DontFall, last_at}
use Rattle.bucket_move.specs.declared.moves.Shift.{Shift}

-- the stamp of the last move, or that before the first
abbrev last_from : ℕ → List Shift → ℕ
last_from least [] = least
last_from least (s ∷ shifts) = last_from s.at shifts

last_is : (least : ℕ) (s : Shift) (shifts : List Shift) → last_at (s ∷ shifts) ≡ last_from least (s ∷ shifts)
last_is least s [] = refl
last_is least s (next ∷ shifts) =
    let later : length (s ∷ next ∷ shifts) - 1 ≡ suc (length (next ∷ shifts) - 1) = omega arith in
    ap (λ (k : ℕ). unwrap_or (option_map (λ (x : Shift). x.at) (slice_get (s ∷ next ∷ shifts) k)) 0) later ∙ last_is s.at next shifts

pushed : (least : ℕ) (shifts : List Shift) (s : Shift) → DontFall least shifts → last_from least shifts ≤ s.at → DontFall least (shifts ++ s ∷ [])
pushed least [] s order later = (later, tt)
pushed least (x ∷ shifts) s order later = (order.0, pushed x.at shifts s order.1 later)

-- a move that is made no sooner than the last
pub one_more : (shifts : List Shift) (s : Shift) → DontFall 0 shifts → last_at shifts ≤ s.at → DontFall 0 (shifts ++ s ∷ [])
one_more [] s order later = (omega arith, tt)
one_more (x ∷ shifts) s order later = pushed 0 (x ∷ shifts) s order (subst (λ (n : ℕ). n ≤ s.at) (last_is 0 x shifts) later)
