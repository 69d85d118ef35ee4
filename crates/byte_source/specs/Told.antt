-- What sources of bytes tell, and what a read does.
use Rattle.std.specs.Prelude.{ℕ, ◌≡◌, ◌||◌, Bool, true, false, List, [], ◌∷◌, ◌++◌, Option}
use Rattle.std.specs.Io.KnownBytes.{Consumes, IsAtEnd, Keeps}
use Rattle.flux_outside.specs.Outside.{Rose}

-- What a source tells: the bytes that it gave, in order; those that are left, where that is told; whether a read found the end; and how often a read has
-- failed, as far as it is counted.
pub record SourceTold : Type 0 where
  pub given : List ℕ
  pub left : Option (List ℕ)
  pub ended : Bool
  pub faults : ℕ

-- whether a piece has no bytes
abbrev pub is_none_of : List ℕ → Bool
is_none_of [] = true
is_none_of (byte ∷ bytes) = false

-- a read gave this piece: it has no bytes only where the input has ended
pub record Gives (old : SourceTold) (piece : List ℕ) (new : SourceTold) : Type 0 where
  pub given : new.given ≡ old.given ++ piece
  pub left : Consumes old.left new.left piece
  pub end : piece ≡ [] → IsAtEnd new.left
  pub ended : new.ended ≡ old.ended || is_none_of piece
  pub faults : new.faults ≡ old.faults

-- a read failed: nothing was given, and the count of faults rose
pub record Fails (old new : SourceTold) : Type 0 where
  pub given : new.given ≡ old.given
  pub left : Keeps old.left new.left
  pub ended : new.ended ≡ old.ended
  pub rose : Rose old.faults new.faults
