-- What a read appends, piece by piece.
use Rattle.std.proofs.Common.{ℕ, ◌≡◌, ◌+◌, ◌-◌, ◌≤◌, ◌<◌, List, [], ◌++◌, length, take, refl, sym, ap, ◌∙◌, Option, Some, None, append_assoc, append-nil, length-append, arith}
use Rattle.std.proofs.Math.Seq.{take-append_seam}
use Rattle.std.proofs.lemmas.List.{length-replicate, length-take-le}
use Rattle.std.specs.Prelude.{replicate}
use Rattle.std.specs.Io.KnownBytes.{Consumes, IsAtEnd}
use Rattle.flux_outside.specs.Outside.{KeepsFront, ReadsRest}
use Rattle.flux_outside.specs.declared.outside.Got.TheVariants as got

-- these bytes were appended, taken from what the reader had left, and so many more may be
pub record HasRead (had has : Option (List ℕ)) (old new : List ℕ) (max left : ℕ) : Type 0 where
  pub bytes : List ℕ
  pub whole : new ≡ old ++ bytes
  pub within : length bytes + left ≡ max
  pub taken : Consumes had has bytes

consumes_none : (had : Option (List ℕ)) → Consumes had had []
consumes_none None = tt
consumes_none (Some bytes) = refl

consumes_more : (had mid has : Option (List ℕ)) (front piece : List ℕ) → Consumes had mid front → Consumes mid has piece → Consumes had has (front ++ piece)
consumes_more None mid has front piece first next = tt
consumes_more (Some xs) None has front piece first next = absurd first
consumes_more (Some xs) (Some ys) None front piece first next = absurd next
consumes_more (Some xs) (Some ys) (Some zs) front piece first next = first ∙ (ap (λ rest. front ++ rest) next ∙ sym (append_assoc front piece zs))

pub has_read_none : (had : Option (List ℕ)) (old : List ℕ) (max : ℕ) → HasRead had had old old max max
has_read_none had old max = record { bytes = []; whole = sym (append-nil old); within = omega arith; taken = consumes_none had }

pub has_read_more : (had mid has : Option (List ℕ)) (old between new piece : List ℕ) (max left : ℕ) → HasRead had mid old between max left → Consumes mid has piece
    → new ≡ between ++ piece → length piece ≤ left → HasRead had has old new max (left - length piece)
has_read_more had mid has old between new piece max left read taken more fits = record {
  bytes = read.bytes ++ piece;
  whole = more ∙ ap (λ b. b ++ piece) read.whole ∙ append_assoc old read.bytes piece;
  within = simp length-append (omega (arith, read.within));
  taken = consumes_more had mid has read.bytes piece read.taken taken;
}

pub front_kept : (had has : Option (List ℕ)) (old new : List ℕ) (max left : ℕ) → HasRead had has old new max left → KeepsFront old new
front_kept had has old new max left read = ap (take (length old)) read.whole ∙ take-append_seam old read.bytes

pub few_read : (had has : Option (List ℕ)) (old new : List ℕ) (max left : ℕ) → HasRead had has old new max left → length new ≤ length old + max
few_read had has old new max left read =
    let whole = ap length read.whole ∙ length-append old read.bytes in
    omega (arith, whole, read.within)

-- at its end a reader has given all
pub read_whole : (had mid has : Option (List ℕ)) (old new : List ℕ) (max left : ℕ) → HasRead had mid old new max left → Consumes mid has [] → IsAtEnd has → ReadsRest had max got.Whole old new
read_whole None mid has old new max left read taken ended = record { bytes = read.bytes; left_is = tt; read = (omega (arith, read.within), read.whole) }
read_whole (Some xs) None has old new max left read taken ended = absurd read.taken
read_whole (Some xs) (Some ys) None old new max left read taken ended = absurd taken
read_whole (Some xs) (Some ys) (Some zs) old new max left read taken ended =
    record { bytes = read.bytes; left_is = read.taken ∙ (ap (λ rest. read.bytes ++ rest) (taken ∙ ended) ∙ append-nil read.bytes); read = (omega (arith, read.within), read.whole) }

-- a piece that is too long makes all too long
pub read_long : (had mid has : Option (List ℕ)) (old new last buffer : List ℕ) (max left count : ℕ) → HasRead had mid old new max left → Consumes mid has (take count buffer)
    → count ≤ length buffer → left < count → ReadsRest had max (got.TooLong (max + 1)) old last
read_long None mid has old new last buffer max left count read taken fits long =
    record { bytes = replicate (max + 1) 0; left_is = tt; read = (omega (arith, length-replicate {A = ℕ} (max + 1) 0), refl) }
read_long (Some xs) None has old new last buffer max left count read taken fits long = absurd read.taken
read_long (Some xs) (Some ys) None old new last buffer max left count read taken fits long = absurd taken
read_long (Some xs) (Some ys) (Some zs) old new last buffer max left count read taken fits long =
    let piece = length-take-le count buffer fits in
    let whole : length xs ≡ length read.bytes + (length (take count buffer) + length zs) =
    ap length (read.taken ∙ ap (λ rest. read.bytes ++ rest) taken) ∙ (length-append read.bytes (take count buffer ++ zs) ∙ ap (λ n. length read.bytes + n) (length-append (take count buffer) zs)) in
    record { bytes = xs; left_is = refl; read = (omega (arith, read.within, long, piece, whole), refl) }
