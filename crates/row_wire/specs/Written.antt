-- How far a text was written.
use Rattle.std.specs.Prelude.{ℕ, ◌≡◌, ◌≤◌, ◌<◌, ◌++◌, ◌⊎◌, List, [], Option, None, Some, All, codes, length}
use Rattle.std.specs.List.{flat_map}
use Rattle.flux_outside.specs.Outside.{AreRests, Rose, Takes, TakesPart}
use Rattle.flux_outside.specs.Told.{SinkTold}
use Rattle.row_wire.specs.declared.written.Written.{Written}
use Rattle.row_wire.specs.declared.written.Written.TheVariants as written

-- ---- what was taken

-- a front of a text was taken
pub record TakesFront (old new : Option (List ℕ)) (text : List ℕ) : Type 0 where
  pub front : List ℕ
  pub left : List ℕ
  pub whole : text ≡ front ++ left
  pub taken : Takes old new front

-- A text was taken whole; or a proper front of it, as the count of faults rose; or a front of it, as no memory was to be had.
abbrev pub TakesSo : SinkTold → SinkTold → List ℕ → Written → Type 0
TakesSo old new text written.Whole = Takes old.taken new.taken text
TakesSo old new text written.Broken = TakesPart old.taken new.taken text × Rose old.faults new.faults
TakesSo old new text written.Short = TakesFront old.taken new.taken text

-- ---- what was offered

-- These pieces of a text were offered: the first is the whole text, and each other one is what is left of the piece before it. Of an empty text there are none.
pub record AreOffered (text : List ℕ) (pieces : List (List ℕ)) : Type 0 where
  pub rests : AreRests text pieces
  pub some : 0 < length text → 0 < length pieces

-- the pieces that were offered since then are those of one text
pub record AddsText (old new : List (List ℕ)) (text : List ℕ) : Type 0 where
  pub pieces : List (List ℕ)
  pub added : new ≡ old ++ pieces
  pub offered : AreOffered text pieces

-- the same, where pieces are told
abbrev pub OffersText : Option (List (List ℕ)) → Option (List (List ℕ)) → List ℕ → Type 0
OffersText None new text = Unit {0}
OffersText (Some old) None text = ⊥
OffersText (Some old) (Some new) text = AddsText old new text

-- no line, or whole lines: the last byte ends one
abbrev pub AreLines : List ℕ → Type 0
AreLines text = (text ≡ []) ⊎ ((front : List ℕ) × (text ≡ front ++ codes "\n"))

-- some lines of a text, and the pieces of them that puts were given
pub record Part : Type 0 where
  pub text : List ℕ
  pub pieces : List (List ℕ)

-- The first put was given all of the lines, and each other one what the put before it left.
pub record IsPut (part : Part) : Type 0 where
  pub lines : AreLines part.text
  pub offered : AreOffered part.text part.pieces

-- the pieces that were offered since then are those of one part of the text after another
pub record AddsParts (old new : List (List ℕ)) (text : List ℕ) : Type 0 where
  pub parts : List Part
  pub cut : flat_map (λ (part : Part). part.text) parts ≡ text
  pub added : new ≡ old ++ flat_map (λ (part : Part). part.pieces) parts
  pub put : All IsPut parts

-- the same, where pieces are told
abbrev pub OffersParts : Option (List (List ℕ)) → Option (List (List ℕ)) → List ℕ → Type 0
OffersParts None new text = Unit {0}
OffersParts (Some old) None text = ⊥
OffersParts (Some old) (Some new) text = AddsParts old new text

-- the same of a front of a text
pub record OffersFront (old new : Option (List (List ℕ))) (text : List ℕ) : Type 0 where
  pub front : List ℕ
  pub left : List ℕ
  pub whole : text ≡ front ++ left
  pub offers : OffersParts old new front

-- a text was offered whole, part by part; or a front of it, where a put failed or no memory was to be had
abbrev pub OffersSo : SinkTold → SinkTold → List ℕ → Written → Type 0
OffersSo old new text written.Whole = OffersParts old.offered new.offered text
OffersSo old new text written.Broken = OffersFront old.offered new.offered text
OffersSo old new text written.Short = OffersFront old.offered new.offered text

-- ---- both

-- a text was taken so and offered so, and the count of faults didn't fall
pub record IsWritten (old new : SinkTold) (text : List ℕ) (how : Written) : Type 0 where
  pub takes : TakesSo old new text how
  pub offers : OffersSo old new text how
  pub later : old.faults ≤ new.faults

-- whatever was written before, this text was written behind it, if all of that was put
abbrev pub WritesOn : SinkTold → SinkTold → Written → List ℕ → Written → Type 0
WritesOn before after was text is = (start : SinkTold) (so_far : List ℕ) → IsWritten start before so_far was → IsWritten start after (so_far ++ text) is
