-- That a file of trades is parted: each record is in one of the two parts, in order, and what is kept is accepted.
use Rattle.std.specs.Prelude.{ℕ, ◌≡◌, ◌≤◌, ◌⊎◌, List, [], ◌∷◌, length, Option, Ok}
use Rattle.trade_text.specs.Files.{File, file_of}
use Rattle.trade_text.specs.Limits.{max_input_bytes}
use Rattle.trade_text.specs.Trades.{trades_of}
use Rattle.trade_text.specs.TradesView.{TradesView}
use Rattle.trade_text.specs.declared.error.Field.{Field}
use Rattle.trade_text.specs.declared.error.ReadError.{ReadError}
use Rattle.record_faults.specs.EachRecord.{accepted, trade_faults}
use Rattle.trade_sift.specs.Sifted.{refused}

-- these two lists make up a third one: each element of it stands in one of them, in order
unfoldable pub MakeUp : {A : Type 0} → List A → List A → List A → Type 0
MakeUp kept others [] = (kept ≡ []) × (others ≡ [])
MakeUp {A} kept others (x ∷ all) = ((rest : List A) × (kept ≡ x ∷ rest) × MakeUp rest others all) ⊎ ((rest : List A) × (others ≡ x ∷ rest) × MakeUp kept rest all)

-- the records of a file are those that are accepted and those that are refused
abbrev pub EachStandsOnce : Type 0
EachStandsOnce = (bytes : List ℕ) (file : File) (faults : List (Option (ReadError Field))) → file_of {F = Field} bytes ≡ Ok file → trade_faults bytes ≡ Ok faults
    → MakeUp (accepted faults file.records) (refused faults file.records) file.records

-- a text that is not too long is accepted as trades
abbrev pub IsAccepted : List ℕ → Type 0
IsAccepted text = length text ≤ max_input_bytes → (trades : TradesView) × (trades_of text ≡ Ok trades)
