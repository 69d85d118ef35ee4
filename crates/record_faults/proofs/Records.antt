-- Lists of records.
use Rattle.std.specs.Prelude.{ℕ, List, [], ◌∷◌}
use Rattle.record_faults.specs.Alone.{IsRecord}

-- each of these is a record
abbrev pub AreRecords : List (List (List ℕ)) → Type 0
AreRecords [] = Unit {0}
AreRecords (fields ∷ records) = IsRecord fields × AreRecords records
