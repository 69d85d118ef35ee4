-- Where a field stands in a record, by the names of the header.
use Rattle.std.specs.Prelude.{ℕ, List, position, unwrap_or}
use Rattle.trade_text.specs.Columns.{is_column_of}
use Rattle.trade_text.specs.Kinds.{Kind}

-- the place of a field in a record: that of its first name in the header
abbrev pub place_of : {F : Type 0} → Kind F → F → List (List ℕ) → ℕ
place_of kind what header = unwrap_or (position (is_column_of kind what) header) 0
