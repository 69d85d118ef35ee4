-- How a run stands, in words.
use Rattle.std.specs.Prelude.{ℕ, List, ◌++◌, codes}
use Rattle.std.specs.Fmt.{decimal}
use Rattle.run_end.specs.declared.ends.RunEnd.{RunEnd}
use Rattle.run_end.specs.declared.ends.RunEnd.TheVariants.{Done, Lost, NotDone}

-- which pair is lost: so many rows there are, of all that the plan gives
abbrev pub lost_words : (stage part rows all : ℕ) → List ℕ
lost_words stage part rows all =
    codes "pair " ++ decimal stage ++ codes "." ++ decimal part ++ codes " is lost: " ++ decimal rows ++ codes " rows, " ++ decimal all ++ codes " with all"

-- how a run stands that has so many rows, of all that the plan gives
abbrev pub end_words : RunEnd → (rows all : ℕ) → List ℕ
end_words Done rows all = codes "done"
end_words (Lost stage part) rows all = lost_words stage part rows all
end_words NotDone rows all = codes "not done"
