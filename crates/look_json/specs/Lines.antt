-- Values, and the lines that they make.
use Rattle.std.specs.Prelude.{ℕ, List, Option, None, Some, ◌++◌, codes}
use Rattle.serde_json.specs.Data.{Data, null, number, string, unsigned}
use Rattle.serde_json.specs.Written.{compact_text}

-- the line of a value: its text without spaces
abbrev pub line_of : Data → List ℕ
line_of d = compact_text d ++ codes "\n"

-- a number that may not be there
abbrev pub number_or_null : Option ℕ → Data
number_or_null None = null
number_or_null (Some n) = number (unsigned n)

-- a word that may not be there
abbrev pub word_or_null : Option (List ℕ) → Data
word_or_null None = null
word_or_null (Some word) = string word
