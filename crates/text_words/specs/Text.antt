-- The canonical text of a line.
use Rattle.std.specs.Prelude.{ℕ, List, ◌++◌, codes}
use Rattle.std.specs.List.{join_with_byte}
use Rattle.text_words.specs.Lines.{Word}

-- a line: its words with single spaces between them, and LF
abbrev pub line_text : List Word → List ℕ
line_text words = join_with_byte 32 words ++ codes "\n"
