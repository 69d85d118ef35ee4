-- What is found: the rows that come to each stage, and which of them are reached.
use Rattle.row_reach.specs.Reach.{Passage, passage}
use Rattle.reach_finder.specs.Traced.{marks_in, rows_in}
use Rattle.reach_finder.specs.declared.walk.Passage.{Passage as FoundPassage}

-- what came to a stage, as it was found
abbrev pub passage_of : FoundPassage → Passage
passage_of p = passage (rows_in p.rows.items) (marks_in p.rows.items)
