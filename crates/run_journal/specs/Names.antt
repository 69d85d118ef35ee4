-- The names of links.
use Rattle.std.specs.Prelude.{Option, Some}
use Rattle.tuple_edge.specs.declared.node.LinkId.{LinkId}
use Rattle.text_words.specs.Lines.{Word}
use Rattle.plan_reader.specs.Names.{◌>>=◌, cut_at, node_named}

-- the link that a word names: two nodes with > between them
unfoldable pub link_named : Word → Option LinkId
link_named word = do
  ends ← cut_at 62 word
  from ← node_named ends.0
  to ← node_named ends.1
  Some (record { from = from; to = to })
