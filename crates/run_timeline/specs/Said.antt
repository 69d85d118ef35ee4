-- The title of the mark of a happening: its node, what it was, and where.
use Rattle.std.specs.Prelude.{ℕ, List, ◌++◌, codes}
use Rattle.std.specs.Fmt.{decimal}
use Rattle.tuple_edge.specs.declared.node.NodeId.{NodeId}
use Rattle.run_journal.specs.Text.{node_name}
use Rattle.run_timeline.specs.Signs.{name_of}
use Rattle.run_watch.specs.declared.happening.Told.{Told}

-- where it happened: the event and its line, and how many inputs ingress had made and rows egress had emitted by then
abbrev pub where_said : Told → List ℕ
where_said t = codes " at event " ++ decimal t.place ++ codes " line " ++ decimal t.line ++ codes " in " ++ decimal t.made ++ codes " out " ++ decimal t.emitted

-- the title of the mark of a happening that is told, in the lane of a node
unfoldable pub title_of : NodeId → Told → List ℕ
title_of lane t = node_name lane ++ codes ": " ++ name_of t.happening ++ where_said t
