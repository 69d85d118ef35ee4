-- What a piece of work comes to.
use Rattle.std.specs.Prelude.{List}
use Rattle.tuple_edge.specs.declared.event.Worked.{Worked}
use Rattle.trio_machine.specs.declared.body.TrioBody.{TrioBody}
use Rattle.trio_machine.specs.declared.node.TrioNode.{TrioNode}

-- the node after it, what was sent, and whether there was any
pub record WorkDone (V : Type 0) : Type 0 where
  pub after : V
  pub sent : List (TrioNode × TrioBody)
  pub worked : Worked
