use Rattle.std.proofs.Common.{◌≡◌, List, length}
use Rattle.run_node.specs.NodeView.{name_of}
use Rattle.node_tasks.specs.Steps.{StepByStep}
use Rattle.run_node.specs.Fits.{Taken}
use Rattle.run_node.specs.Takes.{Takes}
use Rattle.run_node.proofs.node.Node.take.Given as goal

abbrev pub invariant-loop-count : goal.invariant-loop-count
invariant-loop-count g l = (taken : List Taken) × (length taken ≡ l.count) × StepByStep (Takes g.A.Acts.id) l.initial.self l.self taken × (name_of g.A.Acts.id l.self ≡ name_of g.A.Acts.id l.initial.self)
