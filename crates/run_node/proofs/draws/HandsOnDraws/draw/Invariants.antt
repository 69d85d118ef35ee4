use Rattle.std.proofs.Common.{◌≡◌, ◌-◌, List, length}
use mathlib.Core.List.{IsPrefix}
use Rattle.tuple_edge.specs.Input.{Input}
use Rattle.plan_reader.specs.PlanView.{PlanView}
use Rattle.pair_machine.specs.Numbers.{Node}
use Rattle.run_node.proofs.Drawn.{IsNext}
use Rattle.run_node.proofs.draws.HandsOnDraws.draw.Given as goal

abbrev pub invariant-loop-next : goal.invariant-loop-next
invariant-loop-next g l =
    record {
      given : g.T.RowTap.given l.self.tap ≡ g.A.Acts.gone l.state;
      more : IsPrefix (g.T.RowTap.given l.initial.self.tap) (g.T.RowTap.given l.self.tap);
      next : IsNext l.next (g.A.Acts.gone l.state) (g.A.Acts.rows l.state);
      rows : g.A.Acts.rows l.state ≡ g.A.Acts.rows l.initial.state;
      stands : (plan : PlanView) (inputs : List Input) (x : Node) → g.A.Acts.stands plan inputs l.initial.state x → g.A.Acts.stands plan inputs l.state x;
      inputs : (inputs : List Input) → g.A.Acts.admits l.state inputs → g.A.Acts.admits l.initial.state inputs;
      id : g.A.Acts.id l.state ≡ g.A.Acts.id l.initial.state;
      of_plan : (plan : PlanView) → g.A.Acts.of_plan plan l.initial.state → g.A.Acts.of_plan plan l.state;
    }

abbrev pub decreases-loop-next : goal.decreases-loop-next
decreases-loop-next g l = length (g.A.Acts.rows l.state) - length (g.A.Acts.gone l.state)
