use Rattle.std.proofs.Common.{◌≡◌, ◌≤◌, ◌++◌, List, length, vec_len, vec_capacity}
use Rattle.std.specs.Prelude.{map}
use Rattle.std.specs.Vec.Iter.{into_iter_items}
use Rattle.node_tasks.specs.Timely.{AreTimely}
use Rattle.tuple_edge.specs.Input.{Input}
use Rattle.pair_machine.specs.Lists.{Each}
use Rattle.pair_machine.specs.Joint.{AreRising}
use Rattle.run_node.specs.NodeView.{name_of}
use Rattle.linked_run.specs.Runs.{FitTheirTaps, parts_in, parts_of, taps_of}
use Rattle.run_node.specs.SoundNode.{IsTrueView, TapFits}
use Rattle.run_node.specs.declared.part.Part.{Part}
use Rattle.linked_run.proofs.running.into_parts.Given as goal

abbrev pub invariant-loop-node : goal.invariant-loop-node
invariant-loop-node g l =
    (goal.iterator-loop-node g).can_next l.node-iterator ×
    (goal.iterator-loop-node g).is_finite l.node-iterator ×
    record {
      count : vec_len l.parts ≡ length l.yielded;
      room : vec_len l.fn.nodes ≤ vec_capacity l.parts;
      left : l.yielded ++ into_iter_items l.node-iterator ≡ l.fn.nodes.items;
      rising : (inputs : List Input) → Each (λ v. g.A.Acts.admits v.state inputs) l.yielded → AreTimely inputs → Each (λ v. AreRising v.history) l.yielded;
      taps : FitTheirTaps (TapFits g.T.Draws.lets_go g.T.Draws.given g.A.Acts.rows g.A.Acts.gone) (taps_of (map (name_of g.A.Acts.id) l.yielded)) l.tap (parts_in g.K.Keeps.kept l.parts.items);
      parts : parts_in g.K.Keeps.kept l.parts.items ≡ parts_of g.A.Acts.id l.yielded;
      named : Each (λ (p : Part _ _). (g.K.Keeps.kept p.history).node ≡ g.A.Acts.id p.state) l.parts.items;
      truth : (inputs : List Input) → Each (λ v. g.A.Acts.admits v.state inputs) l.yielded → AreTimely inputs → Each (IsTrueView g.A.Acts.id g.A.Acts.stands g.N.RunNames.plan inputs g.N.RunNames.script) l.yielded;
    }
