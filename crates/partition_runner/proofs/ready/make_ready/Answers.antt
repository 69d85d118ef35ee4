use Rattle.std.proofs.Common.{rules, ◌≡◌, ◌<◌, List, length, map, subst, sym}
use Rattle.claim_board.specs.Board.{opening_of}
use Rattle.plan_reader.specs.PlanView.{PlanView}
use Rattle.run_node.specs.NodeView.{NodeView, name_of}
use Rattle.plan_nodes.specs.States.{id_of}
use Rattle.partition_runner.specs.Ready.{AreNodesOf}
use Rattle.partition_runner.proofs.Unlinked.{some_nodes}
use Rattle.partition_runner.proofs.ready.make_ready.Goals as goal

pub invariant_of-result : goal.invariant_of-result
invariant_of-result g c =
    let made = subst (λ (p : PlanView). AreNodesOf p (map (name_of id_of) c.in_ok-nodes.nodes.items)) c.requires.plan c.in_ok-nodes.ensures in
    let nodes : AreNodesOf g.N.RunNames.plan (map (name_of id_of) (opening_of c.in-Ok.board)) =
    subst (λ (l : List (NodeView _ _)). AreNodesOf g.N.RunNames.plan (map (name_of id_of) l)) (sym c.in-Ok.ensures.values) made in
    let opened : length (opening_of c.in-Ok.board) ≡ c.len-places.result = search rules in
    record {
      some = subst (λ n. 0 < n) opened (some_nodes (name_of id_of) g.N.RunNames.plan (opening_of c.in-Ok.board) nodes);
      opened = opened;
      seats = c.in-Ok.ensures.all;
      free = c.in-Ok.ensures.home;
      nodes = nodes;
      empty = c.in_ok-room.ensures.parts.0;
      room = c.in_ok-room.ensures.parts.1;
      left_empty = c.in_ok-room.ensures.left.0;
      left_room = c.in_ok-room.ensures.left.1;
    }
