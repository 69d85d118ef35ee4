use Rattle.std.proofs.Common.{◌≡◌, ◌∙◌, ap, length, map, subst, sym, true≢false}
use Rattle.claim_board.specs.Board.{opening_of}
use Rattle.std.specs.Prelude.{is_some}
use Rattle.plan_reader.specs.PlanView.{IsPlan}
use Rattle.run_node.specs.NodeView.{name_of}
use Rattle.linked_run.specs.Runs.{IsRun, parts_in}
use Rattle.plan_nodes.specs.States.{StandsFor, id_of}
use Rattle.plan_nodes.proofs.NodeOrder.{Apart, nodes_apart}
use Rattle.partition_runner.specs.Parts.{HasRoom}
use Rattle.partition_runner.proofs.Fitting.{as_many}
use Rattle.partition_runner.proofs.Unlinked.{names_distinct, some_tapped}
use Rattle.partition_runner.proofs.ready.run_ready.Goals as goal

pub run_linked-parts-requires-clause-planned : goal.run_linked-parts-requires-clause-planned
run_linked-parts-requires-clause-planned g c κs within = subst IsPlan c.requires.plan c.stages-stages.ensures.limits

pub run_linked-parts-requires-clause-distinct : goal.run_linked-parts-requires-clause-distinct
run_linked-parts-requires-clause-distinct g c κs within =
    names_distinct (map (name_of id_of) (opening_of c.ready.inside.board)) (subst Apart (sym c.ready.invariant.nodes.ids) (nodes_apart g.N.RunNames.plan))

pub run_linked-parts-requires-clause-linked : goal.run_linked-parts-requires-clause-linked
run_linked-parts-requires-clause-linked g c κs within = c.ready.invariant.nodes.linked

pub returns-clause-run : goal.returns-clause-run
returns-clause-run g c = λ inputs may timely.
    subst (λ ids. IsRun id_of StandsFor g.N.RunNames.plan inputs g.N.RunNames.script ids (parts_in g.K.Keeps.kept c.run_linked-parts.result.0.items)) c.ready.invariant.nodes.ids
    (c.run_linked-parts.ensures.run inputs may timely)

pub returns-clause-ids : goal.returns-clause-ids
returns-clause-ids g c = c.run_linked-parts.ensures.ids ∙ c.ready.invariant.nodes.ids

pub returns-clause-room : goal.returns-clause-room
returns-clause-room g c =
    let many : length c.run_linked-parts.result.0.items ≡ c.ready.inside.places =
    as_many g.K.Keeps.kept (name_of id_of) c.run_linked-parts.result.0.items (opening_of c.ready.inside.board) c.run_linked-parts.ensures.ids ∙ c.ready.invariant.opened in
    (c.ready.invariant.left_empty, subst (λ n. HasRoom n c.ready.inside.room.left) (sym many) c.ready.invariant.left_room)

pub unreachable-requires : goal.unreachable-requires
unreachable-requires g c =
    true≢false (sym (some_tapped g.N.RunNames.plan (map (name_of id_of) (opening_of c.ready.inside.board)) c.ready.invariant.nodes.tapped) ∙ (sym c.run_linked-parts.ensures.tapped ∙ ap is_some c.in_default.is))
