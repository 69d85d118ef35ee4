use Rattle.std.proofs.Common.{◌≡◌, ◌∙◌, ◌++◌, List, length, take, drop, sym, subst, ap, arith}
use Rattle.std.specs.Prelude.{map}
use lib.ListN.{length-map}
use Rattle.claim_board.specs.Board.{opening_of}
use Rattle.linked_run.specs.Linked.{AreDistinct, ids_of}
use Rattle.linked_run.specs.Runs.{AreSettled, FitTheirTaps, IsRun, any_tapped, parts_in, taps_of}
use Rattle.run_node.specs.NodeView.{NodeName, NodeView, name_of}
use Rattle.run_node.specs.SoundNode.{TapFits}
use Rattle.run_node.proofs.Places.{written}
use Rattle.linked_run.proofs.running.run_linked.Goals as goal

pub into_parts-requires-clause-room : goal.into_parts-requires-clause-room
into_parts-requires-clause-room g c κs within =
    let name = name_of g.A.Acts.id in
    let back = c.float-back.result in
    let many : length back.items ≡ length (opening_of c.args.board) = sym (length-map back.items name) ∙ (ap length c.float-back.ensures ∙ length-map (opening_of c.args.board) name) in
    (c.requires.room.0, omega (arith, many, c.requires.room.1, c.requires.places.1))

pub into_parts-requires-clause-distinct : goal.into_parts-requires-clause-distinct
into_parts-requires-clause-distinct g c κs within =
    let old = c.float-back.result in
    let new = c.settle_all.new.nodes in
    let long : length c.deref_mut.result.now ≡ old.len = omega (arith, c.deref_mut.ensures.len) in
    let same : take old.len (new ++ drop (length new) old.items) ≡ new = written old.len new old.items (c.settle_all.auto.nodes ∙ long) in
    subst AreDistinct (sym (ap (map (name_of g.A.Acts.id)) (same ∙ (c.settle_all.ensures.same ∙ c.deref_mut.ensures.value)) ∙ c.float-back.ensures)) c.requires.distinct

pub into_parts-requires-clause-settled : goal.into_parts-requires-clause-settled
into_parts-requires-clause-settled g c κs within =
    let old = c.float-back.result in
    let new = c.settle_all.new.nodes in
    let long : length c.deref_mut.result.now ≡ old.len = omega (arith, c.deref_mut.ensures.len) in
    let same : take old.len (new ++ drop (length new) old.items) ≡ new = written old.len new old.items (c.settle_all.auto.nodes ∙ long) in
    subst (λ (l : List (NodeView _ _)). AreSettled g.A.Acts.id l l) (sym (same ∙ c.settle_all.ensures.same)) c.settle_all.ensures.settled

pub returns-clause-run : goal.returns-clause-run
returns-clause-run g c = λ inputs may timely.
    let old = c.float-back.result in
    let new = c.settle_all.new.nodes in
    let long : length c.deref_mut.result.now ≡ old.len = omega (arith, c.deref_mut.ensures.len) in
    let same : take old.len (new ++ drop (length new) old.items) ≡ new = written old.len new old.items (c.settle_all.auto.nodes ∙ long) in
    subst (λ (ms : List NodeName). IsRun g.A.Acts.id g.A.Acts.stands g.N.RunNames.plan inputs g.N.RunNames.script (ids_of ms) (parts_in g.K.Keeps.kept c.into_parts.result.0.items))
    (ap (map (name_of g.A.Acts.id)) (same ∙ (c.settle_all.ensures.same ∙ c.deref_mut.ensures.value)) ∙ c.float-back.ensures) (c.into_parts.ensures.run inputs may timely)

pub returns-clause-taps : goal.returns-clause-taps
returns-clause-taps g c =
    let old = c.float-back.result in
    let new = c.settle_all.new.nodes in
    let long : length c.deref_mut.result.now ≡ old.len = omega (arith, c.deref_mut.ensures.len) in
    let same : take old.len (new ++ drop (length new) old.items) ≡ new = written old.len new old.items (c.settle_all.auto.nodes ∙ long) in
    subst (λ (ms : List NodeName). FitTheirTaps (TapFits g.T.Draws.lets_go g.T.Draws.given g.A.Acts.rows g.A.Acts.gone) (taps_of ms) c.into_parts.result.1 (parts_in g.K.Keeps.kept c.into_parts.result.0.items))
    (ap (map (name_of g.A.Acts.id)) (same ∙ (c.settle_all.ensures.same ∙ c.deref_mut.ensures.value)) ∙ c.float-back.ensures) c.into_parts.ensures.taps

pub returns-clause-ids : goal.returns-clause-ids
returns-clause-ids g c =
    let old = c.float-back.result in
    let new = c.settle_all.new.nodes in
    let long : length c.deref_mut.result.now ≡ old.len = omega (arith, c.deref_mut.ensures.len) in
    let same : take old.len (new ++ drop (length new) old.items) ≡ new = written old.len new old.items (c.settle_all.auto.nodes ∙ long) in
    c.into_parts.ensures.ids ∙ ap ids_of (ap (map (name_of g.A.Acts.id)) (same ∙ (c.settle_all.ensures.same ∙ c.deref_mut.ensures.value)) ∙ c.float-back.ensures)

pub returns-clause-tapped : goal.returns-clause-tapped
returns-clause-tapped g c =
    let old = c.float-back.result in
    let new = c.settle_all.new.nodes in
    let long : length c.deref_mut.result.now ≡ old.len = omega (arith, c.deref_mut.ensures.len) in
    let same : take old.len (new ++ drop (length new) old.items) ≡ new = written old.len new old.items (c.settle_all.auto.nodes ∙ long) in
    c.into_parts.ensures.tapped ∙ ap any_tapped (ap (map (name_of g.A.Acts.id)) (same ∙ (c.settle_all.ensures.same ∙ c.deref_mut.ensures.value)) ∙ c.float-back.ensures)
