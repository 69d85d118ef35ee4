use Rattle.std.proofs.Common.{◌≡◌, ◌∙◌, ◌+◌, ◌++◌, ◌∷◌, [], ap, sym, arith, append_assoc, append-nil, length, length-append}
use Rattle.std.specs.Vec.Iter.{into_iter_items}
use Rattle.run_node.specs.NodeView.{name_of}
use Rattle.linked_run.proofs.Gathered.{empty_list}
use Rattle.partition_runner.proofs.Unlinked.{is_finished, map_last}
use Rattle.partition_runner.proofs.making.finish_all.Goals as goal

pub finish-requires-clause-there : goal.finish-requires-clause-there
finish-requires-clause-there g c κs within =
    let h = c.loop-draft.invariant.2 in
    let split : c.loop-draft.yielded ++ c.in-Some.draft ∷ into_iter_items c.next.new.self ≡ c.args.drafts.items = ap (λ l. c.loop-draft.yielded ++ l) (sym c.in-Some.ensures.steps.0) ∙ h.left in
    λ inputs. (is_finished g.N.RunNames.plan inputs c.args.drafts.items c.requires.links c.loop-draft.yielded _ c.in-Some.draft split).there

pub finish-requires-clause-linked : goal.finish-requires-clause-linked
finish-requires-clause-linked g c κs within =
    let h = c.loop-draft.invariant.2 in
    let split : c.loop-draft.yielded ++ c.in-Some.draft ∷ into_iter_items c.next.new.self ≡ c.args.drafts.items = ap (λ l. c.loop-draft.yielded ++ l) (sym c.in-Some.ensures.steps.0) ∙ h.left in
    (is_finished g.N.RunNames.plan [] c.args.drafts.items c.requires.links c.loop-draft.yielded _ c.in-Some.draft split).linked

pub loop-draft-preserved : goal.loop-draft-preserved
loop-draft-preserved g c =
    let h = c.loop-draft.invariant.2 in
    let step = c.in-Some.ensures.steps in
    let more : length (c.loop-draft.yielded ++ c.in-Some.draft ∷ []) ≡ length c.loop-draft.yielded + 1 = length-append c.loop-draft.yielded (c.in-Some.draft ∷ []) in (
      tt,
      tt,
      record {
        count = omega (arith, h.count, c.push_reserved.ensures.len, more);
        room = omega (arith, h.room, c.push_reserved.ensures.capacity);
        left = append_assoc c.loop-draft.yielded (c.in-Some.draft ∷ []) (into_iter_items c.next.new.self) ∙ (ap (λ l. c.loop-draft.yielded ++ l) (sym step.0) ∙ h.left);
        made = map_last _ (name_of g.A.Acts.id) c.loop-draft.nodes.items c.push_reserved.new.self.items c.finish.result c.loop-draft.yielded c.in-Some.draft c.push_reserved.ensures.items h.made c.finish.ensures;
      },
    )

pub returns : goal.returns
returns g c =
    let h = c.loop-draft.invariant.2 in
    let step = c.in-None.ensures.steps in
    let views = c.loop-draft.yielded in
    let nothing : into_iter_items c.loop-draft.draft-iterator ≡ [] = empty_list _ (omega (arith, step.0)) in
    h.made ∙ (sym (append-nil views) ∙ (ap (λ l. views ++ l) (sym nothing) ∙ h.left))
