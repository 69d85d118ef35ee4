use Rattle.std.proofs.Common.{rules, ◌≡◌, ◌+◌, List, Option, None, length, ◌++◌, ◌∷◌, [], ap, sym, ◌∙◌, subst, arith, append_assoc, append-nil, length-append}
use Rattle.std.specs.Vec.Iter.{into_iter_items}
use Rattle.pair_machine.specs.Lists.{Each}
use Rattle.pair_machine.proofs.Lists.{each_more}
use Rattle.run_node.proofs.Places.{each_front, each_last}
use Rattle.std.specs.Prelude.{is_some, map}
use Rattle.pair_machine.specs.Joint.{AreRising}
use Rattle.linked_run.specs.Linked.{ids_of}
use Rattle.run_node.specs.NodeView.{NodeView, name_of}
use Rattle.linked_run.specs.Runs.{AllAdmit, FitTheirTaps, IsRun, TapOfSome, any_tapped, ids_in, parts_in, parts_of, taps_of}
use Rattle.run_node.specs.SoundNode.{IsTrueView, TapFits}
use Rattle.run_node.specs.declared.part.Part.{Part}
use Rattle.linked_run.proofs.Gathered.{empty_list, ids_same, parts_in-more, parts_more, run_of, views_admit}
use Rattle.linked_run.proofs.Law.{apart_of, runs}
use Rattle.linked_run.proofs.Taps.{any_is, fit_more, fit_none, map_more, none_gone, tap_of_some}
use Rattle.linked_run.proofs.running.into_parts.Goals as goal

pub loop-node-init : goal.loop-node-init
loop-node-init g c =
    let kept = g.K.Keeps.kept in
    let empty : c.args.parts.items ≡ [] = empty_list c.args.parts.items (sym c.args.parts.ok.0 ∙ c.requires.room.0) in
    let nothing : parts_in kept c.args.parts.items ≡ [] = ap (parts_in kept) empty in
    let Fits = TapFits g.T.Draws.lets_go g.T.Draws.given g.A.Acts.rows g.A.Acts.gone in (
      tt,
      tt,
      record {
        count = c.requires.room.0;
        room = c.requires.room.1;
        left = search rules;
        rising = λ inputs may timely. tt;
        taps = subst (FitTheirTaps Fits [] None) (sym nothing) (fit_none Fits);
        parts = nothing;
        named = subst (Each (λ (p : Part _ _). (kept p.history).node ≡ g.A.Acts.id p.state)) (sym empty) tt;
        truth = λ inputs may timely. tt;
      },
    )

pub loop-node-preserved : goal.loop-node-preserved
loop-node-preserved g c =
    let h = c.loop-node.invariant.2 in
    let step = c.in-Some.ensures.steps in
    let name = name_of g.A.Acts.id in
    let Fits = TapFits g.T.Draws.lets_go g.T.Draws.given g.A.Acts.rows g.A.Acts.gone in
    let part = c.into_part-part.result.0 in
    let its = c.into_part-part.result.1 in
    let more : length (c.loop-node.yielded ++ c.in-Some.node ∷ []) ≡ length c.loop-node.yielded + 1 = length-append c.loop-node.yielded (c.in-Some.node ∷ []) in (
      tt,
      tt,
      record {
        count = omega (arith, h.count, c.push_reserved.ensures.len, more);
        room = omega (arith, h.room, c.push_reserved.ensures.capacity);
        left = append_assoc c.loop-node.yielded (c.in-Some.node ∷ []) (into_iter_items c.next.new.self) ∙ (ap (λ l. c.loop-node.yielded ++ l) (sym step.0) ∙ h.left);
        taps = subst (FitTheirTaps Fits (taps_of (map name (c.loop-node.yielded ++ c.in-Some.node ∷ []))) c.or-tap.result) (sym (ap (parts_in g.K.Keeps.kept) c.push_reserved.ensures.items ∙ parts_in-more g.K.Keeps.kept c.loop-node.parts.items part))
            (subst (λ ms. FitTheirTaps Fits (taps_of ms) c.or-tap.result (parts_in g.K.Keeps.kept c.loop-node.parts.items ++ (part.state, (g.K.Keeps.kept part.history).entries) ∷ [])) (sym (map_more name c.loop-node.yielded c.in-Some.node))
            (fit_more Fits (map name c.loop-node.yielded) (name c.in-Some.node) c.loop-node.tap its c.or-tap.result (parts_in g.K.Keeps.kept c.loop-node.parts.items) (part.state, (g.K.Keeps.kept part.history).entries) c.or-tap.ensures
            (ap is_some c.into_part-part.ensures.tap.0) c.into_part-part.ensures.tap.1 h.taps));
        parts = parts_more g.A.Acts.id g.K.Keeps.kept c.loop-node.parts.items c.push_reserved.new.self.items c.into_part-part.result.0 c.loop-node.yielded c.in-Some.node c.push_reserved.ensures.items h.parts c.into_part-part.ensures.part.0 c.into_part-part.ensures.part.1;
        rising = λ inputs may timely. each_more (λ v. AreRising v.history) c.loop-node.yielded c.in-Some.node
            (h.rising inputs (each_front (λ v. g.A.Acts.admits v.state inputs) c.loop-node.yielded (c.in-Some.node ∷ []) may) timely)
            (c.into_part-part.ensures.rising inputs (each_last (λ v. g.A.Acts.admits v.state inputs) c.loop-node.yielded c.in-Some.node may) timely);
        named = subst (Each (λ (p : Part _ _). (g.K.Keeps.kept p.history).node ≡ g.A.Acts.id p.state)) (sym c.push_reserved.ensures.items)
            (each_more (λ (p : Part _ _). (g.K.Keeps.kept p.history).node ≡ g.A.Acts.id p.state) c.loop-node.parts.items c.into_part-part.result.0 h.named (c.into_part-part.ensures.node ∙ ap g.A.Acts.id (sym c.into_part-part.ensures.part.0)));
        truth = λ inputs may timely. each_more (IsTrueView g.A.Acts.id g.A.Acts.stands g.N.RunNames.plan inputs g.N.RunNames.script) c.loop-node.yielded c.in-Some.node
            (h.truth inputs (each_front (λ v. g.A.Acts.admits v.state inputs) c.loop-node.yielded (c.in-Some.node ∷ []) may) timely)
            (c.into_part-part.ensures.course inputs (each_last (λ v. g.A.Acts.admits v.state inputs) c.loop-node.yielded c.in-Some.node may) timely);
      },
    )

pub returns-clause-run : goal.returns-clause-run
returns-clause-run g c = λ inputs may timely.
    let h = c.loop-node.invariant.2 in
    let step = c.in-None.ensures.steps in
    let views = c.loop-node.yielded in
    let id = g.A.Acts.id in
    let nothing : into_iter_items c.loop-node.node-iterator ≡ [] = empty_list _ (omega (arith, step.0)) in
    let all : views ≡ c.args.nodes.items = sym (append-nil views) ∙ (ap (λ l. views ++ l) (sym nothing) ∙ h.left) in
    let they = views_admit id g.A.Acts.admits inputs views (subst (AllAdmit g.A.Acts.admits inputs) h.parts may) in
    let truth = subst (Each (IsTrueView id g.A.Acts.stands g.N.RunNames.plan inputs g.N.RunNames.script)) all (h.truth inputs they timely) in
    let joint = runs _ id g.A.Acts.stands g.N.RunNames.plan inputs g.N.RunNames.script c.requires.planned c.args.nodes.items (apart_of _ id g.A.Acts.stands g.N.RunNames.plan inputs g.N.RunNames.script c.args.nodes.items c.requires.distinct) truth c.requires.settled in
    let run = run_of id g.A.Acts.stands g.N.RunNames.plan inputs g.N.RunNames.script c.args.nodes.items (subst (Each (λ v. AreRising v.history)) all (h.rising inputs they timely)) joint in
    subst (IsRun id g.A.Acts.stands g.N.RunNames.plan inputs g.N.RunNames.script (ids_of (map (name_of id) c.args.nodes.items))) (sym (h.parts ∙ ap (parts_of id) all)) run

pub returns-clause-ids : goal.returns-clause-ids
returns-clause-ids g c =
    let h = c.loop-node.invariant.2 in
    let step = c.in-None.ensures.steps in
    let views = c.loop-node.yielded in
    let id = g.A.Acts.id in
    let nothing : into_iter_items c.loop-node.node-iterator ≡ [] = empty_list _ (omega (arith, step.0)) in
    let all : views ≡ c.args.nodes.items = sym (append-nil views) ∙ (ap (λ l. views ++ l) (sym nothing) ∙ h.left) in
    ap (ids_in id) (h.parts ∙ ap (parts_of id) all) ∙ ids_same id c.args.nodes.items

pub returns-clause-tapped : goal.returns-clause-tapped
returns-clause-tapped g c =
    let h = c.loop-node.invariant.2 in
    let step = c.in-None.ensures.steps in
    let views = c.loop-node.yielded in
    let nothing : into_iter_items c.loop-node.node-iterator ≡ [] = empty_list _ (omega (arith, step.0)) in
    let all : views ≡ c.args.nodes.items = sym (append-nil views) ∙ (ap (λ l. views ++ l) (sym nothing) ∙ h.left) in
    ap is_some h.taps.last ∙ (any_is h.taps.taps (map (name_of g.A.Acts.id) views) h.taps.whose ∙ ap (λ l. any_tapped (map (name_of g.A.Acts.id) l)) all)

pub returns-clause-taps : goal.returns-clause-taps
returns-clause-taps g c =
    let h = c.loop-node.invariant.2 in
    let step = c.in-None.ensures.steps in
    let views = c.loop-node.yielded in
    let nothing : into_iter_items c.loop-node.node-iterator ≡ [] = empty_list _ (omega (arith, step.0)) in
    let all : views ≡ c.args.nodes.items = sym (append-nil views) ∙ (ap (λ l. views ++ l) (sym nothing) ∙ h.left) in
    subst (λ (vs : List (NodeView _ _)). FitTheirTaps (TapFits g.T.Draws.lets_go g.T.Draws.given g.A.Acts.rows g.A.Acts.gone) (taps_of (map (name_of g.A.Acts.id) vs)) c.loop-node.tap (parts_in g.K.Keeps.kept c.loop-node.parts.items)) all h.taps

pub returns-clause-tap : goal.returns-clause-tap
returns-clause-tap g c =
    let taps = c.loop-node.invariant.2.taps in
    let parts = parts_in g.K.Keeps.kept c.loop-node.parts.items in
    subst (λ (left : Option _). TapOfSome g.T.Draws.given g.A.Acts.rows left parts) (sym taps.last)
    (tap_of_some g.T.Draws.lets_go g.T.Draws.given g.A.Acts.rows g.A.Acts.gone taps.taps parts taps.fit)

pub returns-clause-held : goal.returns-clause-held
returns-clause-held g c = λ keeps.
    let taps = c.loop-node.invariant.2.taps in
    none_gone g.T.Draws.lets_go g.T.Draws.given g.A.Acts.rows g.A.Acts.gone keeps taps.taps (parts_in g.K.Keeps.kept c.loop-node.parts.items) taps.fit
