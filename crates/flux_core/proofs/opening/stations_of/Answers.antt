use Rattle.std.proofs.Common.{◌≡◌, ◌∙◌, ◌++◌, ◌∷◌, [], ap, sym, arith, append_assoc, append-nil, map}
use Rattle.std.specs.Vec.Iter.{into_iter_items}
use Rattle.std.proofs.lemmas.List.{map-append}
use Rattle.plan_nodes.specs.States.{contents_of}
use Rattle.flux_core.specs.Opening.{new_station}
use Rattle.flux_core.proofs.Lists.{none-there}
use Rattle.flux_core.proofs.opening.stations_of.Goals as goal

pub loop-node-preserved : goal.loop-node-preserved
loop-node-preserved c =
    let h = c.loop-node.invariant.2 in
    let step = c.in-Some.ensures.steps in (
      tt,
      tt,
      record {
        left = append_assoc c.loop-node.yielded (c.in-Some.node ∷ []) (into_iter_items c.next.new.self) ∙ (ap (λ l. c.loop-node.yielded ++ l) (sym step.0) ∙ h.left);
        done = c.in_ok-push.ensures.items ∙ (λ j. h.done j ++ record { node = contents_of c.in-Some.node; sent = c.new-sent.ensures j } ∷ []) ∙ sym (map-append new_station c.loop-node.yielded (c.in-Some.node ∷ []));
      },
    )

pub returns : goal.returns
returns c =
    let h = c.loop-node.invariant.2 in
    let step = c.in-None.ensures.steps in
    let nothing : into_iter_items c.loop-node.node-iterator ≡ [] = none-there _ (omega (arith, step.0)) in
    h.done ∙ ap (map new_station) (sym (append-nil c.loop-node.yielded) ∙ (ap (λ l. c.loop-node.yielded ++ l) (sym nothing) ∙ h.left))
