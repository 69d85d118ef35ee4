use Rattle.std.proofs.Common.{rules, ◌≡◌, ◌∙◌, ◌+◌, ◌++◌, ◌∷◌, [], ap, sym, subst, arith, length, append_assoc, append-nil}
use Rattle.std.specs.Vec.Iter.{into_iter_items}
use Rattle.pair_machine.specs.Lists.{Each}
use Rattle.pair_machine.proofs.Lists.{each_right}
use Rattle.run_node.specs.declared.part.Part.{Part}
use Rattle.plan_nodes.specs.States.{id_of}
use Rattle.plan_nodes.specs.declared.state.NodeState.{NodeState}
use Rattle.linked_run.specs.Runs.{parts_in}
use Rattle.tuple_edge.specs.declared.node.NodeId.TheVariants as node
use Rattle.partition_runner.specs.Feeds.{node_among}
use Rattle.partition_runner.specs.Parts.{HasRoom, IsLeftOf}
use Rattle.linked_run.proofs.Gathered.{empty_list, parts_in-more}
use Rattle.partition_runner.proofs.ran.Left.filled.Goals as goal

pub add-feed-requires-clause-named : goal.add-feed-requires-clause-named
add-feed-requires-clause-named g c κs within =
    let h = c.loop-part.invariant.2 in
    let named : Part NodeState _ → Type 0 = λ p. (g.K.Keeps.kept p.history).node ≡ id_of p.state in
    (each_right named c.loop-part.yielded (c.in-Some.part ∷ into_iter_items c.next.new.self)
    (subst (Each named) (sym h.rest ∙ ap (λ l. c.loop-part.yielded ++ l) c.in-Some.ensures.steps.0) c.requires.named)).0

pub add-feed-requires-clause-room : goal.add-feed-requires-clause-room
add-feed-requires-clause-room g c κs within =
    let room = c.loop-part.invariant.2.room in
    let next : length (into_iter_items c.loop-part.part-iterator) ≡ length (into_iter_items c.next.new.self) + 1 = ap length c.in-Some.ensures.steps.0 ∙ omega arith in
    record { nodes = omega (arith, room.nodes, next); logs = omega (arith, room.logs, next) }

pub add-feed-requires-clause-feed : goal.add-feed-requires-clause-feed
add-feed-requires-clause-feed g c κs within = c.loop-part.invariant.2.feed

pub returns-clause-fits : goal.returns-clause-fits
returns-clause-fits g c = c.loop-part.invariant.2.fits

pub returns-clause-feed : goal.returns-clause-feed
returns-clause-feed g c = c.loop-part.invariant.2.feed

pub loop-part-init : goal.loop-part-init
loop-part-init g c =
    let none : c.args.self.nodes.items ≡ [] = c.requires.empty.nodes in (
      tt,
      tt,
      record {
        rest = search rules;
        done = c.requires.empty;
        room = subst (λ n. HasRoom n c.args.self) (search rules) c.requires.room;
        fits = subst (Each (λ (s : NodeState). (f : g.row.F.Denot) × g.F.Feed.fits f s)) (sym none) tt;
        feed = ap (λ nodes. node_among nodes node.Ingress) none;
      },
    )

pub loop-part-preserved : goal.loop-part-preserved
loop-part-preserved g c =
    let h = c.loop-part.invariant.2 in
    let step = c.in-Some.ensures.steps in
    let next : length (into_iter_items c.loop-part.part-iterator) ≡ length (into_iter_items c.next.new.self) + 1 = ap length step.0 ∙ omega arith in (
      tt,
      tt,
      record {
        rest = append_assoc c.loop-part.yielded (c.in-Some.part ∷ []) (into_iter_items c.next.new.self) ∙ (ap (λ l. c.loop-part.yielded ++ l) (sym step.0) ∙ h.rest);
        done = subst (λ l. IsLeftOf g.K.Keeps.kept l c.add-feed.new.self) (sym (parts_in-more g.K.Keeps.kept c.loop-part.yielded c.in-Some.part)) (c.add-feed.ensures.of_parts (parts_in g.K.Keeps.kept c.loop-part.yielded) h.done);
        room = c.add-feed.ensures.room _ (subst (λ n. HasRoom n c.loop-part.left) next h.room);
        fits = c.add-feed.ensures.fits h.fits;
        feed = c.add-feed.ensures.feed;
      },
    )

pub returns-clause-of_parts : goal.returns-clause-of_parts
returns-clause-of_parts g c =
    let h = c.loop-part.invariant.2 in
    let step = c.in-None.ensures.steps in
    let views = c.loop-part.yielded in
    let nothing : into_iter_items c.loop-part.part-iterator ≡ [] = empty_list _ (omega (arith, step.0)) in
    let all : views ≡ c.args.parts.items = sym (append-nil views) ∙ (ap (λ l. views ++ l) (sym nothing) ∙ h.rest) in
    subst (λ l. IsLeftOf g.K.Keeps.kept (parts_in g.K.Keeps.kept l) c.loop-part.left) all h.done
