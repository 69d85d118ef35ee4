use Rattle.std.proofs.Common.{◌≡◌, ◌<◌, ◌+◌, ◌++◌, ◌∙◌, ℕ, Result, Ok, Err, ap, arith, get_or, length, subst}
use Rattle.std.specs.Prelude.{OnOk}
use Rattle.tuple_edge.specs.Row.{route_of}
use Rattle.reach_finder.specs.Traced.{HasSeen, traced_row, traced_to}
use Rattle.reach_finder.proofs.Tracing.{part_saw, row_seen}
use Rattle.reach_finder.proofs.stages.take_row.Goals as goal

then : {A E : Type 0} {P Q : Type 0} → (r : Result A E) → (P → Q) → OnOk r P → OnOk r Q
then (Ok x) f p = f p
then (Err e) f p = tt

none_added : (n : ℕ) → 0 + n ≡ n
none_added n = omega arith

pub returns-clause-answers : goal.returns-clause-answers
returns-clause-answers c = then c.take.result (λ answers before saw.
    let stage = c.args.stage.now in
    let part = c.route-part.result in
    let tracer = c.index-tracers-part.result in
    let within : part < length c.args.tracers.now = omega (arith, c.route-part.ensures.below, c.requires.parts) in
    let had = subst (λ n. HasSeen stage.op (get_or c.args.tracers.now part tracer) (traced_to stage n before)) (none_added part) (part_saw stage 0 part c.args.tracers.now before tracer within saw) in
    answers (traced_to stage part before) had
    ∙ ap (λ q. c.args.out.now.items ++ traced_row stage.op (traced_to stage q before) c.args.x.now) c.route-part.ensures.value) c.take.ensures.answers

pub returns-clause-saw : goal.returns-clause-saw
returns-clause-saw c = then c.take.result (λ sees before saw.
    let stage = c.args.stage.now in
    let part = c.route-part.result in
    let tracer = c.index-tracers-part.result in
    let within : part < length c.args.tracers.now = omega (arith, c.route-part.ensures.below, c.requires.parts) in
    let there : route_of c.args.x.now.row stage.by stage.parts ≡ 0 + part = omega (arith, c.route-part.ensures.value) in
    row_seen stage 0 part c.args.tracers.now before c.args.x.now c.take.new.self tracer there within sees saw) c.take.ensures.seen
