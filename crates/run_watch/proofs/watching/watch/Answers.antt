use Rattle.std.proofs.Common.{◌≡◌, ◌∙◌, ◌+◌, ◌-◌, ◌++◌, [], ◌∷◌, suc, drop, length, length-drop, subst, sym, take, arith}
use Rattle.std.specs.Int.{div_ceil}
use Rattle.std.proofs.lemmas.Result.{err_from_is_err_and}
use Rattle.flux_core.specs.CoreView.{inputs_of}
use Rattle.run_watch.specs.Columns.{frame_in, share}
use Rattle.run_watch.specs.Seen.{HasSeen, HasStopped}
use Rattle.run_watch.specs.TraceView.{view_of}
use Rattle.run_watch.proofs.ByColumn.{HasCome, column_stopped, come_next}
use Rattle.run_watch.proofs.watching.watch.Goals as goal

pub loop-column-preserved : goal.loop-column-preserved
loop-column-preserved c =
    let events = c.args.events.now in
    let start = c.loop-column.start in
    let left = c.min-many.result - (c.loop-column.column + 1) in
    let k = c.div_ceil.result in
    let now = c.loop-column.core in
    let new = c.walk.new.core in
    let t = view_of c.loop-column.trace in
    let u = view_of c.walk.new.trace in
    let count : c.min-many.result - c.loop-column.column ≡ suc left = omega arith in
    let come : HasCome c.args.core.now now t events start (suc left) c.args.columns c.loop-column.frames.items =
    subst (λ n. HasCome c.args.core.now now t events start n c.args.columns c.loop-column.frames.items) count c.loop-column.invariant in
    let is : k ≡ share (length (drop start events)) (suc left) = c.div_ceil.ensures ∙ (λ j. div_ceil (sym (length-drop start events) j) (count j)) in
    let many : start + k - start ≡ k = omega arith in
    let seen : HasSeen now new t u (take k (drop start events)) = subst (λ n. HasSeen now new t u (take n (drop start events))) many c.in_ok-walk.ensures.seen in
    come_next c.args.core.now now t events start left c.args.columns k c.loop-column.frames.items come is new u c.push_frame.new.frames.items c.walk.ensures.core seen
    (λ s stands. c.in_ok-push_frame.ensures s stands ∙ (λ j. c.loop-column.frames.items ++ frame_in new.plan (inputs_of new) (c.place-place.ensures j) s ∷ []))

pub returns-in_err-walk-clause-stopped : goal.returns-in_err-walk-clause-stopped
returns-in_err-walk-clause-stopped c =
    let p = err_from_is_err_and c.from_residual.result c.from_residual.ensures.1 in
    let events = c.args.events.now in
    let start = c.loop-column.start in
    let left = c.min-many.result - (c.loop-column.column + 1) in
    let k = c.div_ceil.result in
    let now = c.loop-column.core in
    let new = c.walk.new.core in
    let t = view_of c.loop-column.trace in
    let count : c.min-many.result - c.loop-column.column ≡ suc left = omega arith in
    let come : HasCome c.args.core.now now t events start (suc left) c.args.columns c.loop-column.frames.items =
    subst (λ n. HasCome c.args.core.now now t events start n c.args.columns c.loop-column.frames.items) count c.loop-column.invariant in
    let is : k ≡ share (length (drop start events)) (suc left) = c.div_ceil.ensures ∙ (λ j. div_ceil (sym (length-drop start events) j) (count j)) in
    let many : start + k - start ≡ k = omega arith in
    let why = c.in_err-walk.field-0.0 in
    rw (p.1, p.2)
    (column_stopped c.args.core.now now t events start left c.args.columns k c.loop-column.frames.items come is new why
    (subst (λ n. HasStopped now new (take n (drop start events)) why) many c.in_err-walk.ensures.stopped))
