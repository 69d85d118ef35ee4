use Rattle.std.proofs.Common.{◌<◌, length, arith}
use Rattle.std.proofs.lemmas.Result.{err_from_is_err_and}
use Rattle.run_watch.specs.TraceView.{view_of}
use Rattle.run_watch.proofs.SeenLaws.{seen_next, stopped_next}
use Rattle.run_watch.proofs.seeing.walk.Goals as goal

pub loop-lined-preserved : goal.loop-lined-preserved
loop-lined-preserved c =
    let i = c.loop-lined.lined-index in
    let within : i < length c.args.events.now = omega arith in
    record {
      seen = seen_next c.args.core.now c.loop-lined.core c.see.new.core (view_of c.args.trace.now) (view_of c.loop-lined.trace) (view_of c.see.new.trace) c.args.events.now i _ within c.loop-lined.invariant.seen c.in_ok-see.ensures.seen;
      core = c.see.ensures.core;
    }

pub returns-in_err-see-clause-stopped : goal.returns-in_err-see-clause-stopped
returns-in_err-see-clause-stopped c =
    let p = err_from_is_err_and c.from_residual.result c.from_residual.ensures.1 in
    let i = c.loop-lined.lined-index in
    let within : i < length c.args.events.now = omega arith in
    rw (p.1, p.2)
    (stopped_next c.args.core.now c.loop-lined.core c.see.new.core (view_of c.args.trace.now) (view_of c.loop-lined.trace) c.args.events.now i _ c.in_err-see.field-0.0 within c.loop-lined.invariant.seen c.in_err-see.ensures.halted)
