use Rattle.std.proofs.Common.{◌≡◌, ◌<◌, ◌++◌, ◌∙◌, length, take, sym, ap, append_assoc, arith}
use Rattle.std.proofs.lemmas.List.{length-take-le, take-append-drop}
use Rattle.std.proofs.lemmas.Result.{err_from_is_err_and}
use Rattle.flux_outside.proofs.Sinks.{offers_more, takes_more, takes_part_more}
use Rattle.row_wire.proofs.Offers.{begun_by}
use Rattle.row_wire.proofs.wire.put_all.Goals as goal

pub returns-in_err-count-clause-failed : goal.returns-in_err-count-clause-failed
returns-in_err-count-clause-failed g c =
    let p = err_from_is_err_and c.from_residual.result c.from_residual.ensures.1 in
    let w = c.loop-rest.invariant.written in
    rw p.1 (takes_part_more (g.W.Wire.told c.args.wire.now).taken (g.W.Wire.told c.loop-rest.wire).taken (g.W.Wire.told c.put.new.self).taken w.0 c.loop-rest.rest.now c.args.bytes.now w.2 w.1 c.in_err-count.ensures.failed)

pub loop-rest-preserved : goal.loop-rest-preserved
loop-rest-preserved g c =
    let w = c.loop-rest.invariant.written in
    let taken = take c.in_ok-count.count c.loop-rest.rest.now in
    let splits : c.loop-rest.rest.now ≡ taken ++ c.split_at.result.1.now =
    sym (take-append-drop c.in_ok-count.count c.loop-rest.rest.now) ∙ ap (λ rest. taken ++ rest) (sym c.split_at.ensures.back) in
    let whole : c.args.bytes.now ≡ (w.0 ++ taken) ++ c.split_at.result.1.now =
    w.1 ∙ ap (λ rest. w.0 ++ rest) splits ∙ sym (append_assoc w.0 taken c.split_at.result.1.now) in
    let some : 0 < length taken = rw (length-take-le c.in_ok-count.count c.loop-rest.rest.now c.in_ok-count.ensures.within) (omega arith) in
    record {
      written = (w.0 ++ taken, whole, takes_more (g.W.Wire.told c.args.wire.now).taken (g.W.Wire.told c.loop-rest.wire).taken (g.W.Wire.told c.put.new.self).taken w.0 taken w.2 c.in_ok-count.ensures.ok);
      offers = offers_more (g.W.Wire.told c.args.wire.now).offered (g.W.Wire.told c.loop-rest.wire).offered (g.W.Wire.told c.put.new.self).offered c.args.bytes.now c.loop-rest.rest.now c.split_at.result.1.now
          c.loop-rest.invariant.offers c.in_ok-count.ensures.given (taken, some, splits);
      begun = begun_by (g.W.Wire.told c.args.wire.now).offered (g.W.Wire.told c.loop-rest.wire).offered (g.W.Wire.told c.put.new.self).offered c.args.bytes.now c.loop-rest.rest.now c.split_at.result.1.now
          c.loop-rest.invariant.offers c.in_ok-count.ensures.given;
      later = omega arith;
    }
