use Rattle.std.proofs.Common.{List, ◌++◌, ◌∙◌, sym, subst}
use Rattle.stream_ops.specs.State.{StateView}
use Rattle.bucket_move.specs.Working.{AllHold, first_answers}
use Rattle.bucket_move.proofs.Moving.{AllLong}
use Rattle.bucket_move.proofs.Picking.{length-first_answers}
use Rattle.bucket_move.proofs.work.work_in_order.Goals as goal

pub returns-clause-slots : goal.returns-clause-slots
returns-clause-slots g c = subst AllLong (sym c.gather.ensures.kept) c.in_ok-work_all.ensures.slots

pub returns-clause-works : goal.returns-clause-works
returns-clause-works g c = λ stage table before keyed placed held.
    let done = c.in_ok-work_all.ensures.works stage table before keyed placed held in
    let rows = c.args.rows.now in (
      subst (λ (kept : List (List StateView)). AllHold stage table (before ++ rows) kept) (sym c.gather.ensures.kept) done.0,
      c.gather.ensures.gathers (first_answers stage.op before rows) (length-first_answers stage.op before rows ∙ sym c.requires.rows) done.1,
    )
