use Rattle.std.proofs.Common.{sym, ◌∙◌}
use Rattle.bucket_move.proofs.Moving.{kept_long, parts_long}
use Rattle.bucket_move.proofs.Together.{all_worked, slots_after}
use Rattle.bucket_move.proofs.work.work_all.Goals as goal

pub fork-requires-clause-slots : goal.fork-requires-clause-slots
fork-requires-clause-slots g c κs within = parts_long c.args.parts.now c.requires.slots

pub returns-then-any_failed-clause-slots : goal.returns-then-any_failed-clause-slots
returns-then-any_failed-clause-slots g c = kept_long c.fork.new.parts (slots_after c.args.rows.now c.args.places.now c.args.parts.now c.fork.new.parts c.fork.auto.parts c.fork.ensures)

pub returns-else-any_failed-clause-slots : goal.returns-else-any_failed-clause-slots
returns-else-any_failed-clause-slots g c = kept_long c.fork.new.parts (slots_after c.args.rows.now c.args.places.now c.args.parts.now c.fork.new.parts c.fork.auto.parts c.fork.ensures)

pub returns-else-any_failed-clause-works : goal.returns-else-any_failed-clause-works
returns-else-any_failed-clause-works g c = λ stage table before keyed placed held.
    all_worked c.args.rows.now c.args.places.now c.args.parts.now c.fork.new.parts c.fork.auto.parts c.fork.ensures (sym c.any_failed.ensures ∙ c.if-any_failed.false) stage table before keyed placed held
