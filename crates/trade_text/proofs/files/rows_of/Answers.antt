use Rattle.std.proofs.Common.{◌<◌, ◌≤◌, length, arith, rules}
use Rattle.std.proofs.lemmas.Result.{err_from_is_err_and}
use Rattle.std.proofs.lemmas.List.Elements.{All-push}
use Rattle.csv.specs.Records.{fields_of}
use Rattle.trade_text.specs.Files.{rows_of}
use Rattle.trade_text.specs.Records.{records_left}
use Rattle.trade_text.proofs.Reading.{ended, goes_on, refused, too_many}
use Rattle.trade_text.proofs.files.rows_of.Goals as goal

pub returns-then-not-branch-clause-gives : goal.returns-then-not-branch-clause-gives
returns-then-not-branch-clause-gives g c = λ state text left between.
    let on = c.loop-turn.invariant.reads state text left between in
    ended g.R.RecordForm.row_in c.args.room c.loop-turn.turn (record { rows = c.loop-turn.rows.items; kept = c.loop-turn.form }) c.loop-turn.reader c.next_record.new.reader
    (rows_of g.R.RecordForm.row_in c.args.room c.args.form.now (records_left state text)) (fields_of c.next_record.new.fields)
    on (rw c.if-not-branch.true at (c.in_ok-next_record.ensures on.state on.text on.left))

pub returns-in_err-row-clause-gives : goal.returns-in_err-row-clause-gives
returns-in_err-row-clause-gives g c = λ state text left between.
    let on = c.loop-turn.invariant.reads state text left between in
    let few : length c.loop-turn.rows.items < c.args.room = omega arith in
    let p = err_from_is_err_and c.from_residual-in_err-row.result c.from_residual-in_err-row.ensures.1 in
    rw (p.1, p.2)
    (refused g.R.RecordForm.row_in c.args.room c.loop-turn.turn (record { rows = c.loop-turn.rows.items; kept = c.loop-turn.form }) c.loop-turn.reader c.next_record.new.reader
    (rows_of g.R.RecordForm.row_in c.args.room c.args.form.now (records_left state text)) (fields_of c.next_record.new.fields)
    c.in_err-row.field-0.0 few on (rw c.if-not-branch.false at (c.in_ok-next_record.ensures on.state on.text on.left)) c.in_err-row.ensures.reads)

pub loop-turn-preserved : goal.loop-turn-preserved
loop-turn-preserved g c =
    let few : length c.loop-turn.rows.items < c.args.room = omega arith in
    record {
      reads = λ state text left between.
          let on = c.loop-turn.invariant.reads state text left between in
          rw c.in_ok-push.ensures.items
          (goes_on g.R.RecordForm.row_in c.args.room c.loop-turn.turn (record { rows = c.loop-turn.rows.items; kept = c.loop-turn.form }) c.loop-turn.reader c.next_record.new.reader
          (rows_of g.R.RecordForm.row_in c.args.room c.args.form.now (records_left state text)) (fields_of c.next_record.new.fields)
          c.in_ok-row.row c.row.new.self few on (rw c.if-not-branch.false at (c.in_ok-next_record.ensures on.state on.text on.left)) c.in_ok-row.ensures.reads);
      count = search rules;
      within = rw c.in_ok-push.ensures.items (All-push g.R.RecordForm.within c.loop-turn.rows.items c.in_ok-row.row c.loop-turn.invariant.within c.in_ok-row.ensures.within);
      stands = c.row.ensures.stands;
    }

pub returns-then-branch-clause-gives : goal.returns-then-branch-clause-gives
returns-then-branch-clause-gives g c = λ state text left between.
    let on = c.loop-turn.invariant.reads state text left between in
    let full : c.args.room ≤ length c.loop-turn.rows.items = omega arith in
    too_many g.R.RecordForm.row_in c.args.room c.loop-turn.turn (record { rows = c.loop-turn.rows.items; kept = c.loop-turn.form }) c.loop-turn.reader c.next_record-2.new.reader
    (rows_of g.R.RecordForm.row_in c.args.room c.args.form.now (records_left state text)) (fields_of c.next_record-2.new.fields)
    full on (rw c.if-branch.true at (c.in_ok-next_record-2.ensures on.state on.text on.left))

pub returns-clause-gives : goal.returns-clause-gives
returns-clause-gives g c = λ state text left between.
    let on = c.loop-turn.invariant.reads state text left between in
    ended g.R.RecordForm.row_in c.args.room c.loop-turn.turn (record { rows = c.loop-turn.rows.items; kept = c.loop-turn.form }) c.loop-turn.reader c.next_record-2.new.reader
    (rows_of g.R.RecordForm.row_in c.args.room c.args.form.now (records_left state text)) (fields_of c.next_record-2.new.fields)
    on (rw c.if-branch.false at (c.in_ok-next_record-2.ensures on.state on.text on.left))
