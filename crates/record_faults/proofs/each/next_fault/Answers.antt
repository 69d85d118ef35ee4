use Rattle.std.proofs.Common.{◌<◌, ◌≤◌, arith}
use Rattle.csv.specs.Records.{fields_of}
use Rattle.record_faults.proofs.OneMore.{judged_ok, next_full}
use Rattle.record_faults.proofs.each.next_fault.Goals as goal

pub returns-then-count-room : goal.returns-then-count-room
returns-then-count-room g c =
    let some : c.args.count < c.args.room = omega arith in
    judged_ok g.J.Judge.row_in c.args.room c.fault.result (g.J.Judge.stands c.args.judge.now) (g.J.Judge.stands c.fault.new.self) c.args.rec c.args.count (fields_of c.args.fields.now) some c.fault.ensures.judges

pub returns : goal.returns
returns g c = λ so_far stands counts is.
    let none : c.args.room ≤ c.args.count = omega arith in
    next_full g.J.Judge.row_in c.args.room (g.J.Judge.stands c.args.judge.now) c.args.rec c.args.count so_far (fields_of c.args.fields.now) none counts stands
