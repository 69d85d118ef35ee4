use Rattle.std.proofs.Common.{◌≤◌, refl, arith}
use Rattle.csv.specs.Records.{fields_of}
use Rattle.trade_text.specs.Files.{no_rows}
use Rattle.trade_text.specs.Records.{records_left}
use Rattle.record_faults.specs.EachRecord.{faults_from}
use Rattle.record_faults.proofs.OneMore.{all_told, ended, goes_on}
use Rattle.record_faults.proofs.each.faults_under.Goals as goal

pub loop-turn-init : goal.loop-turn-init
loop-turn-init g c = record {
  goes = λ state text kept left between few stands. record {
    state = state;
    text = text;
    so_far = no_rows kept;
    left = left;
    between = between;
    few = omega (arith, few);
    counts = refl;
    stands_for = stands;
    is = rw c.new-faults.ensures.items refl;
  };
  few = omega arith;
}

pub returns-then-not-branch : goal.returns-then-not-branch
returns-then-not-branch g c = λ state text kept left between few stands.
    let l = c.loop-turn in
    let on = l.invariant.goes state text kept left between few stands in
    ended g.J.Judge.row_in c.args.room g.J.Judge.stands l.turn c.args.most l.count l.faults.items (faults_from g.J.Judge.row_in c.args.room 2 (no_rows kept) (records_left state text))
    l.judge l.reader c.next_record.new.reader (fields_of c.next_record.new.fields) on (rw c.if-not-branch.true at (c.in_ok-next_record.ensures on.state on.text on.left))

pub loop-turn-preserved : goal.loop-turn-preserved
loop-turn-preserved g c =
    let l = c.loop-turn in
    record {
      goes = λ state text kept left between few stands.
          let on = l.invariant.goes state text kept left between few stands in
          rw (c.in_ok-push.ensures.items, c.count_with-count.ensures.value)
          (goes_on g.J.Judge.row_in c.args.room g.J.Judge.stands l.turn c.args.most l.count l.faults.items (faults_from g.J.Judge.row_in c.args.room 2 (no_rows kept) (records_left state text))
          l.judge c.next_fault.new.judge l.reader c.next_record.new.reader (fields_of c.next_record.new.fields) c.in_ok-fault.fault on
          (rw c.if-not-branch.false at (c.in_ok-next_record.ensures on.state on.text on.left)) (λ is. c.in_ok-fault.ensures on.so_far on.stands_for on.counts is));
      few = omega arith;
    }

pub returns : goal.returns
returns g c = λ state text kept left between few stands.
    let l = c.loop-turn in
    let over : c.args.most ≤ l.turn = omega arith in
    all_told g.J.Judge.row_in c.args.room g.J.Judge.stands l.turn c.args.most l.count l.faults.items (faults_from g.J.Judge.row_in c.args.room 2 (no_rows kept) (records_left state text))
    l.judge l.reader over (l.invariant.goes state text kept left between few stands)
