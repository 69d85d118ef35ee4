use Rattle.std.proofs.Common.{◌≡◌, ◌≤◌, ◌<◌, ◌+◌, ◌∙◌, ◌++◌, ◌∷◌, ℕ, List, [], None, ap, length, drop, refl, subst, sym, arith}
use Rattle.std.proofs.lemmas.List.{drop_more}
use Rattle.csv.specs.Records.{fields_of}
use Rattle.record_faults.specs.EachRecord.{accepted}
use Rattle.record_faults.specs.Written.{rows_text}
use Rattle.trade_text.specs.Records.{records_left}
use Rattle.trade_sift.specs.Sifted.{reject_rows}
use Rattle.trade_sift.proofs.Parts.{done_kept, done_rejects, drop_past, ended_kept, ended_rejects, goes_on}
use Rattle.trade_sift.proofs.sift.push_records.Goals as goal

pub loop-nth-init : goal.loop-nth-init
loop-nth-init c = record {
  goes = λ state left held between. record { state = state; rest = left; left = held; between = between; kept_is = refl; rejects_are = refl };
  few = refl;
  text = refl;
}

pub returns-then-not-branch-clause-kept : goal.returns-then-not-branch-clause-kept
returns-then-not-branch-clause-kept c = λ state left held between.
    let l = c.loop-nth in
    let on = l.invariant.goes state left held between in
    ended_kept c.args.lines.now c.args.names l.number l.texts.kept.items l.texts.rejects.items (c.args.texts.now.kept.items ++ rows_text (accepted c.args.faults.now (records_left state left)))
    (c.args.texts.now.rejects.items ++ rows_text (reject_rows c.args.lines.now c.args.names 2 c.args.faults.now (records_left state left))) (drop l.nth c.args.faults.now) l.reader c.next_record.new.reader (fields_of c.next_record.new.fields)
    on (rw c.if-not-branch.true at (c.in_ok-next_record.ensures on.state on.rest on.left))

pub returns-then-not-branch-clause-rejects : goal.returns-then-not-branch-clause-rejects
returns-then-not-branch-clause-rejects c = λ state left held between.
    let l = c.loop-nth in
    let on = l.invariant.goes state left held between in
    ended_rejects c.args.lines.now c.args.names l.number l.texts.kept.items l.texts.rejects.items (c.args.texts.now.kept.items ++ rows_text (accepted c.args.faults.now (records_left state left)))
    (c.args.texts.now.rejects.items ++ rows_text (reject_rows c.args.lines.now c.args.names 2 c.args.faults.now (records_left state left))) (drop l.nth c.args.faults.now) l.reader c.next_record.new.reader (fields_of c.next_record.new.fields)
    on (rw c.if-not-branch.true at (c.in_ok-next_record.ensures on.state on.rest on.left))

pub loop-nth-preserved : goal.loop-nth-preserved
loop-nth-preserved c =
    let l = c.loop-nth in
    let faults = c.args.faults.now in
    let within : l.nth < length faults = omega (arith, c.loop-nth-test.true) in
    let fault = c.fault_at-fault.result in
    let rejects =
    subst (λ (text : List ℕ). c.push_record.new.texts.rejects.items ≡ l.texts.rejects.items ++ rows_text (reject_rows text c.args.names l.number (fault ∷ []) (fields_of c.next_record.new.fields ∷ [])))
    l.invariant.text c.in_ok-push_record.ensures.rejects in
    let left_is : drop l.nth faults ≡ fault ∷ drop (l.nth + 1) faults = drop_more faults l.nth None within ∙ ap (λ f. f ∷ drop (l.nth + 1) faults) (sym c.fault_at-fault.ensures) in
    record {
      goes = λ state left held between.
          let on = l.invariant.goes state left held between in
          let parted = rw left_is at on in
          goes_on c.args.lines.now c.args.names l.number l.texts.kept.items l.texts.rejects.items (c.args.texts.now.kept.items ++ rows_text (accepted faults (records_left state left)))
          (c.args.texts.now.rejects.items ++ rows_text (reject_rows c.args.lines.now c.args.names 2 faults (records_left state left))) fault (drop (l.nth + 1) faults) l.reader c.next_record.new.reader (fields_of c.next_record.new.fields)
          c.push_record.new.texts.kept.items c.push_record.new.texts.rejects.items parted (rw c.if-not-branch.false at (c.in_ok-next_record.ensures parted.state parted.rest parted.left))
          c.in_ok-push_record.ensures.kept rejects;
      few = omega (arith, l.invariant.few);
      text = c.in_ok-push_record.ensures.text ∙ l.invariant.text;
    }

pub returns-clause-kept : goal.returns-clause-kept
returns-clause-kept c = λ state left held between.
    let l = c.loop-nth in
    let over : length c.args.faults.now ≤ l.nth = omega arith in
    done_kept c.args.lines.now c.args.names l.number l.texts.kept.items l.texts.rejects.items (c.args.texts.now.kept.items ++ rows_text (accepted c.args.faults.now (records_left state left)))
    (c.args.texts.now.rejects.items ++ rows_text (reject_rows c.args.lines.now c.args.names 2 c.args.faults.now (records_left state left))) (drop l.nth c.args.faults.now) l.reader
    (drop_past c.args.faults.now l.nth over) (l.invariant.goes state left held between)

pub returns-clause-rejects : goal.returns-clause-rejects
returns-clause-rejects c = λ state left held between.
    let l = c.loop-nth in
    let over : length c.args.faults.now ≤ l.nth = omega arith in
    done_rejects c.args.lines.now c.args.names l.number l.texts.kept.items l.texts.rejects.items (c.args.texts.now.kept.items ++ rows_text (accepted c.args.faults.now (records_left state left)))
    (c.args.texts.now.rejects.items ++ rows_text (reject_rows c.args.lines.now c.args.names 2 c.args.faults.now (records_left state left))) (drop l.nth c.args.faults.now) l.reader
    (drop_past c.args.faults.now l.nth over) (l.invariant.goes state left held between)
