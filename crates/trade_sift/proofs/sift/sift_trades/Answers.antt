use Rattle.std.proofs.Common.{sym, subst}
use Rattle.csv.specs.Records.{fields_of}
use Rattle.trade_text.specs.Records.{records_left}
use Rattle.trade_sift.specs.Laws.{IsAccepted}
use Rattle.trade_sift.proofs.Parts.{answered, both_parts, kept_is_accepted, written}
use Rattle.trade_sift.proofs.sift.sift_trades.Goals as goal

pub returns-clause-parts : goal.returns-clause-parts
returns-clause-parts c =
    let on = c.in_ok-reader.ensures.opens in
    let bytes = c.args.bytes.now in
    let header = fields_of c.open_file.new.header in
    let rows = records_left on.state on.text in
    let faults = c.in_ok-faults.faults.items in
    let kept = rw c.deref.ensures.value at (c.in_ok-push_records.ensures.kept on.state on.text on.left on.between) in
    let rejects = rw (c.deref.ensures.value, c.new.ensures, c.without_mark.ensures, c.len-names.ensures) at (c.in_ok-push_records.ensures.rejects on.state on.text on.left on.between) in
    let same = written bytes header rows faults c.in_ok-texts.texts.kept.items c.in_ok-texts.texts.rejects.items c.push_records.new.texts.kept.items c.push_records.new.texts.rejects.items c.in_ok-kept.kept.items
    c.in_ok-texts.ensures.kept c.in_ok-texts.ensures.rejects kept rejects (rw c.deref-2.ensures.value at c.in_ok-kept.ensures) in
    answered bytes (record { header = header; records = rows }) faults _ c.in_ok-faults.ensures.answers on.is (both_parts _ _ _ same)

pub returns-clause-accepted : goal.returns-clause-accepted
returns-clause-accepted c =
    let on = c.in_ok-reader.ensures.opens in
    let bytes = c.args.bytes.now in
    let header = fields_of c.open_file.new.header in
    let rows = records_left on.state on.text in
    let faults = c.in_ok-faults.faults.items in
    let kept = rw c.deref.ensures.value at (c.in_ok-push_records.ensures.kept on.state on.text on.left on.between) in
    let rejects = rw (c.deref.ensures.value, c.new.ensures, c.without_mark.ensures, c.len-names.ensures) at (c.in_ok-push_records.ensures.rejects on.state on.text on.left on.between) in
    let same = written bytes header rows faults c.in_ok-texts.texts.kept.items c.in_ok-texts.texts.rejects.items c.push_records.new.texts.kept.items c.push_records.new.texts.rejects.items c.in_ok-kept.kept.items
    c.in_ok-texts.ensures.kept c.in_ok-texts.ensures.rejects kept rejects (rw c.deref-2.ensures.value at c.in_ok-kept.ensures) in
    subst IsAccepted (sym same.0) (kept_is_accepted bytes (record { header = header; records = rows }) faults c.in_ok-faults.ensures.answers on.is)
