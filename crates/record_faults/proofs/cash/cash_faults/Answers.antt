use Rattle.std.proofs.Common.{◌∙◌, ap, length, arith}
use Rattle.std.proofs.lemmas.Result.{err_from_is_err_and}
use Rattle.csv.specs.Records.{fields_of}
use Rattle.trade_text.specs.Files.{no_rows}
use Rattle.trade_text.specs.Records.{records_left}
use Rattle.trade_text.specs.Cash.{cash_in}
use Rattle.trade_text.specs.declared.error.CashField.{CashField}
use Rattle.record_faults.proofs.Judges.{cash_answered, cash_headless, length_faults}
use Rattle.record_faults.proofs.Rows.{is_file}
use Rattle.record_faults.proofs.cash.cash_faults.Goals as goal

pub returns-clause-answers : goal.returns-clause-answers
returns-clause-answers c =
    let on = c.in_ok-reader.ensures.opens in
    let bytes = c.args.bytes.now in
    let header = fields_of c.open_file.new.header in
    let rows = records_left on.state on.text in
    let file = is_file {F = CashField} bytes (record { header = header; records = rows }) on.is in
    let held = c.in_ok-judge.ensures.stands file.header in
    cash_answered bytes c.args.room header rows held.0 c.in_ok-faults.faults.items on.is held.1 (c.in_ok-faults.ensures on.state on.text held.0 on.left on.between file.few held.2)

pub returns-clause-few : goal.returns-clause-few
returns-clause-few c =
    let on = c.in_ok-reader.ensures.opens in
    let bytes = c.args.bytes.now in
    let header = fields_of c.open_file.new.header in
    let rows = records_left on.state on.text in
    let file = is_file {F = CashField} bytes (record { header = header; records = rows }) on.is in
    let held = c.in_ok-judge.ensures.stands file.header in
    let size = ap length (c.in_ok-faults.ensures on.state on.text held.0 on.left on.between file.few held.2) ∙ length_faults cash_in c.args.room 2 (no_rows held.0) rows in
    omega (arith, size, file.few)

pub returns-in_err-judge-clause-refused : goal.returns-in_err-judge-clause-refused
returns-in_err-judge-clause-refused c =
    let on = c.in_ok-reader.ensures.opens in
    let bytes = c.args.bytes.now in
    let header = fields_of c.open_file.new.header in
    let rows = records_left on.state on.text in
    let file = is_file {F = CashField} bytes (record { header = header; records = rows }) on.is in
    let p = err_from_is_err_and c.from_residual-in_err-judge.result c.from_residual-in_err-judge.ensures.1 in
    rw (p.1, p.2) (cash_headless bytes c.args.room header rows c.in_err-judge.field-0.0 on.is (c.in_err-judge.ensures.refused file.header))
