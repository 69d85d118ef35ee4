use Rattle.csv.specs.Records.{fields_of}
use Rattle.record_faults.proofs.Judges.{judges_cash}
use Rattle.record_faults.proofs.cash.CashJudgeJudgeCashField.fault.Goals as goal

pub returns : goal.returns
returns c = record {
  judges = λ kept stands is. rw c.numbered.ensures (judges_cash c.args.self.now kept c.args.rec (fields_of c.args.fields.now) c.in_ok-alone.alone stands (c.in_ok-alone.ensures kept stands is));
}
