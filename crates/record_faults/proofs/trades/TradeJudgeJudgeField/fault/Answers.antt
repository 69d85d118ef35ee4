use Rattle.csv.specs.Records.{fields_of}
use Rattle.record_faults.proofs.Judges.{judges}
use Rattle.record_faults.proofs.trades.TradeJudgeJudgeField.fault.Goals as goal

pub returns : goal.returns
returns c = record {
  judges = λ kept stands is.
      let said = rw c.text_at-name.ensures at c.in_ok-fault.ensures.fault in
      let known = rw c.text_at-name.ensures at c.in_ok-fault.ensures.known in
      judges c.args.self.now c.among.new.self kept c.args.rec (fields_of c.args.fields.now) c.in_ok-alone.alone c.in_ok-fault.fault stands (c.in_ok-alone.ensures kept stands is) said known
      c.among.ensures.front c.among.ensures.place;
}
