use Rattle.std.proofs.Common.{ℕ, List, ◌++◌, ◌∙◌, ap}
use Rattle.csv.specs.Records.{fields_of}
use Rattle.csv.specs.Writing.{default_writer, row_text}
use Rattle.record_faults.proofs.Judges.{alone_is}
use Rattle.record_faults.proofs.trades.TradeJudge.alone.Goals as goal

pub returns : goal.returns
returns c = λ form stands is.
    let fields = fields_of c.args.fields.now in
    let text_is = c.deref-2.ensures.value ∙ c.in_ok-text.ensures ∙ ap (λ (front : List ℕ). front ++ row_text default_writer fields) c.deref.ensures.value in
    alone_is c.args.self.now form fields c.deref-2.result.now c.in_ok-fault.fault stands is text_is c.in_ok-fault.ensures.short c.in_ok-fault.ensures.fault
