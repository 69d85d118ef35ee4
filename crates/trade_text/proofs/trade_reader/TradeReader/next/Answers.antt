use Rattle.csv.specs.Records.{fields_of}
use Rattle.trade_text.proofs.Streaming.{tells_fault, tells_none, tells_row}
use Rattle.trade_text.proofs.trade_reader.TradeReader.next.Goals as goal

pub returns-then-not-branch-clause-gives : goal.returns-then-not-branch-clause-gives
returns-then-not-branch-clause-gives g c = λ told going t.
    tells_none g.R.Read.remaining c.args.self.now.records c.read.new.self c.args.self.now.number c.args.self.now.form told (fields_of c.read.new.fields) t
    (rw c.if-not-branch.true at (c.in_ok-read.ensures.takes t.has.state t.has.text t.has.stands))

pub returns-in-Ok-clause-gives : goal.returns-in-Ok-clause-gives
returns-in-Ok-clause-gives g c = λ told going t.
    tells_row g.R.Read.remaining c.args.self.now.records c.read.new.self c.args.self.now.number c.args.self.now.form told (fields_of c.read.new.fields) t c.in-Ok.row c.row.new.self
    (rw c.if-not-branch.false at (c.in_ok-read.ensures.takes t.has.state t.has.text t.has.stands)) c.in-Ok.ensures.reads

pub returns-in-Err-clause-gives : goal.returns-in-Err-clause-gives
returns-in-Err-clause-gives g c = λ told going t.
    rw c.refusal.ensures
    (tells_fault g.R.Read.remaining c.args.self.now.records c.read.new.self c.args.self.now.number c.args.self.now.form told (fields_of c.read.new.fields) t c.in-Err.error
    (rw c.if-not-branch.false at (c.in_ok-read.ensures.takes t.has.state t.has.text t.has.stands)) c.in-Err.ensures.reads)
