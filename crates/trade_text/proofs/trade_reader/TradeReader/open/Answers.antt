use Rattle.std.proofs.Common.{sym}
use Rattle.csv.specs.Reading.{strip_bom}
use Rattle.csv.specs.Records.{fields_of}
use Rattle.csv.specs.declared.parser.State.TheVariants as state
use Rattle.trade_text.proofs.Streaming.{opens, opens_fault, opens_none}
use Rattle.trade_text.proofs.trade_reader.TradeReader.open.Goals as goal

pub returns-then-not-branch-clause-refused : goal.returns-then-not-branch-clause-refused
returns-then-not-branch-clause-refused g c = λ bytes is.
    let o = c.in_ok-records.ensures bytes is in
    opens_none g.R.Read.remaining bytes c.in_ok-records.records c.read.new.self (fields_of c.read.new.fields) o.1 o.0
    (rw c.if-not-branch.true at (c.in_ok-read.ensures.takes state.StartRecord (strip_bom bytes) o.0))

pub returns-in-Err-clause-refused : goal.returns-in-Err-clause-refused
returns-in-Err-clause-refused g c = λ bytes is.
    let o = c.in_ok-records.ensures bytes is in
    rw c.refusal.ensures
    (opens_fault g.R.Read.remaining bytes c.in_ok-records.records c.read.new.self (fields_of c.read.new.fields) o.1 o.0 c.in-Err.error
    (rw c.if-not-branch.false at (c.in_ok-read.ensures.takes state.StartRecord (strip_bom bytes) o.0)) (sym c.in-Err.ensures))

pub returns-clause-opens : goal.returns-clause-opens
returns-clause-opens g c = λ bytes is.
    let o = c.in_ok-records.ensures bytes is in
    rw c.new-symbols.ensures
    (opens g.R.Read.remaining bytes c.in_ok-records.records c.read.new.self (fields_of c.read.new.fields) o.1 o.0 c.in-Ok.columns
    (rw c.if-not-branch.false at (c.in_ok-read.ensures.takes state.StartRecord (strip_bom bytes) o.0)) (sym c.in-Ok.ensures))
