use Rattle.std.proofs.Common.{refl, arith}
use Rattle.csv.specs.Records.{fields_of}
use Rattle.trade_text.proofs.StreamFacts.{end_meets, end_takes, ends, goes_on, is_longer}
use Rattle.trade_text.proofs.record_reader.RecordReader.read.Goals as goal

pub returns-in-None-clause-takes : goal.returns-in-None-clause-takes
returns-in-None-clause-takes g c = λ s text stands.
    let r = c.loop.invariant.1 s text stands in
    end_takes g.R.Read.remaining s text c.loop.self.bytes c.loop.self.parser (fields_of c.loop.fields) c.loop.counter r c.next.new.self c.take_end.new.self (fields_of c.take_end.new.fields)
    c.take_end.result (rw c.in-None.is at (c.in_ok-next.ensures.gives r.rest r.left)) c.take_end.ensures.takes

pub returns-in-None-clause-bound : goal.returns-in-None-clause-bound
returns-in-None-clause-bound g c = λ s text stands.
    let r = c.loop.invariant.1 s text stands in
    end_meets g.R.Read.remaining s text c.loop.self.bytes c.loop.self.parser (fields_of c.loop.fields) c.loop.counter r c.next.new.self c.take_end.new.self (fields_of c.take_end.new.fields)
    c.take_end.result c.args.number (omega (arith, c.loop-test.true)) (rw c.in-None.is at (c.in_ok-next.ensures.gives r.rest r.left)) c.take_end.ensures.takes c.take_end.ensures.failed

pub returns-then-branch-clause-takes : goal.returns-then-branch-clause-takes
returns-then-branch-clause-takes g c = λ s text stands.
    let r = c.loop.invariant.1 s text stands in
    (ends g.R.Read.remaining s text c.loop.self.bytes c.loop.self.parser (fields_of c.loop.fields) c.loop.counter r c.next.new.self c.take.new.self (fields_of c.take.new.fields)
    c.in-Some.byte (rw c.in-Some.is at (c.in_ok-next.ensures.gives r.rest r.left)) (rw c.if-branch.true at c.in_ok-take-in-Some.ensures.takes)).takes

pub returns-then-branch-clause-bound : goal.returns-then-branch-clause-bound
returns-then-branch-clause-bound g c = λ s text stands.
    let r = c.loop.invariant.1 s text stands in
    let e = ends g.R.Read.remaining s text c.loop.self.bytes c.loop.self.parser (fields_of c.loop.fields) c.loop.counter r c.next.new.self c.take.new.self (fields_of c.take.new.fields)
    c.in-Some.byte (rw c.in-Some.is at (c.in_ok-next.ensures.gives r.rest r.left)) (rw c.if-branch.true at c.in_ok-take-in-Some.ensures.takes) in
    rw e.count (omega (arith, c.loop-test.true))

pub loop-preserved : goal.loop-preserved
loop-preserved g c = (
  c.in_ok-take-in-Some.ensures.partial,
  λ s text stands.
      let r = c.loop.invariant.1 s text stands in
      goes_on g.R.Read.remaining s text c.loop.self.bytes c.loop.self.parser (fields_of c.loop.fields) c.loop.counter r c.next.new.self c.take.new.self (fields_of c.take.new.fields)
      c.in-Some.byte (rw c.in-Some.is at (c.in_ok-next.ensures.gives r.rest r.left)) (rw c.if-branch.false at c.in_ok-take-in-Some.ensures.takes),
)

pub returns-in-None-2-clause-takes : goal.returns-in-None-2-clause-takes
returns-in-None-2-clause-takes g c = λ s text stands.
    let r = c.loop.invariant.1 s text stands in
    end_takes g.R.Read.remaining s text c.loop.self.bytes c.loop.self.parser (fields_of c.loop.fields) c.loop.counter r c.next-2.new.self c.take_end-in-None-2.new.self
    (fields_of c.take_end-in-None-2.new.fields) c.take_end-in-None-2.result (rw c.in-None-2.is at (c.in_ok-next-2.ensures.gives r.rest r.left)) c.take_end-in-None-2.ensures.takes

pub returns-in-None-2-clause-bound : goal.returns-in-None-2-clause-bound
returns-in-None-2-clause-bound g c = λ s text stands.
    let r = c.loop.invariant.1 s text stands in
    end_meets g.R.Read.remaining s text c.loop.self.bytes c.loop.self.parser (fields_of c.loop.fields) c.loop.counter r c.next-2.new.self c.take_end-in-None-2.new.self
    (fields_of c.take_end-in-None-2.new.fields) c.take_end-in-None-2.result c.args.number (omega (arith, c.loop.auto.counter-end))
    (rw c.in-None-2.is at (c.in_ok-next-2.ensures.gives r.rest r.left)) c.take_end-in-None-2.ensures.takes c.take_end-in-None-2.ensures.failed

pub returns-in-Some-2-clause-bound : goal.returns-in-Some-2-clause-bound
returns-in-Some-2-clause-bound g c = λ s text stands.
    let r = c.loop.invariant.1 s text stands in
    let more = is_longer g.R.Read.remaining s text c.loop.self.bytes c.loop.self.parser (fields_of c.loop.fields) c.loop.counter r c.next-2.new.self c.loop.self.parser (fields_of c.loop.fields)
    c.in-Some-2.field-0 (rw c.in-Some-2.is at (c.in_ok-next-2.ensures.gives r.rest r.left)) in
    (refl, omega (arith, c.loop-test.false, more))
