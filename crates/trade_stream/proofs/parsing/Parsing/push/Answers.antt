use Rattle.std.proofs.Common.{◌+◌, refl, subst}
use Rattle.csv.specs.Records.{fields_of}
use Rattle.trade_text.specs.StreamRecords.{TakesByte}
use Rattle.trade_stream.specs.Pushed.{TakesMark}
use Rattle.trade_stream.specs.declared.parsing.Parsing.{Parsing}
use Rattle.trade_stream.proofs.Pushing.{pushes_end, pushes_on, stands_end}
use Rattle.trade_stream.proofs.parsing.Parsing.push.Goals as goal

-- the parser behind the byte
abbrev now : goal.Then-not-branch → Parsing
now c = record c.leave_front.new.self { «record» = c.take.new.self; fields = c.take.new.fields; bytes = c.leave_front.new.self.bytes + 1 }

pub returns-then-not-branch-clause-tells : goal.returns-then-not-branch-clause-tells
returns-then-not-branch-clause-tells c = λ rest. (pushes_on c.args.self.now c.take_mark.new.self c.leave_front.new.self (now c) c.args.byte
    (subst (λ took. TakesMark took c.args.self.now c.args.byte c.take_mark.new.self) c.if-branch.false c.in_ok-take_mark.ensures.takes)
    c.in_ok-leave_front.ensures.leaves
    (subst (λ ended. TakesByte c.leave_front.new.self.record (fields_of c.leave_front.new.self.fields) c.args.byte ended c.take.new.self (fields_of c.take.new.fields)) c.if-not-branch.true c.in_ok-take.ensures.takes)
    refl refl refl refl rest).0

pub returns-then-not-branch-clause-standing : goal.returns-then-not-branch-clause-standing
returns-then-not-branch-clause-standing c = λ rest. (pushes_on c.args.self.now c.take_mark.new.self c.leave_front.new.self (now c) c.args.byte
    (subst (λ took. TakesMark took c.args.self.now c.args.byte c.take_mark.new.self) c.if-branch.false c.in_ok-take_mark.ensures.takes)
    c.in_ok-leave_front.ensures.leaves
    (subst (λ ended. TakesByte c.leave_front.new.self.record (fields_of c.leave_front.new.self.fields) c.args.byte ended c.take.new.self (fields_of c.take.new.fields)) c.if-not-branch.true c.in_ok-take.ensures.takes)
    refl refl refl refl rest).1

pub returns-clause-tells : goal.returns-clause-tells
returns-clause-tells c =
    pushes_end c.args.self.now c.take_mark.new.self c.leave_front.new.self
    (record c.leave_front.new.self { «record» = c.take.new.self; fields = c.take.new.fields; bytes = c.leave_front.new.self.bytes + 1 }) c.take_record.new.self c.args.byte c.take_record.result
    (subst (λ took. TakesMark took c.args.self.now c.args.byte c.take_mark.new.self) c.if-branch.false c.in_ok-take_mark.ensures.takes)
    c.in_ok-leave_front.ensures.leaves
    (subst (λ ended. TakesByte c.leave_front.new.self.record (fields_of c.leave_front.new.self.fields) c.args.byte ended c.take.new.self (fields_of c.take.new.fields)) c.if-not-branch.false c.in_ok-take.ensures.takes)
    refl refl refl c.take_record.ensures.at c.take_record.ensures.tells

pub returns-clause-standing : goal.returns-clause-standing
returns-clause-standing c =
    stands_end c.args.self.now c.take_mark.new.self c.leave_front.new.self
    (record c.leave_front.new.self { «record» = c.take.new.self; fields = c.take.new.fields; bytes = c.leave_front.new.self.bytes + 1 }) c.take_record.new.self c.args.byte c.take_record.result
    (subst (λ took. TakesMark took c.args.self.now c.args.byte c.take_mark.new.self) c.if-branch.false c.in_ok-take_mark.ensures.takes)
    c.in_ok-leave_front.ensures.leaves
    (subst (λ ended. TakesByte c.leave_front.new.self.record (fields_of c.leave_front.new.self.fields) c.args.byte ended c.take.new.self (fields_of c.take.new.fields)) c.if-not-branch.false c.in_ok-take.ensures.takes)
    refl refl refl c.take_record.ensures.at c.take_record.ensures.number
