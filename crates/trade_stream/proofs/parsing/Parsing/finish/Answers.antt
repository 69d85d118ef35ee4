use Rattle.std.proofs.Common.{refl, subst}
use Rattle.csv.specs.Records.{fields_of}
use Rattle.trade_text.specs.StreamRecords.{TakesEnd}
use Rattle.trade_stream.proofs.Pushing.{ends_early, ends_record, ends_trades}
use Rattle.trade_stream.proofs.parsing.Parsing.finish.Goals as goal

pub returns-then-branch-clause-tells : goal.returns-then-branch-clause-tells
returns-then-branch-clause-tells c =
    ends_record c.args.self.now c.leave_front.new.self (record c.leave_front.new.self { «record» = c.take_end.new.self; fields = c.take_end.new.fields }) c.requires c.in_ok-leave_front.ensures.leaves
    c.take_record.new.self c.take_record.result
    (subst (λ ended. TakesEnd c.leave_front.new.self.record (fields_of c.leave_front.new.self.fields) ended c.take_end.new.self (fields_of c.take_end.new.fields)) c.if-branch.true c.in_ok-take_end.ensures.takes)
    refl refl refl c.take_record.ensures.tells

pub returns-in-Trades-clause-tells : goal.returns-in-Trades-clause-tells
returns-in-Trades-clause-tells c =
    ends_trades c.args.self.now c.leave_front.new.self c.leave_front.new.self c.requires c.in_ok-leave_front.ensures.leaves
    (subst (λ ended. TakesEnd c.leave_front.new.self.record (fields_of c.leave_front.new.self.fields) ended c.take_end.new.self (fields_of c.take_end.new.fields)) c.if-branch.false c.in_ok-take_end.ensures.takes)
    c.in-Trades.is

pub returns-in-Start : goal.returns-in-Start
returns-in-Start c = record {
  tells = ends_early c.args.self.now c.leave_front.new.self c.leave_front.new.self c.requires c.in_ok-leave_front.ensures.leaves
      (subst (λ ended. TakesEnd c.leave_front.new.self.record (fields_of c.leave_front.new.self.fields) ended c.take_end.new.self (fields_of c.take_end.new.fields)) c.if-branch.false c.in_ok-take_end.ensures.takes)
      c.in-Start.is;
  within = tt;
  learns = tt;
}
