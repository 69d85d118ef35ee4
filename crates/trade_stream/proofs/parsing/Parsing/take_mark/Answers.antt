use Rattle.std.proofs.Common.{sym, ◌∙◌}
use Rattle.trade_stream.proofs.Pushing.{drops_mark, takes_front}
use Rattle.trade_stream.proofs.parsing.Parsing.take_mark.Goals as goal

pub returns-then-self-lt3-clause-takes : goal.returns-then-self-lt3-clause-takes
returns-then-self-lt3-clause-takes c = takes_front c.args.self.now c.args.byte c.requires (sym c.is_of_mark.ensures ∙ c.if-not-is_of_mark.false) c.if-self-lt3.true

pub returns-in-Start : goal.returns-in-Start
returns-in-Start c = record {
  takes = drops_mark c.args.self.now c.args.byte c.requires (sym c.is_of_mark.ensures ∙ c.if-not-is_of_mark.false) c.in-Start.is c.if-self-lt3.false;
  refused = tt;
  short = tt;
}
