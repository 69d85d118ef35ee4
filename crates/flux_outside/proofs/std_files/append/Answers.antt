use Rattle.flux_outside.proofs.ReadLaws.{read_long}
use Rattle.flux_outside.proofs.std_files.append.Goals as goal

pub returns-then-count-left-clause-got : goal.returns-then-count-left-clause-got
returns-then-count-left-clause-got g c =
    read_long (g.T.Read.remaining c.args.file.now) (g.T.Read.remaining c.loop-turn.file) (g.T.Read.remaining c.read.new.self) c.args.into.now.items c.loop-turn.into.items
    c.loop-turn.into.items c.read.new.buf c.args.max c.loop-turn.left c.in-Ok.count c.loop-turn.invariant c.in-Ok.ensures.bytes.0 c.in-Ok.ensures.bound.0 c.if-count-left.true
