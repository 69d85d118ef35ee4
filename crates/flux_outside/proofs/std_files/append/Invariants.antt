use Rattle.flux_outside.proofs.ReadLaws.{HasRead}
use Rattle.flux_outside.proofs.std_files.append.Given as goal

abbrev pub invariant-loop-turn : goal.invariant-loop-turn
invariant-loop-turn g l = HasRead (g.T.Read.remaining l.fn.file) (g.T.Read.remaining l.file) l.fn.into.items l.into.items l.fn.max l.left
