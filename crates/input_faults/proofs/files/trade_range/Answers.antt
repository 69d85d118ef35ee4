use Rattle.std.proofs.Common.{refl}
use Rattle.std.specs.Fmt.{digits}
use Rattle.input_faults.proofs.files.trade_range.Goals as goal

pub returns-in-Symbol : goal.returns-in-Symbol
unfolding digits
returns-in-Symbol c = rw c.in-Symbol.is refl
