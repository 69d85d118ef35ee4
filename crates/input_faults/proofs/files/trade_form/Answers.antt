use Rattle.std.proofs.Common.{refl}
use Rattle.std.specs.Fmt.{digits}
use Rattle.input_faults.proofs.files.trade_form.Goals as goal

pub returns-in-Time : goal.returns-in-Time
unfolding digits
returns-in-Time c = rw c.in-Time.is refl

pub returns-in-Account : goal.returns-in-Account
unfolding digits
returns-in-Account c = rw c.in-Account.is refl

pub returns-in-Symbol : goal.returns-in-Symbol
unfolding digits
returns-in-Symbol c = rw c.in-Symbol.is refl

pub returns-in-Qty : goal.returns-in-Qty
unfolding digits
returns-in-Qty c = rw c.in-Qty.is refl

pub returns-in-Price : goal.returns-in-Price
unfolding digits
returns-in-Price c = rw c.in-Price.is refl
