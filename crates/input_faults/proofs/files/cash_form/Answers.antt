use Rattle.std.proofs.Common.{refl}
use Rattle.std.specs.Fmt.{digits}
use Rattle.input_faults.proofs.files.cash_form.Goals as goal

pub returns-in-Time : goal.returns-in-Time
unfolding digits
returns-in-Time c = rw c.in-Time.is refl

pub returns-in-Account : goal.returns-in-Account
unfolding digits
returns-in-Account c = rw c.in-Account.is refl

pub returns-in-Amount : goal.returns-in-Amount
unfolding digits
returns-in-Amount c = rw c.in-Amount.is refl
