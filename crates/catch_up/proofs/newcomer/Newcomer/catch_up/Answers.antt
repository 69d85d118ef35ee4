use Rattle.std.proofs.Common.{Result, Ok, Err}
use Rattle.std.specs.Prelude.{IfOk}
use Rattle.catch_up.proofs.Ends.{caught_up}
use Rattle.catch_up.proofs.newcomer.Newcomer.catch_up.Goals as goal

four : {A E : Type 0} {P Q R T S : A → Type 0} → (r : Result A E) → ((a : A) → P a → Q a → R a → T a → S a) → IfOk r P → IfOk r Q → IfOk r R → IfOk r T → IfOk r S
four (Ok a) f p q s t = f a p q s t
four (Err e) f p q s t = tt

pub returns-clause-rebuilds : goal.returns-clause-rebuilds
returns-clause-rebuilds c =
    four c.rebuild.result (λ caught consumer producer state rising. caught_up c.args.self.now c.args.spec c.args.stage c.args.part c.args.copies caught consumer producer state rising)
    c.rebuild.ensures.consumer c.rebuild.ensures.producer c.rebuild.ensures.state c.rebuild.ensures.rising
