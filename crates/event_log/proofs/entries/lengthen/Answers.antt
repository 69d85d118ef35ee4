use Rattle.std.proofs.Common.{◌≡◌, ◌<◌, ◌-◌, ◌∙◌, arith, length, refl, set, subst, suc, sym}
use Rattle.std.specs.Prelude.{vec_len}
use Rattle.event_log.specs.declared.stored.Stored.{Stored}
use Rattle.event_log.specs.Stored.{CameAgain, IsLonger}
use Rattle.event_log.proofs.Written.{longer_again}
use Rattle.event_log.proofs.entries.lengthen.Goals as goal

pub returns-clause-again : goal.returns-clause-again
returns-clause-again c =
    let list = c.args.list.now in
    let more : IsLonger c.in-Some.last.now c.in-Some-longer.by c.in-Some-longer.longer = c.in-Some-longer.ensures.longer in
    let some : 0 < vec_len list = c.in-Some.ensures.variant.0 refl in
    let long : suc (vec_len list - 1) ≡ length list.items = omega (arith, some, list.ok.0) in
    subst (λ (s : Stored). CameAgain list.items c.in-Some-longer.by (set list.items (vec_len list - 1) s)) (sym more.now)
    (longer_again list.items (vec_len list - 1) more.further c.in-Some-longer.by c.in-Some.last.now long (sym c.in-Some.ensures.value ∙ more.was))
