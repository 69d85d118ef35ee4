use Rattle.std.proofs.Common.{◌≡◌, ◌∙◌, ◌+◌, ◌<◌, length, refl, subst, sym, arith}
use Rattle.trio_core.specs.Sent.{Counted}
use Rattle.trio_core.proofs.OnLinks.{counted_none, counted_some, found_here, none_there}
use Rattle.trio_core.proofs.taking.taken_from.Goals as goal
use Rattle.trio_core.proofs.taking.taken_from.Goals.{in-Some-2, in-None}

pub returns-in-Some-clause-found : goal.returns-in-Some-clause-found
returns-in-Some-clause-found c =
    let next : c.loop-nth.sent + 1 ≡ c.args.index = omega (arith, c.if-sent-index.true) in
    (refl, found_here c.args.to c.args.log.now.packets c.loop-nth.nth c.loop-nth.sent c.args.index c.in-Some.body c.loop-nth.invariant.counted (sym c.body_at.ensures ∙ c.in-Some.is) next)

pub loop-nth-preserved : goal.loop-nth-preserved
loop-nth-preserved c =
    let log = c.args.log.now.packets in
    let within : c.loop-nth.nth < length log = omega (arith, c.loop-nth-test.true, c.loop-nth.auto.nth-end, c.len-nth-end.ensures, c.requires.within) in
    elim c.match-body_at.branch [
      | in-Some-2 w ↦ record {
        counted = subst (Counted c.args.to log (c.loop-nth.nth + 1)) (sym w.sent-is) (counted_some c.args.to log c.loop-nth.nth c.loop-nth.sent _ within c.loop-nth.invariant.counted (sym c.body_at.ensures ∙ w.in-Some-2.is));
        below = λ one. let b = c.loop-nth.invariant.below one in omega (arith, b, w.sent-is, w.if-sent-index);
      }
      | in-None w ↦ record {
        counted = subst (Counted c.args.to log (c.loop-nth.nth + 1)) (sym w.sent-is) (counted_none c.args.to log c.loop-nth.nth c.loop-nth.sent within c.loop-nth.invariant.counted (sym c.body_at.ensures ∙ w.in-None.is));
        below = λ one. let b = c.loop-nth.invariant.below one in omega (arith, b, w.sent-is);
      }
    ]

pub returns-clause-refused : goal.returns-clause-refused
returns-clause-refused c =
    let whole : c.loop-nth.nth ≡ length c.args.log.now.packets = omega (arith, c.loop-nth-test.false, c.loop-nth.auto.nth-end, c.len-nth-end.ensures, c.requires.within) in
    let z = none_there c.args.to c.args.log.now.packets c.loop-nth.nth c.loop-nth.sent c.args.index whole c.loop-nth.invariant.counted c.loop-nth.invariant.below in
    (refl, z.0, z.1)
