use Rattle.std.proofs.Common.{◌≡◌, ◌∙◌, ◌≤◌, Some, ap, arith, refl, subst, sym}
use Rattle.pair_machine.specs.Machine.{nth_from_one}
use Rattle.trio_core.specs.Sent.{bodies_to, listed_for}
use Rattle.trio_core.proofs.Listed.{found_listed, never_missing}
use Rattle.trio_core.proofs.sent.Sent.taken.Goals as goal

pub unreachable-requires : goal.unreachable-requires
unreachable-requires c =
    let one : 1 ≤ c.args.index = omega (arith, c.if-index-eq0.false) in
    never_missing c.args.to c.self.inside.log.packets (listed_for c.self.inside.links.items) c.self.inside.listed c.self.invariant
    c.list_of-places.result.now (c.list_of-places.ensures ∙ ap (λ xs. listed_for xs c.args.to) c.deref.ensures.value) c.args.index one c.if-index-count.false
    (sym c.body_at.ensures ∙ c.in-None.is)

pub returns-clause-found : goal.returns-clause-found
returns-clause-found c =
    let one : 1 ≤ c.args.index = omega (arith, c.if-index-eq0.false) in
    let found : nth_from_one (bodies_to c.args.to c.self.inside.log.packets) c.args.index ≡ Some c.in-Some.body =
    found_listed c.args.to c.self.inside.log.packets (listed_for c.self.inside.links.items) c.self.inside.listed c.self.invariant
    c.list_of-places.result.now (c.list_of-places.ensures ∙ ap (λ xs. listed_for xs c.args.to) c.deref.ensures.value) c.args.index one c.if-index-count.false
    c.in-Some.body (sym c.body_at.ensures ∙ c.in-Some.is) in
    (refl, subst (λ packets. nth_from_one (bodies_to c.args.to packets) c.args.index ≡ Some c.in-Some.body) c.self.view_is found)
