use Rattle.std.proofs.Common.{◌≡◌, sym, subst}
use Rattle.std.specs.Option.{IfSome}
use Rattle.state_mover.specs.MoverView.{MoverView, after_next}
use Rattle.state_mover.proofs.Turns.{midway_next, none_given, some_after, some_within}
use Rattle.state_mover.proofs.mover.Mover.next.Goals as goal

pub end-requires : goal.end-requires
end-requires c = none_given c.args.self.now c.args.state.now.old c.entry.result c.requires.watched c.requires.midway c.entry.ensures.entry c.in-None.is

pub give-requires : goal.give-requires
give-requires c = some_within c.args.self.now c.args.state.now.old c.entry.result c.requires.watched c.requires.midway c.entry.ensures.entry c.in-Some.entry c.in-Some.is

pub returns-in-Some-clause-after : goal.returns-in-Some-clause-after
returns-in-Some-clause-after c =
    subst (λ (new : MoverView). IfSome c.args.state.now.old (λ old. new ≡ after_next c.args.self.now old)) (sym c.give.ensures.after)
    (some_after c.args.self.now c.args.state.now.old c.entry.result c.requires.watched c.requires.midway c.entry.ensures.entry c.in-Some.entry c.in-Some.is)

pub returns-in-Some-clause-midway : goal.returns-in-Some-clause-midway
returns-in-Some-clause-midway c =
    midway_next c.args.self.now c.args.state.now.old c.entry.result c.requires.watched c.requires.midway c.entry.ensures.entry c.give.new.self
    (subst (λ (new : MoverView). IfSome c.args.state.now.old (λ old. new ≡ after_next c.args.self.now old)) (sym c.give.ensures.after)
    (some_after c.args.self.now c.args.state.now.old c.entry.result c.requires.watched c.requires.midway c.entry.ensures.entry c.in-Some.entry c.in-Some.is))
