use Rattle.std.proofs.Common.{sym, ap, ◌∙◌, subst}
use Rattle.move_list.proofs.Lists.{none_past}
use Rattle.state_mover.specs.MoverView.{IsSound, MoverView}
use Rattle.state_mover.proofs.Turns.{next_entry}
use Rattle.state_mover.proofs.mover.Mover.entry.Goals as goal

pub returns-in-None-clause-entry : goal.returns-in-None-clause-entry
returns-in-None-clause-entry c =
    next_entry c.args.self.now c.args.state.now.old c.old_after.result
    (subst (λ (m : MoverView). IsSound m) c.self.view_is c.self.invariant)
    c.requires.midway
    (none_past c.args.self.now.fixed c.args.self.now.sent (sym c.in-None.ensures))
    (λ old n is within at. c.old_after.ensures.in_turn old n is within (ap (λ (m : MoverView). m.last) c.self.view_is ∙ at))
