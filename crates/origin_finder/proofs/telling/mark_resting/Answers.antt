use Rattle.std.proofs.Common.{List, subst, sym}
use Rattle.row_cause.specs.declared.placed.Placed.{Placed}
use Rattle.origin_finder.specs.Walking.{IsMarkedBack}
use Rattle.origin_finder.proofs.telling.mark_resting.Goals as goal

pub returns-clause-marks : goal.returns-clause-marks
returns-clause-marks c stage rows h below had =
    subst (λ (xs : List Placed). IsMarkedBack stage rows c.args.reached.now xs c.args.roles.now c.mark_back.new.roles) (sym (c.resting_from-low.ensures stage rows h below)) (c.mark_back.ensures stage rows h below had)
