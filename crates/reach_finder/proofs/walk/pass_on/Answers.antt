use Rattle.std.proofs.Common.{List, subst, sym}
use Rattle.std.specs.Prelude.{All}
use Rattle.evaluation.specs.StageRows.{HasTime}
use Rattle.reach_finder.specs.declared.shades.Traced.{Traced}
use Rattle.reach_finder.proofs.Walking.{traced_times}
use Rattle.reach_finder.proofs.walk.pass_on.Goals as goal

pub passed-requires-clause-early_times : goal.passed-requires-clause-early_times
passed-requires-clause-early_times c =
    subst (λ (xs : List Traced). All (λ (x : Traced). HasTime x.row) xs) (sym c.as_slice.ensures.value) (traced_times c.args.rows.early.items c.requires.early_times)

pub passed-requires-clause-late_times : goal.passed-requires-clause-late_times
passed-requires-clause-late_times c =
    subst (λ (xs : List Traced). All (λ (x : Traced). HasTime x.row) xs) (sym c.as_slice-2.ensures.value) (traced_times c.args.rows.late.items c.requires.late_times)
