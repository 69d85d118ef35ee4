use Rattle.std.proofs.Common.{◌≡◌, List, length, subst}
use Rattle.std.specs.Prelude.{IfOk}
use Rattle.tuple_edge.specs.declared.row.Row.{Row}
use Rattle.pair_machine.specs.Machine.{State}
use Rattle.pair_machine.specs.declared.order.Order.{Order}
use Rattle.flux_core.specs.Stands.{StandsFor}
use Rattle.run_end.specs.declared.ends.RunEnd.{RunEnd}
use Rattle.run_watch.specs.declared.happening.Told.{Told}
use Rattle.run_rehearsal.specs.Merged.{merged_in}
use Rattle.run_rehearsal.specs.RehearsalText.{rehearsal_text}
use Rattle.rehearse_command.proofs.reporting.text_of.Goals as goal

pub returns : goal.returns
returns c =
    subst (λ (x : List Told × List Order × List Row × RunEnd). IfOk c.write_rehearsal.result
    (λ text. (s : State) → StandsFor c.args.core.now s → text.items ≡ rehearsal_text x.0 x.1 (merged_in c.args.core.now.plan s) (length x.2) x.3 c.args.all))
    (λ j. (c.deref.ensures.value j, c.orders.ensures j, c.as_slice-rows.ensures.value j, c.end_of-end.ensures j)) c.write_rehearsal.ensures
