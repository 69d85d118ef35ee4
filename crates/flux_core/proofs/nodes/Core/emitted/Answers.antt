use Rattle.std.proofs.Common.{◌≡◌, ◌∙◌, ◌++◌, List, ap, subst, sym}
use Rattle.tuple_edge.specs.declared.row.Row.{Row}
use Rattle.ingress_egress.specs.EgressView.{IsFrontOf}
use Rattle.pair_machine.specs.Output.{output}
use Rattle.flux_core.specs.CoreView.{emitted_by, inputs_of}
use Rattle.flux_core.proofs.Placed.{emitted_front}
use Rattle.flux_core.proofs.nodes.Core.emitted.Goals as goal

-- none was handed on, so it holds all
all : (c : goal.After-held) → c.held.result.now ≡ emitted_by c.args.self.now
all c = ap (λ (gone : List Row). gone ++ c.held.result.now) (sym c.all_rows.ensures) ∙ c.held.ensures

pub returns-clause-value : goal.returns-clause-value
returns-clause-value c = all c

pub returns-clause-front : goal.returns-clause-front
returns-clause-front c =
    let core = c.args.self.now in
    subst (λ rows. IsFrontOf rows (output core.plan (inputs_of core))) (sym (all c)) (emitted_front core c.known.ensures)
