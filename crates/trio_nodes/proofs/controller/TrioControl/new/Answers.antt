use Rattle.std.proofs.Common.{◌≡◌, ◌∙◌, List, ap, length, rules, sym}
use Rattle.std.specs.Prelude.{replicate}
use Rattle.std.proofs.lemmas.List.{length-replicate}
use Rattle.trio_machine.specs.Numbers.{ControllerNode}
use Rattle.trio_nodes.proofs.Hearing.{opens}
use Rattle.trio_nodes.proofs.controller.TrioControl.new.Goals as goal

none_acked : (c : goal.In_ok-acked) → c.in_ok-acked.acked.items ≡ replicate c.args.edges 0
none_acked c = search rules

pub returns-clause-numbers : goal.returns-clause-numbers
returns-clause-numbers c = opens c.args.stage c.args.part c.args.edges c.in_ok-watched.watched.items c.in_ok-acked.acked.items c.in_ok-watched.ensures (none_acked c)

pub returns-clause-stands : goal.returns-clause-stands
returns-clause-stands c = λ f same. record {
  numbers = ap ControllerNode (sym (returns-clause-numbers c));
  edges = ap length (none_acked c) ∙ length-replicate c.args.edges 0 ∙ same;
}
