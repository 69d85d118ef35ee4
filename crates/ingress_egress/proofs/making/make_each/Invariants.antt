use Rattle.std.proofs.Common.{Some}
use Rattle.pair_machine.specs.CountLaws.{made_for}
use Rattle.pair_machine.specs.Edges.{edge_to}
use Rattle.ingress_egress.proofs.EachSource.{AreMade}
use Rattle.ingress_egress.proofs.making.make_each.Given as goal

abbrev pub invariant-loop-source : goal.invariant-loop-source
invariant-loop-source l = AreMade (λ q t. edge_to (Some l.fn.first) t (made_for q l.fn.mark l.fn.stamp l.fn.input)) l.initial.producers.items l.producers.items l.source
