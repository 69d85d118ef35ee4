use Rattle.std.proofs.Common.{◌≡◌, ◌∙◌, List, false, ap}
use Rattle.flux_producer.specs.OutEdge.{OutEdgeView}
use Rattle.flux_producer.specs.ProducerView.{ProducerView, contents_of}
use Rattle.catch_up.specs.NewcomerView.{NewcomerView}
use Rattle.catch_up.specs.Rebuild.{buffers_in}
use Rattle.catch_up.proofs.Buffers.{contents_over}
use Rattle.catch_up.proofs.newcomer.Newcomer.rebuild.Goals as goal

pub returns-clause-producer : goal.returns-clause-producer
returns-clause-producer c =
    ap contents_of c.in_ok-producer.ensures.over
    ∙ ap (λ (es : List OutEdgeView). let p : ProducerView = record { stage = c.args.stage; from = c.args.part; copies = c.args.copies; term = 0; leads = false; edges = es } in p)
    (contents_over c.in_ok-buffers.buffers.items (buffers_in c.args.self.now.taken) (c.in_ok-buffers.ensures ∙ ap buffers_in (c.deref-3.ensures.value ∙ taken)))
  where
    taken : c.self.inside.taken.items ≡ c.args.self.now.taken
    taken = ap (λ (n : NewcomerView). n.taken) c.self.view_is
