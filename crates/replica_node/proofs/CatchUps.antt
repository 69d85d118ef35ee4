-- A newcomer at the end of its move stands for the machine's replica that has caught up.
use Rattle.std.proofs.Common.{map, sym, ap, ◌∙◌, subst}
use Rattle.flux_consumer.specs.ConsumerView.{ConsumerView}
use Rattle.flux_producer.specs.ProducerView.{over_buffers}
use Rattle.stream_ops.specs.State.{StateView}
use Rattle.pair_machine.specs.Counts.{flow_of, items_on, made_on}
use Rattle.pair_machine.specs.Numbers.{out_edge}
use Rattle.pair_machine.specs.Producers.{copies}
use Rattle.pair_machine.specs.Replicas.{caught_up}
use Rattle.node_edges.specs.InEdges.{ConsumerStands}
use Rattle.node_edges.proofs.Producers.{contents}
use Rattle.replica_node.specs.CaughtUp.{NewcomersCatchUp}
use Rattle.replica_node.proofs.Folding.{consumer_stands}
use Rattle.replica_node.proofs.Sending.{producer_stands}

pub catch_ups_stand : NewcomersCatchUp
catch_ups_stand plan rows p inc n numbers newcomer spec c merge producer items merging pieces holds caught = record {
  consumer =
      subst (λ (v : ConsumerView). ConsumerStands plan rows p (caught_up inc n numbers).consumer v) (sym caught.consumer)
      (consumer_stands plan rows p merging inc n numbers merge newcomer.held pieces.consumer holds caught.rising);
  producer =
      contents (flow_of plan rows) (items_on plan rows) p (λ t. made_on plan rows (out_edge p t) n.count) (caught_up inc n numbers).producer
      (over_buffers p.stage p.part (copies (flow_of plan rows) p) (map (λ e. e.buffer) producer.edges)) c.producer (sym caught.producer_is)
      (producer_stands (flow_of plan rows) (items_on plan rows) p (λ t. made_on plan rows (out_edge p t) n.count) inc n numbers pieces.sender producer pieces.sends pieces.lows);
  entries = ap (λ (s : StateView). s.entries) caught.state ∙ pieces.entries;
  unwatched = ap (λ (s : StateView). s.old) caught.state;
}
