use Rattle.std.proofs.Common.{◌≡◌, ◌<◌, ◌++◌, ◌∙◌, length, max, slice_index, ap, sym, arith}
use Rattle.std.specs.Prelude.{unwrap_or}
use Rattle.std.proofs.lemmas.Grind.{get_or_default_zero}
use Rattle.pair_machine.specs.Drain.{partition}
use Rattle.trio_machine.specs.Controllers.{least, least_below}
use Rattle.trio_machine.specs.Numbers.{group_size}
use Rattle.trio_nodes.specs.ControllerView.{least_report, numbers_in, numbers_of, partition_of, watched_in}
use Rattle.trio_nodes.specs.ControllerPackets.{ack_due, packets_of}
use Rattle.trio_nodes.proofs.Acknowledging.{done_more, least_is, left_more, numbers_done, sent_all, sent_more}
use Rattle.trio_nodes.proofs.controller.TrioControl.acknowledge.Goals as goal

pub loop-edge-preserved : goal.loop-edge-preserved
loop-edge-preserved c =
    let i = c.loop-edge.invariant in
    let k : slice_index c.loop-edge.self-inside.acked.items c.loop-edge.edge ≡ slice_index c.args.self.now.acked c.loop-edge.edge = i.left c.loop-edge.edge (omega arith) in
    let known : c.index-known.result.now ≡ slice_index c.loop-edge.self-inside.acked.items c.loop-edge.edge =
    c.index-known.ensures ∙ get_or_default_zero c.loop-edge.self-inside.acked.items c.loop-edge.edge c.index-known.result.now (let h = c.loop-edge.self-inside.acked.ok.0 in omega arith) in
    let seen = c.deref.ensures.value ∙ i.watched in
    let three : length c.args.self.now.watched ≡ group_size = ap length (sym i.watched) ∙ i.control.three in
    let found : c.least_report.result ≡ least_below (numbers_of c.args.self.now) c.loop-edge.edge group_size =
    c.least_report.ensures ∙ ap (λ ws. least_report ws c.loop-edge.edge (length ws)) seen ∙ ap (least_report c.args.self.now.watched c.loop-edge.edge) three ∙ least_is c.args.self.now c.loop-edge.edge group_size in
    let low : c.unwrap_or-least.result ≡ least (numbers_of c.args.self.now) c.loop-edge.edge = c.unwrap_or-least.ensures ∙ (λ j. unwrap_or (found j) ((known ∙ k) j)) in
    record {
      stage = i.stage;
      part = i.part;
      watched = i.watched;
      term = i.term;
      leader = i.leader;
      whole = i.whole;
      control = record {
        stage = i.control.stage;
        few = let few = i.control.few in let same = c.raise.ensures.edges in omega arith;
        three = i.control.three;
        reports = λ d there. i.control.reports d there ∙ sym c.raise.ensures.edges;
        led = i.control.led;
      };
      edges = c.raise.ensures.edges ∙ i.edges;
      done = done_more (numbers_in c.args.self.now.acked) (numbers_in c.loop-edge.self-inside.acked.items) (numbers_in c.raise.new.acked.items) (λ q. least (numbers_of c.args.self.now) q) c.loop-edge.edge _ i.done c.raise.ensures.acked (λ j. max (k j) (low j));
      left = left_more (numbers_in c.args.self.now.acked) (numbers_in c.loop-edge.self-inside.acked.items) (numbers_in c.raise.new.acked.items) c.loop-edge.edge _ i.left c.raise.ensures.acked;
      packets = sent_more (length c.args.self.now.acked) c.loop-edge.edge (partition_of c.args.self.now) (numbers_of c.args.self.now) c.args.out.now.packets c.loop-edge.out.packets c.raise.new.out.packets (omega arith) i.packets
          (c.raise.ensures.packets ∙ (λ j. c.loop-edge.out.packets ++ packets_of (ack_due (partition (i.stage j) (i.part j)) c.loop-edge.edge (k j) (low j))));
      sends = let before = i.sends in let now = c.raise.ensures.sends in record { packets = let x = before.packets in let y = now.packets in omega arith; spare = let x = before.spare in let y = now.spare in omega arith };
    }

pub returns-clause-does : goal.returns-clause-does
returns-clause-does c =
    let i = c.loop-edge.invariant in
    record {
      numbers = numbers_done (length c.args.self.now.acked) (partition_of c.args.self.now) c.args.self.now c.loop-edge.self-inside.watched.items c.loop-edge.self-inside.acked.items c.loop-edge.self-inside.term c.loop-edge.self-inside.leader
          i.watched i.term i.leader
          (λ d there. ap (λ ws. length (watched_in ws d).reports) (sym i.watched) ∙ i.control.reports d (let three = i.control.three in omega arith) ∙ i.edges)
          (λ q h. i.done q (omega arith)) (λ q h. i.left q (omega arith));
      packets = sent_all (length c.args.self.now.acked) c.loop-edge.edge (partition_of c.args.self.now) (numbers_of c.args.self.now) c.args.out.now.packets c.loop-edge.out.packets (omega arith) i.packets;
      partition = λ j. partition (i.stage j) (i.part j);
      edges = i.edges;
    }
