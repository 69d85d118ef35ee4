use Rattle.std.proofs.Common.{◌≡◌, ◌<◌, ◌≤◌, ◌++◌, ◌∙◌, ◌⊎◌, inl, inr, ℕ, length, slice_index, max, ap, subst, sym, arith, rules}
use Rattle.std.proofs.lemmas.Grind.{get_or_default_zero}
use Rattle.pair_machine.specs.Controllers.{least}
use Rattle.pair_control.specs.ControllerView.{AreAcknowledgedBut, ControllerView, numbers_in, numbers_of, partition_at, partition_of}
use Rattle.pair_control.specs.Packets.{ack_due, packets_of}
use Rattle.pair_control.specs.Raised.{raised}
use Rattle.pair_control.proofs.Acknowledging.{all_done, done_more, least_is, left_more, numbers_done, raised_is, sent_all, sent_more}
use Rattle.pair_control.proofs.Due.{none_before, none_behind, none_is_due}
use Rattle.pair_control.proofs.controller.PairControl.acknowledge.Goals as goal

pub loop-edge-init : goal.loop-edge-init
loop-edge-init c =
    let i = c.self.invariant in
    let same = c.self.view_is in
    let first = c.self.inside.first_due in
    let end = c.self.inside.end_due in
    let edges : length c.self.inside.acked.items ≡ length c.args.self.now.acked = ap (λ (v : ControllerView). length v.acked) same in
    let due_from : first ≤ length c.self.inside.acked.items = i.due_from in
    let due_to : end ≤ length c.self.inside.acked.items = i.due_to in
    let before : first ≤ length c.args.self.now.acked = omega arith in
    let known : (q : ℕ) → (q < first) ⊎ (end ≤ q) → least (numbers_of c.args.self.now) q ≤ slice_index c.args.self.now.acked q =
    (subst (λ (v : ControllerView). AreAcknowledgedBut v.a v.b v.acked first end) same i.acknowledged).others in
    record {
      stage = ap (λ (v : ControllerView). v.stage) same;
      part = ap (λ (v : ControllerView). v.part) same;
      a = ap (λ (v : ControllerView). v.a) same;
      b = ap (λ (v : ControllerView). v.b) same;
      term = ap (λ (v : ControllerView). v.term) same;
      leader = ap (λ (v : ControllerView). v.leader) same;
      stage_counts = i.stage_counts;
      few_edges = let few = i.few_edges in omega arith;
      a_reports = i.a_reports ∙ edges;
      b_reports = i.b_reports ∙ edges;
      led = i.led;
      edges = edges;
      within = before;
      ends = omega arith;
      behind = λ q le. known q (inr le);
      done = λ q lt.
          let e : slice_index c.self.inside.acked.items q ≡ slice_index c.args.self.now.acked q = ap (λ (v : ControllerView). slice_index v.acked q) same in
          let low : least (numbers_of c.args.self.now) q ≤ slice_index c.args.self.now.acked q = known q (inl lt) in
          omega arith;
      left = λ q le. ap (λ (v : ControllerView). slice_index v.acked q) same;
      packets = ap (λ es. c.args.out.now.packets ++ packets_of es) (none_before (partition_of c.args.self.now) (numbers_of c.args.self.now) (length c.args.self.now.acked) first before (λ q lt. known q (inl lt)));
      sends = (omega arith, omega arith);
    }

pub loop-edge-preserved : goal.loop-edge-preserved
loop-edge-preserved c =
    let i = c.loop-edge.invariant in
    let k : slice_index c.loop-edge.self-inside.acked.items c.loop-edge.edge ≡ slice_index c.args.self.now.acked c.loop-edge.edge = i.left c.loop-edge.edge (omega arith) in
    let known : c.index-known.result.now ≡ slice_index c.loop-edge.self-inside.acked.items c.loop-edge.edge =
    c.index-known.ensures ∙ get_or_default_zero c.loop-edge.self-inside.acked.items c.loop-edge.edge c.index-known.result.now (let h = c.loop-edge.self-inside.acked.ok.0 in omega arith) in
    let low : c.least_report-least.result ≡ least (numbers_of c.args.self.now) c.loop-edge.edge =
    least_is c.args.self.now c.loop-edge.self-inside.a c.loop-edge.self-inside.b c.index-known.result.now c.loop-edge.edge c.least_report-least.result i.a i.b (known ∙ k) c.least_report-least.ensures in
    record {
      stage = i.stage;
      part = i.part;
      a = i.a;
      b = i.b;
      term = i.term;
      leader = i.leader;
      stage_counts = i.stage_counts;
      few_edges = i.few_edges;
      a_reports = i.a_reports;
      b_reports = i.b_reports;
      led = i.led;
      edges = omega arith;
      within = omega arith;
      ends = i.ends;
      behind = i.behind;
      done = done_more (numbers_in c.args.self.now.acked) (numbers_in c.loop-edge.self-inside.acked.items) (numbers_in c.raise.new.acked.items) (λ q. least (numbers_of c.args.self.now) q) c.loop-edge.edge _ i.done c.raise.ensures.acked (cc);
      left = left_more (numbers_in c.args.self.now.acked) (numbers_in c.loop-edge.self-inside.acked.items) (numbers_in c.raise.new.acked.items) c.loop-edge.edge _ i.left c.raise.ensures.acked;
      packets = sent_more (length c.args.self.now.acked) c.loop-edge.edge (partition_of c.args.self.now) (numbers_of c.args.self.now) c.args.out.now.packets c.loop-edge.out.packets c.raise.new.out.packets (omega arith) i.packets
          (c.raise.ensures.packets ∙ (λ j. c.loop-edge.out.packets ++ packets_of (ack_due (partition_at (i.stage j) (i.part j)) c.loop-edge.edge (k j) (low j))));
      sends = (omega arith, omega arith);
    }

pub invariant_of-self : goal.invariant_of-self
invariant_of-self c =
    let i = c.loop-edge.invariant in
    let stands = all_done c.args.self.now c.loop-edge.self-inside.acked.items c.loop-edge.edge _ i.done i.left i.behind (omega arith) in
    record {
      stage_counts = i.stage_counts;
      few_edges = omega arith;
      a_reports = i.a_reports ∙ sym i.edges;
      b_reports = i.b_reports ∙ sym i.edges;
      led = i.led;
      due_from = omega arith;
      due_to = omega arith;
      acknowledged = none_is_due c.args.self.now c.loop-edge.self-inside.a c.loop-edge.self-inside.b c.loop-edge.self-inside.acked.items _ _ i.a i.b stands;
    }

pub returns-clause-does : goal.returns-clause-does
returns-clause-does c =
    let i = c.loop-edge.invariant in
    let stands = all_done c.args.self.now c.loop-edge.self-inside.acked.items c.loop-edge.edge _ i.done i.left i.behind (omega arith) in
    record {
      numbers = numbers_done (length c.args.self.now.acked) (partition_of c.args.self.now) c.args.self.now c.loop-edge.self-inside.a c.loop-edge.self-inside.b c.loop-edge.self-inside.acked.items c.loop-edge.self-inside.term c.loop-edge.self-inside.leader
          i.a i.b i.term i.leader (search rules) (search rules) (λ q h. stands q) (λ q h. i.left q (omega arith));
      packets = sent_all (length c.args.self.now.acked) c.loop-edge.edge (partition_of c.args.self.now) (numbers_of c.args.self.now) c.args.out.now.packets c.loop-edge.out.packets
          (none_behind (partition_of c.args.self.now) (numbers_of c.args.self.now) _ c.loop-edge.edge (λ r le. i.behind r (omega arith))) i.packets;
      partition = λ j. partition_at (i.stage j) (i.part j);
      edges = i.edges;
    }

pub returns-clause-acked : goal.returns-clause-acked
returns-clause-acked c = λ q lt.
    let i = c.loop-edge.invariant in
    let stands = all_done c.args.self.now c.loop-edge.self-inside.acked.items c.loop-edge.edge _ i.done i.left i.behind (omega arith) in
    let v = c.args.self.now in
    stands q ∙ raised_is (slice_index v.acked q) v.a.status (slice_index v.a.reports q) v.b.status (slice_index v.b.reports q)
    ∙ (λ j. raised (slice_index v.acked q) (sym i.a j).status (slice_index (sym i.a j).reports q) (sym i.b j).status (slice_index (sym i.b j).reports q))
