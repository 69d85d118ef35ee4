use Rattle.std.proofs.Common.{◌≡◌, ◌++◌, ◌∙◌, ℕ, List, [], length, refl, ap, subst, sym}
use Rattle.std.proofs.lemmas.List.{append-nil}
use Rattle.tuple_edge.specs.declared.node.EdgeId.{EdgeId}
use Rattle.tuple_edge.specs.declared.node.Which.{Which}
use Rattle.tuple_edge.specs.declared.packet.Body.{Body}
use Rattle.pair_machine.specs.Controllers.{controller_hears, counts}
use Rattle.pair_machine.specs.Messages.{Envelope, Report}
use Rattle.pair_machine.specs.Numbers.{Controller, Partition}
use Rattle.pair_machine.proofs.Tests.{if_elim}
use Rattle.pair_control.specs.ControllerView.{numbers_of, partition_of}
use Rattle.pair_control.specs.Packets.{IsDone, message_of, packets_of}
use Rattle.pair_control.proofs.controller.PairControl.hear.Goals as goal

-- for a report as such nothing is sent
none_sent : (p : Partition) (w : Which) (inc : ℕ) (e : EdgeId) (upto : ℕ) (c : Controller) → (controller_hears p w (Report inc e upto) c).1 ≡ []
none_sent p w inc e upto c = if_elim (λ (d : Controller × List Envelope). d.1 ≡ []) (counts (c.watched w) inc) _ _ (λ t. refl) (λ f. refl)

pub returns-in-Report-clause-does : goal.returns-in-Report-clause-does
returns-in-Report-clause-does c =
    let v = c.args.self.now in
    let sent = c.args.out.now in
    let is : controller_hears (partition_of v) c.args.which (Report c.in-Report.inc c.in-Report.edge c.in-Report.upto) (numbers_of v)
    ≡ controller_hears (partition_of v) c.args.which (message_of c.args.body.now) (numbers_of v) =
    ap (λ (b : Body). controller_hears (partition_of v) c.args.which (message_of b) (numbers_of v)) (sym c.in-Report.is) in
    subst (λ (d : Controller × List Envelope). IsDone v c.hear_report.new.self sent sent d) is (record {
      numbers = c.hear_report.ensures.numbers;
      packets = sym (append-nil sent.packets)
          ∙ ap (λ es. sent.packets ++ packets_of es) (sym (none_sent (partition_of v) c.args.which c.in-Report.inc c.in-Report.edge c.in-Report.upto (numbers_of v)));
      partition = c.hear_report.ensures.partition;
      edges = ap (λ (xs : List ℕ). length xs) c.hear_report.ensures.acked;
    })
