use Rattle.std.proofs.Common.{◌≡◌, ◌++◌, ◌∙◌, [], ap, subst, sym, length}
use Rattle.pair_machine.specs.Numbers.{Partition}
use Rattle.plan_reader.specs.Nodes.{sources_of}
use Rattle.trio_machine.specs.Controllers.{acks, controller_hears}
use Rattle.trio_machine.specs.Flow.{trio_flow}
use Rattle.trio_machine.specs.Links.{HasNode}
use Rattle.trio_machine.specs.Numbers.{control_at, copy_of}
use Rattle.trio_nodes.specs.Contents.{message_of}
use Rattle.trio_nodes.specs.ControllerPackets.{packets_of, taking}
use Rattle.trio_nodes.specs.ControllerView.{numbers_of, partition_of}
use Rattle.trio_nodes.proofs.Taking.{acknowledged, linked, packets_along, taken}
use Rattle.trio_nodes.proofs.controller.TrioControl.on.Goals as goal

-- the sender is the replica that was found
sent_by : (c : goal.After-acknowledge) → copy_of c.args.from ≡ c.sender-copy.result
sent_by c = ap copy_of c.sender-copy.ensures.replica

-- what was heard is what the machine's controller hears
heard_as : (c : goal.After-acknowledge) → numbers_of c.hear.new.self ≡ (controller_hears (partition_of c.args.self.now) (copy_of c.args.from) (message_of c.args.body.now) (numbers_of c.args.self.now)).0
heard_as c = c.hear.ensures.does.numbers ∙ ap (λ k. (controller_hears (partition_of c.args.self.now) k (message_of c.args.body.now) (numbers_of c.args.self.now)).0) (sym (sent_by c))

packets_done : (c : goal.After-acknowledge) → c.acknowledge.new.out.packets ≡ c.args.out.now.packets ++ packets_of (taking c.args.self.now c.args.from c.args.body.now).1
packets_done c =
    packets_along c.args.out.now.packets c.hear.new.out.packets c.acknowledge.new.out.packets (length c.args.self.now.acked) (length c.hear.new.self.acked) (partition_of c.args.self.now) (partition_of c.hear.new.self)
    (numbers_of c.hear.new.self) (controller_hears (partition_of c.args.self.now) (copy_of c.args.from) (message_of c.args.body.now) (numbers_of c.args.self.now))
    (c.hear.ensures.does.packets ∙ ap (λ k. c.args.out.now.packets ++ packets_of (controller_hears (partition_of c.args.self.now) k (message_of c.args.body.now) (numbers_of c.args.self.now)).1) (sym (sent_by c)))
    (heard_as c) c.hear.ensures.does.partition c.hear.ensures.does.edges c.acknowledge.ensures.does.packets

numbers_done : (c : goal.After-acknowledge) → numbers_of c.acknowledge.new.self ≡ (taking c.args.self.now c.args.from c.args.body.now).0
numbers_done c = c.acknowledge.ensures.does.numbers ∙ ap (λ x. (acks (length c.hear.new.self.acked) (partition_of c.hear.new.self) x).0) (heard_as c)

same_place : (c : goal.After-acknowledge) → partition_of c.acknowledge.new.self ≡ partition_of c.args.self.now
same_place c = c.acknowledge.ensures.does.partition ∙ c.hear.ensures.does.partition

same_edges : (c : goal.After-acknowledge) → length c.acknowledge.new.self.acked ≡ length c.args.self.now.acked
same_edges c = c.acknowledge.ensures.does.edges ∙ c.hear.ensures.does.edges

pub returns-clause-numbers : goal.returns-clause-numbers
returns-clause-numbers c = numbers_done c

pub returns-clause-packets : goal.returns-clause-packets
returns-clause-packets c = packets_done c

pub returns-clause-linked : goal.returns-clause-linked
returns-clause-linked c = λ plan is of_plan. linked plan c.args.self.now is of_plan c.args.from c.args.body.now c.args.out.now.packets c.acknowledge.new.out.packets (packets_done c)

pub returns-clause-acked : goal.returns-clause-acked
returns-clause-acked c = λ q there.
    acknowledged c.args.self.now c.hear.new.self c.acknowledge.new.self (length c.hear.new.self.acked) (partition_of c.hear.new.self) c.hear.ensures.acked c.acknowledge.ensures.does.numbers c.acknowledge.ensures.watched c.acknowledge.ensures.three q

pub returns-clause-step : goal.returns-clause-step
returns-clause-step c = λ plan inputs. taken plan inputs c.args.self.now c.acknowledge.new.self c.args.from c.args.body.now (numbers_done c) (same_place c) (same_edges c)

pub returns-clause-of_plan : goal.returns-clause-of_plan
returns-clause-of_plan c = λ plan is. record {
  there = subst (λ (p : Partition). HasNode (trio_flow plan []) (control_at p)) (sym (same_place c)) is.there;
  edges = same_edges c ∙ is.edges ∙ ap (λ (p : Partition). sources_of plan p.stage) (sym (same_place c));
}
