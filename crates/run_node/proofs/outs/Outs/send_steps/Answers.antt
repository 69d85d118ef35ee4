use Rattle.std.proofs.Common.{◌≡◌, ◌∙◌, ◌≤◌, ◌+◌, ◌-◌, ◌++◌, List, length, take, drop, ap, subst, sym, arith}
use Rattle.run_node.specs.Ends.{HaveRoom, OutEndView, OutsView, links_of}
use Rattle.run_node.specs.FirstLinks.{AreFirst, receivers}
use Rattle.run_node.specs.Sends.{with_steps_sent}
use Rattle.node_tasks.specs.Steps.{pieces}
use Rattle.run_node.proofs.Places.{written}
use Rattle.run_node.proofs.SentPackets.{none-with_steps_sent, receivers-with_steps_sent}
use Rattle.run_node.proofs.outs.Outs.send_steps.Goals as goal

pub invariant_of-self : goal.invariant_of-self
invariant_of-self g c =
    let n = c.self.inside in
    let sent = c.send_steps-self-inside in
    let left = n.room - c.len.result in
    let all = length c.args.outbox.now.packets in
    let few : all ≤ n.room = subst (λ (v : OutsView). all ≤ v.room) (sym c.self.view_is) c.requires.room in
    let whole : n.room ≡ left + all = omega (arith, few, c.len.ensures) in
    let long : length c.deref_mut.result.now ≡ n.ends.len = omega (arith, c.deref_mut.ensures.len) in
    let ends : List OutEndView = take n.ends.len (sent.new.outs ++ drop (length sent.new.outs) n.ends.items) in
    let same : ends ≡ sent.new.outs = written n.ends.len sent.new.outs n.ends.items (sent.auto.outs ∙ long) in
    let room : HaveRoom n.room c.deref_mut.result.now = subst (HaveRoom n.room) (sym c.deref_mut.ensures.value) c.self.invariant.0 in
    let to : receivers (links_of ends) ≡ receivers (links_of n.ends.items) =
    ap (λ es. receivers (links_of es)) same ∙ ap receivers sent.ensures.links
    ∙ receivers-with_steps_sent c.args.clock (pieces c.args.steps.count c.args.steps.each c.args.outbox.now.packets) (links_of c.deref_mut.result.now) ∙ ap (λ es. receivers (links_of es)) c.deref_mut.ensures.value in (
      subst (HaveRoom left) (sym same) (sent.ensures.room left (subst (λ k. HaveRoom k c.deref_mut.result.now) whole room)),
      subst (AreFirst n.firsts) (sym to) c.self.invariant.1,
    )

pub returns-then-is_empty-clause-links : goal.returns-then-is_empty-clause-links
returns-then-is_empty-clause-links g c =
    let none = c.is_empty.ensures.0 c.if-is_empty.true in
    let count = c.args.steps.count in
    let each = c.args.steps.each in
    let links = c.args.self.now.links in
    sym (ap (λ l. with_steps_sent c.args.clock (pieces count each l) links) none ∙ none-with_steps_sent c.args.clock count each links)
