use Rattle.std.proofs.Common.{◌≡◌, ◌∙◌, ◌≤◌, ◌<◌, ◌+◌, ◌-◌, ◌*◌, [], drop, length, refl, ap, sym, subst, arith}
use Rattle.std.proofs.lemmas.List.{drop_all}
use Rattle.tuple_edge.specs.declared.packet.Packet.{Packet}
use Rattle.run_node.specs.Ends.{HaveRoom, links_of}
use Rattle.run_node.specs.FirstLinks.{AreFirst, receivers}
use Rattle.run_node.proofs.Places.{drop_at, each_lift}
use Rattle.run_node.proofs.SentPackets.{HasNext, none-with_rest_sent, one-with_rest_sent, receivers-with_sent, step_begins, with_rest_sent}
use Rattle.run_node.proofs.sending.send_steps.Goals as goal
use Rattle.run_node.proofs.sending.send_steps.Goals.{then-left-eq0, else-left-eq0}

pub send-requires-clause-room : goal.send-requires-clause-room
send-requires-clause-room g c =
    let nth = c.loop-nth.nth in
    let all = length c.args.outbox.now.packets in
    let more : nth < all = omega (arith, c.loop-nth-test.true, c.len-nth-end.ensures) in
    let none : all ≡ 0 + all = omega arith in
    let room = c.loop-nth.invariant.room 0 (subst (λ m. HaveRoom m c.args.outs.now) none c.requires.room) in
    each_lift (λ e. 0 + (all - nth) ≤ e.spare) (λ e. 1 ≤ e.spare) (λ x le. omega (arith, le, more)) c.loop-nth.outs room

pub loop-nth-preserved : goal.loop-nth-preserved
loop-nth-preserved g c =
    let h = c.loop-nth.invariant in
    let nth = c.loop-nth.nth in
    let packets = c.args.outbox.now.packets in
    let all = length packets in
    let each = c.args.steps.each in
    let last = c.args.clock + c.args.steps.count in
    let clock = c.if-left-eq0.at in
    let left = c.if-left-eq0.left in
    let before = links_of c.loop-nth.outs in
    let after = links_of c.send.new.outs in
    let more : nth < all = omega (arith, c.loop-nth-test.true, c.len-nth-end.ensures) in
    let some : 0 < all - nth = omega (arith, more) in
    let rest : all - nth ≡ c.loop-nth.left + (last - c.loop-nth.at) * each = omega (arith, h.whole) in
    let one : HasNext last each (all - nth) c.loop-nth.at c.loop-nth.left clock left = elim c.if-left-eq0.branch [
      | then-left-eq0 w ↦
          let none : 0 ≡ c.loop-nth.left = omega (arith, w.if-left-eq0.true) in
          let whole_steps : all - nth ≡ (last - c.loop-nth.at) * each = omega (arith, rest, none) in
          subst (λ n. HasNext last each (all - nth) c.loop-nth.at c.loop-nth.left n left) (sym w.at-is)
          (subst (λ n. HasNext last each (all - nth) c.loop-nth.at c.loop-nth.left (c.loop-nth.at + 1) n) (sym w.left-is)
          (subst (λ n. HasNext last each (all - nth) c.loop-nth.at n (c.loop-nth.at + 1) each) none (step_begins last each (all - nth) c.loop-nth.at some whole_steps)))
      | else-left-eq0 w ↦
          let same : HasNext last each (all - nth) c.loop-nth.at c.loop-nth.left c.loop-nth.at c.loop-nth.left = record {
            clocks = h.clocks;
            some = omega (arith, w.if-left-eq0.false);
            whole = rest;
            sent = λ xs ls. refl;
          } in
          subst (λ n. HasNext last each (all - nth) c.loop-nth.at c.loop-nth.left n left) (sym w.at-is)
          (subst (λ n. HasNext last each (all - nth) c.loop-nth.at c.loop-nth.left c.loop-nth.at n) (sym w.left-is) same)
    ] in
    let next = drop_at packets nth (c.in-Some.to, c.in-Some.body) (sym c.get.ensures ∙ c.in-Some.is) in
    let packet : Packet = record { at = clock; body = c.in-Some.body } in
    let to : receivers after ≡ receivers before = ap receivers c.send.ensures.links ∙ receivers-with_sent c.in-Some.to packet before in
    record {
      clocks = one.clocks;
      whole = omega (arith, one.whole, one.some, more);
      firsts = subst (AreFirst c.args.firsts) (sym to) h.firsts;
      room = λ k room.
          let less : k + (all - nth) ≡ k + (all - (nth + 1)) + 1 = omega (arith, more) in
          c.send.ensures.room (k + (all - (nth + 1))) (subst (λ m. HaveRoom m c.loop-nth.outs) less (h.room k room));
      sent = ap (with_rest_sent clock (left - 1) (last - clock) each (drop (nth + 1) packets)) c.send.ensures.links
          ∙ one-with_rest_sent clock left (last - clock) each (c.in-Some.to, c.in-Some.body) (drop (nth + 1) packets) before one.some
          ∙ ap (λ l. with_rest_sent clock left (last - clock) each l before) (sym next)
          ∙ one.sent (drop nth packets) before
          ∙ h.sent;
    }

pub returns-clause-links : goal.returns-clause-links
returns-clause-links g c =
    let clock = c.loop-nth.at in
    let left = c.loop-nth.left in
    let more = c.args.clock + c.args.steps.count - clock in
    let each = c.args.steps.each in
    let sent = links_of c.loop-nth.outs in
    let none : drop c.loop-nth.nth c.args.outbox.now.packets ≡ [] =
    drop_all c.loop-nth.nth c.args.outbox.now.packets (omega (arith, c.loop-nth-test.false, c.len-nth-end.ensures)) in
    sym (none-with_rest_sent clock left more each sent) ∙ ap (λ l. with_rest_sent clock left more each l sent) (sym none) ∙ c.loop-nth.invariant.sent

pub returns-clause-room : goal.returns-clause-room
returns-clause-room g c = λ k room.
    let all = length c.args.outbox.now.packets in
    each_lift (λ e. k + (all - c.loop-nth.nth) ≤ e.spare) (λ e. k ≤ e.spare) (λ x le. omega (arith, le)) c.loop-nth.outs (c.loop-nth.invariant.room k room)
