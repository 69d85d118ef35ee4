use Rattle.std.proofs.Common.{◌≡◌, ◌∙◌, ◌≤◌, ◌<◌, ◌+◌, ◌-◌, length, drop, ap, sym, subst, arith}
use Rattle.tuple_edge.specs.declared.packet.Packet.{Packet}
use Rattle.run_node.specs.Ends.{HaveRoom, links_of}
use Rattle.run_node.specs.FirstLinks.{AreFirst, receivers}
use Rattle.run_node.specs.Sends.{with_all_sent}
use Rattle.run_node.proofs.Places.{drop_at, each_lift}
use Rattle.run_node.proofs.SentPackets.{receivers-with_sent}
use Rattle.run_node.proofs.sending.send_all.Goals as goal

pub send-requires : goal.send-requires
send-requires g c =
    let nth = c.loop-nth.nth in
    let all = length c.args.outbox.now.packets in
    let more : nth < all = omega (arith, c.loop-nth-test.true, c.len-nth-end.ensures) in
    let none : all ≡ 0 + all = omega arith in
    let room = c.loop-nth.invariant.room 0 (subst (λ m. HaveRoom m c.args.outs.now) none c.requires.room) in
    record {
      room = each_lift (λ e. 0 + (all - nth) ≤ e.spare) (λ e. 1 ≤ e.spare) (λ x le. omega (arith, le, more)) c.loop-nth.outs room;
      firsts = c.loop-nth.invariant.firsts;
    }

pub loop-nth-preserved : goal.loop-nth-preserved
loop-nth-preserved g c =
    let h = c.loop-nth.invariant in
    let nth = c.loop-nth.nth in
    let packets = c.args.outbox.now.packets in
    let all = length packets in
    let more : nth < all = omega (arith, c.loop-nth-test.true, c.len-nth-end.ensures) in
    let next = drop_at packets nth (c.in-Some.to, c.in-Some.body) (sym c.get.ensures ∙ c.in-Some.is) in
    let packet : Packet = record { at = c.args.clock; body = c.in-Some.body } in
    let to : receivers (links_of c.send.new.outs) ≡ receivers (links_of c.loop-nth.outs) = ap receivers c.send.ensures.links ∙ receivers-with_sent c.in-Some.to packet (links_of c.loop-nth.outs) in
    record {
      firsts = subst (AreFirst c.args.firsts) (sym to) h.firsts;
      room = λ k room.
          let one : k + (all - nth) ≡ k + (all - (nth + 1)) + 1 = omega (arith, more) in
          c.send.ensures.room (k + (all - (nth + 1))) (subst (λ m. HaveRoom m c.loop-nth.outs) one (h.room k room));
      sent = ap (with_all_sent c.args.clock (drop (nth + 1) packets)) c.send.ensures.links ∙ (ap (λ l. with_all_sent c.args.clock l (links_of c.loop-nth.outs)) (sym next) ∙ h.sent);
    }

pub returns-clause-room : goal.returns-clause-room
returns-clause-room g c = λ k room.
    let all = length c.args.outbox.now.packets in
    each_lift (λ e. k + (all - c.loop-nth.nth) ≤ e.spare) (λ e. k ≤ e.spare) (λ x le. omega (arith, le)) c.loop-nth.outs (c.loop-nth.invariant.room k room)
