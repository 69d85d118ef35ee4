use Rattle.std.proofs.Common.{◌≤◌, ◌+◌, sym, arith}
use Rattle.run_node.specs.Ends.{links_of}
use Rattle.run_node.proofs.Places.{each_at_place, each_lift, each_set, get_there}
use Rattle.run_node.proofs.SentPackets.{sent_at_place, sent_nowhere}
use Rattle.run_node.proofs.sending.send.Goals as goal

pub returns-clause-links : goal.returns-clause-links
returns-clause-links g c =
    let outs = c.args.outs.now in
    let place = c.in_ok-place.place in
    let first = c.in_ok-place.ensures in
    let end = c.index-outs-place.result in
    sent_at_place c.args.to c.args.packet outs place end c.put.new.self first.within first.before (first.leads _ (get_there outs place end first.within)) c.put.ensures.link

pub returns-clause-room : goal.returns-clause-room
returns-clause-room g c = λ k room.
    let outs = c.args.outs.now in
    let place = c.in_ok-place.place in
    let old = each_at_place (λ e. k + 1 ≤ e.spare) outs place c.index-outs-place.result room c.in_ok-place.ensures.within in
    each_set (λ e. k + 1 ≤ e.spare) (λ e. k ≤ e.spare) outs place c.put.new.self (λ x le. omega arith) room (omega (arith, old, c.put.ensures.spare))

pub returns-in_err-place-clause-links : goal.returns-in_err-place-clause-links
returns-in_err-place-clause-links g c = sym (sent_nowhere c.args.to c.args.packet (links_of c.args.outs.now) c.in_err-place.ensures)

pub returns-in_err-place-clause-room : goal.returns-in_err-place-clause-room
returns-in_err-place-clause-room g c = λ k room. each_lift (λ e. k + 1 ≤ e.spare) (λ e. k ≤ e.spare) (λ x le. omega arith) c.args.outs.now room
