use Rattle.std.proofs.Common.{◌≡◌, ◌+◌, ◌≤◌, length, arith}
use Rattle.event_log.specs.Reading.{needed}
use Rattle.event_log.proofs.Pushing.{head_within}
use Rattle.event_log.proofs.reader.Reader.next.Goals as goal

pub overflow_add-self : goal.overflow_add-self
overflow_add-self c =
    let n = c.self.inside in
    let few : n.used + needed c.in_ok-entry.entry ≤ length n.whole.now
    = head_within (length n.senders.now) n.used (length n.whole.now) n.entries c.next.new.self c.in_ok-entry.entry c.in_ok-entry.ensures.entry c.self.invariant.known in
    let added : c.needed.result ≡ needed c.in_ok-entry.entry = c.needed.ensures in
    omega (arith, few, added, c.self.told.1)
