use Rattle.std.proofs.Common.{◌≡◌, ◌∙◌, ◌<◌, length, ap, arith}
use Rattle.std.specs.Prelude.{slice_get}
use Rattle.event_log.specs.Reading.{names_of, needed, progress_of}
use Rattle.event_log.proofs.Pushing.{first_whole, first_within, needed_one}
use Rattle.event_log.proofs.reader.Reader.peek.Goals as goal

pub bounds-self-inside-self-inside : goal.bounds-self-inside-self-inside
bounds-self-inside-self-inside c =
    let n = c.self.inside in
    first_within (length n.senders.now) n.used (length n.whole.now) n.entries c.in_ok-entry.entry c.in_ok-entry.ensures (needed_one _ c.in-Jump.is) c.self.invariant.known

pub offset_bounds-self-inside-self-inside : goal.offset_bounds-self-inside-self-inside
offset_bounds-self-inside-self-inside c =
    let n = c.self.inside in
    let within : n.used < length n.whole.now =
    first_within (length n.senders.now) n.used (length n.whole.now) n.entries c.in_ok-entry.entry c.in_ok-entry.ensures (needed_one _ c.in-Jump.is) c.self.invariant.known in
    omega (arith, within, c.self.told2)

pub returns-in-Jump : goal.returns-in-Jump
returns-in-Jump c =
    let n = c.self.inside in
    let one : needed c.in_ok-entry.entry ≡ 1 = needed_one _ c.in-Jump.is in
    let within : n.used < length n.whole.now =
    first_within (length n.senders.now) n.used (length n.whole.now) n.entries c.in_ok-entry.entry c.in_ok-entry.ensures one c.self.invariant.known in
    first_whole (names_of n.node n.senders.now n.whole.now) (progress_of n.clock n.taken.items n.used) n.entries c.in_ok-entry.entry _ c.in_ok-entry.ensures one within
    ∙ ap (λ l. slice_get l 0) c.self.view_is
