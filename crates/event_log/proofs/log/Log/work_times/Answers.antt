use Rattle.std.proofs.Common.{◌≡◌, ◌∙◌, ◌-◌, ◌≤◌, ap, arith, length, subst}
use Rattle.tuple_edge.specs.declared.event.Event.TheVariants as event
use Rattle.event_log.specs.declared.entry.Entry.TheVariants as entry
use Rattle.event_log.specs.Reading.{names_of, progress_of}
use Rattle.event_log.specs.Views.{LogView}
use Rattle.event_log.proofs.Again.{IsNext, next_work, run_holds, run_read}
use Rattle.event_log.proofs.Pushing.{length-times}
use Rattle.event_log.proofs.log.Log.work_times.Goals as goal

pub invariant_of-self : goal.invariant_of-self
invariant_of-self c =
    let n = c.self.inside in
    let names = names_of n.node n.senders.nodes n.whole.items in
    let now = progress_of n.clock n.senders.taken (length n.whole.items) in
    let some : 1 ≤ c.args.times = omega (arith, c.if-times-eq0.false) in
    let same : event.Work n.node ≡ event.Work c.args.self.now.node = ap (λ (v : LogView). event.Work v.node) c.self.view_is ∙ ap event.Work c.work.ensures.node in
    let next : IsNext names (entry.Work 1) (event.Work c.args.self.now.node) = subst (IsNext names (entry.Work 1)) same (next_work names) in
    let last = ap (λ (v : LogView). v.entries) c.self.view_is ∙ c.work.ensures.entries in
    record {
      read = run_read names (entry.Work 1) (event.Work c.args.self.now.node) next c.args.clock c.args.times now n.entries.entries c.push_times.new.self.entries c.args.self.now.entries some c.requires.clocks c.self.invariant.read last c.push_times.ensures.entries;
      counted = length-times n.entries.entries c.push_times.new.self.entries _ n.events (c.args.times - 1) c.self.invariant.counted c.push_times.ensures.entries;
      countable = omega (arith, some, c.self.invariant.countable, c.work.ensures.spare, c.requires.room, ap (λ (v : LogView). v.spare) c.self.view_is);
      senders_fit = omega (arith, c.self.invariant.senders_fit);
      entries_fit = omega (arith, some, c.self.invariant.entries_fit, c.push_times.ensures.spare, c.work.ensures.spare, c.requires.room, ap (λ (v : LogView). v.spare) c.self.view_is);
      whole_fit = omega (arith, c.self.invariant.whole_fit);
    }

pub returns-clause-entries : goal.returns-clause-entries
returns-clause-entries c =
    let n = c.self.inside in
    let names = names_of n.node n.senders.nodes n.whole.items in
    let now = progress_of n.clock n.senders.taken (length n.whole.items) in
    let some : 1 ≤ c.args.times = omega (arith, c.if-times-eq0.false) in
    let same : event.Work n.node ≡ event.Work c.args.self.now.node = ap (λ (v : LogView). event.Work v.node) c.self.view_is ∙ ap event.Work c.work.ensures.node in
    let next : IsNext names (entry.Work 1) (event.Work c.args.self.now.node) = subst (IsNext names (entry.Work 1)) same (next_work names) in
    let last = ap (λ (v : LogView). v.entries) c.self.view_is ∙ c.work.ensures.entries in
    run_holds names (entry.Work 1) (event.Work c.args.self.now.node) next c.args.clock c.args.times now n.entries.entries c.push_times.new.self.entries c.args.self.now.entries some c.requires.clocks c.self.invariant.read last c.push_times.ensures.entries
