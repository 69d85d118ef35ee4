use Rattle.std.proofs.Common.{◌∙◌, ◌++◌, ◌∷◌, [], ap, arith}
use Rattle.event_log.specs.Views.{LogView}
use Rattle.event_log.proofs.Pushing.{length-more, pushed_read, pushed_reading}
use Rattle.event_log.proofs.log.Log.push_reserved.Goals as goal

pub invariant_of-self : goal.invariant_of-self
invariant_of-self c =
    let n = c.self.inside in
    record {
      read = pushed_read n.node n.senders c.entry_of-entry.new.senders n.clock n.entries.entries c.push.new.self.entries n.whole.items c.keep_whole.new.whole.items c.entry_of-entry.result c.args.stamped
          c.self.invariant.read c.entry_of-entry.ensures.entry c.keep_whole.ensures.items c.push.ensures.entries;
      counted = length-more n.entries.entries c.push.new.self.entries _ n.events c.self.invariant.counted c.push.ensures.entries;
      countable = omega (arith, c.self.invariant.countable, c.requires, ap (λ (v : LogView). v.spare) c.self.view_is);
      senders_fit = omega (arith, c.self.invariant.senders_fit, c.entry_of-entry.ensures.spare);
      entries_fit = omega (arith, c.self.invariant.entries_fit, c.push.ensures.spare);
      whole_fit = omega (arith, c.self.invariant.whole_fit, c.keep_whole.ensures.len, c.keep_whole.ensures.capacity);
    }

pub returns-clause-entries : goal.returns-clause-entries
returns-clause-entries c =
    let n = c.self.inside in
    pushed_reading n.node n.senders c.entry_of-entry.new.senders n.clock n.entries.entries c.push.new.self.entries n.whole.items c.keep_whole.new.whole.items c.entry_of-entry.result c.args.stamped
    c.self.invariant.read c.entry_of-entry.ensures.entry c.keep_whole.ensures.items c.push.ensures.entries
    ∙ ap (λ (v : LogView). v.entries ++ c.args.stamped ∷ []) c.self.view_is
