use Rattle.std.proofs.Common.{◌∙◌, ◌++◌, ◌∷◌, [], ap, arith}
use Rattle.tuple_edge.specs.declared.event.Event.TheVariants as event
use Rattle.tuple_edge.specs.declared.event.Stamped.{Stamped}
use Rattle.event_log.specs.Reading.{Continues}
use Rattle.event_log.specs.Views.{LogView}
use Rattle.event_log.proofs.Continuing.{continues_plain, met_none}
use Rattle.event_log.proofs.Pushing.{length-more, pushed_read, pushed_reading}
use Rattle.event_log.proofs.log.Log.work.Goals as goal

pub invariant_of-self : goal.invariant_of-self
invariant_of-self c =
    let n = c.self.inside in
    let stamped : Stamped = record { clock = c.args.clock; event = event.Work n.node } in
    let goes_on : Continues n.node n.senders n.clock c.work_entry-entry.result stamped n.senders
    = continues_plain n.node n.senders n.senders n.clock c.rise_of.result stamped _ (met_none n.senders) c.rise_of.ensures (c.work_entry-entry.ensures n.node) in
    record {
      read = pushed_read n.node n.senders n.senders n.clock n.entries.entries c.push.new.self.entries n.whole.items c.keep_whole.new.whole.items c.work_entry-entry.result stamped
          c.self.invariant.read goes_on c.keep_whole.ensures.items c.push.ensures.entries;
      counted = length-more n.entries.entries c.push.new.self.entries _ n.events c.self.invariant.counted c.push.ensures.entries;
      countable = omega (arith, c.self.invariant.countable, c.requires, ap (λ (v : LogView). v.spare) c.self.view_is);
      senders_fit = omega (arith, c.self.invariant.senders_fit);
      entries_fit = omega (arith, c.self.invariant.entries_fit, c.push.ensures.spare);
      whole_fit = omega (arith, c.self.invariant.whole_fit, c.keep_whole.ensures.len, c.keep_whole.ensures.capacity);
    }

pub returns-clause-entries : goal.returns-clause-entries
returns-clause-entries c =
    let n = c.self.inside in
    let stamped : Stamped = record { clock = c.args.clock; event = event.Work n.node } in
    let goes_on : Continues n.node n.senders n.clock c.work_entry-entry.result stamped n.senders
    = continues_plain n.node n.senders n.senders n.clock c.rise_of.result stamped _ (met_none n.senders) c.rise_of.ensures (c.work_entry-entry.ensures n.node) in
    pushed_reading n.node n.senders n.senders n.clock n.entries.entries c.push.new.self.entries n.whole.items c.keep_whole.new.whole.items c.work_entry-entry.result stamped
    c.self.invariant.read goes_on c.keep_whole.ensures.items c.push.ensures.entries
    ∙ ap (λ (v : LogView). v.entries ++ record { clock = c.args.clock; event = event.Work v.node } ∷ []) c.self.view_is
