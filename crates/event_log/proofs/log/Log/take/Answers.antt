use Rattle.std.proofs.Common.{◌∙◌, ◌++◌, ◌∷◌, [], ap, arith}
use Rattle.tuple_edge.specs.declared.event.Event.TheVariants as event
use Rattle.tuple_edge.specs.declared.event.Stamped.{Stamped}
use Rattle.event_log.specs.Views.{LogView}
use Rattle.event_log.proofs.Pushing.{length-more, pushed_read, pushed_reading}
use Rattle.event_log.proofs.log.Log.take.Goals as goal

pub invariant_of-self : goal.invariant_of-self
invariant_of-self c =
    let n = c.self.inside in
    let stamped : Stamped = record { clock = c.args.clock; event = event.Take (record { «from» = c.args.sender; to = n.node }) c.args.index } in
    record {
      read = pushed_read n.node n.senders c.take_of-entry.new.senders n.clock n.entries.entries c.push.new.self.entries n.whole.items c.keep_whole.new.whole.items c.take_of-entry.result stamped
          c.self.invariant.read (c.take_of-entry.ensures.entry n.node n.clock c.args.clock c.rise_of-rise.ensures) c.keep_whole.ensures.items c.push.ensures.entries;
      counted = length-more n.entries.entries c.push.new.self.entries _ n.events c.self.invariant.counted c.push.ensures.entries;
      countable = omega (arith, c.self.invariant.countable, c.requires, ap (λ (v : LogView). v.spare) c.self.view_is);
      senders_fit = omega (arith, c.self.invariant.senders_fit, c.take_of-entry.ensures.spare);
      entries_fit = omega (arith, c.self.invariant.entries_fit, c.push.ensures.spare);
      whole_fit = omega (arith, c.self.invariant.whole_fit, c.keep_whole.ensures.len, c.keep_whole.ensures.capacity);
    }

pub returns-clause-entries : goal.returns-clause-entries
returns-clause-entries c =
    let n = c.self.inside in
    let stamped : Stamped = record { clock = c.args.clock; event = event.Take (record { «from» = c.args.sender; to = n.node }) c.args.index } in
    pushed_reading n.node n.senders c.take_of-entry.new.senders n.clock n.entries.entries c.push.new.self.entries n.whole.items c.keep_whole.new.whole.items c.take_of-entry.result stamped
    c.self.invariant.read (c.take_of-entry.ensures.entry n.node n.clock c.args.clock c.rise_of-rise.ensures) c.keep_whole.ensures.items c.push.ensures.entries
    ∙ ap (λ (v : LogView). v.entries ++ record { clock = c.args.clock; event = event.Take (record { «from» = c.args.sender; to = v.node }) c.args.index } ∷ []) c.self.view_is
