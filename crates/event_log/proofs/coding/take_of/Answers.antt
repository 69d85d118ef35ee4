use Rattle.std.proofs.Common.{get_or, refl, subst}
use Rattle.std.proofs.lemmas.Option.{slice_get_within}
use Rattle.event_log.specs.Reading.{IsTake}
use Rattle.event_log.proofs.Continuing.{continues_plain, continues_take}
use Rattle.event_log.proofs.coding.take_of.Goals as goal

pub returns-in_default-clause-entry : goal.returns-in_default-clause-entry
returns-in_default-clause-entry c = λ node clock now rises. continues_plain node c.args.senders.now c.meet.new.self clock c.args.rise _ _ c.meet.ensures.met rises tt

pub taken-requires : goal.taken-requires
taken-requires c = slice_get_within _ _ _ c.in-Some.ensures.place

pub count-requires : goal.count-requires
count-requires c = slice_get_within _ _ _ c.in-Some.ensures.place

pub returns-clause-entry : goal.returns-clause-entry
returns-clause-entry c = λ node clock now rises.
    let take : IsTake c.in-Some.place (get_or c.meet.new.self.taken c.in-Some.place 0) c.args.rise c.args.index c.take_entry-entry.result
    = subst (λ n. IsTake c.in-Some.place n c.args.rise c.args.index c.take_entry-entry.result) c.taken.ensures c.take_entry-entry.ensures in
    continues_take node c.args.sender c.args.senders.now c.meet.new.self c.count.new.self clock c.in-Some.place c.args.index c.args.rise _
    c.take_entry-entry.result c.in-Some.ensures.met c.in-Some.ensures.sized c.in-Some.ensures.place c.count.ensures refl rises take
