use Rattle.std.proofs.Common.{◌≡◌, sym, subst, ap, ◌∙◌, take}
use mathlib.Core.List.{IsPrefix}
use Rattle.crossbeam_channel.specs.Claims.{view}
use Rattle.ordered_channel.specs.Ends.{values_sent}
use Rattle.ordered_channel.proofs.Fronts.{front_of, take_front, take_more}
use Rattle.ordered_channel.proofs.ends.Sender.offer.Goals as goal

pub returns-clause-more : goal.returns-clause-more
returns-clause-more g c =
    let old : values_sent c.args.self.now ≡ take c.args.self.now.count c.args.values.now = front_of (values_sent c.args.self.now) c.args.values.now c.requires ∙ ap (λ n. take n c.args.values.now) c.args.self.now.counted in
    let e = c.send_from-self.ensures in
    subst (λ l. IsPrefix l (view c.send_from-self.new.pass).sent) (sym old) (subst (λ l. IsPrefix (take c.args.self.now.count c.args.values.now) l) (sym e.sent) (take_more c.args.self.now.count c.send_from-self.result c.args.values.now e.more))

pub returns-clause-front : goal.returns-clause-front
returns-clause-front g c = subst (λ l. IsPrefix l c.args.values.now) (sym c.send_from-self.ensures.sent) (take_front c.send_from-self.result c.args.values.now)
