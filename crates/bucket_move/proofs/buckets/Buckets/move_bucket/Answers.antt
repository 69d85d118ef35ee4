use Rattle.std.proofs.Common.{◌<◌, sym, subst, arith, refl}
use Rattle.std.proofs.lemmas.List.{get_or_read}
use Rattle.bucket_move.specs.BucketsView.{BucketsView, IsAfter}
use Rattle.bucket_move.proofs.Moving.{handed_in, moved_further, moved_right}
use Rattle.bucket_move.proofs.buckets.Buckets.move_bucket.Goals as goal

pub invariant_of-self : goal.invariant_of-self
invariant_of-self c =
    let inside = c.self.inside in
    let there = subst (λ (b : BucketsView). c.args.to < b.stage.parts) (sym c.self.view_is) c.requires.to in
    let from = get_or_read inside.table.items c.args.bucket c.index-from.result.now (omega arith) c.index-from.ensures 0 in
    let handed = handed_in inside.parts c.deref_mut.result.now c.hand_over.new.parts inside.table.items c.args.bucket c.index-from.result.now c.args.to inside.stage.op c.new-unseen.result
    c.hand_over.auto.parts c.deref_mut.ensures.value c.deref_mut.ensures.len from c.new-unseen.ensures.unseen c.hand_over.ensures in
    moved_right _ _ c.args.bucket c.args.to c.self.invariant c.requires.bucket there refl refl handed refl

pub returns-clause-stands : goal.returns-clause-stands
returns-clause-stands c = λ stage calls is.
    let inside = c.self.inside in
    let there = subst (λ (b : BucketsView). c.args.to < b.stage.parts) (sym c.self.view_is) c.requires.to in
    let from = get_or_read inside.table.items c.args.bucket c.index-from.result.now (omega arith) c.index-from.ensures 0 in
    let handed = handed_in inside.parts c.deref_mut.result.now c.hand_over.new.parts inside.table.items c.args.bucket c.index-from.result.now c.args.to inside.stage.op c.new-unseen.result
    c.hand_over.auto.parts c.deref_mut.ensures.value c.deref_mut.ensures.len from c.new-unseen.ensures.unseen c.hand_over.ensures in
    moved_further _ _ c.args.bucket c.args.to c.self.invariant c.requires.bucket there refl refl handed refl stage calls (subst (λ (b : BucketsView). IsAfter stage calls b) (sym c.self.view_is) is) refl refl
