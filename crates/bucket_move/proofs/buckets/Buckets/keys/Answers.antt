use Rattle.std.proofs.Common.{ℕ, ◌<◌, ◌^◌, ◌∙◌, List, ap, sym, subst}
use Rattle.plan_reader.specs.declared.stage.Stage.{Stage}
use Rattle.bucket_move.specs.BucketsView.{AllKeep, AllStand, BucketsView, IsAfter, fed, keys_at, keys_kept, opening_table, table_after}
use Rattle.bucket_move.specs.Working.{kept_in}
use Rattle.bucket_move.specs.declared.partition.Partition.{Partition}
use Rattle.bucket_move.proofs.buckets.Buckets.keys.Goals as goal

pub returns-clause-kept : goal.returns-clause-kept
returns-clause-kept c = λ rows keep.
    let inside = c.self.inside in
    let spec = inside.stage.op in
    let seen = subst (λ (b : BucketsView). AllKeep b.stage.op b.table b.kept rows) (sym c.self.view_is) keep in
    let keeps = subst (λ (t : List ℕ). AllKeep spec t (kept_in c.deref-2.result.now) rows) (sym c.deref.ensures.value)
    (subst (λ (ps : List Partition). AllKeep spec inside.table.items (kept_in ps) rows) (sym c.deref-2.ensures.value) seen) in
    c.keys_at.ensures.kept spec rows keeps
    ∙ ap (λ (t : List ℕ). keys_kept spec t c.args.part rows) c.deref.ensures.value
    ∙ ap (λ (b : BucketsView). keys_kept b.stage.op b.table c.args.part rows) c.self.view_is

pub returns-clause-after : goal.returns-clause-after
returns-clause-after c = λ stage calls is.
    let inside = c.self.inside in
    let right = c.self.invariant in
    let after = subst (λ (b : BucketsView). IsAfter stage calls b) (sym c.self.view_is) is in
    let few = subst (λ (n : ℕ). n < 2 ^ 64) after.count right.count in
    let stand = subst (λ (t : List ℕ). AllStand inside.stage t (kept_in c.deref-2.result.now) (fed calls)) (sym c.deref.ensures.value)
    (subst (λ (ps : List Partition). AllStand inside.stage inside.table.items (kept_in ps) (fed calls)) (sym c.deref-2.ensures.value) after.states) in
    c.keys_at.ensures.stands inside.stage (fed calls) right.keyed few stand
    ∙ ap (λ (t : List ℕ). keys_at inside.stage t c.args.part (fed calls)) (c.deref.ensures.value ∙ after.table)
    ∙ ap (λ (s : Stage). keys_at s (table_after (opening_table s.parts) calls) c.args.part (fed calls)) after.of_plan
