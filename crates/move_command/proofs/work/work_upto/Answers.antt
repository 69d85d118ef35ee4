use Rattle.std.proofs.Common.{◌-◌, ◌++◌, ◌∷◌, [], subst, take}
use Rattle.bucket_move.specs.BucketsView.{Feeds, IsAfter, Moves}
use Rattle.move_command.proofs.Working.{two_calls}
use Rattle.move_command.proofs.work.work_upto.Goals as goal

pub returns-clause-stands : goal.returns-clause-stands
returns-clause-stands g c stage =
    let shift = c.args.shift.now in
    let before = take (shift.at - c.args.passed) c.args.rows.now in
    two_calls stage c.args.buckets.now c.feed.new.self c.move_bucket.new.self (Feeds before) (Moves shift.bucket shift.to)
    (λ calls after. subst (λ rows. IsAfter stage (calls ++ Feeds rows ∷ []) c.feed.new.self) c.split_at.ensures.front (c.in_ok-feed.ensures.stands stage calls after))
    (c.in_ok-move_bucket.ensures.stands stage)
