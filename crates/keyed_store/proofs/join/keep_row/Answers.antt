use Rattle.std.proofs.Common.{◌∙◌, ◌+◌, ℕ, Bool, cond, length, ap, sym}
use Rattle.keyed_store.specs.Join.{all_told}
use Rattle.keyed_store.specs.Store.{StoreView}
use Rattle.keyed_store.specs.declared.rows.JoinKey.{JoinKey}
use Rattle.keyed_store.specs.declared.rows.Sides.{Sides}
use Rattle.keyed_store.proofs.Counting.{kept_count}
use Rattle.keyed_store.proofs.join.keep_row.Goals as goal

pub returns-clause-count : goal.returns-clause-count
returns-clause-count c =
    c.in_ok-longer.ensures
    ∙ ap (λ (n : ℕ). n + cond c.has_room.result 1 0) c.requires.count
    ∙ ap (λ (t : Bool). length (all_told c.args.sides.now.kept) + cond t 1 0) c.has_room.ensures
    ∙ sym (kept_count c.args.rows.now c.args.sides.now c.args.key c.args.more c.requires.join)
    ∙ ap (λ (s : StoreView JoinKey Sides). length (all_told s.kept)) (sym c.in_ok-put_row.ensures.keeps)
