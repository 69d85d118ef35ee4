use Rattle.std.proofs.Common.{ℕ, List, sym, subst}
use Rattle.tuple_edge.specs.declared.item.Item.{Item}
use Rattle.catch_up.specs.Fold.{IsRising}
use Rattle.catch_up.proofs.Folds.{rising_kept}
use Rattle.catch_up.proofs.held.Held.insert.Goals as goal
use Rattle.catch_up.proofs.held.Held.insert.Goals.{in-Ok, in-Err}

pub invariant_of-self : goal.invariant_of-self
invariant_of-self c = elim c.match-insert.branch [
  | in-Ok w ↦ subst (λ (es : List (ℕ × Item)). IsRising es) (sym w.in-Ok.ensures.entries) (rising_kept c.args.number c.args.item c.self.inside.items.entries c.self.invariant)
  | in-Err w ↦ subst (λ (es : List (ℕ × Item)). IsRising es) (sym w.in-Err.ensures.err) c.self.invariant
]
