use Rattle.std.proofs.Common.{rules, ◌≡◌, ◌∙◌, ℕ, None, Option, ap, length, sym}
use Rattle.origin_finder.specs.Walking.{chain_from, counting}
use Rattle.origin_finder.proofs.Walking.{below_at, below_less, goes_back, nothing_marked}
use Rattle.origin_finder.proofs.telling.mark_back.Goals as goal

pub loop-at-smaller : goal.loop-at-smaller
loop-at-smaller c = goes_back c.in-Some.place c.loop-at.at c.mark_next-at.result c.in-Some.is c.mark_next-at.ensures.back

pub loop-at-preserved : goal.loop-at-preserved
loop-at-preserved c stage rows h below had =
    let inv = c.loop-at.invariant stage rows h below had in
    let within = below_at c.in-Some.place (length rows) c.loop-at.at c.in-Some.is inv.below in
    let marks = c.mark_next-at.ensures.marks stage rows h within inv.reached in
    record {
      below = below_less c.in-Some.place (length rows) c.mark_next-at.result within c.mark_next-at.ensures.back;
      left = inv.left ∙ (ap (λ (o : Option ℕ). counting (chain_from stage rows c.args.low o) c.loop-at.roles) c.in-Some.is ∙ marks.left);
      reached = marks.stays;
    }

pub returns : goal.returns
returns c stage rows h below had =
    let inv = c.loop-at.invariant stage rows h below had in
    let none : c.loop-at.at ≡ None = search rules in
    record { whole = sym (inv.left ∙ nothing_marked stage rows c.args.low c.loop-at.at c.loop-at.roles none); stays = inv.reached }
