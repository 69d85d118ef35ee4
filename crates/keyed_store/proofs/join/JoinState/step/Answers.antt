use Rattle.std.proofs.Common.{◌≤◌, ◌+◌, length, ap, subst, ℕ}
use Rattle.std.specs.BTreeMap.{is_at}
use Rattle.std.specs.Map.{lookup}
use Rattle.keyed_store.specs.Join.{JoinView, key_cmp}
use Rattle.keyed_store.proofs.JoinAfter.{found_right, join_result}
use Rattle.keyed_store.proofs.LastSides.{length-answered}
use Rattle.keyed_store.proofs.join.JoinState.step.Goals as goal
use Rattle.keyed_store.proofs.join.JoinState.step.Goals.{in-Ok, in-Err}

pub invariant_of-self : goal.invariant_of-self
invariant_of-self c =
    (join_result _ c.keep_row.result c.self.inside.rows c.self.inside.sides c.keep_row.new.sides c.args.key _ c.args.left c.self.invariant.0 c.keep_row.ensures.sorted c.keep_row.ensures.keeps c.keep_row.ensures.err, c.keep_row.ensures.count)

pub returns-clause-few : goal.returns-clause-few
returns-clause-few c =
    let few : length c.add_answers.new.out.items ≤ length c.args.out.now.items + c.self.inside.rows =
    length-answered c.self.inside.rows c.args.left (lookup (is_at (key_cmp c.args.key)) c.self.inside.sides.kept) _ c.args.out.now.items c.add_answers.new.out.items
    (found_right c.self.inside.rows c.args.key c.self.inside.sides.kept c.self.invariant.0.2) c.in_ok-add_answers.ensures.pairs in
    let fits : length c.add_answers.new.out.items ≤ length c.args.out.now.items + c.args.self.now.rows =
    subst (λ (n : ℕ). length c.add_answers.new.out.items ≤ length c.args.out.now.items + n) (ap (λ (s : JoinView). s.rows) c.self.view_is) few in
    elim c.match-keep_row.branch [ in-Ok w ↦ rw (w.result-is, w.out-is) fits | in-Err w ↦ rw w.result-is tt ]
