use Rattle.keyed_store.specs.declared.rows.SidedRow.{SidedRow}
use Rattle.keyed_store.proofs.JoinAfter.{join_result}
use Rattle.keyed_store.proofs.join.JoinState.put.Goals as goal

pub invariant_of-self : goal.invariant_of-self
invariant_of-self c =
    let more : SidedRow = c.row_of_kept.result in
    (join_result _ c.keep_row.result c.self.inside.rows c.self.inside.sides c.keep_row.new.sides c.args.kept.key more.row more.left c.self.invariant.0 c.keep_row.ensures.sorted c.keep_row.ensures.keeps c.keep_row.ensures.err, c.keep_row.ensures.count)
