use Rattle.std.proofs.Common.{arith, ◌≡◌, ◌∙◌, Option, to_z, of_z, w64, ap}
use Rattle.std.proofs.lemmas.Int.{ints}
use Rattle.std.specs.BTreeMap.{insert_entry}
use Rattle.std.specs.Map.{lookup}
use Rattle.keyed_store.specs.Store.{changed}
use Rattle.op_spec.specs.Keys.{is_key, key_cmp}
use Rattle.stream_ops.specs.Steps.{window_with}
use Rattle.stream_ops.specs.declared.window.OpenWindow.{OpenWindow}
use Rattle.stream_ops.proofs.kept.add_to_window.Goals as goal

pub returns-clause-counts : goal.returns-clause-counts
returns-clause-counts c =
    let back : to_z w64 (of_z w64 c.args.width) ≡ c.args.width = omega (arith, ints) in
    let next = rw back at c.at-next.ensures in
    c.in_ok-insert.ensures.inserts
    ∙ ap (λ (w : OpenWindow). changed c.args.windows.now (insert_entry key_cmp c.args.windows.now.kept c.args.key w))
    (c.joining.ensures
    ∙ ap (λ (had : Option OpenWindow). window_with had c.at-next.result c.args.row.now) (c.copied-had.ensures ∙ c.get.ensures)
    ∙ ap (λ (w : OpenWindow). window_with (lookup (is_key c.args.key) c.args.windows.now.kept) w c.args.row.now) next)
