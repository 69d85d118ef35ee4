use Rattle.std.proofs.Common.{ℕ, ◌++◌, ◌∙◌, Option, ap, sym}
use Rattle.tuple_edge.specs.Input.{Input}
use Rattle.origin_text.specs.Files.{FileView, file_of, files_in, input_text, line_in}
use Rattle.text_words.proofs.Pushing.{then}
use Rattle.origin_text.proofs.files.push_there.Goals as goal

pub returns-clause-text : goal.returns-clause-text
returns-clause-text c = then c.push_line.result (λ e.
    let start = c.args.text.now.items in
    let F = files_in c.args.files.now in
    let k = c.args.place in
    let x : Input = c.input-source.result in
    e
    ∙ (ap (λ (file : FileView). start ++ line_in file c.came_before-before.result x.row.time) c.file_of-file.ensures
    ∙ (ap (λ (n : ℕ). start ++ line_in (file_of F x.source) n x.row.time) c.came_before-before.ensures
    ∙ ap (λ (o : Option Input). start ++ input_text F k o) (sym c.input-source.ensures)))) c.push_line.ensures.text
