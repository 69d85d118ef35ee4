use Rattle.std.proofs.Common.{rules, ◌≡◌, ◌++◌, ◌∷◌, ◌∙◌, [], List, Bool, ap, get_or, pos, sym}
use Rattle.std.specs.Prelude.{◌==◌}
use Rattle.std.proofs.lemmas.List.{map-append, take_more}
use Rattle.tuple_edge.specs.declared.row.Row.{Row}
use Rattle.reach_finder.specs.Traced.{marks_in, rows_in}
use Rattle.reach_finder.specs.declared.shades.Traced.{Traced}
use Rattle.reach_finder.proofs.Marking.{only_more}
use Rattle.reach_finder.proofs.walk.marked.Goals as goal

abbrev none : Row
none = record { time = pos 0; account = pos 0; symbol = pos 0; qty = pos 0; value = pos 0 }

pub loop-n-preserved : goal.loop-n-preserved
loop-n-preserved c =
    let inv = c.loop-n.invariant in
    let n = c.loop-n.n in
    let rows = c.args.rows.now in
    let had = c.loop-n.xs.items in
    let x : Traced = record { row = get_or rows n none; reached = n == c.args.place } in
    let pushed : c.push.new.self.items ≡ had ++ x ∷ [] = search rules in
    record {
      rows = ap rows_in pushed ∙ (map-append (λ (y : Traced). y.row) had (x ∷ []) ∙ (ap (λ (rs : List Row). rs ++ x.row ∷ []) inv.rows ∙ sym (take_more rows n none c.loop-n-test.true)));
      marks = ap marks_in pushed ∙ (map-append (λ (y : Traced). y.reached) had (x ∷ []) ∙ (ap (λ (bs : List Bool). bs ++ x.reached ∷ []) inv.marks ∙ sym (only_more c.args.place n)));
    }
