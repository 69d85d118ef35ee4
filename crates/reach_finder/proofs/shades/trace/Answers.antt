use Rattle.std.proofs.Common.{rules, ◌≡◌, ◌+◌, ◌++◌, ◌∷◌, ◌∙◌, [], ℕ, suc, Bool, List, add-one, ap, append_assoc, drop, get_or, pos, sym}
use Rattle.tuple_edge.specs.declared.row.Row.{Row}
use Rattle.reach_finder.specs.Shades.{traced, traced_by}
use Rattle.reach_finder.specs.declared.shades.Traced.{Traced}
use Rattle.reach_finder.proofs.Tracing.{traced_next}
use Rattle.reach_finder.proofs.shades.trace.Goals as goal

abbrev none : Row
none = record { time = pos 0; account = pos 0; symbol = pos 0; qty = pos 0; value = pos 0 }

pub loop-nth-preserved : goal.loop-nth-preserved
loop-nth-preserved c =
    let op = c.args.op.now in
    let spoke = c.args.spoke in
    let k = c.loop-nth.nth in
    let rows = c.args.rows.now in
    let shades = c.args.shades.now in
    let had = c.loop-nth.out.items in
    let x : Traced = record { row = get_or rows k none; reached = c.is_reached-reached.result } in
    let pushed : c.push.new.self.items ≡ had ++ x ∷ [] = search rules in
    let rest = traced_by op spoke (drop (k + 1) rows) (drop (k + 1) shades) in
    let next : traced_by op spoke (drop k rows) (drop k shades) ≡ x ∷ rest =
    traced_next op spoke rows shades k none c.loop-nth-test.true
    ∙ (ap (λ (b : Bool). traced (get_or rows k none) b ∷ traced_by op spoke (drop (suc k) rows) (drop (suc k) shades)) (sym c.is_reached-reached.ensures)
    ∙ ap (λ (m : ℕ). x ∷ traced_by op spoke (drop m rows) (drop m shades)) (sym (add-one k))) in
    ap (λ (o : List Traced). o ++ rest) pushed ∙ (append_assoc had (x ∷ []) rest ∙ (ap (λ (more : List Traced). had ++ more) (sym next) ∙ c.loop-nth.invariant))
