use Rattle.std.proofs.Common.{rules, ◌≡◌, ◌<◌, ◌+◌, ◌∷◌, ◌++◌, ◌∙◌, [], List, Bool, true, false, ap, append_assoc, arith, cond, drop, get_or, length, pos, refl, sym}
use Rattle.std.specs.Prelude.{slice_index_or}
use Rattle.std.proofs.lemmas.List.{append-nil, drop_all, drop_more}
use Rattle.std.proofs.lemmas.Grind.{common_steps}
use Rattle.tuple_edge.specs.declared.row.Row.{Row}
use Rattle.origin_text.specs.Alone.{marked_from}
use Rattle.origin_text.proofs.alone.marked_rows.Goals as goal

abbrev none : Row
none = record { time = pos 0; account = pos 0; symbol = pos 0; qty = pos 0; value = pos 0 }

one_if : (t : Bool) (x : Row) (rest : List Row) → cond t (x ∷ []) [] ++ rest ≡ cond t (x ∷ rest) rest
one_if true x rest = refl
one_if false x rest = refl

pub loop-place-preserved : goal.loop-place-preserved
loop-place-preserved c =
    let rows = c.args.rows.now in
    let marks = c.args.marks.now in
    let i = c.loop-place.place in
    let r = get_or rows i none in
    let within : i < length rows = omega (arith, c.loop-place-test.true) in
    let t = slice_index_or marks i false in
    let rest = marked_from (i + 1) (drop (i + 1) rows) marks in
    let had = c.loop-place.chosen.items in
    let gave : c.push_if.new.chosen.items ≡ had ++ cond t (r ∷ []) [] = first_of (cc, search rules, grind (arith, common_steps)) in
    ap (λ (xs : List Row). xs ++ rest) gave
    ∙ (append_assoc had (cond t (r ∷ []) []) rest
    ∙ (ap (λ (xs : List Row). had ++ xs) (one_if t r rest)
    ∙ (sym (ap (λ (rs : List Row). had ++ marked_from i rs marks) (drop_more rows i none within)) ∙ c.loop-place.invariant)))

pub returns : goal.returns
returns c =
    let rows = c.args.rows.now in
    let marks = c.args.marks.now in
    let i = c.loop-place.place in
    let had = c.loop-place.chosen.items in
    let all : drop i rows ≡ [] = drop_all i rows (omega (arith, c.loop-place-test.false)) in
    sym (append-nil had) ∙ (ap (λ (rs : List Row). had ++ marked_from i rs marks) (sym all) ∙ c.loop-place.invariant)
