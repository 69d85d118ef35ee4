use Rattle.std.proofs.Common.{rules, ◌≡◌, ◌<◌, ◌+◌, ◌∷◌, ◌++◌, ◌∙◌, [], List, Bool, true, false, ap, append_assoc, arith, cond, drop, get_or, length, pos, refl, sym}
use Rattle.std.specs.Prelude.{slice_index_or}
use Rattle.std.proofs.lemmas.List.{append-nil, drop_all, drop_more}
use Rattle.std.proofs.lemmas.Grind.{common_steps}
use Rattle.tuple_edge.specs.declared.row.Row.{Row}
use Rattle.origin_text.specs.Told.{told_from}
use Rattle.origin_text.specs.declared.told.ToldRow.{ToldRow}
use Rattle.origin_text.proofs.told.told_rows.Goals as goal

abbrev none : Row
none = record { time = pos 0; account = pos 0; symbol = pos 0; qty = pos 0; value = pos 0 }

one_if : (t : Bool) (x : ToldRow) (rest : List ToldRow) → cond t (x ∷ []) [] ++ rest ≡ cond t (x ∷ rest) rest
one_if true x rest = refl
one_if false x rest = refl

pub loop-place-preserved : goal.loop-place-preserved
loop-place-preserved c =
    let rows = c.args.stage.now.rows in
    let roles = c.args.stage.now.roles in
    let i = c.loop-place.place in
    let r = get_or rows i none in
    let within : i < length rows = omega (arith, c.loop-place-test.true, ap length c.rows-row-items.ensures) in
    let x : ToldRow = record { number = i + 1; row = r; counts = slice_index_or roles.counts i false } in
    let t = slice_index_or roles.rests i false in
    let rest = told_from (i + 1) (drop (i + 1) rows) roles in
    let had = c.loop-place.told.items in
    let gave : c.push_if.new.told.items ≡ had ++ cond t (x ∷ []) [] = first_of (cc, search rules, grind (arith, common_steps)) in
    ap (λ (xs : List ToldRow). xs ++ rest) gave
    ∙ (append_assoc had (cond t (x ∷ []) []) rest
    ∙ (ap (λ (xs : List ToldRow). had ++ xs) (one_if t x rest)
    ∙ (sym (ap (λ (rs : List Row). had ++ told_from i rs roles) (drop_more rows i none within)) ∙ c.loop-place.invariant)))

pub returns : goal.returns
returns c =
    let rows = c.args.stage.now.rows in
    let roles = c.args.stage.now.roles in
    let i = c.loop-place.place in
    let had = c.loop-place.told.items in
    let all : drop i rows ≡ [] = drop_all i rows (omega (arith, c.loop-place-test.false, ap length c.rows-row-items.ensures)) in
    sym (append-nil had) ∙ (ap (λ (rs : List Row). had ++ told_from i rs roles) (sym all) ∙ c.loop-place.invariant)
