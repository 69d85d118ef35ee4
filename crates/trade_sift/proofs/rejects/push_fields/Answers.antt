use Rattle.std.proofs.Common.{ℕ, List, ◌<◌, ◌++◌, ◌∷◌, ◌∙◌, [], ap, append_assoc, length, slice_index_or, sym, take}
use Rattle.std.proofs.lemmas.List.{take_more}
use Rattle.csv.specs.Records.{fields_of}
use Rattle.trade_sift.proofs.rejects.push_fields.Goals as goal

pub loop-place-preserved : goal.loop-place-preserved
loop-place-preserved c =
    let l = c.loop-place in
    let fields = fields_of c.args.fields.now in
    let old = fields_of c.args.row.now in
    let within : l.place < length fields = rw c.len-place-end.ensures at c.loop-place-test.true in
    let field = slice_index_or fields l.place [] in
    record {
      fields_are = c.in_ok-push_field_at.ensures.fields ∙ ap (λ (t : List (List ℕ)). t ++ field ∷ []) l.invariant.fields_are ∙ append_assoc old (take l.place fields) (field ∷ [])
          ∙ ap (λ (t : List (List ℕ)). old ++ t) (sym (take_more fields l.place [] within));
      whole = c.in_ok-push_field_at.ensures.whole;
    }
