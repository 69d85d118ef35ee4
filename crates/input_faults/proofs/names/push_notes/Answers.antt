use Rattle.std.proofs.Common.{◌≡◌, ◌+◌, ◌∙◌, ◌++◌, ◌∷◌, [], ℕ, List, ap, count_by, sym, take}
use Rattle.std.specs.List.{flat_map}
use Rattle.std.specs.Prelude.{string_bytes}
use Rattle.std.proofs.lemmas.List.{flat_map_more, take_more}
use Rattle.csv.specs.Records.{fields_of}
use Rattle.trade_text.specs.Columns.{is_column_of}
use Rattle.input_faults.specs.AllFaults.{note_of}
use Rattle.input_faults.proofs.names.push_notes.Goals as goal

pub loop-field-preserved : goal.loop-field-preserved
loop-field-preserved g c =
    let l = c.loop-field in
    let kind = g.F.FileField.kind in
    let f : g.row.F.Denot → List ℕ = λ what. note_of c.args.front.now (kind.name what) (count_by (is_column_of kind what) (fields_of c.args.header.now)) in
    let fields = c.args.fields.now in
    let field = c.field-item.result in
    let step : take (l.field-index + 1) fields ≡ take l.field-index fields ++ field ∷ [] = take_more fields l.field-index field c.loop-field-test.true ∙ ap (λ x. take l.field-index fields ++ x ∷ []) (sym c.field-item.is) in
    c.in_ok-push_field_note.ensures
    ∙ ap (λ (t : List ℕ). t ++ f field) l.invariant
    ∙ flat_map_more f (string_bytes c.args.text.now) (take l.field-index fields) field
    ∙ ap (λ xs. string_bytes c.args.text.now ++ flat_map f xs) (sym step)
