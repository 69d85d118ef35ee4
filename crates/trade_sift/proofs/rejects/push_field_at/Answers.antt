use Rattle.std.proofs.Common.{ℕ, List, ◌++◌, ◌∷◌, ◌∙◌, [], ap, sym}
use Rattle.csv.specs.Records.{fields_of}
use Rattle.csv.proofs.RecordFacts.{field-get, field-there}
use Rattle.trade_sift.proofs.rejects.push_field_at.Goals as goal

pub returns-in-None-clause-fields : goal.returns-in-None-clause-fields
returns-in-None-clause-fields c = absurd (field-there (fields_of c.args.fields.now) c.args.place c.requires.place (sym c.in-None.ensures.value))

pub returns-in_ok-push_field-in-Some-clause-fields : goal.returns-in_ok-push_field-in-Some-clause-fields
returns-in_ok-push_field-in-Some-clause-fields c =
    let fields = fields_of c.args.fields.now in
    let there = field-get fields c.args.place c.in-Some.field.now (sym c.in-Some.ensures.value) in
    c.in_ok-push_field-in-Some.ensures.fields
    ∙ ap (λ (field : List ℕ). fields_of c.args.row.now ++ field ∷ []) (ap (λ (part : List ℕ). part ++ c.in-Some.field.now) c.requires.whole ∙ sym there)
