-- What a read of a header gives.
use Rattle.std.proofs.Common.{ℕ, ◌≡◌, Bool, true, false, List, [], Option, Some, None, refl, sym, ◌∙◌}
use Rattle.std.proofs.lemmas.Bool.{false≢true}
use Rattle.std.specs.Borrow.{Bor}
use Rattle.csv.specs.Machine.{Read}
use Rattle.csv.specs.declared.reader.Reader.{Reader}
use Rattle.trade_text.specs.Records.{TakesNext}
use Rattle.input_faults.specs.Records.{fields_read}

pub took_fields : (read : Option Read) (found : Bool) (fields : List (List ℕ)) (reader : Reader (Bor (List ℕ))) → TakesNext read found fields reader → found ≡ true → fields ≡ fields_read read
took_fields None found fields reader took is = absurd (false≢true (sym took ∙ is))
took_fields (Some next) found fields reader took is = took.1

pub took_none : (read : Option Read) (found : Bool) (fields : List (List ℕ)) (reader : Reader (Bor (List ℕ))) → TakesNext read found fields reader → found ≡ false → [] ≡ fields_read read
took_none None found fields reader took is = refl
took_none (Some next) found fields reader took is = absurd (false≢true (sym is ∙ took.0))
