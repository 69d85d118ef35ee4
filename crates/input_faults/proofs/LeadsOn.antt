-- Each word that may stand at a place leads on to a whole line.
use Rattle.std.proofs.Common.{ℕ, ◌≡◌, ◌<◌, ◌+◌, ◌==◌, ◌&&◌, Bool, true, false, not, nat_lt, List, [], ◌∷◌, if◌then◌else◌, refl, ap, ◌∙◌, arith}
use Rattle.std.proofs.lemmas.Bool.{false≢true}
use Rattle.std.proofs.lemmas.Bool.Decides.{nat_tests}
use Rattle.std.specs.Prelude.{codes}
use Rattle.std.specs.Fmt.{decimal}
use Rattle.std.specs.Str.{bytes_eq}
use Rattle.text_words.specs.Lines.{Word}
use Rattle.text_words.proofs.NumberWords.{number_of_decimal}
use Rattle.plan_reader.specs.Names.{cut_at, node_named, pair_node_named, place_named}
use Rattle.failure_script.specs.Names.{replica_named}
use Rattle.input_faults.specs.Laws.{fits}
use Rattle.input_faults.specs.Numbers.{is_equal}
use Rattle.input_faults.specs.Places.{behind, behind_key, may_set, may_stage, takes}
use Rattle.input_faults.specs.declared.place.Before.{Before}
use Rattle.input_faults.specs.declared.place.Keyed.{Keyed}
use Rattle.input_faults.specs.declared.place.Keyed.TheVariants as keyed
use Rattle.input_faults.specs.declared.place.Place.{Place}
use Rattle.input_faults.specs.declared.place.Place.TheVariants as place
use Rattle.input_faults.proofs.Places.{taken}

-- some words make a whole line from a place on
abbrev Goes : Place → Type 0
Goes at = (words : List Word) × (fits at words ≡ true)

goes_test : Goes place.TestColumn
unfolding fits
goes_test = (codes "time" ∷ codes "<" ∷ codes "0" ∷ [], refl)

goes_key : (k : Keyed) → Goes (place.Key k)
unfolding fits
goes_key keyed.Total = (codes "both" ∷ [], refl)
goes_key keyed.Last = (codes "both" ∷ codes "1" ∷ [], refl)
goes_key keyed.Window = (codes "both" ∷ codes "1" ∷ [], refl)
goes_key keyed.Crossing = (codes "both" ∷ codes "1" ∷ [], refl)
goes_key keyed.Join = (codes "both" ∷ codes "1" ∷ codes "1" ∷ codes "time" ∷ codes "<" ∷ codes "0" ∷ [], refl)

goes_behind_key : (k : Keyed) → Goes (behind_key k)
unfolding fits
goes_behind_key keyed.Total = ([], refl)
goes_behind_key keyed.Last = (codes "1" ∷ [], refl)
goes_behind_key keyed.Window = (codes "1" ∷ [], refl)
goes_behind_key keyed.Crossing = (codes "1" ∷ [], refl)
goes_behind_key keyed.Join = (codes "1" ∷ codes "1" ∷ codes "time" ∷ codes "<" ∷ codes "0" ∷ [], refl)

goes_behind_operator : (keep total last window crossing : Bool) → Goes (if keep then place.TestColumn else if total then place.Key keyed.Total
    else if last then place.Key keyed.Last else if window then place.Key keyed.Window else if crossing then place.Key keyed.Crossing else place.Key keyed.Join)
goes_behind_operator true total last window crossing = goes_test
goes_behind_operator false true last window crossing = goes_key keyed.Total
goes_behind_operator false false true window crossing = goes_key keyed.Last
goes_behind_operator false false false true crossing = goes_key keyed.Window
goes_behind_operator false false false false true = goes_key keyed.Crossing
goes_behind_operator false false false false false = goes_key keyed.Join

goes_parts : Goes place.Parts
unfolding fits
goes_parts = (codes "parts" ∷ codes "1" ∷ codes "by" ∷ codes "time" ∷ codes "total" ∷ codes "both" ∷ [], refl)

goes_number : (number : ℕ) → number < 10 → Goes (place.StageNumber number)
goes_number number small =
    let value = number_of_decimal number (omega (arith, small)) in
    let same : (number == number) ≡ true = grind (arith, nat_tests) in
    (decimal number ∷ goes_parts.0, taken (place.StageNumber number) place.Parts (decimal number) goes_parts.0 (ap (is_equal number) value ∙ same) refl ∙ goes_parts.1)

goes_statement : (before : Before) (mark hold stage : Bool)
    → (if mark then may_set before.mark before else if hold then may_set before.hold before else stage && may_stage before) ≡ true
    → Goes (if mark then place.Mark else if hold then place.Hold else place.StageNumber (before.stages + 1))
unfolding fits
goes_statement before true hold stage may = (codes "1" ∷ [], refl)
goes_statement before false true stage may = (codes "16" ∷ [], refl)
goes_statement before false false false may = absurd (false≢true may)
goes_statement before false false true may = goes_number (before.stages + 1) (few (nat_lt before.stages 6) refl may)
  where
    few : (room : Bool) → nat_lt before.stages 6 ≡ room → (room && not before.joins) ≡ true → before.stages + 1 < 10
    few true is yes_may = grind (arith, nat_tests, is)
    few false is yes_may = absurd (false≢true yes_may)

pub leads_on : (at : Place) (word : Word) → takes at word ≡ true → Goes (behind at word)
unfolding fits replica_named node_named pair_node_named cut_at place_named
leads_on place.Flux word may = (codes "1" ∷ [], refl)
leads_on place.Version word may = ([], refl)
leads_on (place.Statement before) word may = goes_statement before (bytes_eq word (codes "mark")) (bytes_eq word (codes "hold")) (bytes_eq word (codes "stage")) may
leads_on place.Mark word may = ([], refl)
leads_on place.Hold word may = ([], refl)
leads_on (place.StageNumber number) word may = goes_parts
leads_on place.Parts word may = (codes "1" ∷ codes "by" ∷ codes "time" ∷ codes "total" ∷ codes "both" ∷ [], refl)
leads_on place.PartCount word may = (codes "by" ∷ codes "time" ∷ codes "total" ∷ codes "both" ∷ [], refl)
leads_on place.By word may = (codes "time" ∷ codes "total" ∷ codes "both" ∷ [], refl)
leads_on place.Routing word may = (codes "total" ∷ codes "both" ∷ [], refl)
leads_on place.Operator word may =
    goes_behind_operator (bytes_eq word (codes "keep")) (bytes_eq word (codes "total")) (bytes_eq word (codes "last")) (bytes_eq word (codes "window")) (bytes_eq word (codes "crossing"))
leads_on (place.Key k) word may = goes_behind_key k
leads_on place.Rows word may = ([], refl)
leads_on place.Width word may = ([], refl)
leads_on place.Limit word may = ([], refl)
leads_on place.JoinWidth word may = (codes "1" ∷ codes "time" ∷ codes "<" ∷ codes "0" ∷ [], refl)
leads_on place.JoinRows word may = goes_test
leads_on place.TestColumn word may = (codes "<" ∷ codes "0" ∷ [], refl)
leads_on place.Comparison word may = (codes "0" ∷ [], refl)
leads_on place.TestNumber word may = ([], refl)
leads_on place.Event word may = (codes "1.0.a" ∷ codes "at" ∷ codes "1" ∷ codes "back" ∷ codes "1" ∷ [], refl)
leads_on place.Replica word may = (codes "at" ∷ codes "1" ∷ codes "back" ∷ codes "1" ∷ [], refl)
leads_on place.OtherReplica word may = absurd (false≢true may)
leads_on place.At word may = (codes "1" ∷ codes "back" ∷ codes "1" ∷ [], refl)
leads_on place.Items word may = (codes "back" ∷ codes "1" ∷ [], refl)
leads_on place.Back word may = (codes "1" ∷ [], refl)
leads_on place.Return word may = ([], refl)
leads_on place.End word may = absurd (false≢true may)
