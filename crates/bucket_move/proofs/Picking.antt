-- The answers of the partitions, and their order.
use Rattle.std.proofs.Common.{ℕ, ◌≡◌, suc, cond, List, [], ◌∷◌, ◌++◌, length, refl, sym, ap, ◌∙◌, append_assoc, arith}
use Rattle.std.specs.Prelude.{◌==◌}
use Rattle.std.proofs.lemmas.List.{append-nil}
use Rattle.tuple_edge.specs.declared.row.Row.{Row}
use Rattle.op_spec.specs.declared.spec.OpSpec.{OpSpec}
use Rattle.bucket_move.specs.Working.{first_answer, first_answers, picked}
use Rattle.bucket_move.specs.declared.partition.Place.{Place}

pub first_answers-push : (spec : OpSpec) (before rows : List Row) (r : Row) → first_answers spec before (rows ++ r ∷ []) ≡ first_answers spec before rows ++ first_answer spec (before ++ rows) r ∷ []
unfolding first_answers
first_answers-push spec before [] r = ap (λ (rows : List Row). first_answer spec rows r ∷ []) (sym (append-nil before))
first_answers-push spec before (x ∷ rows) r =
    ap (λ rest. first_answer spec before x ∷ rest)
    (first_answers-push spec (before ++ x ∷ []) rows r
    ∙ ap (λ (had : List Row). first_answers spec (before ++ x ∷ []) rows ++ first_answer spec had r ∷ []) (append_assoc before (x ∷ []) rows))

pub length-first_answers : (spec : OpSpec) (before rows : List Row) → length (first_answers spec before rows) ≡ length rows
unfolding first_answers
length-first_answers spec before [] = refl
length-first_answers spec before (r ∷ rows) = ap suc (length-first_answers spec (before ++ r ∷ []) rows)

pub picked-push : {X : Type 0} (part : ℕ) (places : List Place) (xs : List X) (place : Place) (x : X) → length places ≡ length xs
    → picked part (places ++ place ∷ []) (xs ++ x ∷ []) ≡ picked part places xs ++ cond (place.part == part) (x ∷ []) []
unfolding picked
picked-push part [] [] place x same = append-nil _
picked-push part [] (y ∷ xs) place x same = absurd (omega arith)
picked-push part (q ∷ places) [] place x same = absurd (omega arith)
picked-push {X} part (q ∷ places) (y ∷ xs) place x same =
    let front : List X = cond (q.part == part) (y ∷ []) [] in
    ap (λ rest. front ++ rest) (picked-push part places xs place x (omega arith)) ∙ sym (append_assoc front (picked part places xs) (cond (place.part == part) (x ∷ []) []))
