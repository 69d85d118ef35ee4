-- The keys that partitions keep, bucket by bucket.
use Rattle.std.proofs.Common.{ℕ, ◌≡◌, ◌+◌, suc, Bool, true, false, cond, List, length, ap, sym, ◌∙◌, add-one, add-zero, refl, arith}
use Rattle.std.specs.Prelude.{◌==◌}
use Rattle.std.proofs.lemmas.Bool.{eq-eqb, eqb-true}
use Rattle.std.proofs.lemmas.List.FromFn.{sum_by-map-range_with_len_more}
use Rattle.tuple_edge.specs.declared.row.Row.{Row}
use Rattle.op_spec.specs.declared.spec.OpSpec.{OpSpec}
use Rattle.stream_ops.specs.Kept.{keys_after}
use Rattle.bucket_move.specs.BucketsView.{keys_of_first, keys_there, part_of}
use Rattle.bucket_move.specs.Rows.{items_of}

module _ (spec : OpSpec) (table : List ℕ) (part : ℕ) (rows : ℕ → List Row) where
  one_more : (n : ℕ) → keys_of_first spec table part rows (suc n) ≡ keys_of_first spec table part rows n + keys_there spec table part rows n
  one_more n = ap (keys_of_first spec table part rows) (sym (add-one n)) ∙ sum_by-map-range_with_len_more (λ (count : ℕ). count) (keys_there spec table part rows) 0 n n (omega arith)

  not_there : (t : Bool) (count : ℕ) → (t ≡ true → ⊥) → cond t count 0 ≡ 0
  not_there true count away = absurd (away refl)
  not_there false count away = refl

  pub keys_of_first-here : (n : ℕ) → part_of table n ≡ part
      → keys_of_first spec table part rows (suc n) ≡ keys_of_first spec table part rows n + length (keys_after spec (items_of (rows n)))
  keys_of_first-here n at =
      one_more n ∙ ap (λ (t : Bool). keys_of_first spec table part rows n + cond t (length (keys_after spec (items_of (rows n)))) 0) (eq-eqb (part_of table n) part at)

  pub keys_of_first-elsewhere : (n : ℕ) → (part_of table n ≡ part → ⊥) → keys_of_first spec table part rows (suc n) ≡ keys_of_first spec table part rows n
  keys_of_first-elsewhere n away =
      one_more n
      ∙ ap (λ (count : ℕ). keys_of_first spec table part rows n + count)
      (not_there (part_of table n == part) (length (keys_after spec (items_of (rows n)))) (λ same. away (eqb-true (part_of table n) part same)))
      ∙ add-zero (keys_of_first spec table part rows n)
