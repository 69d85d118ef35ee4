-- Sums with one more row, and the sums of the last rows.
use Rattle.std.proofs.Common.{ℕ, ◌≡◌, ◌-◌, ℤ, pos, List, [], ◌∷◌, ◌++◌, map, fold, length, drop, refl, sym, ap, ◌∙◌, Some, unwrap_or}
use Rattle.std.proofs.lemmas.List.{map-append, drop-map, length-map}
use Rattle.std.proofs.lemmas.List.Sums.{fold-append}
use Rattle.circular_buffer.specs.Buffer.{Buffer, buffer, keep_last}
use Rattle.keyed_store.proofs.LastSides.{keep_last-push}
use Rattle.tuple_edge.specs.Sum.{saturating_sum, total_of}
use Rattle.tuple_edge.specs.declared.row.Row.{Row}
use Rattle.stream_ops.specs.Kept.{last_of_rows, total_of_rows}
use Rattle.stream_ops.specs.Steps.{last_with, no_sums, total_with}
use Rattle.stream_ops.specs.Sums.{amounts, sums_of, sums_with}
use Rattle.stream_ops.specs.declared.sums.Sums.{Sums}

-- a sum with one more row
pub total_of-push : (f : Row → ℤ) (rows : List Row) (r : Row) → total_of (map f (rows ++ r ∷ [])) ≡ saturating_sum (total_of (map f rows)) (f r)
total_of-push f rows r = ap total_of (map-append f rows (r ∷ [])) ∙ fold-append saturating_sum (pos 0) (map f rows) (f r ∷ [])

pub sums_of-with : (rows : List Row) (r : Row) → sums_of (rows ++ r ∷ []) ≡ sums_with (sums_of rows) (amounts r)
sums_of-with rows r = rw (total_of-push (λ r. r.qty) rows r, total_of-push (λ r. r.value) rows r) refl

pub sums_of-push : (rows : List Row) (r : Row) → sums_of (rows ++ r ∷ []) ≡ total_with (total_of_rows rows) r
sums_of-push [] r = refl
sums_of-push (x ∷ rows) r = sums_of-with (x ∷ rows) r

pub total-push : (rows : List Row) (r : Row) → total_of_rows (rows ++ r ∷ []) ≡ Some (total_with (total_of_rows rows) r)
total-push [] r = refl
total-push (x ∷ rows) r = ap Some (sums_of-push (x ∷ rows) r)

-- the sums of what is there, or none
pub sums_had : (rows : List Row) → unwrap_or (total_of_rows rows) no_sums ≡ sums_of rows
sums_had [] = refl
sums_had (x ∷ rows) = refl

pub last_with-push : (n : ℕ) (rows : List Row) (r : Row) → last_with n (last_of_rows n rows) r ≡ buffer (keep_last n (map amounts (rows ++ r ∷ []))) n
last_with-push n [] r = refl
last_with-push n (x ∷ rows) r = ap (λ items. buffer items n)
    (keep_last-push n (map amounts (x ∷ rows)) (amounts r) ∙ ap (keep_last n) (sym (map-append amounts (x ∷ rows) (r ∷ []))))

pub last-push : (n : ℕ) (rows : List Row) (r : Row) → last_of_rows n (rows ++ r ∷ []) ≡ Some (last_with n (last_of_rows n rows) r)
last-push n [] r = refl
last-push n (x ∷ rows) r = ap Some (sym (last_with-push n (x ∷ rows) r))

-- the sums of amounts
pub sums_from : (s : Sums) (rows : List Row) → fold sums_with s (map amounts rows) ≡ record { qty = fold saturating_sum s.qty (map (λ r. r.qty) rows); value = fold saturating_sum s.value (map (λ r. r.value) rows) }
sums_from s [] = refl
sums_from s (r ∷ rows) = sums_from (sums_with s (amounts r)) rows

pub sums_of_last : (n : ℕ) (rows : List Row) (r : Row) → fold sums_with no_sums (last_with n (last_of_rows n rows) r).items ≡ sums_of (keep_last n (rows ++ r ∷ []))
sums_of_last n rows r =
    ap (λ (b : Buffer Sums). fold sums_with no_sums b.items) (last_with-push n rows r)
    ∙ ap (λ m. fold sums_with no_sums (drop (m - n) (map amounts (rows ++ r ∷ [])))) (let e : length (map amounts (rows ++ r ∷ [])) ≡ length (rows ++ r ∷ []) = simp length-map refl in e)
    ∙ ap (fold sums_with no_sums) (drop-map amounts (length (rows ++ r ∷ []) - n) (rows ++ r ∷ []))
    ∙ sums_from no_sums (keep_last n (rows ++ r ∷ []))
