-- A piece of a text, as a source gives it.
use Rattle.std.proofs.Common.{ℕ, zero, suc, ◌≡◌, ◌+◌, ◌-◌, ◌≤◌, ◌==◌, ◌||◌, Bool, true, false, List, [], ◌∷◌, ◌++◌, length, length-take-le, take, drop, Some, refl, sym, ap, subst, ◌∙◌, arith}
use Rattle.std.proofs.Math.Seq.{take-add, take-append_seam}
use Rattle.std.proofs.lemmas.Bool.{false≢true}
use Rattle.std.proofs.lemmas.Bool.Decides.{nat_tests}
use Rattle.std.proofs.lemmas.List.{drop-drop, take-append-drop}
use Rattle.byte_source.specs.Memory.{MemSourceView, source_told}
use Rattle.byte_source.specs.Told.{Gives, SourceTold, is_none_of}

is_empty : (xs : List ℕ) → length xs ≡ 0 → xs ≡ []
is_empty [] none = refl
is_empty (x ∷ xs) none = absurd (omega (arith, none))

-- a piece has bytes where some were taken
none_first : (count : ℕ) (xs : List ℕ) → count ≤ length xs → is_none_of (take count xs) ≡ (count == 0)
none_first zero xs few = refl
none_first (suc n) [] few = absurd (omega (arith, few))
none_first (suc n) (x ∷ xs) few = sym (some n)
  where
    some : (n : ℕ) → (suc n == 0) ≡ false
    some n = grind (arith, nat_tests)

is_zero : (count : ℕ) (xs : List ℕ) → count ≤ length xs → take count xs ≡ [] → count ≡ 0
is_zero zero xs few none = refl
is_zero (suc n) [] few none = absurd (omega (arith, few))
is_zero (suc n) (x ∷ xs) few none = absurd (cc)

-- the next bytes of a text are given, none of them only where none are left
pub gives_next : (old now : MemSourceView) → old ≡ now → (count : ℕ) (piece : List ℕ) (ended : Bool) → count ≤ length (drop old.at old.text) → piece ≡ take count (drop old.at old.text)
    → (count ≡ 0 → length (drop old.at old.text) ≡ 0) → ended ≡ (old.ended || (count == 0))
    → Gives (source_told now) piece (record { given = take (old.at + count) old.text; left = Some (drop (old.at + count) old.text); ended = ended; faults = old.faults })
gives_next old now same count piece ended few piece_is end ended_is = subst (λ (s : MemSourceView). Gives (source_told s) piece later) same (record {
  given = rw piece_is (take-add old.at count old.text);
  left = sym (rw (left_is, piece_is) (take-append-drop count (drop old.at old.text)));
  end = λ none.
      let zero_is : count ≡ 0 = is_zero count (drop old.at old.text) few (sym piece_is ∙ none) in
      left_is ∙ ap (λ n. drop n (drop old.at old.text)) zero_is ∙ is_empty (drop old.at old.text) (end zero_is);
  ended = ended_is ∙ rw piece_is (ap (λ b. old.ended || b) (sym (none_first count (drop old.at old.text) few)));
  faults = refl;
})
  where
    later : SourceTold
    later = record { given = take (old.at + count) old.text; left = Some (drop (old.at + count) old.text); ended = ended; faults = old.faults }

    left_is : drop (old.at + count) old.text ≡ drop count (drop old.at old.text)
    left_is = sym (drop-drop count old.at old.text)

-- a piece of a text that was copied to the front of a buffer
pub copied : (at count : ℕ) (text copy rest : List ℕ) → copy ≡ take (at + count - at) (drop at text) → count ≤ length (drop at text) → take count (copy ++ rest) ≡ take count (drop at text)
copied at count text copy rest is few =
    let back : at + count - at ≡ count = omega arith in
    let same : copy ≡ take count (drop at text) = is ∙ ap (λ n. take n (drop at text)) back in
    let long : length copy ≡ count = ap length same ∙ length-take-le count (drop at text) few in
    subst (λ n. take n (copy ++ rest) ≡ copy) long (take-append_seam copy rest) ∙ same

-- whether the end was found, before or by this piece
pub still_ended : (was now : Bool) → was ≡ true → was ≡ (was || now)
still_ended true now is = refl
still_ended false now is = absurd (false≢true is)

pub ended_now : (was now : Bool) → was ≡ false → now ≡ (was || now)
ended_now true now is = absurd (false≢true (sym is))
ended_now false now is = refl
