-- Lines that are counted on from where they were counted last.
use Rattle.std.proofs.Common.{ℕ, zero, suc, ◌≡◌, ◌≤◌, ◌<◌, ◌+◌, ◌-◌, ◌∙◌, Bool, true, false, List, [], ◌∷◌, ◌++◌, take, drop, drop-drop, take-add, length, refl, sym, ap, arith}
use Rattle.std.specs.Prelude.{not, ◌&&◌, ◌||◌, ◌==◌, if◌then◌else◌}
use Rattle.std.proofs.lemmas.List.{length-drop, length-take-le}
use Rattle.text_words.specs.Lines.{begins_with_end}
use Rattle.input_faults.specs.RecordLines.{AreCounted, IsBehind}
use Rattle.input_faults.specs.Records.{Left, at_start, behind_record, behind_records, line_behind, lines_ended}
use Rattle.input_faults.proofs.ScanFacts.{behind_records-more, behind_records-none}

unfold_lines : (b : ℕ) (bytes : List ℕ) → lines_ended (b ∷ bytes) ≡ (if (b == 10) || ((b == 13) && not (begins_with_end bytes)) then lines_ended bytes + 1 else lines_ended bytes)
unfolding lines_ended
unfold_lines b bytes = refl

no_lines : lines_ended [] ≡ 0
unfolding lines_ended
no_lines = refl

-- a front begins as the whole does, and where it is empty what follows begins with no end of a line
begins_alike : (a b : List ℕ) → begins_with_end b ≡ false → begins_with_end (a ++ b) ≡ begins_with_end a
begins_alike [] b none = none
begins_alike (x ∷ a) b none = refl

plus_one : (t : Bool) (m n : ℕ) → (if t then (m + n) + 1 else m + n) ≡ (if t then m + 1 else m) + n
plus_one true m n = omega arith
plus_one false m n = refl

-- lines end in two parts as in the whole where no end of a line is cut
pub lines_parted : (a b : List ℕ) → begins_with_end b ≡ false → lines_ended (a ++ b) ≡ lines_ended a + lines_ended b
lines_parted [] b none = let e : lines_ended b ≡ lines_ended [] + lines_ended b = omega (arith, no_lines) in e
lines_parted (x ∷ a) b none =
    unfold_lines x (a ++ b)
    ∙ ap (λ (t : Bool). if (x == 10) || ((x == 13) && not t) then lines_ended (a ++ b) + 1 else lines_ended (a ++ b)) (begins_alike a b none)
    ∙ ap (λ (n : ℕ). if (x == 10) || ((x == 13) && not (begins_with_end a)) then n + 1 else n) (lines_parted a b none)
    ∙ plus_one ((x == 10) || ((x == 13) && not (begins_with_end a))) (lines_ended a) (lines_ended b)
    ∙ sym (ap (λ (n : ℕ). n + lines_ended b) (unfold_lines x a))

-- a front of a text that begins with no end of a line doesn't either
front_begins : (n : ℕ) (xs : List ℕ) → begins_with_end xs ≡ false → begins_with_end (take n xs) ≡ false
front_begins zero xs none = refl
front_begins (suc n) [] none = refl
front_begins (suc n) (x ∷ xs) none = none

-- ---- where a reader stands

-- one record further on
pub behind_next : (text : List ℕ) (number : ℕ) (left next : Left) → next ≡ behind_record left → IsBehind text number left → IsBehind text (number + 1) next
behind_next text number left next is so later at =
    ap (λ (l : Left). behind_records (later - (number + 1)) l) is
    ∙ ap (λ (n : ℕ). behind_records n (behind_record left)) (let e : later - (number + 1) ≡ (later - number) - 1 = omega arith in e)
    ∙ sym (behind_records-more (later - number) left (let l : 0 < later - number = omega (arith, at) in l))
    ∙ so later (omega (arith, at))

-- the text from the record of that number on
pub found_there : (text : List ℕ) (number : ℕ) (left : Left) → IsBehind text number left → left.text ≡ (behind_records (number - 1) (at_start text)).text
found_there text number left so =
    ap (λ (l : Left). l.text) (sym (behind_records-none left) ∙ ap (λ (n : ℕ). behind_records n left) (let e : 0 ≡ number - number = omega arith in e) ∙ so number (omega arith))

-- ---- lines that are counted

-- all anew, up to where so much is left of the text
pub counted_anew : (text front rest : List ℕ) (left line : ℕ) → front ≡ take (length text - left) text → rest ≡ drop (length text - left) text → line ≡ 1 + lines_ended front → line ≤ 1 + length front
    → AreCounted text rest line × (line ≡ line_behind (take (length text - left) text))
counted_anew text front rest left line is_front is_rest is_line few =
    let n = length text - left in
    let size : length rest ≡ length text - n = ap (λ (xs : List ℕ). length xs) is_rest ∙ length-drop n text in
    let same : length text - length rest ≡ n = omega (arith, size) in
    let size_front : length front ≡ n = ap (λ (xs : List ℕ). length xs) is_front ∙ length-take-le n text (omega arith) in
    let says : line ≡ line_behind (take n text) = is_line ∙ ap (λ (xs : List ℕ). 1 + lines_ended xs) is_front ∙ (let e : 1 + lines_ended (take n text) ≡ lines_ended (take n text) + 1 = omega arith in e) in (
      record {
        rest = is_rest ∙ ap (λ (k : ℕ). drop k text) (sym same);
        within = omega (arith, size);
        count = says ∙ ap (λ (k : ℕ). line_behind (take k text)) (sym same);
        room = omega (arith, few, size, size_front);
      },
      says,
    )

-- from where they were counted last
pub counted_on : (text here front rest : List ℕ) (left before_it line : ℕ) → AreCounted text here before_it → left ≤ length here → begins_with_end here ≡ false
    → front ≡ take (length here - left) here → rest ≡ drop (length here - left) here → line ≡ before_it + lines_ended front → line ≤ before_it + length front
    → AreCounted text rest line × (line ≡ line_behind (take (length text - left) text))
counted_on text here front rest left before_it line counted fits none is_front is_rest is_line few =
    let n = length text - length here in
    let k = length here - left in
    let both : n + k ≡ length text - left = omega (arith, fits, counted.within) in
    let whole : take (length text - left) text ≡ take n text ++ front =
    ap (λ (m : ℕ). take m text) (sym both) ∙ take-add n k text ∙ ap (λ (xs : List ℕ). take n text ++ take k xs) (sym counted.rest) ∙ ap (λ (xs : List ℕ). take n text ++ xs) (sym is_front) in
    let size : length rest ≡ left = ap (λ (xs : List ℕ). length xs) is_rest ∙ length-drop k here ∙ (let e : length here - k ≡ left = omega (arith, fits) in e) in
    let size_front : length front ≡ k = ap (λ (xs : List ℕ). length xs) is_front ∙ length-take-le k here (omega arith) in
    let same : length text - length rest ≡ length text - left = ap (λ (m : ℕ). length text - m) size in
    let begins : begins_with_end front ≡ false = ap (λ (xs : List ℕ). begins_with_end xs) is_front ∙ front_begins k here none in
    let says : line ≡ line_behind (take (length text - left) text) =
    is_line ∙ ap (λ (m : ℕ). m + lines_ended front) counted.count
    ∙ (let e : (lines_ended (take n text) + 1) + lines_ended front ≡ (lines_ended (take n text) + lines_ended front) + 1 = omega arith in e)
    ∙ ap (λ (m : ℕ). m + 1) (sym (lines_parted (take n text) front begins))
    ∙ ap (λ (xs : List ℕ). line_behind xs) (sym whole) in (
      record {
        rest = is_rest ∙ ap (λ (xs : List ℕ). drop k xs) counted.rest ∙ drop-drop k n text ∙ ap (λ (m : ℕ). drop m text) (both ∙ sym same);
        within = omega (arith, size, fits, counted.within);
        count = says ∙ ap (λ (m : ℕ). line_behind (take m text)) (sym same);
        room = omega (arith, few, counted.room, size, size_front, fits);
      },
      says,
    )

-- nothing is counted yet
pub counted_none : (text : List ℕ) → AreCounted text text 1
counted_none text =
    let none : 0 ≡ length text - length text = omega arith in
    record {
      rest = ap (λ (n : ℕ). drop n text) none;
      within = omega arith;
      count = (let e : 1 ≡ lines_ended [] + 1 = omega (arith, no_lines) in e) ∙ ap (λ (n : ℕ). line_behind (take n text)) none;
      room = omega arith;
    }
