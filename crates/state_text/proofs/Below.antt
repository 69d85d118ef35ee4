-- Texts of the numbers below another, and of the elements of a list.
use Rattle.std.proofs.Common.{◌≡◌, ◌∙◌, ◌<◌, ◌+◌, ℕ, zero, suc, List, [], ◌∷◌, ◌++◌, append_assoc, append-nil, length, refl, slice_index_or, sym, take, ap, arith}
use Rattle.std.specs.List.{flat_map}
use Rattle.state_text.specs.StateText.{lines_below}

pub lines_same : (n : ℕ) (f g : ℕ → List ℕ) → ((q : ℕ) → q < n → f q ≡ g q) → lines_below n f ≡ lines_below n g
lines_same zero f g h = refl
lines_same (suc n) f g h = λ j. lines_same n f g (λ q l. h q (omega (arith, l))) j ++ h n (omega arith) j

pub lines_of : (n m : ℕ) (f g : ℕ → List ℕ) → n ≡ m → ((q : ℕ) → q < n → f q ≡ g q) → lines_below n f ≡ lines_below m g
lines_of n m f g e h = lines_same n f g h ∙ ap (λ k. lines_below k g) e

pub each_same : {X : Type 0} (xs : List X) (f g : X → List ℕ) → ((x : X) → f x ≡ g x) → flat_map f xs ≡ flat_map g xs
each_same [] f g h = refl
each_same (x ∷ xs) f g h = λ j. h x j ++ each_same xs f g h j

pub lines_next : (n : ℕ) (f : ℕ → List ℕ) → lines_below (n + 1) f ≡ lines_below n f ++ f n
lines_next n f = ap (λ k. lines_below k f) {x = n + 1} {y = suc n} (omega arith)

-- ---- pieces put together

pub joined_three : (a l i o : List ℕ) → a ++ l ++ i ++ o ≡ a ++ (l ++ i ++ o)
joined_three a l i o = ap (λ t. t ++ o) (append_assoc a l i) ∙ append_assoc a (l ++ i) o

pub joined_four : (a l i o m : List ℕ) → a ++ l ++ i ++ o ++ m ≡ a ++ (l ++ i ++ o ++ m)
joined_four a l i o m = ap (λ t. t ++ m) (joined_three a l i o) ∙ append_assoc a (l ++ i ++ o) m

-- the line of a row, piece by piece
pub row_joined : (old word comma end time account symbol qty value : List ℕ) → old ++ word ++ (time ++ comma ++ account ++ comma) ++ symbol ++ comma ++ (qty ++ comma ++ value ++ end)
    ≡ old ++ (word ++ (time ++ comma ++ account ++ comma ++ symbol ++ comma ++ qty ++ comma ++ value ++ end))
row_joined old word comma end time account symbol qty value =
    let front = time ++ comma ++ account ++ comma in
    let back : (a : List ℕ) → a ++ (qty ++ comma ++ value ++ end) ≡ a ++ qty ++ comma ++ value ++ end = λ a. sym (joined_four a qty comma value end) in
    ap (λ t. t ++ comma ++ (qty ++ comma ++ value ++ end)) (joined_three old word front symbol)
    ∙ ap (λ t. t ++ (qty ++ comma ++ value ++ end)) (append_assoc old (word ++ front ++ symbol) comma)
    ∙ append_assoc old (word ++ front ++ symbol ++ comma) (qty ++ comma ++ value ++ end)
    ∙ ap (λ t. old ++ t)
    (ap (λ t. t ++ (qty ++ comma ++ value ++ end)) (joined_three word front symbol comma)
    ∙ append_assoc word (front ++ symbol ++ comma) (qty ++ comma ++ value ++ end)
    ∙ ap (λ t. word ++ t) (back (front ++ symbol ++ comma)))

-- ---- element by element

each_taken : {X : Type 0} (f : X → List ℕ) (xs : List X) (i : ℕ) (d : X) → i < length xs → flat_map f (take (suc i) xs) ≡ flat_map f (take i xs) ++ f (slice_index_or xs i d)
each_taken f [] i d l = absurd (omega (arith, l))
each_taken f (x ∷ xs) zero d l = append-nil (f x)
each_taken f (x ∷ xs) (suc i) d l = ap (λ t. f x ++ t) (each_taken f xs i d (omega (arith, l))) ∙ sym (append_assoc (f x) (flat_map f (take i xs)) (f (slice_index_or xs i d)))

-- the text of one more element was added
pub one_element : {X : Type 0} (f : X → List ℕ) (xs : List X) (i : ℕ) (d : X) (old text more : List ℕ) → i < length xs → more ≡ text ++ f (slice_index_or xs i d) → text ≡ old ++ flat_map f (take i xs)
    → more ≡ old ++ flat_map f (take (i + 1) xs)
one_element f xs i d old text more l step so_far =
    step ∙ ap (λ t. t ++ f (slice_index_or xs i d)) so_far ∙ append_assoc old (flat_map f (take i xs)) (f (slice_index_or xs i d))
    ∙ ap (λ t. old ++ t) (sym (each_taken f xs i d l) ∙ ap (λ k. flat_map f (take k xs)) {x = suc i} {y = i + 1} (omega arith))
