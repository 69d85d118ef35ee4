-- Symbols and their numbers.
use Rattle.std.proofs.Common.{ℕ, ℤ, suc, pos, ◌≡◌, ◌+◌, ◌<◌, ◌≤◌, Bool, true, false, not, cond, List, [], ◌∷◌, ◌++◌, length, Some, None, nat_lt, Option, option_map, position, slice_get, slice_index_or, unwrap_or, refl, sym, ap, ◌∙◌, arith}
use Rattle.std.proofs.lemmas.Bool.Decides.{nat_tests}
use Rattle.std.proofs.lemmas.List.{map_push}
use Rattle.std.proofs.lemmas.Option.{slice_get-map, slice_get_within, unwrap_or-slice_get}
use Rattle.std.proofs.lemmas.List.Folds.{Any-from_list_any}
use Rattle.std.proofs.lemmas.Slice.Eq.{bytes_eq-Decides}
use Rattle.std.specs.List.{list_any, prefix_len}
use Rattle.std.specs.Prelude.{Vec}
use Rattle.std.specs.Str.{bytes_eq}
use Rattle.std.specs.declared.alloc.Global.{Global}
use Rattle.trade_text.specs.Fields.{is_symbol}
use Rattle.trade_text.specs.Symbols.{AreSymbols, number_in, numbered, numbered_at, symbol_at, texts}

length-texts : (vs : List (Vec ℕ Global)) → length (texts vs) ≡ length vs
length-texts [] = refl
length-texts (v ∷ vs) = ap suc (length-texts vs)

prefix_len-texts : (p : List ℕ → Bool) (vs : List (Vec ℕ Global)) → prefix_len p (texts vs) ≡ prefix_len (λ v. p v.items) vs
prefix_len-texts p [] = refl
prefix_len-texts p (v ∷ vs) = ap (λ n. cond (p v.items) (1 + n) 0) (prefix_len-texts p vs)

position-texts : (p : List ℕ → Bool) (vs : List (Vec ℕ Global)) → position p (texts vs) ≡ position (λ v. p v.items) vs
position-texts p vs = rw (prefix_len-texts (λ s. not (p s)) vs, length-texts vs) refl

-- a new symbol, where no more fit
pub numbered-full : (vs : List (Vec ℕ Global)) (name : List ℕ) → position (λ v. bytes_eq name v.items) vs ≡ None → 4096 ≤ length vs
    → numbered (texts vs) name ≡ None
numbered-full vs name none full =
    let test : nat_lt (length (texts vs)) 4096 ≡ false = rw (length-texts vs) (grind (arith, nat_tests)) in
    ap (λ at. numbered_at at (texts vs) name) (position-texts (bytes_eq name) vs ∙ none) ∙ rw test refl

-- a new one that fits
pub numbered-new : (vs : List (Vec ℕ Global)) (name : List ℕ) (v : Vec ℕ Global) → position (λ v. bytes_eq name v.items) vs ≡ None → length vs < 4096 → v.items ≡ name
    → numbered (texts vs) name ≡ Some (length vs + 1, texts (vs ++ v ∷ []))
numbered-new vs name v none fits same =
    let test : nat_lt (length (texts vs)) 4096 ≡ true = rw (length-texts vs) (grind (arith, nat_tests)) in
    ap (λ at. numbered_at at (texts vs) name) (position-texts (bytes_eq name) vs ∙ none) ∙ rw (test, length-texts vs, map_push (λ (v : Vec ℕ Global). v.items) vs v, same) refl

suc_is : (n : ℕ) → n + 1 ≡ suc n
suc_is n = omega arith

-- the symbol of a number that is known
pub symbol_at-known : (vs : List (Vec ℕ Global)) (number : ℤ) (n : ℕ) (v : Vec ℕ Global) → number ≡ pos (n + 1) → Some v ≡ slice_get vs n
    → symbol_at (texts vs) number ≡ v.items
symbol_at-known vs number n v is found = rw (is, suc_is n, slice_get-map (λ (v : Vec ℕ Global). v.items) vs n, ← found) refl

pub number_in-texts : (vs : List (Vec ℕ Global)) (name : List ℕ) (at : Option ℕ) → position (λ v. bytes_eq name v.items) vs ≡ at
    → number_in (texts vs) name ≡ option_map (λ place. place + 1) at
number_in-texts vs name at is = ap (λ found. option_map (λ place. place + 1) found) (position-texts (bytes_eq name) vs ∙ is)

-- a text that has no number has no place
no_place : (at : Option ℕ) → option_map (λ place. place + 1) at ≡ None → at ≡ None
no_place None e = refl
no_place (Some place) e = cc

pub unknown : (vs : List (Vec ℕ Global)) (name : List ℕ) → number_in (texts vs) name ≡ None → position (λ v. bytes_eq name v.items) vs ≡ None
unknown vs name none = no_place _ (sym (number_in-texts vs name _ refl) ∙ none)

stops : {X : Type 0} (p : X → Bool) (xs : List X) → list_any p xs ≡ true → prefix_len (λ x. not (p x)) xs < length xs
stops p [] any = cc
stops p (x ∷ xs) any = grind (arith, stops p xs)

-- what has no place is not there
pub absent : {X : Type 0} (p : X → Bool) (xs : List X) (there : Bool) → list_any p xs ≡ there → position p xs ≡ None → there ≡ false
absent p xs false is none = refl
absent p xs true is none =
    let before = stops p xs is in
    let test : nat_lt (prefix_len (λ x. not (p x)) xs) (length xs) ≡ true = grind (arith, nat_tests) in
    let some = rw test at none in
    cc

-- what is known is a symbol
pub known_is_symbol : (vs : List (Vec ℕ Global)) (name : List ℕ) → AreSymbols vs → list_any (λ v. bytes_eq name v.items) vs ≡ true → is_symbol name ≡ true
known_is_symbol vs name all any =
    let at = Any-from_list_any (λ v. bytes_eq name v.items) vs any in
    let same : name ≡ at.1.items = (bytes_eq-Decides name at.1.items).0 at.4 in
    let symbol : is_symbol (slice_index_or vs at.0 at.1).items ≡ true = all at.0 at.1 at.2 in
    ap is_symbol same ∙ ap (λ (v : Vec ℕ Global). is_symbol v.items) (sym at.3) ∙ symbol

few_bytes : (name : List ℕ) → is_symbol name ≡ true → length name ≤ 32
few_bytes name symbol = grind (arith, nat_tests)

-- a symbol that is known is short
pub symbol_is_short : (vs : List (Vec ℕ Global)) (n : ℕ) (v : Vec ℕ Global) → AreSymbols vs → Some v ≡ slice_get vs n → length v.items ≤ 32
symbol_is_short vs n v all found =
    let lt = slice_get_within vs n v (sym found) in
    let is : slice_index_or vs n v ≡ v = sym (unwrap_or-slice_get vs n v) ∙ ap (λ at. unwrap_or at v) (sym found) in
    few_bytes v.items (ap (λ (v : Vec ℕ Global). is_symbol v.items) (sym is) ∙ all n v lt)
