-- Whether a symbol has room, and what is known then.
use Rattle.std.proofs.Common.{ℕ, suc, ◌≡◌, ◌+◌, ◌<◌, ◌||◌, Bool, true, false, not, List, [], ◌∷◌, ◌++◌, length, Some, None, nat_lt, option_map, position, refl, sym, ap, ◌∙◌, arith, if◌then◌else◌}
use Rattle.std.proofs.lemmas.Bool.{false≢true}
use Rattle.std.proofs.lemmas.Bool.Decides.{nat_tests}
use Rattle.std.proofs.lemmas.List.{map_push}
use Rattle.std.specs.List.{list_any, prefix_len}
use Rattle.std.specs.Option.{is_some}
use Rattle.std.specs.Prelude.{Vec}
use Rattle.std.specs.Str.{bytes_eq}
use Rattle.std.specs.declared.alloc.Global.{Global}
use Rattle.trade_text.specs.Symbols.{numbered, numbered_at, texts}

length-texts : (vs : List (Vec ℕ Global)) → length (texts vs) ≡ length vs
length-texts [] = refl
length-texts (v ∷ vs) = ap suc (length-texts vs)

any-texts : (p : List ℕ → Bool) (vs : List (Vec ℕ Global)) → list_any p (texts vs) ≡ list_any (λ v. p v.items) vs
any-texts p [] = refl
any-texts p (v ∷ vs) = ap (λ b. p v.items || b) (any-texts p vs)

stops : {X : Type 0} (p : X → Bool) (xs : List X) → list_any p xs ≡ true → prefix_len (λ x. not (p x)) xs < length xs
stops p [] any = absurd (false≢true any)
stops p (x ∷ xs) any = grind (arith, stops p xs)

runs : {X : Type 0} (p : X → Bool) (xs : List X) → list_any p xs ≡ false → prefix_len (λ x. not (p x)) xs ≡ length xs
runs p [] none = refl
runs p (x ∷ xs) none = grind (arith, runs p xs)

there : {X : Type 0} (p : X → Bool) (xs : List X) → list_any p xs ≡ true → position p xs ≡ Some (prefix_len (λ x. not (p x)) xs)
there p xs any =
    let before = stops p xs any in
    let test : nat_lt (prefix_len (λ x. not (p x)) xs) (length xs) ≡ true = grind (arith, nat_tests) in
    rw test refl

nowhere : {X : Type 0} (p : X → Bool) (xs : List X) → list_any p xs ≡ false → position p xs ≡ None
nowhere p xs none =
    let all = runs p xs none in
    let test : nat_lt (prefix_len (λ x. not (p x)) xs) (length xs) ≡ false = grind (arith, nat_tests) in
    rw test refl

-- a symbol that is known has a number, and nothing becomes known
pub numbered-known : (vs : List (Vec ℕ Global)) (name : List ℕ) → list_any (λ v. bytes_eq name v.items) vs ≡ true
    → (numbered (texts vs) name ≡ Some (prefix_len (λ s. not (bytes_eq name s)) (texts vs) + 1, texts vs))
numbered-known vs name any =
    ap (λ at. numbered_at at (texts vs) name) (there (bytes_eq name) (texts vs) (any-texts (bytes_eq name) vs ∙ any))

-- one that is not known has a number where there is room
pub numbered-unknown : (vs : List (Vec ℕ Global)) (name : List ℕ) → list_any (λ v. bytes_eq name v.items) vs ≡ false
    → numbered (texts vs) name ≡ numbered_at None (texts vs) name
numbered-unknown vs name none =
    ap (λ at. numbered_at at (texts vs) name) (nowhere (bytes_eq name) (texts vs) (any-texts (bytes_eq name) vs ∙ none))

room-at : (known : List (List ℕ)) (name : List ℕ) → is_some (numbered_at None known name) ≡ nat_lt (length known) 4096
room-at known name = go (nat_lt (length known) 4096)
  where
    go : (test : Bool) → is_some {T = ℕ × List (List ℕ)} (if test then Some (length known + 1, known ++ name ∷ []) else None) ≡ test
    go true = refl
    go false = refl

-- there is room for what is known
pub room-known : (vs : List (Vec ℕ Global)) (name : List ℕ) → list_any (λ v. bytes_eq name v.items) vs ≡ true → true ≡ is_some (numbered (texts vs) name)
room-known vs name any = sym (ap is_some (numbered-known vs name any))

-- and for what is not known where few are
pub room-unknown : (vs : List (Vec ℕ Global)) (name : List ℕ) → list_any (λ v. bytes_eq name v.items) vs ≡ false → nat_lt (length vs) 4096 ≡ is_some (numbered (texts vs) name)
room-unknown vs name none =
    ap (λ n. nat_lt n 4096) (sym (length-texts vs)) ∙ sym (room-at (texts vs) name) ∙ sym (ap is_some (numbered-unknown vs name none))

-- what is known already stays
pub learns-known : (vs : List (Vec ℕ Global)) (name : List ℕ) → list_any (λ v. bytes_eq name v.items) vs ≡ true → option_map (λ next. next.1) (numbered (texts vs) name) ≡ Some (texts vs)
learns-known vs name any = ap (option_map (λ next. next.1)) (numbered-known vs name any)

learns-at : (known : List (List ℕ)) (name : List ℕ) (test : Bool) → is_some {T = ℕ × List (List ℕ)} (if test then Some (length known + 1, known ++ name ∷ []) else None) ≡ true
    → option_map {T = ℕ × List (List ℕ)} (λ next. next.1) (if test then Some (length known + 1, known ++ name ∷ []) else None) ≡ Some (known ++ name ∷ [])
learns-at known name true room = refl
learns-at known name false room = absurd (false≢true room)

-- what is not known comes last
pub learns-new : (vs : List (Vec ℕ Global)) (name : List ℕ) (v : Vec ℕ Global) → list_any (λ v. bytes_eq name v.items) vs ≡ false → is_some (numbered (texts vs) name) ≡ true → v.items ≡ name
    → option_map (λ next. next.1) (numbered (texts vs) name) ≡ Some (texts (vs ++ v ∷ []))
learns-new vs name v none room same =
    let at = numbered-unknown vs name none in
    ap (option_map (λ next. next.1)) at
    ∙ learns-at (texts vs) name (nat_lt (length (texts vs)) 4096) (sym (ap is_some at) ∙ room)
    ∙ ap (λ (n : List ℕ). Some (texts vs ++ n ∷ [])) (sym same)
    ∙ ap Some (sym (map_push (λ (v : Vec ℕ Global). v.items) vs v))
