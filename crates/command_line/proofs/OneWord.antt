-- The words that may stand somewhere, as `clap` sees them.
use Rattle.std.proofs.Common.{◌≡◌, ◌⊎◌, inl, inr, refl, ℕ, ◌==◌, Bool, [], ◌∷◌, Option, Some, None, true, false}
use Rattle.std.specs.List.{before_first}
use Rattle.std.specs.Option.{option_map_or}
use Rattle.std.specs.Str.{bytes_eq}
use Rattle.clap.specs.Lexer.{long_of, short_of}
use Rattle.command_line.specs.Words.{Text, is_plain, may_stand, option_of, value_in}

-- a plain word
pub record IsPlainWord (word : Text) : Type 0 where
  pub plain : is_plain word ≡ true
  pub no_end : bytes_eq word (45 ∷ 45 ∷ []) ≡ false
  pub no_long : long_of word ≡ None
  pub no_short : short_of word ≡ None

-- an option
pub record IsLongWord (word : Text) : Type 0 where
  pub other : is_plain word ≡ false
  pub no_end : bytes_eq word (45 ∷ 45 ∷ []) ≡ false
  pub name : Text
  pub value : Option Text
  pub long : long_of word ≡ Some (name, value)
  pub read : option_of word ≡ Some (name, value)
  pub value_plain : option_map_or is_plain value true ≡ true

pub word_kind : (word : Text) → may_stand word ≡ true → IsPlainWord word ⊎ IsLongWord word
word_kind [] e = cc
word_kind (a ∷ bytes) e = first (a == 45) refl e
  where
    third : (b c : ℕ) (rest : Text) → (a == 45) ≡ true → (b == 45) ≡ true → may_stand (a ∷ b ∷ c ∷ rest) ≡ true → IsPlainWord (a ∷ b ∷ c ∷ rest) ⊎ IsLongWord (a ∷ b ∷ c ∷ rest)
    third b c rest dash dash2 e = inr (record {
      other = rw dash refl;
      no_end = rw (dash, dash2) refl;
      name = before_first (λ x. x == 61) (c ∷ rest);
      value = value_in (c ∷ rest);
      long = rw (dash, dash2) refl;
      read = rw (dash, dash2) refl;
      value_plain = rw (dash, dash2) at e;
    })

    second : (bytes : Text) → (a == 45) ≡ true → may_stand (a ∷ bytes) ≡ true → IsPlainWord (a ∷ bytes) ⊎ IsLongWord (a ∷ bytes)
    second [] dash e =
        let bad : false ≡ true = rw dash at e in
        cc
    second (b ∷ []) dash e = go (b == 45) refl
      where
        go : (t : Bool) → (b == 45) ≡ t → IsPlainWord (a ∷ b ∷ []) ⊎ IsLongWord (a ∷ b ∷ [])
        go true f =
            let bad : false ≡ true = rw (dash, f) at e in
            cc
        go false f =
            let bad : false ≡ true = rw (dash, f) at e in
            cc
    second (b ∷ c ∷ rest) dash e = go (b == 45) refl
      where
        go : (t : Bool) → (b == 45) ≡ t → IsPlainWord (a ∷ b ∷ c ∷ rest) ⊎ IsLongWord (a ∷ b ∷ c ∷ rest)
        go true f = third b c rest dash f e
        go false f =
            let bad : false ≡ true = rw (dash, f) at e in
            cc

    first : (t : Bool) → (a == 45) ≡ t → may_stand (a ∷ bytes) ≡ true → IsPlainWord (a ∷ bytes) ⊎ IsLongWord (a ∷ bytes)
    first false dash e = inl (record { plain = rw dash refl; no_end = rw dash refl; no_long = rw dash refl; no_short = rw dash refl })
    first true dash e = second bytes dash e
