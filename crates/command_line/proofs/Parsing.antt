-- What a parse of the words says of what they give.
use Rattle.std.proofs.Common.{◌≡◌, ◌∙◌, inl, inr, refl, ap, ap₂, sym, ◌==◌, ◌&&◌, ◌||◌, Bool, List, [], ◌∷◌, Option, Some, None, true, false, fold, map, codes}
use Rattle.std.specs.Prelude.{option_map, option_and_then}
use Rattle.std.specs.List.{before_first, list_all}
use Rattle.std.specs.Option.{option_map_or}
use Rattle.clap.specs.Faults.{default_fault, defaults_fault, entered_fault, fault_of, walk_fault}
use Rattle.clap.specs.Kinds.{HasKind, IsAmong, Kinds, or_else}
use Rattle.clap.specs.Values.{kind_of}
use Rattle.clap.specs.declared.error.Error.{Error}
use Rattle.clap.specs.declared.error.kind.ErrorKind.TheVariants as kind
use Rattle.clap.specs.Simple.{App, entered, matches_of}
use Rattle.clap.proofs.WalkLemmas.{first_value-rows}
use Rattle.clap.specs.Matches.{first_value}
use Rattle.clap.specs.declared.parser.matches.Found.{Found}
use Rattle.clap.specs.Walk.{Row, Rule, first_of, rows_of, has_row, idle, nothing_held, settled, walk, with_default}
use Rattle.command_line.specs.Forms.{Parts, parts_in}
use Rattle.command_line.specs.Syntax.{parts_found, syntax}
use Rattle.command_line.specs.Words.{Kept, Reading, Text, behind_dashes, finish, given, kept_as, is_plain, may_stand, may_stand_behind, next, read, start, value_in, with_option, with_word}
use Rattle.command_line.proofs.Built.{rules, shape}
use Rattle.command_line.proofs.Readings.{faults_from, reads_all, unless_fault, walk_on}
use Rattle.command_line.proofs.Rows.{first_kept, rows}
use Rattle.command_line.proofs.Walks.{held_at, or_none, walk_at}

-- ---- after the walk

no_default : (rs : List Row) (a : Rule) → a.defaults ≡ [] → with_default rs a ≡ rs
no_default rs a none = go (has_row a.id rs) refl
  where
    go : (t : Bool) → has_row a.id rs ≡ t → with_default rs a ≡ rs
    go true e = rw e refl
    go false e = rw (e, none) refl

-- no argument has a default
abbrev HasNone : List Rule → Type 0
HasNone [] = Unit {0}
HasNone (a ∷ xs) = (a.defaults ≡ []) × HasNone xs

no_defaults : (xs : List Rule) (rs : List Row) → HasNone xs → fold with_default rs xs ≡ rs
no_defaults [] rs none = refl
no_defaults (a ∷ xs) rs none = ap (λ (now : List Row). fold with_default now xs) (no_default rs a none.0) ∙ no_defaults xs rs none.1

or_true : (t : Bool) → (t || true) ≡ true
or_true true = refl
or_true false = refl

no_defaults_fault : (xs : List Rule) (rs : List Row) → HasNone xs → defaults_fault rs xs ≡ []
unfolding defaults_fault
no_defaults_fault [] rs none = refl
no_defaults_fault (a ∷ xs) rs none =
    let calm : default_fault rs a ≡ [] = rw (none.0, or_true) refl in
    rw calm (no_defaults_fault xs (with_default rs a) none.1)

rules_have_none : HasNone rules
rules_have_none = (refl, (refl, (refl, (refl, (refl, (refl, (refl, (refl, tt))))))))

no_subcommand : (stop : Option (Text × List Text)) → (entered (record { top = shape; subs = [] }) stop ≡ None) × (entered_fault (record { top = shape; subs = [] }) stop ≡ [])
no_subcommand None = (refl, refl)
no_subcommand (Some p) = (refl, refl)

faults_are : (words : List Text) → fault_of syntax words ≡ faults_from (walk_at (held_at [] None) idle 1) words
faults_are words =
    let stop = (walk rules [] nothing_held words).stopped in
    let none = no_subcommand stop in
    rw (none.0, none.1, no_defaults_fault rules (settled rules (walk rules [] nothing_held words).held).rows rules_have_none)
    (ap (or_else (walk_fault shape [] (walk_at (held_at [] None) idle 1) words)) (or_none _))

matches_are : (words : List Text)
    → matches_of syntax words ≡ (settled rules (walk_on (walk_at (held_at [] None) idle 1) words)).rows
matches_are words = no_defaults rules _ rules_have_none

-- ---- words of which one can't stand anywhere

either : (a b : Bool) → (a || b) ≡ false → (a ≡ false) × (b ≡ false)
either true b e = cc
either false b e = (refl, e)

and_false : (t : Bool) → (t && false) ≡ false
and_false true = refl
and_false false = refl

no_option : (text : Text) → may_stand_behind text ≡ false → (r : Reading) → with_option (before_first (λ b. b == 61) text) (value_in text) r ≡ None
no_option [] e r = refl
no_option (b ∷ text) e r = go (value_in (b ∷ text)) refl e
  where
    go : (value : Option Text) → value_in (b ∷ text) ≡ value → option_map_or is_plain value true ≡ false
        → with_option (before_first (λ x. x == 61) (b ∷ text)) value r ≡ None
    go None v f = cc
    go (Some value) v f = rw (f, and_false) refl

unreadable : (word : Text) → may_stand word ≡ false → (r : Option Reading) → next r word ≡ None
unreadable word e None = refl
unreadable word e (Some r) = by_waiting r.waiting
  where
    behind : (text : Option Text) → option_map_or may_stand_behind text false ≡ false
        → option_and_then (λ (option : Text × Option Text). with_option option.0 option.1 r) (option_map (λ bytes. (before_first (λ b. b == 61) bytes, value_in bytes)) text) ≡ None
    behind None f = refl
    behind (Some text) f = no_option text f r

    by_waiting : (waiting : Option Text) → with_word word waiting r ≡ None
    by_waiting None = rw (either (is_plain word) _ e).0 (behind (behind_dashes word) (either (is_plain word) _ e).1)
    by_waiting (Some name) = rw (either (is_plain word) _ e).0 refl

read_none : (words : List Text) → read None words ≡ None
read_none [] = refl
read_none (word ∷ words) = read_none words

unread : (words : List Text) → list_all may_stand words ≡ false → (r : Option Reading) → read r words ≡ None
unread [] e r = cc
unread (word ∷ words) e r = go (may_stand word) refl e (unread words)
  where
    go : (t : Bool) → may_stand word ≡ t → (t && list_all may_stand words) ≡ false
        → (list_all may_stand words ≡ false → (o : Option Reading) → read o words ≡ None) → read r (word ∷ words) ≡ None
    go true f g rest = rest g (next r word)
    go false f g rest = ap (λ (o : Option Reading). read o words) (unreadable word f r) ∙ read_none words

-- words of which one can't stand anywhere give nothing
pub not_given : (words : List Text) → list_all may_stand words ≡ false → given words ≡ None
not_given words e = ap finish (unread words e (Some start))

-- ---- a parse

parse_is : (words : List Text) → list_all may_stand words ≡ true
    → unless_fault (fault_of syntax words) (matches_of syntax words) ≡ option_map rows (given words)
parse_is words stand =
    ap₂ unless_fault (faults_are words) (matches_are words) ∙ (reads_all words stand).0 [] None 0 tt

-- where it gives matches, they are what is kept
pub given_kept : (words : List Text) (rs : List Row) → list_all may_stand words ≡ true → fault_of syntax words ≡ []
    → rs ≡ matches_of syntax words → (kept : Kept) × (given words ≡ Some kept) × (rs ≡ rows kept)
given_kept words rs stand calm are = go (given words) refl
  where
    parse : unless_fault [] rs ≡ option_map rows (given words)
    parse = ap₂ unless_fault (sym calm) are ∙ parse_is words stand

    go : (o : Option Kept) → given words ≡ o → (kept : Kept) × (given words ≡ Some kept) × (rs ≡ rows kept)
    go None e =
        let bad : ◌≡◌ {A = Option (List Row)} (Some rs) None = parse ∙ rw e refl in
        cc
    go (Some kept) e =
        let same : Some rs ≡ Some (rows kept) = parse ∙ rw e refl in
        (kept, e, cc)

-- where it fails, nothing is given
pub fault_not_given : (words : List Text) (k : _) → list_all may_stand words ≡ true → IsAmong k (fault_of syntax words) → given words ≡ None
fault_not_given words k stand among = go (fault_of syntax words) refl among
  where
    none_of : (o : Option Kept) → given words ≡ o → ◌≡◌ {A = Option (List Row)} None (option_map rows o) → given words ≡ None
    none_of None e f = e
    none_of (Some kept) e f = cc

    go : (kinds : Kinds) → fault_of syntax words ≡ kinds → IsAmong k kinds → given words ≡ None
    go [] e a = absurd a
    go (x ∷ xs) e a = none_of (given words) refl (ap (λ (kinds : Kinds). unless_fault kinds (matches_of syntax words)) (sym e) ∙ parse_is words stand)

-- ---- the same of the code's values

module _ {A B : Type 0} (p : B → Bool) (f : A → B) where
  pub all_mapped : (xs : List A) → list_all p (map f xs) ≡ list_all (λ x. p (f x)) xs
  all_mapped [] = refl
  all_mapped (x ∷ xs) = ap (λ b. p (f x) && b) (all_mapped xs)

-- what the matches hold under a name
found_kept : (f : Found) (kept : Kept) (name : Text) → rows_of f ≡ rows kept → first_value f name ≡ kept_as name kept
found_kept f kept name same = first_value-rows f name ∙ ap (first_of name) same ∙ first_kept name kept

parts_kept : (f : Found) (kept : Kept) → rows_of f ≡ rows kept → parts_found f ≡ parts_in kept
parts_kept f kept same = rw (
  found_kept f kept (codes "first") same,
  found_kept f kept (codes "second") same,
  found_kept f kept (codes "third") same,
  found_kept f kept (codes "cash") same,
  found_kept f kept (codes "script") same,
  found_kept f kept (codes "threads") same,
  found_kept f kept (codes "turns") same,
  found_kept f kept (codes "journal") same,
) refl

-- what a parse that succeeds found
pub parts_given : (app : App) (words : List Text) (f : Found) → app ≡ syntax → list_all may_stand words ≡ true → fault_of app words ≡ [] → rows_of f ≡ matches_of app words
    → Some (parts_found f) ≡ option_map parts_in (given words)
parts_given app words f is stand calm are =
    let got = given_kept words (rows_of f) stand (ap (λ a. fault_of a words) (sym is) ∙ calm) (are ∙ ap (λ a. matches_of a words) is) in
    rw got.1 (ap Some (parts_kept f got.0 got.2))

-- and where it fails for words, they give nothing
pub parts_not_given : (app : App) (words : List Text) (e : Error) → app ≡ syntax → list_all may_stand words ≡ true → HasKind (fault_of app words) e
    → (kind_of e ≡ kind.OutOfMemory → ⊥) → ◌≡◌ {A = Option Parts} None (option_map parts_in (given words))
parts_not_given app words e is stand has other = elim has [
  | inl short ↦ absurd (other short)
  | inr among ↦ rw (fault_not_given words (kind_of e) stand (rw is at among)) refl
]
