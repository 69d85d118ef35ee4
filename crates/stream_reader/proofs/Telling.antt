-- One byte more of what a source gave.
use Rattle.std.proofs.Common.{ℕ, ℤ, zero, suc, pos, ◌≡◌, ◌+◌, ◌≤◌, ◌<◌, arith, codes, slice_get, unwrap_or, false, List, [], ◌∷◌, ◌++◌, Option, Some, None, Ok, refl, sym, ap, subst, ◌∙◌, append-nil, append_assoc, length, take, drop}
use Rattle.std.proofs.Math.ListN.{get_or}
use Rattle.std.proofs.Math.Seq.{drop-cons, take-append_seam}
use Rattle.std.proofs.lemmas.List.{get_or-take, length-take-le, take-append-drop}
use mathlib.Core.List.{IsPrefix}
use Rattle.tuple_edge.specs.declared.row.Row.{Row}
use Rattle.trade_stream.specs.Pushed.{HasNoneOpen, IsBetween, IsReady, Standing, TellsLong, TellsOn, standing_after, standing_of, standing_on, stands_behind, told_behind}
use Rattle.trade_stream.proofs.Pushing.{known_told, nothing_left, stands_here}
use Rattle.csv.specs.Reading.{strip_bom}
use Rattle.trade_text.specs.Symbols.{symbol_at}
use Rattle.trade_text.specs.Streams.{IsFaultOf, Told, behind_row, no_more, told_of}
use Rattle.trade_text.specs.declared.error.StreamError.{StreamError}
use Rattle.trade_text.specs.declared.error.StreamError.TheVariants as stream
use Rattle.trade_stream.specs.declared.parsing.Parsing.{Parsing}
use Rattle.stream_reader.specs.Telling.{AreAll, AreFirst, EndedAreTold, Follows, HasTooMany, IsFirstFault, Pushes, StreamView, behind_rows}

-- ---- lists

prefix_self : {A : Type 0} (xs : List A) → IsPrefix xs xs
prefix_self xs = ([], append-nil xs)

prefix_more : {A : Type 0} (xs ys zs : List A) → IsPrefix xs ys → IsPrefix xs (ys ++ zs)
prefix_more xs ys zs first = (first.0 ++ zs, sym (append_assoc xs first.0 zs) ∙ ap (λ l. l ++ zs) first.1)

-- a list with one element more is its front and its rest: the rest is empty, or the front is one of the list
pub data Cut (xs : List ℕ) (last : ℕ) (front : List ℕ) : Type 0 where
  Whole : front ≡ xs ++ last ∷ [] → Cut xs last front
  Before : (between : List ℕ) → xs ≡ front ++ between → Cut xs last front

one_more : (x : ℕ) (xs : List ℕ) (last : ℕ) (front : List ℕ) → Cut xs last front → Cut (x ∷ xs) last (x ∷ front)
one_more x xs last front (Whole is) = Whole (ap (λ l. x ∷ l) is)
one_more x xs last front (Before between is) = Before between (ap (λ l. x ∷ l) is)

cut : (xs : List ℕ) (last : ℕ) (front rest : List ℕ) → xs ++ last ∷ [] ≡ front ++ rest → Cut xs last front
cut xs last [] rest is = Before xs refl
cut [] last (f ∷ []) rest is = let same : last ≡ f = cc in Whole (ap (λ l. l ∷ []) (sym same))
cut [] last (f ∷ g ∷ front) rest is = absurd (cc)
cut (x ∷ xs) last (f ∷ front) rest is =
    let same : x ≡ f = cc in
    let later : xs ++ last ∷ [] ≡ front ++ rest = cc in
    subst (λ f. Cut (x ∷ xs) last (f ∷ front)) same (one_more x xs last front (cut xs last front rest later))

-- ---- what is told

with_none : (rows : List Row) (told : Told) → told.rows ≡ [] → (behind_rows rows told).rows ≡ rows
with_none rows told none = ap (λ more. rows ++ more) none ∙ append-nil rows

with_row : (rows : List Row) (row : Row) (later : Told) → behind_rows rows (behind_row row later) ≡ behind_rows (rows ++ row ∷ []) later
with_row rows row later = ap (λ rows. record later { rows = rows }) (sym (append_assoc rows (row ∷ []) later.rows))

-- a list that comes first of another, by its length
by_length : (xs ys : List Row) → IsPrefix xs ys → take (length xs) ys ≡ xs
by_length xs ys first = ap (take (length xs)) (sym first.1) ∙ take-append_seam xs first.0

longer : (xs old new : List Row) → take (length xs) old ≡ xs → IsPrefix old new → take (length xs) new ≡ xs
longer xs old new first more =
    let rest = drop (length xs) old in
    let all : xs ++ rest ≡ old = ap (λ l. l ++ rest) (sym first) ∙ take-append-drop (length xs) old in
    by_length xs new (rest ++ more.0, sym (append_assoc xs rest more.0) ∙ ap (λ l. l ++ more.0) all ∙ more.1)

-- the end of what was looked at is told, where every record has ended
ended_more : (looked : List ℕ) (byte : ℕ) (old_rows rows : List Row) → EndedAreTold looked old_rows → IsPrefix old_rows rows
    → (HasNoneOpen (looked ++ byte ∷ []) → (told_of (looked ++ byte ∷ [])).rows ≡ rows) → EndedAreTold (looked ++ byte ∷ []) rows
ended_more looked byte old_rows rows ended more whole front rest is none = go (cut looked byte front rest is)
  where
    go : Cut looked byte front → take (length (told_of front).rows) rows ≡ (told_of front).rows
    go (Whole same) =
        let all : (told_of front).rows ≡ rows = ap (λ bytes. (told_of bytes).rows) same ∙ whole (subst HasNoneOpen same none) in
        by_length (told_of front).rows rows ([], append-nil (told_of front).rows ∙ all)
    go (Before between same) = longer (told_of front).rows old_rows rows (ended front between same none) more

module _ (looked : List ℕ) (rows : List Row) (old new : Parsing) (byte : ℕ) (f : Follows looked rows old) where
  told_on : (rest : List ℕ) → told_of ((looked ++ byte ∷ []) ++ rest) ≡ behind_rows rows (told_behind old (byte ∷ rest))
  told_on rest = ap told_of (append_assoc looked (byte ∷ []) rest) ∙ f.told (byte ∷ rest)

  follows : (now : List Row) → IsPrefix rows now → ((rest : List ℕ) → behind_rows rows (told_behind old (byte ∷ rest)) ≡ behind_rows now (told_behind new rest))
      → ((rest : List ℕ) → standing_on old (byte ∷ rest) ≡ standing_on new rest) → (IsBetween (standing_on new []) → (told_behind new []).rows ≡ []) → Follows (looked ++ byte ∷ []) now new
  follows now more tells states none_left =
      let told : (rest : List ℕ) → told_of ((looked ++ byte ∷ []) ++ rest) ≡ behind_rows now (told_behind new rest) = λ rest. told_on rest ∙ tells rest in
      let state : (rest : List ℕ) → standing_after ((looked ++ byte ∷ []) ++ rest) ≡ standing_on new rest =
      λ rest. ap standing_after (append_assoc looked (byte ∷ []) rest) ∙ f.standing (byte ∷ rest) ∙ states rest in
      record {
        told = told;
        standing = state;
        ended = ended_more looked byte rows now f.ended more (λ none.
            let at_end : standing_after (looked ++ byte ∷ []) ≡ standing_on new [] = ap standing_after (sym (append-nil (looked ++ byte ∷ []))) ∙ state [] in
            let nothing = none_left (subst IsBetween at_end none) in
            let all : (told_of (looked ++ byte ∷ [])).rows ≡ now = ap (λ bytes. (told_of bytes).rows) (sym (append-nil (looked ++ byte ∷ []))) ∙ ap (λ (t : Told). t.rows) (told []) ∙ with_none now (told_behind new []) nothing in
            all);
      }

  -- a byte that gave no row
  pub follows_none : ((rest : List ℕ) → told_behind old (byte ∷ rest) ≡ told_behind new rest) → ((rest : List ℕ) → standing_on old (byte ∷ rest) ≡ standing_on new rest)
      → (IsBetween (standing_on new []) → (told_behind new []).rows ≡ []) → Follows (looked ++ byte ∷ []) rows new
  follows_none tells states none_left = follows rows (prefix_self rows) (λ rest. ap (behind_rows rows) (tells rest)) states none_left

  -- a byte that gave one
  pub follows_row : (row : Row) → ((rest : List ℕ) → told_behind old (byte ∷ rest) ≡ behind_row row (told_behind new rest)) → ((rest : List ℕ) → standing_on old (byte ∷ rest) ≡ standing_on new rest)
      → (IsBetween (standing_on new []) → (told_behind new []).rows ≡ []) → Follows (looked ++ byte ∷ []) (rows ++ row ∷ []) new
  follows_row row tells states none_left =
      follows (rows ++ row ∷ []) (row ∷ [], refl) (λ rest. ap (behind_rows rows) (tells rest) ∙ with_row rows row (told_behind new rest)) states none_left

  -- a byte at which a fault is told
  pub fault_first : (e : StreamError) (rest : List ℕ) → IsFaultOf e (told_behind old (byte ∷ rest)) → IsFirstFault e rows (told_of ((looked ++ byte ∷ []) ++ rest))
  fault_first e rest fault = subst (IsFirstFault e rows) (sym (told_on rest)) (go e fault)
    where
      go : (e : StreamError) → IsFaultOf e (told_behind old (byte ∷ rest)) → IsFirstFault e rows (behind_rows rows (told_behind old (byte ∷ rest)))
      go (stream.Refused why) fault = (with_none rows (told_behind old (byte ∷ rest)) fault.0, fault.1)
      go (stream.TooLong rec) fault = ((told_behind old (byte ∷ rest)).rows, refl)
      go stream.Failed fault = ((told_behind old (byte ∷ rest)).rows, refl)
      go stream.OutOfMemory fault = ((told_behind old (byte ∷ rest)).rows, refl)

-- before the first byte no record is open
start_between : IsBetween (standing_after [])
unfolding stands_behind strip_bom
start_between = refl

-- at the start nothing was told
pub follows_start : (parsing : Parsing) → IsReady parsing → ((rest : List ℕ) → told_behind parsing rest ≡ told_of rest) → ((rest : List ℕ) → standing_on parsing rest ≡ standing_after rest) → Follows [] [] parsing
follows_start parsing ready tells states = record {
  told = λ rest. sym (tells rest);
  standing = λ rest. sym (states rest);
  ended = λ front rest is none. go front rest is;
}
  where
    nothing : (told_of []).rows ≡ []
    nothing = ap (λ (t : Told). t.rows) (sym (tells [])) ∙ nothing_left parsing ready (subst IsBetween (sym (states [])) start_between)

    go : (front rest : List ℕ) → [] ≡ front ++ rest → take (length (told_of front).rows) [] ≡ (told_of front).rows
    go [] rest is = by_length (told_of []).rows [] ([], append-nil (told_of []).rows ∙ nothing)
    go (f ∷ front) rest is = absurd (cc)

-- a byte was looked at and gave no row, or one, or an error
module _ (looked : List ℕ) (rows : List Row) (old new : Parsing) (byte : ℕ) (f : Follows looked rows old) (ready : IsReady new) (states : (rest : List ℕ) → standing_on old (byte ∷ rest) ≡ standing_on new rest) where
  pub goes_on : (given : Option Row) → given ≡ None → ((rest : List ℕ) → TellsOn (Ok given) (told_behind old (byte ∷ rest)) (told_behind new rest)) → Follows (looked ++ byte ∷ []) rows new
  goes_on given none tells = follows_none looked rows old new byte f (λ rest. subst (λ given. TellsOn (Ok given) (told_behind old (byte ∷ rest)) (told_behind new rest)) none (tells rest)) states (nothing_left new ready)

  pub goes_on_with : (given : Option Row) (row : Row) → given ≡ Some row → ((rest : List ℕ) → TellsOn (Ok given) (told_behind old (byte ∷ rest)) (told_behind new rest)) → Follows (looked ++ byte ∷ []) (rows ++ row ∷ []) new
  goes_on_with given row some tells =
      follows_row looked rows old new byte f row (λ rest. subst (λ given. TellsOn (Ok given) (told_behind old (byte ∷ rest)) (told_behind new rest)) some (tells rest)) states (nothing_left new ready)

-- a byte that gave no row told nothing
pub nothing_pushed : (old new : StreamView) (given : Option Row) → given ≡ None → Pushes old (Ok given) new → (new.rows ≡ old.rows) × (new.names ≡ old.names) × (new.over ≡ false)
nothing_pushed old new given none pushes = subst (λ given. Pushes old (Ok given) new) none pushes

-- a record that is told as too long
pub long_told : (looked : List ℕ) (rows : List Row) (at : Parsing) (byte : ℕ) (e : StreamError) → Follows looked rows at → IsReady at → TellsLong e at → (number : ℕ) → e ≡ stream.TooLong number
    → HasTooMany (looked ++ byte ∷ []) number
long_told looked rows at byte e f ready long number is =
    let l : TellsLong (stream.TooLong number) at = subst (λ e. TellsLong e at) is long in
    let here : standing_after looked ≡ standing_of at = ap standing_after (sym (append-nil looked)) ∙ f.standing [] ∙ stands_here at ready l.1 in
    (looked, byte, refl, (l.0 ∙ ap (λ (s : Standing). s.number) (sym here), subst (λ n. 16777216 ≤ n) (ap (λ (s : Standing). s.bytes) (sym here)) l.1))

-- a byte that is looked at is the first of those that weren't
pub one_looked : (looked piece : List ℕ) (at filled byte : ℕ) → at < filled → filled ≤ length piece → byte ≡ get_or piece at byte → (looked ++ byte ∷ []) ++ drop (at + 1) (take filled piece) ≡ looked ++ drop at (take filled piece)
one_looked looked piece at filled byte within few is =
    let some : at < length (take filled piece) = omega (arith, length-take-le filled piece few, within) in
    let first : byte ≡ get_or (take filled piece) at byte = is ∙ sym (get_or-take filled piece at byte within) in
    let next : at + 1 ≡ suc at = omega arith in
    append_assoc looked (byte ∷ []) (drop (at + 1) (take filled piece))
    ∙ ap (λ l. looked ++ l) (ap (λ n. byte ∷ drop n (take filled piece)) next ∙ ap (λ b. b ∷ drop (suc at) (take filled piece)) first ∙ sym (drop-cons (take filled piece) at byte some))

-- the name of the next number
pub name_next : (names : List (List ℕ)) (known : ℕ) (number : ℤ) → number ≡ pos (known + 1) → known < length names → symbol_at names number ∷ [] ≡ take 1 (drop known names)
name_next names known number is few = let next : known + 1 ≡ suc known = omega arith in rw (is, next) (go names known few)
  where
    go : (names : List (List ℕ)) (known : ℕ) → known < length names → unwrap_or (slice_get names known) (codes "-") ∷ [] ≡ take 1 (drop known names)
    go [] known few = absurd (omega (arith, few))
    go (n ∷ names) zero few = refl
    go (n ∷ names) (suc k) few = go names k (omega (arith, few))

module _ (looked : List ℕ) (rows : List Row) (at : Parsing) (f : Follows looked rows at) where
  told_here : told_of looked ≡ behind_rows rows (told_behind at [])
  told_here = ap told_of (sym (append-nil looked)) ∙ f.told []

  -- what was told comes first
  pub first_told : (known : (rest : List ℕ) → IsPrefix at.form.symbols (told_behind at rest).symbols) → AreFirst looked rows at.form.symbols
  first_told known rest = (
    subst (λ (t : Told). IsPrefix rows t.rows) (sym (f.told rest)) ((told_behind at rest).rows, refl),
    subst (λ (t : Told). IsPrefix at.form.symbols t.symbols) (sym (f.told rest)) (known rest),
  )

  -- the end, at which nothing is told
  pub all_told : (symbols : List (List ℕ)) → told_behind at [] ≡ no_more None symbols → AreAll looked rows symbols
  all_told symbols none = told_here ∙ ap (behind_rows rows) none ∙ ap (λ rows. record { rows = rows; fault = None; symbols = symbols }) (append-nil rows)

  -- and at which a row is
  pub all_with_row : (row : Row) (symbols : List (List ℕ)) → told_behind at [] ≡ behind_row row (no_more None symbols) → AreAll looked (rows ++ row ∷ []) symbols
  all_with_row row symbols last = told_here ∙ ap (behind_rows rows) last

  pub fault_last : (e : StreamError) → IsFaultOf e (told_behind at []) → IsFirstFault e rows (told_of looked)
  fault_last e fault = subst (IsFirstFault e rows) (sym told_here) (go e fault)
    where
      go : (e : StreamError) → IsFaultOf e (told_behind at []) → IsFirstFault e rows (behind_rows rows (told_behind at []))
      go (stream.Refused why) fault = (with_none rows (told_behind at []) fault.0, fault.1)
      go (stream.TooLong rec) fault = ((told_behind at []).rows, refl)
      go stream.Failed fault = ((told_behind at []).rows, refl)
      go stream.OutOfMemory fault = ((told_behind at []).rows, refl)

-- what was told comes first, whatever is behind it
pub comes_first : (looked : List ℕ) (rows : List Row) (at : Parsing) → Follows looked rows at → IsReady at → AreFirst looked rows at.form.symbols
comes_first looked rows at f ready = first_told looked rows at f (known_told at ready)
