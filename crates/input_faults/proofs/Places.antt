-- Each reading of the grammar leads from a place of the table to another one, exactly where the words fit.
use Rattle.std.proofs.Common.{ℕ, ℤ, ◌≡◌, ◌+◌, ◌==◌, ◌&&◌, ◌||◌, Bool, true, false, not, nat_le, nat_lt, List, [], ◌∷◌, length, Option, Some, None, is_some, if◌then◌else◌, refl, sym, ap, ◌∙◌, arith}
use Rattle.std.proofs.lemmas.Bool.Decides.{nat_tests}
use Rattle.std.specs.Prelude.{Result, Ok, Err, codes, is_ok, unsigned_abs}
use Rattle.std.specs.Str.{bytes_eq}
use Rattle.std.specs.List.{list_any}
use Rattle.op_spec.specs.Limits.{max_join_rows, max_last_rows, max_window_seconds}
use Rattle.tuple_edge.specs.Sum.{big}
use Rattle.tuple_edge.specs.declared.row.Column.{Column}
use Rattle.op_spec.specs.declared.spec.By.{By}
use Rattle.op_spec.specs.declared.spec.Compare.{Compare}
use Rattle.op_spec.specs.declared.spec.OpSpec.{OpSpec}
use Rattle.text_words.specs.Lines.{Word}
use Rattle.text_words.specs.Numbers.{number_of, signed_number_of}
use Rattle.text_words.specs.Reading.{◌>>=◌, Read, end_or, fixed_or}
use Rattle.plan_reader.specs.Grammar.{by_at, by_named, column_at, column_named, compare_at, compare_named, comparison_at, key_and_number_at, limit_at, listed, number_at, number_within}
use Rattle.plan_reader.specs.Limits.{max_hold, max_mark, max_parts, max_stages, max_version, min_hold}
use Rattle.plan_reader.specs.Operators.{crossing_at, join_at, keep_at, last_at, op_at, total_at, window_at}
use Rattle.plan_reader.specs.Plan.{Said, hold_at, mark_at, next_stage_at, routing_at, setting_at, stage_at, stage_number_at, statement_at, version_at}
use Rattle.plan_reader.specs.PlanView.{is_joining}
use Rattle.plan_reader.specs.declared.stage.Stage.{Stage}
use Rattle.input_faults.specs.Laws.{before_of, fits, is_end}
use Rattle.input_faults.specs.Numbers.{is_between, is_equal, is_limit, is_number_from, is_small}
use Rattle.input_faults.specs.Places.{behind, behind_key, is_statement, may_set, may_stage, takes}
use Rattle.input_faults.specs.declared.place.Keyed.{Keyed}
use Rattle.input_faults.specs.declared.place.Keyed.TheVariants as keyed
use Rattle.input_faults.specs.declared.place.Place.{Place}
use Rattle.input_faults.specs.declared.place.Place.TheVariants as place

-- a reading that took words has left those that fit from here on exactly where all fit; one that refused them had none that fit
abbrev LeadsOn : {A E : Type 0} → Read A E → Bool → Place → Type 0
LeadsOn (Ok x) fit to = fit ≡ fits to x.1
LeadsOn (Err e) fit to = fit ≡ false

abbrev Leads : {A E : Type 0} → (List Word → Read A E) → Place → Place → Type 0
Leads read from to = (words : List Word) → LeadsOn (read words) (fits from words) to

on-same : {A E : Type 0} (read : Read A E) (fit also : Bool) (to : Place) → fit ≡ also → LeadsOn read also to → LeadsOn read fit to
on-same (Ok x) fit also to same on = same ∙ on
on-same (Err e) fit also to same on = same ∙ on

-- one reading after another
then-on : {A B E : Type 0} (fit : Bool) (to last : Place) (read : Read A E) (next : A × List Word → Read B E)
    → LeadsOn read fit to → ((x : A × List Word) → LeadsOn (next x) (fits to x.1) last) → LeadsOn (read >>= next) fit last
then-on fit to last (Err e) next first later = first
then-on fit to last (Ok x) next first later = on-same (next x) fit (fits to x.1) last first (later x)

-- a line is accepted exactly where what is left of it behind a reading is
then-ok : {A B E : Type 0} (fit : Bool) (to : Place) (read : Read A E) (next : A × List Word → Read B E)
    → LeadsOn read fit to → ((x : A × List Word) → is_ok (next x) ≡ fits to x.1) → is_ok (read >>= next) ≡ fit
then-ok fit to (Err e) next first later = sym first
then-ok fit to (Ok x) next first later = later x ∙ sym first

-- what is made of a value that was read
made-ok : {A B E : Type 0} (read : Read A E) (next : A × List Word → Read B E) → ((x : A × List Word) → is_ok (next x) ≡ true) → is_ok (read >>= next) ≡ is_ok read
made-ok (Ok x) next made = made x
made-ok (Err e) next made = refl

-- ---- a word

pub fits-none : (at : Place) → fits at [] ≡ is_end at
unfolding fits
fits-none at = refl

fits-more : (at : Place) (word : Word) (words : List Word) → fits at (word ∷ words) ≡ (takes at word && fits (behind at word) words)
unfolding fits
fits-more at word words = refl

pub taken : (at to : Place) (word : Word) (words : List Word) → takes at word ≡ true → behind at word ≡ to → fits at (word ∷ words) ≡ fits to words
taken at to word words takes next = fits-more at word words ∙ rw (takes, next) refl

refused : (at : Place) (word : Word) (words : List Word) → takes at word ≡ false → fits at (word ∷ words) ≡ false
refused at word words stops = fits-more at word words ∙ rw stops refl

-- what is asked of a place that one word passes, by a test
record Passes (at to : Place) (test : Word → Bool) : Type 0 where
  goes_on : is_end at ≡ false
  tests : (word : Word) → takes at word ≡ test word
  next : (word : Word) → behind at word ≡ to

fixed-leads : {E : Type 0} (e : E) (text : Word) (at to : Place) → Passes at to (λ word. bytes_eq word text) → Leads (fixed_or e text) at to
unfolding fixed_or
fixed-leads e text at to passes [] = fits-none at ∙ passes.goes_on
fixed-leads e text at to passes (word ∷ words) = go tt (bytes_eq word text) (passes.tests word)
  where
    go : (u : Unit {0}) (same : Bool) → takes at word ≡ same → LeadsOn (if same then Ok (u, words) else Err e) (fits at (word ∷ words)) to
    go u true is = taken at to word words is (passes.next word)
    go u false is = refused at word words is

column-leads : (at to : Place) → Passes at to (λ word. is_some (column_named word)) → Leads column_at at to
unfolding column_at
column-leads at to passes [] = fits-none at ∙ passes.goes_on
column-leads at to passes (word ∷ words) = go (column_named word) (passes.tests word)
  where
    go : (found : Option Column) → takes at word ≡ is_some found → LeadsOn (listed found words) (fits at (word ∷ words)) to
    go None is = refused at word words is
    go (Some x) is = taken at to word words is (passes.next word)

by-leads : (at to : Place) → Passes at to (λ word. is_some (by_named word)) → Leads by_at at to
unfolding by_at
by-leads at to passes [] = fits-none at ∙ passes.goes_on
by-leads at to passes (word ∷ words) = go (by_named word) (passes.tests word)
  where
    go : (found : Option By) → takes at word ≡ is_some found → LeadsOn (listed found words) (fits at (word ∷ words)) to
    go None is = refused at word words is
    go (Some x) is = taken at to word words is (passes.next word)

compare-leads : (at to : Place) → Passes at to (λ word. is_some (compare_named word)) → Leads compare_at at to
unfolding compare_at
compare-leads at to passes [] = fits-none at ∙ passes.goes_on
compare-leads at to passes (word ∷ words) = go (compare_named word) (passes.tests word)
  where
    go : (found : Option Compare) → takes at word ≡ is_some found → LeadsOn (listed found words) (fits at (word ∷ words)) to
    go None is = refused at word words is
    go (Some x) is = taken at to word words is (passes.next word)

-- the value of a number is tested
within-on : {A E : Type 0} (e : E) (x : A) (at to : Place) (word : Word) (words : List Word) (inside : Bool) → behind at word ≡ to → takes at word ≡ inside
    → LeadsOn (if inside then Ok (x, words) else Err e) (fits at (word ∷ words)) to
within-on e x at to word words true next is = taken at to word words is next
within-on e x at to word words false next is = refused at word words is

number-leads : (low high : ℕ) (at to : Place) → Passes at to (is_number_from low high) → Leads (number_within low high) at to
unfolding number_within number_at
number-leads low high at to passes [] = fits-none at ∙ passes.goes_on
number-leads low high at to passes (word ∷ words) = go (number_of word) refl
  where
    inside : (n : ℕ) (yes : Bool) → number_of word ≡ Some n → (nat_le low n && nat_le n high) ≡ yes → takes at word ≡ yes
        → LeadsOn (number_within low high (word ∷ words)) (fits at (word ∷ words)) to
    inside n true value test is = rw (value, test) (taken at to word words is (passes.next word))
    inside n false value test is = rw (value, test) (refused at word words is)

    go : (found : Option ℕ) → number_of word ≡ found → LeadsOn (number_within low high (word ∷ words)) (fits at (word ∷ words)) to
    go None value = rw value (refused at word words (passes.tests word ∙ ap (is_between low high) value))
    go (Some n) value = inside n (nat_le low n && nat_le n high) value refl (passes.tests word ∙ ap (is_between low high) value)

limit-leads : (at to : Place) → Passes at to is_limit → Leads limit_at at to
unfolding limit_at
limit-leads at to passes [] = fits-none at ∙ passes.goes_on
limit-leads at to passes (word ∷ words) = go (signed_number_of word) refl
  where
    inside : (z : ℤ) (yes : Bool) → signed_number_of word ≡ Some z → nat_le (unsigned_abs z) big ≡ yes → takes at word ≡ yes
        → LeadsOn (limit_at (word ∷ words)) (fits at (word ∷ words)) to
    inside z true value test is = rw (value, test) (taken at to word words is (passes.next word))
    inside z false value test is = rw (value, test) (refused at word words is)

    go : (found : Option ℤ) → signed_number_of word ≡ found → LeadsOn (limit_at (word ∷ words)) (fits at (word ∷ words)) to
    go None value = rw value (refused at word words (passes.tests word ∙ ap is_small value))
    go (Some z) value = inside z (nat_le (unsigned_abs z) big) value refl (passes.tests word ∙ ap is_small value)

end-leads : {E : Type 0} (e : E) → Leads (end_or e) place.End place.End
end-leads e [] = refl
end-leads e (word ∷ words) = refused place.End word words refl

-- ---- operators

column_passes : Passes place.TestColumn place.Comparison (λ word. is_some (column_named word))
column_passes = record { goes_on = refl; tests = λ word. refl; next = λ word. refl }

compare_passes : Passes place.Comparison place.TestNumber (λ word. is_some (compare_named word))
compare_passes = record { goes_on = refl; tests = λ word. refl; next = λ word. refl }

limit_passes : Passes place.TestNumber place.End is_limit
limit_passes = record { goes_on = refl; tests = λ word. refl; next = λ word. refl }

key_passes : (k : Keyed) → Passes (place.Key k) (behind_key k) (λ word. is_some (by_named word))
key_passes k = record { goes_on = refl; tests = λ word. refl; next = λ word. refl }

comparison-leads : Leads comparison_at place.TestColumn place.End
unfolding comparison_at
comparison-leads words =
    then-on (fits place.TestColumn words) place.Comparison place.End (column_at words) _ (column-leads place.TestColumn place.Comparison column_passes words)
    (λ column. then-on (fits place.Comparison column.1) place.TestNumber place.End (compare_at column.1) _ (compare-leads place.Comparison place.TestNumber compare_passes column.1)
    (λ compare. then-on (fits place.TestNumber compare.1) place.End place.End (limit_at compare.1) _ (limit-leads place.TestNumber place.End limit_passes compare.1)
    (λ limit. refl)))

keyed-leads : (k : Keyed) (low high : ℕ) (to : Place) → Passes (behind_key k) to (is_number_from low high) → Leads (key_and_number_at low high) (place.Key k) to
unfolding key_and_number_at
keyed-leads k low high to passes words =
    then-on (fits (place.Key k) words) (behind_key k) to (by_at words) _ (by-leads (place.Key k) (behind_key k) (key_passes k) words)
    (λ by. then-on (fits (behind_key k) by.1) to to (number_within low high by.1) _ (number-leads low high (behind_key k) to passes by.1) (λ n. refl))

keep-leads : Leads keep_at place.TestColumn place.End
unfolding keep_at
keep-leads words = then-on (fits place.TestColumn words) place.End place.End (comparison_at words) _ (comparison-leads words) (λ test. refl)

total-leads : Leads total_at (place.Key keyed.Total) place.End
unfolding total_at
total-leads words = then-on (fits (place.Key keyed.Total) words) place.End place.End (by_at words) _ (by-leads (place.Key keyed.Total) place.End (key_passes keyed.Total) words) (λ by. refl)

last-leads : Leads last_at (place.Key keyed.Last) place.End
unfolding last_at
last-leads words =
    then-on (fits (place.Key keyed.Last) words) place.End place.End (key_and_number_at 1 max_last_rows words) _
    (keyed-leads keyed.Last 1 max_last_rows place.End (record { goes_on = refl; tests = λ word. refl; next = λ word. refl }) words) (λ rows. refl)

window-leads : Leads window_at (place.Key keyed.Window) place.End
unfolding window_at
window-leads words =
    then-on (fits (place.Key keyed.Window) words) place.End place.End (key_and_number_at 1 (unsigned_abs max_window_seconds) words) _
    (keyed-leads keyed.Window 1 (unsigned_abs max_window_seconds) place.End (record { goes_on = refl; tests = λ word. refl; next = λ word. refl }) words) (λ width. refl)

crossing-leads : Leads crossing_at (place.Key keyed.Crossing) place.End
unfolding crossing_at
crossing-leads words =
    then-on (fits (place.Key keyed.Crossing) words) place.End place.End (key_and_number_at 0 big words) _
    (keyed-leads keyed.Crossing 0 big place.End (record { goes_on = refl; tests = λ word. refl; next = λ word. refl }) words) (λ limit. refl)

join-leads : Leads join_at (place.Key keyed.Join) place.End
unfolding join_at
join-leads words =
    then-on (fits (place.Key keyed.Join) words) place.JoinRows place.End (key_and_number_at 1 (unsigned_abs max_window_seconds) words) _
    (keyed-leads keyed.Join 1 (unsigned_abs max_window_seconds) place.JoinRows (record { goes_on = refl; tests = λ word. refl; next = λ word. refl }) words)
    (λ width. then-on (fits place.JoinRows width.1) place.TestColumn place.End (number_within 1 max_join_rows width.1) _
    (number-leads 1 max_join_rows place.JoinRows place.TestColumn (record { goes_on = refl; tests = λ word. refl; next = λ word. refl }) width.1)
    (λ rows. then-on (fits place.TestColumn rows.1) place.End place.End (comparison_at rows.1) _ (comparison-leads rows.1) (λ test. refl)))

-- which operator is read, by the tests of its name
op-cases : {E : Type 0} (e : E) (to-keep to-total to-last to-window to-crossing to-join : Read OpSpec E) (keep total last window crossing join : Bool) (ws : List Word) (fit : Bool)
    → LeadsOn to-keep (fits place.TestColumn ws) place.End → LeadsOn to-total (fits (place.Key keyed.Total) ws) place.End → LeadsOn to-last (fits (place.Key keyed.Last) ws) place.End
    → LeadsOn to-window (fits (place.Key keyed.Window) ws) place.End → LeadsOn to-crossing (fits (place.Key keyed.Crossing) ws) place.End → LeadsOn to-join (fits (place.Key keyed.Join) ws) place.End
    → fit ≡ ((keep || total || last || window || crossing || join) && fits (if keep then place.TestColumn else if total then place.Key keyed.Total
    else if last then place.Key keyed.Last else if window then place.Key keyed.Window else if crossing then place.Key keyed.Crossing else place.Key keyed.Join) ws)
    → LeadsOn (if keep then to-keep else if total then to-total else if last then to-last else if window then to-window
    else if crossing then to-crossing else if join then to-join else Err e) fit place.End
op-cases e a b c d f g true total last window crossing join ws fit ha hb hc hd hf hg is = on-same a fit (fits place.TestColumn ws) place.End is ha
op-cases e a b c d f g false true last window crossing join ws fit ha hb hc hd hf hg is = on-same b fit (fits (place.Key keyed.Total) ws) place.End is hb
op-cases e a b c d f g false false true window crossing join ws fit ha hb hc hd hf hg is = on-same c fit (fits (place.Key keyed.Last) ws) place.End is hc
op-cases e a b c d f g false false false true crossing join ws fit ha hb hc hd hf hg is = on-same d fit (fits (place.Key keyed.Window) ws) place.End is hd
op-cases e a b c d f g false false false false true join ws fit ha hb hc hd hf hg is = on-same f fit (fits (place.Key keyed.Crossing) ws) place.End is hf
op-cases e a b c d f g false false false false false true ws fit ha hb hc hd hf hg is = on-same g fit (fits (place.Key keyed.Join) ws) place.End is hg
op-cases e a b c d f g false false false false false false ws fit ha hb hc hd hf hg is = is

op-leads : Leads op_at place.Operator place.End
unfolding op_at
op-leads [] = fits-none place.Operator
op-leads (word ∷ words) =
    op-cases _ (keep_at words) (total_at words) (last_at words) (window_at words) (crossing_at words) (join_at words)
    (bytes_eq word (codes "keep")) (bytes_eq word (codes "total")) (bytes_eq word (codes "last")) (bytes_eq word (codes "window"))
    (bytes_eq word (codes "crossing")) (bytes_eq word (codes "join")) words (fits place.Operator (word ∷ words))
    (keep-leads words) (total-leads words) (last-leads words) (window-leads words) (crossing-leads words) (join-leads words) (fits-more place.Operator word words)

-- ---- lines

routing-leads : Leads routing_at place.Parts place.Operator
unfolding routing_at
routing-leads words =
    then-on (fits place.Parts words) place.PartCount place.Operator (fixed_or _ (codes "parts") words) _
    (fixed-leads _ (codes "parts") place.Parts place.PartCount (record { goes_on = refl; tests = λ word. refl; next = λ word. refl }) words)
    (λ name. then-on (fits place.PartCount name.1) place.By place.Operator (number_within 1 max_parts name.1) _
    (number-leads 1 max_parts place.PartCount place.By (record { goes_on = refl; tests = λ word. refl; next = λ word. refl }) name.1)
    (λ parts. then-on (fits place.By parts.1) place.Routing place.Operator (fixed_or _ (codes "by") parts.1) _
    (fixed-leads _ (codes "by") place.By place.Routing (record { goes_on = refl; tests = λ word. refl; next = λ word. refl }) parts.1)
    (λ by_name. then-on (fits place.Routing by_name.1) place.Operator place.Operator (column_at by_name.1) _
    (column-leads place.Routing place.Operator (record { goes_on = refl; tests = λ word. refl; next = λ word. refl }) by_name.1) (λ by. refl))))

-- the end of a line
end-ok : {A E : Type 0} (e : E) (next : Unit {0} × List Word → Read A E) → ((x : Unit {0} × List Word) → is_ok (next x) ≡ true) → (words : List Word)
    → is_ok (end_or e words >>= next) ≡ fits place.End words
end-ok e next made [] = made (tt, []) ∙ sym (fits-none place.End)
end-ok e next made (word ∷ words) = sym (refused place.End word words refl)

pub version-ok : (words : List Word) → is_ok (version_at words) ≡ fits place.Flux words
unfolding version_at
version-ok words =
    then-ok (fits place.Flux words) place.Version (fixed_or _ (codes "flux") words) _
    (fixed-leads _ (codes "flux") place.Flux place.Version (record { goes_on = refl; tests = λ word. refl; next = λ word. refl }) words)
    (λ name. then-ok (fits place.Version name.1) place.End (number_within 1 max_version name.1) _
    (number-leads 1 max_version place.Version place.End (record { goes_on = refl; tests = λ word. refl; next = λ word. refl }) name.1)
    (λ version. end-ok _ _ (λ end. refl) version.1))

-- ---- the number of a stage, where a stage may follow

-- a fit by its three parts
fit-full : (fit room none rest full : Bool) → fit ≡ ((room && none) && rest) → room ≡ not full → full ≡ true → fit ≡ false
fit-full fit room none rest full is space e = is ∙ rw (space, e) refl

fit-joins : (fit room joins rest : Bool) → fit ≡ ((room && not joins) && rest) → joins ≡ true → fit ≡ false
fit-joins fit true joins rest is e = is ∙ rw e refl
fit-joins fit false joins rest is e = is

fit-rest : (fit room joins rest full : Bool) → fit ≡ ((room && not joins) && rest) → room ≡ not full → full ≡ false → joins ≡ false → fit ≡ rest
fit-rest fit room joins rest full is space e d = is ∙ rw (space, e, d) refl

stage_number-on : (stages : List Stage) (words : List Word) (fit : Bool)
    → fit ≡ ((nat_lt (length stages) max_stages && not (list_any is_joining stages)) && fits (place.StageNumber (length stages + 1)) words)
    → LeadsOn (stage_number_at stages words) fit place.Parts
unfolding stage_number_at number_at
stage_number-on stages words fit is = go (nat_le max_stages (length stages)) (list_any is_joining stages) words refl refl is
  where
    at : Place
    at = place.StageNumber (length stages + 1)

    space : nat_lt (length stages) max_stages ≡ not (nat_le max_stages (length stages))
    space = grind (arith, nat_tests)

    same : (word : Word) (ws : List Word) (n : ℕ) (yes : Bool) → nat_le max_stages (length stages) ≡ false → list_any is_joining stages ≡ false → fit ≡ fits at (word ∷ ws)
        → number_of word ≡ Some n → (n == length stages + 1) ≡ yes → LeadsOn (stage_number_at stages (word ∷ ws)) fit place.Parts
    same word ws n true f j rest value test = rw (f, j, value, test) (rest ∙ taken at place.Parts word ws (ap (is_equal (length stages + 1)) value ∙ test) refl)
    same word ws n false f j rest value test = rw (f, j, value, test) (rest ∙ refused at word ws (ap (is_equal (length stages + 1)) value ∙ test))

    one : (word : Word) (ws : List Word) (found : Option ℕ) → nat_le max_stages (length stages) ≡ false → list_any is_joining stages ≡ false → fit ≡ fits at (word ∷ ws)
        → number_of word ≡ found → LeadsOn (stage_number_at stages (word ∷ ws)) fit place.Parts
    one word ws None f j rest value = rw (f, j, value) (rest ∙ refused at word ws (ap (is_equal (length stages + 1)) value))
    one word ws (Some n) f j rest value = same word ws n (n == length stages + 1) f j rest value refl

    go : (full joins : Bool) (ws : List Word) → nat_le max_stages (length stages) ≡ full → list_any is_joining stages ≡ joins
        → fit ≡ ((nat_lt (length stages) max_stages && not (list_any is_joining stages)) && fits at ws) → LeadsOn (stage_number_at stages ws) fit place.Parts
    go true joins ws f j whole = rw f (fit-full fit _ _ _ _ whole space f)
    go false true ws f j whole = rw (f, j) (fit-joins fit _ _ _ whole j)
    go false false [] f j whole = rw (f, j) (fit-rest fit _ _ _ _ whole space f j ∙ fits-none at)
    go false false (word ∷ ws) f j whole = one word ws (number_of word) f j (fit-rest fit _ _ _ _ whole space f j) refl

stage-ok : (stages : List Stage) (words : List Word) (fit : Bool)
    → fit ≡ ((nat_lt (length stages) max_stages && not (list_any is_joining stages)) && fits (place.StageNumber (length stages + 1)) words)
    → is_ok (stage_at stages words) ≡ fit
unfolding stage_at
stage-ok stages words fit is =
    then-ok fit place.Parts (stage_number_at stages words) _ (stage_number-on stages words fit is)
    (λ number. then-ok (fits place.Parts number.1) place.Operator (routing_at number.1) _ (routing-leads number.1)
    (λ routing. then-ok (fits place.Operator routing.1) place.End (op_at routing.1) _ (op-leads routing.1) (λ op. end-ok _ _ (λ end. refl) op.1)))

-- ---- settings

setting-cases : {A E : Type 0} (e : E) (read : Read A E) (stood later whole fit : Bool) → is_ok read ≡ whole → fit ≡ ((not stood && not later) && whole)
    → is_ok (if stood || later then Err e else read) ≡ fit
setting-cases e read true later whole fit reads is = sym is
setting-cases e read false true whole fit reads is = sym is
setting-cases e read false false whole fit reads is = reads ∙ sym is

setting-ok : (before : Option ℕ) (stages : List Stage) (low high : ℕ) (at : Place) → Passes at place.End (is_number_from low high) → (words : List Word) (fit : Bool)
    → fit ≡ ((not (is_some before) && (length stages == 0)) && fits at words) → is_ok (setting_at before stages low high words) ≡ fit
unfolding setting_at
setting-ok before stages low high at passes words fit is =
    let none : (length stages == 0) ≡ not (nat_lt 0 (length stages)) = grind (arith, nat_tests) in
    setting-cases _ _ (is_some before) (nat_lt 0 (length stages)) (fits at words) fit
    (then-ok (fits at words) place.End (number_within low high words) _ (number-leads low high at place.End passes words) (λ n. end-ok _ _ (λ end. refl) n.1))
    (is ∙ ap (λ t. (not (is_some before) && t) && fits at words) none)

mark-ok : (said : Said) (words : List Word) (fit : Bool) → fit ≡ (may_set (is_some said.mark) (before_of said) && fits place.Mark words)
    → is_ok (mark_at said words) ≡ fit
unfolding mark_at
mark-ok said words fit is =
    made-ok (setting_at said.mark said.stages 1 max_mark words) _ (λ n. refl)
    ∙ setting-ok said.mark said.stages 1 max_mark place.Mark (record { goes_on = refl; tests = λ word. refl; next = λ word. refl }) words fit is

hold-ok : (said : Said) (words : List Word) (fit : Bool) → fit ≡ (may_set (is_some said.hold) (before_of said) && fits place.Hold words)
    → is_ok (hold_at said words) ≡ fit
unfolding hold_at
hold-ok said words fit is =
    made-ok (setting_at said.hold said.stages min_hold max_hold words) _ (λ n. refl)
    ∙ setting-ok said.hold said.stages min_hold max_hold place.Hold (record { goes_on = refl; tests = λ word. refl; next = λ word. refl }) words fit is

next_stage-ok : (said : Said) (words : List Word) (fit : Bool) → fit ≡ (may_stage (before_of said) && fits (place.StageNumber (length said.stages + 1)) words)
    → is_ok (next_stage_at said words) ≡ fit
unfolding next_stage_at
next_stage-ok said words fit is = made-ok (stage_at said.stages words) _ (λ stage. refl) ∙ stage-ok said.stages words fit is

statement-cases : {A E : Type 0} (e : E) (to-mark to-hold to-stage : Result A E) (mark hold stage : Bool) (may-mark may-hold may-stage fit-mark fit-hold fit-stage fit : Bool)
    → ((f : Bool) → f ≡ (may-mark && fit-mark) → is_ok to-mark ≡ f) → ((f : Bool) → f ≡ (may-hold && fit-hold) → is_ok to-hold ≡ f) → ((f : Bool) → f ≡ (may-stage && fit-stage) → is_ok to-stage ≡ f)
    → fit ≡ ((if mark then may-mark else if hold then may-hold else stage && may-stage) && (if mark then fit-mark else if hold then fit-hold else fit-stage))
    → is_ok (if mark then to-mark else if hold then to-hold else if stage then to-stage else Err e) ≡ fit
statement-cases e a b c true hold stage ma mb mc fa fb fc fit ha hb hc is = ha fit is
statement-cases e a b c false true stage ma mb mc fa fb fc fit ha hb hc is = hb fit is
statement-cases e a b c false false true ma mb mc fa fb fc fit ha hb hc is = hc fit is
statement-cases e a b c false false false ma mb mc fa fb fc fit ha hb hc is = sym is

-- the place behind the first word, and what fits from there
fits-choice : (mark hold : Bool) (number : ℕ) (words : List Word)
    → fits (if mark then place.Mark else if hold then place.Hold else place.StageNumber number) words
    ≡ (if mark then fits place.Mark words else if hold then fits place.Hold words else fits (place.StageNumber number) words)
fits-choice true hold number words = refl
fits-choice false true number words = refl
fits-choice false false number words = refl

pub statement-ok : (said : Said) (words : List Word) → is_ok (statement_at said words) ≡ fits (place.Statement (before_of said)) words
unfolding statement_at
statement-ok said [] = sym (fits-none (place.Statement (before_of said)))
statement-ok said (word ∷ words) =
    let mark = bytes_eq word (codes "mark") in
    let hold = bytes_eq word (codes "hold") in
    statement-cases _ (mark_at said words) (hold_at said words) (next_stage_at said words) mark hold (bytes_eq word (codes "stage"))
    (may_set (is_some said.mark) (before_of said)) (may_set (is_some said.hold) (before_of said)) (may_stage (before_of said))
    (fits place.Mark words) (fits place.Hold words) (fits (place.StageNumber (length said.stages + 1)) words)
    (fits (place.Statement (before_of said)) (word ∷ words))
    (mark-ok said words) (hold-ok said words) (next_stage-ok said words)
    (fits-more (place.Statement (before_of said)) word words
    ∙ ap (λ f. is_statement (before_of said) word && f) (fits-choice mark hold (length said.stages + 1) words))
