-- No value that is told has a float.
use Rattle.std.proofs.Common.{◌≡◌, ℕ, List, Option, None, Some, Bool, true, false, refl}
use Rattle.std.specs.Prelude.{◌||◌}
use Rattle.serde_json.specs.Written.{has_float}
use Rattle.run_end.specs.declared.ends.RunEnd.{RunEnd}
use Rattle.run_watch.specs.declared.happening.Told.{Told}
use Rattle.look_json.specs.CheckJson.{check_data, sound_data, warning_in}
use Rattle.look_json.specs.Happenings.{after_of, entries_of, held_of, incarnation_of, partner_of, term_of, told_data}
use Rattle.look_json.specs.Lines.{number_or_null, word_or_null}
use Rattle.look_json.specs.StoryJson.{end_data, lost_pair}

number_has_none : (n : Option ℕ) → has_float (number_or_null n) ≡ false
number_has_none None = refl
number_has_none (Some n) = refl

word_has_none : (w : Option (List ℕ)) → has_float (word_or_null w) ≡ false
word_has_none None = refl
word_has_none (Some w) = refl

pub told_has_none : (t : Told) → has_float (told_data t) ≡ false
told_has_none t =
    let after = number_has_none (after_of t.happening) in
    let entries = number_has_none (entries_of t.happening) in
    let held = number_has_none (held_of t.happening) in
    let incarnation = number_has_none (incarnation_of t.happening) in
    let partner = word_has_none (partner_of t.happening) in
    let term = number_has_none (term_of t.happening) in
    λ j. false || ((after j || (partner j || (term j || false))) || ((entries j || (held j || (incarnation j || false))) || (false || false)))

pub end_has_none : (takeovers rows : ℕ) (end : RunEnd) (all : ℕ) → has_float (end_data takeovers rows end all) ≡ false
end_has_none takeovers rows end all = let pair = word_has_none (lost_pair end) in λ j. (false || (pair j || false)) || (false || (false || false))

sound_has_none : (warning : Option (List ℕ)) (line : List ℕ) → has_float (sound_data warning line) ≡ false
sound_has_none (Some warning) line = refl
sound_has_none None line = refl

pub check_has_none : (faulty : Bool) (line : List ℕ) → has_float (check_data faulty line) ≡ false
check_has_none true line = refl
check_has_none false line = sound_has_none (warning_in line) line
