-- Where files tell what they hold, words come to one end: a text, a run or a refusal.
use Rattle.std.proofs.Common.{ℕ, ◌≡◌, List, [], ◌∷◌, refl, sym, ◌∙◌, subst, Some, None, Option, ⊎_elim}
use Rattle.pair_machine.specs.Numbers.{Partition}
use Rattle.command_course.specs.Course.{Course, Leads, Reads, Refuses, Runs, Writes}
use Rattle.flux_outside.specs.Outside.{Call, Names}
use Rattle.flux_outside.specs.Told.{FilesTold}
use Rattle.run_command.specs.Endings.{Ending}
use Rattle.flux_top.specs.Clauses.{Accepts, ComesTo, ComesToRefusal, LeadsTo, Rejects}
use Rattle.flux_top.specs.Ends.{Ends, EndsOrLoses, IsAtEnd, Loses, LosesNone}
use Rattle.flux_top.specs.Outcome.{asked}
use Rattle.flux_top.specs.Programs.{Finishes}

-- a course that reads no further input
abbrev IsOver : Course → Type 0
IsOver (Reads name most next) = ⊥
IsOver (Writes text) = Unit {0}
IsOver (Runs run) = Unit {0}
IsOver (Refuses line) = Unit {0}

same_value : {A : Type 0} {x y : A} → Some x ≡ Some y → x ≡ y
same_value e = cc

-- a course has one end
one_end : (named : Names) (course : Course) (xs ys : List Call) (x y : Course) → IsOver x → IsOver y → Leads (Some named) course xs x → Leads (Some named) course ys y → x ≡ y
one_end named course [] [] x y end_x end_y to_x to_y = sym to_x ∙ to_y
one_end named (Reads name most next) [] (call ∷ ys) x y end_x end_y to_x to_y = absurd (subst IsOver (sym to_x) end_x)
one_end named (Reads name most next) (call ∷ xs) [] x y end_x end_y to_x to_y = absurd (subst IsOver (sym to_y) end_y)
one_end named (Reads name most next) (call ∷ xs) (other ∷ ys) x y end_x end_y to_x to_y =
    one_end named (next to_x.1.0) xs ys x y end_x end_y to_x.1.2 (subst (λ bytes. Leads (Some named) (next bytes) ys y) (same_value (sym to_y.1.1 ∙ to_x.1.1)) to_y.1.2)
one_end named (Writes text) [] (call ∷ ys) x y end_x end_y to_x to_y = absurd to_y
one_end named (Writes text) (call ∷ xs) ys x y end_x end_y to_x to_y = absurd to_x
one_end named (Runs run) [] (call ∷ ys) x y end_x end_y to_x to_y = absurd to_y
one_end named (Runs run) (call ∷ xs) ys x y end_x end_y to_x to_y = absurd to_x
one_end named (Refuses line) [] (call ∷ ys) x y end_x end_y to_x to_y = absurd to_y
one_end named (Refuses line) (call ∷ xs) ys x y end_x end_y to_x to_y = absurd to_x

-- words come to one end
one_end_to : (named : Names) (words : List (List ℕ)) (x y : Course) → IsOver x → IsOver y → LeadsTo named words x → LeadsTo named words y → x ≡ y
one_end_to named words x y end_x end_y to_x to_y =
    let same : to_x.course ≡ to_y.course = same_value (sym to_x.is_asked ∙ to_y.is_asked) in
    one_end named to_y.course to_x.fact.0 to_y.fact.0 x y end_x end_y
    (subst (λ course. Leads (Some named) course to_x.fact.0 x) same to_x.fact.1) to_y.fact.1

end_over : (there : Course) → IsAtEnd there → IsOver there
end_over (Reads name most next) at = at
end_over (Writes text) at = tt
end_over (Runs run) at = tt
end_over (Refuses line) at = tt

pub sure_at_end : (there : Course) → LosesNone there → IsAtEnd there
sure_at_end (Reads name most next) sure = sure
sure_at_end (Writes text) sure = tt
sure_at_end (Runs run) sure = tt
sure_at_end (Refuses line) sure = sure

-- an end with no loss, or with one, is no refusal
pub ends_at_end : (there : Course) (ending : Ending) → Ends there ending → IsAtEnd there
ends_at_end (Reads name most next) ending ends = ends
ends_at_end (Writes text) ending ends = tt
ends_at_end (Runs run) ending ends = tt
ends_at_end (Refuses line) ending ends = ends

pub loses_at_end : (pair : Partition) (there : Course) (ending : Ending) → Loses pair there ending → IsAtEnd there
loses_at_end pair (Reads name most next) ending loses = loses
loses_at_end pair (Writes text) ending loses = absurd loses
loses_at_end pair (Runs run) ending loses = tt
loses_at_end pair (Refuses line) ending loses = loses

pub either_at_end : (there : Course) (ending : Ending) → EndsOrLoses there ending → IsAtEnd there
either_at_end there ending either = ⊎_elim (λ ends. ends_at_end there ending ends) (λ loses. loses_at_end loses.0 there ending loses.1) either

not_refused : (line : List ℕ) (there : Course) → IsAtEnd there → there ≡ Refuses line → ⊥
not_refused line there at is = subst IsAtEnd is at

-- what named files tell leads words to a refusal, or to an end
refusal_is_led : (told : Option Names) (words : List (List ℕ)) (named : Names) (course : Course) (calls : List Call) (line : List ℕ) → told ≡ Some named → asked words ≡ Some course
    → Leads told course calls (Refuses line) → LeadsTo named words (Refuses line)
refusal_is_led told words named course calls line is asks leads =
    record { course = course; is_asked = asks; fact = (calls, subst (λ t. Leads t course calls (Refuses line)) is leads) }

end_is_led : (told : Option Names) (words : List (List ℕ)) (named : Names) (course there : Course) (calls : List Call) → told ≡ Some named → asked words ≡ Some course
    → Leads told course calls there → LeadsTo named words there
end_is_led told words named course there calls is asks leads =
    record { course = course; is_asked = asks; fact = (calls, subst (λ t. Leads t course calls there) is leads) }

-- What is accepted is accepted of named files, and so is what is rejected.
pub record AcceptedOf (told : Option Names) (words : List (List ℕ)) (kind : Course → Type 0) : Type 0 where
  pub named : Names
  pub is : told ≡ Some named
  pub there : Course
  pub is_kind : kind there
  pub leads : LeadsTo named words there

accepted_of : (told : Option Names) (words : List (List ℕ)) (kind : Course → Type 0) → Accepts told words kind → AcceptedOf told words kind
accepted_of None words kind accepted = absurd accepted
accepted_of (Some named) words kind accepted = record { named = named; is = refl; there = accepted.0; is_kind = accepted.1; leads = accepted.2 }

pub record RejectedOf (told : Option Names) (words : List (List ℕ)) : Type 0 where
  pub named : Names
  pub is : told ≡ Some named
  pub line : List ℕ
  pub leads : LeadsTo named words (Refuses line)

rejected_of : (told : Option Names) (words : List (List ℕ)) → Rejects told words → RejectedOf told words
rejected_of None words rejected = absurd rejected
rejected_of (Some named) words rejected = record { named = named; is = refl; line = rejected.0; leads = rejected.1 }

-- what is accepted isn't refused
pub accepted_unrefused : (kind : Course → Type 0) (before after : FilesTold) (words : List (List ℕ)) (line : List ℕ) → ((there : Course) → kind there → IsAtEnd there)
    → Accepts before.contents words kind → ComesToRefusal before after words line → ⊥
accepted_unrefused kind before after words line ends accepted refused =
    let it = accepted_of before.contents words kind accepted in
    let at = ends it.there it.is_kind in
    not_refused line it.there at (one_end_to it.named words it.there (Refuses line) (end_over it.there at) tt it.leads
    (refusal_is_led before.contents words it.named refused.course refused.fact.calls line it.is refused.is_asked refused.fact.leads))

-- what is accepted with no loss isn't lost
no_loss : (pair : Partition) (there : Course) (ending : Ending) → LosesNone there → Loses pair there ending → ⊥
no_loss pair (Reads name most next) ending sure loses = sure
no_loss pair (Writes text) ending sure loses = loses
no_loss pair (Runs run) ending sure loses = loses.lost.unsafe sure
no_loss pair (Refuses line) ending sure loses = sure

pub accepted_unlost : (before after : FilesTold) (words : List (List ℕ)) (pair : Partition) (ending : Ending) → Accepts before.contents words LosesNone
    → Finishes (ComesTo before after words (Loses pair)) before after ending → ⊥
accepted_unlost before after words pair ending accepted finishes =
    let it = accepted_of before.contents words LosesNone accepted in
    let lost = finishes.comes in
    let same : it.there ≡ lost.there = one_end_to it.named words it.there lost.there (end_over it.there (sure_at_end it.there it.is_kind))
    (end_over lost.there (loses_at_end pair lost.there ending lost.ends_so)) it.leads
    (end_is_led before.contents words it.named lost.comes.course lost.there lost.comes.fact.reads it.is lost.comes.is_asked lost.comes.fact.leads) in
    no_loss pair lost.there ending (subst LosesNone same it.is_kind) lost.ends_so

-- what is rejected comes to no end
rejected_not_led : (told : Option Names) (words : List (List ℕ)) (there course : Course) (calls : List Call) → Rejects told words → IsAtEnd there → asked words ≡ Some course
    → Leads told course calls there → ⊥
rejected_not_led told words there course calls rejected at asks leads =
    let it = rejected_of told words rejected in
    not_refused it.line there at (one_end_to it.named words there (Refuses it.line) (end_over there at) tt (end_is_led told words it.named course there calls it.is asks leads) it.leads)

pub rejected_unended : (before after : FilesTold) (words : List (List ℕ)) (ends : Course → Ending → Type 0) (ending : Ending) (more : List Call) → ((there : Course) → ends there ending → IsAtEnd there)
    → Rejects before.contents words → ComesTo before after words ends ending more → ⊥
rejected_unended before after words ends ending more at rejected comes =
    rejected_not_led before.contents words comes.there comes.comes.course comes.comes.fact.reads rejected (at comes.there comes.ends_so) comes.comes.is_asked comes.comes.fact.leads

none_not_some : {A : Type 0} {x : A} → None ≡ Some x → ⊥
none_not_some e = cc

-- both ask for something
pub accepted_asked : (kind : Course → Type 0) (told : Option Names) (words : List (List ℕ)) → Accepts told words kind → asked words ≡ None → ⊥
accepted_asked kind None words accepted none = accepted
accepted_asked kind (Some named) words accepted none = none_not_some (sym none ∙ accepted.2.is_asked)

pub rejected_asked : (told : Option Names) (words : List (List ℕ)) → Rejects told words → asked words ≡ None → ⊥
rejected_asked None words rejected none = rejected
rejected_asked (Some named) words rejected none = none_not_some (sym none ∙ rejected.1.is_asked)
