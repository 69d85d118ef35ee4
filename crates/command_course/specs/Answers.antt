-- What a command of `flux_look` comes to.
use Rattle.std.specs.Prelude.{ℕ, List, None, Option, option_map}
use Rattle.std.specs.String.{string_bytes}
use Rattle.command_course.specs.declared.answer.Answer.{Answer}
use Rattle.command_course.specs.declared.answer.Ending.{Ending}
use Rattle.command_course.specs.declared.answer.Ending.TheVariants.{Done, Faulty, Lost, Warned}
use Rattle.command_course.specs.declared.answer.Saved.{Saved}

-- what a command writes, how it ends then, and the file that it saves before: its name and its bytes
pub record AnswerView : Type 0 where
  pub text : List ℕ
  pub ending : Ending
  pub saved : Option (List ℕ × List ℕ)

-- the answer with this text, which saves no file, and after which a command ends so
abbrev pub answer : Ending → List ℕ → AnswerView
answer ending text = record { text = text; ending = ending; saved = None }

-- the status of the program that ends so
abbrev pub status_of : Ending → ℕ
status_of Done = 0
status_of Warned = 1
status_of Faulty = 3
status_of (Lost stage part) = 6

-- ---- as the code holds it

-- the file that code is to save, if there is one
abbrev pub saved_in : Option Saved → Option (List ℕ × List ℕ)
saved_in saved = option_map (λ s. (string_bytes s.name, s.bytes.items)) saved

-- the answer that code has come to
abbrev pub answer_of : Answer → AnswerView
answer_of a = record { text = a.text.items; ending = a.ending; saved = saved_in a.saved }
