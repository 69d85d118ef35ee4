-- Words read from left to right, behind a command.
use Rattle.std.specs.Prelude.{List, [], ◌∷◌, Option, Some, None, option_and_then, option_map, if◌then◌else◌}
use Rattle.command_line.specs.Words.{Text, is_plain, option_of}
use Rattle.look_words.specs.Options.{option_kind}
use Rattle.look_words.specs.Parts.{Parts, flag_given, name_given, no_parts, parts_in, value_given}
use Rattle.look_words.specs.declared.kind.OptionKind.{OptionKind}
use Rattle.look_words.specs.declared.kind.OptionKind.TheVariants.{Alone, WithValue}
use Rattle.look_words.specs.declared.reading.Awaited.{Awaited}
use Rattle.look_words.specs.declared.reading.Awaited.TheVariants.{Any, Value}
use Rattle.look_words.specs.declared.reading.Reading.{Reading as FoundReading}

-- what the words so far gave, and what the next one is to be: a name or an option, or the value of the option before it
pub record Reading : Type 0 where
  pub parts : Parts
  pub awaited : Awaited

-- a reading with these parts, behind which this is awaited
abbrev pub reading : Awaited → Parts → Reading
reading awaited parts = record { parts = parts; awaited = awaited }

-- the reading before the first word
abbrev pub start : Reading
start = reading Any no_parts

-- a reading with these parts, if there are any, behind which a name or an option may come
abbrev pub settled : Option Parts → Option Reading
settled = option_map (reading Any)

-- after an option of this kind: a value stands in its own word or is the next one
abbrev pub after_kind : OptionKind → Option Text → Parts → Option Reading
after_kind (Alone flag) value parts = settled (flag_given flag value parts)
after_kind (WithValue option) (Some value) parts = settled (value_given option value parts)
after_kind (WithValue option) None parts = Some (reading (Value option) parts)

-- after an option of this name, with its value, if it has one: the command has such an option
abbrev pub after_option : Text → Text → Option Text → Parts → Option Reading
after_option command name value parts = option_and_then (λ kind. after_kind kind value parts) (option_kind command name)

-- after a word where a name or an option may come: a plain word is a name
abbrev pub after_any : Text → Text → Parts → Option Reading
after_any command word parts =
    if is_plain word then settled (name_given word parts) else option_and_then (λ option. after_option command option.0 option.1 parts) (option_of word)

-- after a word where this was awaited
abbrev pub after_awaited : Text → Awaited → Text → Parts → Option Reading
after_awaited command Any word parts = after_any command word parts
after_awaited command (Value option) word parts = settled (value_given option word parts)

-- after one more word
abbrev pub after_word : Text → Text → Reading → Option Reading
after_word command word r = after_awaited command r.awaited word r.parts

-- after these words
abbrev pub after_words : Text → List Text → Reading → Option Reading
after_words command [] r = Some r
after_words command (word ∷ words) r = option_and_then (after_words command words) (after_word command word r)

-- the parts, where no option waits for its value
abbrev pub settled_parts : Awaited → Parts → Option Parts
settled_parts Any parts = Some parts
settled_parts (Value option) parts = None

-- the parts at the end, where no option waits for its value
abbrev pub parts_at_end : Reading → Option Parts
parts_at_end r = settled_parts r.awaited r.parts

-- What words give behind a command of this name, if they can be read.
abbrev pub given : Text → List Text → Option Parts
given command words = option_and_then parts_at_end (after_words command words start)

-- ---- as the code holds it

-- the reading that code has come to
abbrev pub reading_in : FoundReading → Reading
reading_in r = reading r.awaited (parts_in r.parts)
