-- The words behind a command by what they are.
use Rattle.std.specs.Prelude.{◌&&◌, not, Bool, false, true, Option, Some, None, option_map, is_some, if◌then◌else◌}
use Rattle.command_line.specs.Views.{text_in}
use Rattle.command_line.specs.Words.{Text, is_plain}
use Rattle.look_words.specs.declared.kind.Flag.{Flag}
use Rattle.look_words.specs.declared.kind.Flag.TheVariants as flag
use Rattle.look_words.specs.declared.kind.Valued.{Valued}
use Rattle.look_words.specs.declared.kind.Valued.TheVariants as valued
use Rattle.look_words.specs.declared.option.Named.{Named}
use Rattle.look_words.specs.declared.parts.Parts.{Parts as FoundParts}

-- up to three names in order, the values of the options that have one, and which of the others stand among the words
pub record Parts : Type 0 where
  pub first : Option Text
  pub second : Option Text
  pub third : Option Text
  pub cash : Option Text
  pub script : Option Text
  pub rejects : Option Text
  pub picture : Option Text
  pub threads : Option Text
  pub turns : Option Text
  pub svg : Bool
  pub json : Bool
  pub only : Bool
  pub all : Bool
  pub check : Bool

-- what no words give
abbrev pub no_parts : Parts
no_parts = record {
  first = None;
  second = None;
  third = None;
  cash = None;
  script = None;
  rejects = None;
  picture = None;
  threads = None;
  turns = None;
  svg = false;
  json = false;
  only = false;
  all = false;
  check = false;
}

-- a name stands in the first place that is free, of three
abbrev pub in_place : Text → Parts → (first second third : Option Text) → Option Parts
in_place name parts None second third = Some (record parts { first = Some name })
in_place name parts (Some a) None third = Some (record parts { second = Some name })
in_place name parts (Some a) (Some b) None = Some (record parts { third = Some name })
in_place name parts (Some a) (Some b) (Some c) = None

-- one more name, in the first place that is free
abbrev pub name_given : Text → Parts → Option Parts
name_given name parts = in_place name parts parts.first parts.second parts.third

-- the value of an option, which is given once
abbrev pub taken : Option Text → Text → Option Text
taken before value = if is_plain value && not (is_some before) then Some value else None

-- an option with its value
abbrev pub value_given : Valued → Text → Parts → Option Parts
value_given valued.Cash value parts = option_map (λ file. record parts { cash = Some file }) (taken parts.cash value)
value_given valued.Script value parts = option_map (λ file. record parts { script = Some file }) (taken parts.script value)
value_given valued.Rejects value parts = option_map (λ file. record parts { rejects = Some file }) (taken parts.rejects value)
value_given valued.Picture value parts = option_map (λ file. record parts { picture = Some file }) (taken parts.picture value)
value_given valued.Threads value parts = option_map (λ number. record parts { threads = Some number }) (taken parts.threads value)
value_given valued.Turns value parts = option_map (λ number. record parts { turns = Some number }) (taken parts.turns value)

-- that an option stands among the words, which is given once and has no value
abbrev pub raised : Bool → Option Text → Option Bool
raised before value = if not (is_some value) && not before then Some true else None

-- an option that has no value
abbrev pub flag_given : Flag → Option Text → Parts → Option Parts
flag_given flag.Svg value parts = option_map (λ up. record parts { svg = up }) (raised parts.svg value)
flag_given flag.Json value parts = option_map (λ up. record parts { json = up }) (raised parts.json value)
flag_given flag.Only value parts = option_map (λ up. record parts { only = up }) (raised parts.only value)
flag_given flag.All value parts = option_map (λ up. record parts { all = up }) (raised parts.all value)
flag_given flag.Check value parts = option_map (λ up. record parts { check = up }) (raised parts.check value)

-- ---- as the code holds it

-- the parts that code has found
abbrev pub parts_in : FoundParts → Parts
parts_in parts = record {
  first = text_in parts.first;
  second = text_in parts.second;
  third = text_in parts.third;
  cash = text_in parts.cash;
  script = text_in parts.script;
  rejects = text_in parts.rejects;
  picture = text_in parts.picture;
  threads = text_in parts.threads;
  turns = text_in parts.turns;
  svg = parts.svg;
  json = parts.json;
  only = parts.only;
  all = parts.all;
  check = parts.check;
}

-- an option that code has found: its name, and its value, if it has one
abbrev pub named_of : Named → Text × Option Text
named_of named = (named.name.now, text_in named.value)
