-- The same as a command of `clap`.
use Rattle.std.specs.Prelude.{true, ◌∷◌, [], codes, Some}
use Rattle.clap.specs.Matches.{first_value}
use Rattle.clap.specs.Simple.{App, new_app, new_rule}
use Rattle.clap.specs.Walk.{Rule, Text}
use Rattle.clap.specs.declared.parser.matches.Found.{Found}
use Rattle.command_line.specs.Forms.{Parts}

-- a positional word of this name
abbrev pub positional : Text → Rule
positional name = new_rule name

-- an option of this name, with a value
abbrev pub option : Text → Rule
option name = record (new_rule name) { long = Some name }

-- all that commands take
abbrev pub syntax : App
syntax = let app = new_app (codes "flux") in record app {
  top = record app.top {
    no_binary_name = true;
    disable_help_flag = true;
    rules = positional (codes "first") ∷ positional (codes "second") ∷ positional (codes "third")
        ∷ option (codes "cash") ∷ option (codes "script") ∷ option (codes "threads") ∷ option (codes "turns") ∷ option (codes "journal") ∷ [];
  };
}

-- the parts among the matches of `clap`
abbrev pub parts_found : Found → Parts
parts_found found = record {
  first = first_value found (codes "first");
  second = first_value found (codes "second");
  third = first_value found (codes "third");
  cash = first_value found (codes "cash");
  script = first_value found (codes "script");
  threads = first_value found (codes "threads");
  turns = first_value found (codes "turns");
  journal = first_value found (codes "journal");
}
