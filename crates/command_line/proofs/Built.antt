-- What `clap` makes of the syntax.
use Rattle.std.proofs.Common.{◌≡◌, refl, ℕ, List, [], ◌∷◌, Option, Some, None, true, false, codes}
use Rattle.clap.specs.Walk.{Rule, Text}
use Rattle.clap.specs.Simple.{Shape, built, is_simple, new_shape}
use Rattle.clap.specs.Faults.{is_simple_and_free}
use Rattle.clap.specs.declared.builder.action.ArgAction.TheVariants.{Set}
use Rattle.clap.specs.declared.builder.value_parser.ValueParser.TheVariants as vp
use Rattle.command_line.specs.Syntax.{syntax}

-- an argument that building has filled in
abbrev pub made : Text → Option Text → Option ℕ → Rule
made id long index = record {
  id = id;
  long = long;
  aliases = [];
  short = None;
  short_aliases = [];
  index = index;
  action = Some Set;
  range = Some (record { start_inclusive = 1; end_inclusive = 1 });
  value_names = 0;
  defaults = [];
  missing = [];
  trailing_var_arg = false;
  parser = Some vp.String;
  ignore_case = false;
  required = false;
  is_simple = true;
  is_free = true;
}

abbrev pub rules : List Rule
rules = made (codes "first") None (Some 1) ∷ made (codes "second") None (Some 2) ∷ made (codes "third") None (Some 3)
    ∷ made (codes "cash") (Some (codes "cash")) None ∷ made (codes "script") (Some (codes "script")) None ∷ made (codes "threads") (Some (codes "threads")) None
    ∷ made (codes "turns") (Some (codes "turns")) None ∷ made (codes "journal") (Some (codes "journal")) None ∷ []

abbrev pub shape : Shape
shape = record (new_shape (codes "flux")) { rules = rules; no_binary_name = true; disable_help_flag = true; disable_help_subcommand = true; is_built = true }

pub built_is : built syntax ≡ record { top = shape; subs = [] }
built_is = refl

pub simple_is : is_simple syntax ≡ true
simple_is = refl

pub free_is : is_simple_and_free syntax ≡ true
free_is = refl
