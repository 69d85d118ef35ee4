use Rattle.std.proofs.Common.{◌≡◌, ◌∙◌, ap, sym, map, string_bytes, true, false, Some, Option, option_map}
use Rattle.std.specs.List.{list_all}
use Rattle.clap.specs.Faults.{is_simple_and_free}
use Rattle.clap.specs.Matches.{found_of}
use Rattle.clap.specs.Simple.{app_of, is_simple}
use Rattle.command_line.specs.Syntax.{syntax}
use Rattle.command_line.specs.Forms.{parts_in}
use Rattle.command_line.specs.Words.{Kept, may_stand}
use Rattle.command_line.proofs.Built.{free_is, simple_is}
use Rattle.command_line.proofs.Parsing.{all_mapped, not_given, parts_given, parts_not_given}
use Rattle.command_line.proofs.parse.parse.Goals as goal

pub returns-then-not-may_all_stand : goal.returns-then-not-may_all_stand
returns-then-not-may_all_stand c =
    let none : list_all may_stand (map string_bytes c.args.words.now) ≡ false =
    all_mapped may_stand string_bytes c.args.words.now ∙ (sym c.may_all_stand.ensures ∙ c.if-not-may_all_stand.true) in
    ap (λ (o : Option Kept). option_map parts_in o) (sym (not_given (map string_bytes c.args.words.now) none))

pub returns-in-Ok : goal.returns-in-Ok
returns-in-Ok c =
    let stand : list_all may_stand (map string_bytes c.args.words.now) ≡ true =
    all_mapped may_stand string_bytes c.args.words.now ∙ (sym c.may_all_stand.ensures ∙ c.if-not-may_all_stand.false) in
    let app : app_of c.in_ok-syntax.field-0 ≡ syntax = c.in_ok-syntax.ensures in
    let found = c.in-Ok.ensures.matches (ap is_simple app ∙ simple_is) in
    let calm = c.in-Ok.ensures.kinds (ap is_simple_and_free app ∙ free_is) in
    ap Some c.parts_found.ensures
    ∙ parts_given (app_of c.in_ok-syntax.field-0) (map string_bytes c.args.words.now) (found_of c.in-Ok.matches) app stand calm found.0

pub returns : goal.returns
returns c =
    let stand : list_all may_stand (map string_bytes c.args.words.now) ≡ true =
    all_mapped may_stand string_bytes c.args.words.now ∙ (sym c.may_all_stand.ensures ∙ c.if-not-may_all_stand.false) in
    let app : app_of c.in_ok-syntax.field-0 ≡ syntax = c.in_ok-syntax.ensures in
    let has = c.in-Err.ensures.kinds (ap is_simple_and_free app ∙ free_is) in
    parts_not_given (app_of c.in_ok-syntax.field-0) (map string_bytes c.args.words.now) c.in-Err.error app stand has
    (λ short. c.in_default.not-OutOfMemory (c.kind.ensures ∙ short))
