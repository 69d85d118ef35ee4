use Rattle.std.proofs.Common.{◌≡◌, ◌∙◌, ap, ap₂, codes, true, false}
use Rattle.std.proofs.lemmas.Result.{IfOk-weaker}
use Rattle.clap.specs.Built.{AddsArg}
use Rattle.clap.specs.Simple.{App, app_of, app_of_fields, new_app, with_rule}
use Rattle.clap.specs.Walk.{Rule, rule_of}
use Rattle.clap.specs.declared.builder.arg.Arg.{Arg}
use Rattle.clap.specs.declared.builder.command.Command.{Command}
use Rattle.clap.specs.declared.builder.command.Command.TheOpen.{Command-F}
use Rattle.command_line.proofs.syntax.syntax.Goals as goal

abbrev told : App → App
told app = record app { top = record app.top { no_binary_name = true; disable_help_flag = true } }

added : (old : Command) (arg : Arg) (new : Command) (app : App) (rule : Rule) → AddsArg old arg new → arg.global ≡ false → app_of old ≡ app → rule_of arg ≡ rule
    → app_of new ≡ with_rule app rule
added old arg new app rule adds local is has = adds.shape local ∙ ap₂ with_rule is has

pub returns : goal.returns
returns c =
    let fields = c.disable_help_flag.ensures ∙ ap (λ (f : Command-F Command). record f { disable_help_flag = true }) c.no_binary_name.ensures in
    let bare : app_of c.disable_help_flag.result ≡ told (new_app (codes "flux")) = ap app_of_fields fields ∙ ap told c.new.ensures.app in
    let first = added _ _ c.in_ok-arg.field-0 _ _ c.in_ok-arg.ensures c.new-2.ensures.optional.1 bare c.new-2.ensures.rule in
    let second = added _ _ c.in_ok-arg-2.field-0 _ _ c.in_ok-arg-2.ensures c.new-3.ensures.optional.1 first c.new-3.ensures.rule in
    let third = added _ _ c.in_ok-arg-3.field-0 _ _ c.in_ok-arg-3.ensures c.new-4.ensures.optional.1 second c.new-4.ensures.rule in
    let cash = added _ _ c.in_ok-arg-4.field-0 _ _ c.in_ok-arg-4.ensures c.option.ensures.local third c.option.ensures.rule in
    let script = added _ _ c.in_ok-arg-5.field-0 _ _ c.in_ok-arg-5.ensures c.option-2.ensures.local cash c.option-2.ensures.rule in
    let threads = added _ _ c.in_ok-arg-6.field-0 _ _ c.in_ok-arg-6.ensures c.option-3.ensures.local script c.option-3.ensures.rule in
    let turns = added _ _ c.in_ok-arg-7.field-0 _ _ c.in_ok-arg-7.ensures c.option-4.ensures.local threads c.option-4.ensures.rule in
    IfOk-weaker c.arg-8.result _ _ (λ command adds. added _ _ command _ _ adds c.option-5.ensures.local turns c.option-5.ensures.rule) c.arg-8.ensures
