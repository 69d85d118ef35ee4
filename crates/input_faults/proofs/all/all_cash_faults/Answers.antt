use Rattle.std.proofs.Common.{◌≡◌, option_map, rules, Some}
use Rattle.std.specs.Prelude.{string_bytes}
use Rattle.trade_text.specs.declared.error.ReadError.TheVariants as error
use Rattle.input_faults.proofs.AllFacts.{cash_headed, cash_none, cash_said}
use Rattle.input_faults.proofs.all.all_cash_faults.Goals as goal

pub returns-in_ok-found-in-Ok : goal.returns-in_ok-found-in-Ok
returns-in_ok-found-in-Ok c =
    let said = cash_said c.args.room c.args.name.now c.args.bytes.now c.in-Ok.faults.items (option_map string_bytes c.in_ok-found-in-Ok.found) c.in-Ok.ensures.answers
    (rw (c.deref.ensures.value, c.without_mark-text.ensures) at c.in_ok-found-in-Ok.ensures) in
    record { text = said; accepted = cash_none string_bytes c.in_ok-found-in-Ok.found c.args.room c.args.name.now c.args.bytes.now said }

pub returns-in_ok-said-in-Err : goal.returns-in_ok-said-in-Err
returns-in_ok-said-in-Err c =
    let other : c.in-Err.error ≡ error.OutOfMemory → ⊥ = search rules in
    let said = cash_headed c.args.room c.args.name.now c.args.bytes.now c.in-Err.error (string_bytes c.in_ok-said-in-Err.said) other c.in-Err.ensures.refused (rw c.without_mark-text.ensures at c.in_ok-said-in-Err.ensures) in
    record { text = said; accepted = cash_none string_bytes (Some c.in_ok-said-in-Err.said) c.args.room c.args.name.now c.args.bytes.now said }
