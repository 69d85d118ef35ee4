-- Why inputs are refused.
use Rattle.std.proofs.Common.{ℕ, ◌≡◌, ◌<◌, ◌∙◌, true, List, ◌++◌, length, append_assoc, Option, None, Some, refl, sym, ap, Err, Result, arith}
use Rattle.std.specs.Prelude.{◌≢◌, IfSome, codes, nat_lt}
use Rattle.std.specs.Fmt.{◌++?◌}
use Rattle.std.proofs.lemmas.Bool.Decides.{nat_tests}
use Rattle.plan_reader.specs.Limits.{max_plan_bytes}
use Rattle.plan_reader.specs.Plan.{plan_of}
use Rattle.plan_reader.specs.PlanView.{PlanView}
use Rattle.plan_reader.specs.Messages.{plan_fault}
use Rattle.plan_reader.specs.Reading.{Fails}
use Rattle.plan_reader.specs.declared.error.PlanError.{PlanError}
use Rattle.plan_reader.specs.declared.error.PlanError.TheVariants as plan_error
use Rattle.trade_text.specs.Cash.{cash_of}
use Rattle.trade_text.specs.Files.{file_of}
use Rattle.trade_text.specs.Kinds.{cash_kind, trades_kind}
use Rattle.trade_text.specs.Limits.{max_input_bytes}
use Rattle.trade_text.specs.Messages.{fault_of}
use Rattle.trade_text.specs.Refusals.{IsRefusalOf}
use Rattle.trade_text.specs.Results.{Read}
use Rattle.trade_text.specs.Trades.{trades_of}
use Rattle.trade_text.specs.declared.error.CashField.{CashField}
use Rattle.trade_text.specs.declared.error.Field.{Field}
use Rattle.trade_text.specs.declared.error.ReadError.{ReadError}
use Rattle.trade_text.specs.declared.error.ReadError.TheVariants as read_error
use Rattle.command_course.specs.Course.{Reading}
use Rattle.command_course.specs.Lines.{line_of, or_line}
use Rattle.command_course.specs.Inputs.{cash_from, plan_from, trades_from}
use Rattle.command_course.specs.Steps.{IsRefusedBy, StopsOn}
use Rattle.command_course.specs.declared.stop.Stop.{Stop}
use Rattle.command_course.specs.declared.stop.Stop.TheVariants as stop

-- a reading that fails by this fault is refused by its line
pub refused : {A : Type 0} (reading : Reading A) (line : List ℕ) (why : Stop) (P : Type 0) → (P → reading ≡ Err line) → IsRefusedBy why line P → StopsOn reading why
refused reading line stop.Usage P fails by = by
refused reading line (stop.Refused said) P fails by = fails by.1 ∙ ap Err (sym by.0)
refused reading line (stop.CannotRead said) P fails by = by
refused reading line stop.CannotWrite P fails by = by
refused reading line (stop.PairLost stage part said) P fails by = by
refused reading line stop.OutOfMemory P fails by = tt

-- what is read of a file is refused by the line of its fault
pub line_refused : {E A : Type 0} (text : E → List ℕ) (name : List ℕ) (read : Result A E) (e : E) (why : Stop) → read ≡ Err e → IsRefusedBy why (line_of name (text e)) (Unit {0})
    → StopsOn (or_line text name read) why
line_refused text name read e why fails by = refused (or_line text name read) (line_of name (text e)) why (Unit {0}) (λ _. ap (or_line text name) fails) by

-- the line about a file, where the text of its fault is told
pub line_said : (line name : List ℕ) (fault : Option (List ℕ)) → IfSome (Some name ++? (Some (codes ": ") ++? (fault ++? Some (codes "\n")))) (λ text. line ≡ text)
    → IfSome fault (λ said. line ≡ line_of name said)
line_said line name None is = tt
line_said line name (Some said) is =
    let between = codes ": " in
    let ends = codes "\n" in
    is ∙ sym (append_assoc (name ++ between) said ends ∙ append_assoc name between (said ++ ends))

-- ---- plans

plan_fails : (e : PlanError) (read : Result PlanView PlanError) → Fails e read → e ≢ plan_error.OutOfMemory → read ≡ Err e
plan_fails plan_error.OutOfMemory read fails known = absurd (known refl)
plan_fails _ read fails known = fails

pub plan_refused : (name bytes : List ℕ) (e : PlanError) (why : Stop) → Fails e (plan_of bytes) → e ≢ plan_error.OutOfMemory → IsRefusedBy why (line_of name (plan_fault e)) (Unit {0})
    → StopsOn (plan_from name bytes) why
plan_refused name bytes e why fails known by =
    line_refused plan_fault name (plan_of bytes) e why (plan_fails e (plan_of bytes) fails known) by

plan_too_long : (bytes : List ℕ) → max_plan_bytes < length bytes → plan_of bytes ≡ Err (plan_error.TooLong (length bytes))
unfolding plan_of
plan_too_long bytes long = let e : nat_lt max_plan_bytes (length bytes) ≡ true = grind (arith, nat_tests) in rw e refl

pub long_plan : (name bytes : List ℕ) (seen : ℕ) (why : Stop) → max_plan_bytes < length bytes → IsRefusedBy why (line_of name (plan_fault (plan_error.TooLong seen))) (Unit {0})
    → StopsOn (plan_from name bytes) why
long_plan name bytes seen why long by =
    line_refused plan_fault name (plan_of bytes) (plan_error.TooLong (length bytes)) why (plan_too_long bytes long) by

-- ---- files of rows

rows_fail : {F A : Type 0} (e : ReadError F) (read : Read F A) → IsRefusalOf e read → e ≢ read_error.OutOfMemory → read ≡ Err e
rows_fail read_error.OutOfMemory read fails known = absurd (known refl)
rows_fail _ read fails known = fails

pub trades_refused : (name bytes : List ℕ) (e : ReadError Field) (why : Stop) → IsRefusalOf e (trades_of bytes) → e ≢ read_error.OutOfMemory
    → IsRefusedBy why (line_of name (fault_of trades_kind e)) (Unit {0}) → StopsOn (trades_from name bytes) why
trades_refused name bytes e why fails known by =
    line_refused (fault_of trades_kind) name (trades_of bytes) e why (rows_fail e (trades_of bytes) fails known) by

pub cash_refused : (room : ℕ) (name bytes : List ℕ) (e : ReadError CashField) (why : Stop) → IsRefusalOf e (cash_of bytes room) → e ≢ read_error.OutOfMemory
    → IsRefusedBy why (line_of name (fault_of cash_kind e)) (Unit {0}) → StopsOn (cash_from room name bytes) why
cash_refused room name bytes e why fails known by =
    line_refused (fault_of cash_kind) name (cash_of bytes room) e why (rows_fail e (cash_of bytes room) fails known) by

file_too_long : {F : Type 0} (bytes : List ℕ) → max_input_bytes < length bytes → file_of {F = F} bytes ≡ Err (read_error.TooLong (length bytes))
unfolding file_of
file_too_long bytes long = let e : nat_lt max_input_bytes (length bytes) ≡ true = grind (arith, nat_tests) in rw e refl

trades_too_long : (bytes : List ℕ) → max_input_bytes < length bytes → trades_of bytes ≡ Err (read_error.TooLong (length bytes))
unfolding trades_of
trades_too_long bytes long = rw (file_too_long {F = Field} bytes long) refl

cash_too_long : (bytes : List ℕ) (room : ℕ) → max_input_bytes < length bytes → cash_of bytes room ≡ Err (read_error.TooLong (length bytes))
unfolding cash_of
cash_too_long bytes room long = rw (file_too_long {F = CashField} bytes long) refl

pub long_trades : (name bytes : List ℕ) (seen : ℕ) (why : Stop) → max_input_bytes < length bytes
    → IsRefusedBy why (line_of name (fault_of trades_kind (read_error.TooLong seen))) (Unit {0}) → StopsOn (trades_from name bytes) why
long_trades name bytes seen why long by =
    line_refused (fault_of trades_kind) name (trades_of bytes) (read_error.TooLong (length bytes)) why (trades_too_long bytes long) by

pub long_cash : (room : ℕ) (name bytes : List ℕ) (seen : ℕ) (why : Stop) → max_input_bytes < length bytes
    → IsRefusedBy why (line_of name (fault_of cash_kind (read_error.TooLong seen))) (Unit {0}) → StopsOn (cash_from room name bytes) why
long_cash room name bytes seen why long by =
    line_refused (fault_of cash_kind) name (cash_of bytes room) (read_error.TooLong (length bytes)) why (cash_too_long bytes room long) by
