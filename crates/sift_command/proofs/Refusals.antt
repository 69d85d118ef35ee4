-- Why a file of trades is not parted.
use Rattle.std.proofs.Common.{ℕ, ◌≡◌, ◌<◌, true, List, length, refl, Err, arith, nat_lt}
use Rattle.std.specs.Prelude.{◌≢◌}
use Rattle.std.proofs.lemmas.Bool.Decides.{nat_tests}
use Rattle.trade_text.specs.Files.{file_of}
use Rattle.trade_text.specs.Kinds.{trades_kind}
use Rattle.trade_text.specs.Limits.{max_input_bytes}
use Rattle.trade_text.specs.Messages.{fault_of}
use Rattle.trade_text.specs.Refusals.{IsRefusalOf}
use Rattle.trade_text.specs.Results.{Read}
use Rattle.trade_text.specs.declared.error.Field.{Field}
use Rattle.trade_text.specs.declared.error.ReadError.{ReadError}
use Rattle.trade_text.specs.declared.error.ReadError.TheVariants as read_error
use Rattle.command_course.specs.Lines.{line_of}
use Rattle.command_course.specs.Steps.{IsRefusedBy, StopsOn}
use Rattle.command_course.specs.declared.stop.Stop.{Stop}
use Rattle.command_course.proofs.Refusals.{line_refused}
use Rattle.record_faults.specs.EachRecord.{trade_faults}
use Rattle.trade_sift.specs.Sifted.{parted}
use Rattle.sift_command.specs.Courses.{parts_from}

fails_so : {A : Type 0} (e : ReadError Field) (read : Read Field A) → IsRefusalOf e read → e ≢ read_error.OutOfMemory → read ≡ Err e
fails_so read_error.OutOfMemory read fails known = absurd (known refl)
fails_so _ read fails known = fails

pub parts_refused : (name bytes : List ℕ) (e : ReadError Field) (why : Stop) → IsRefusalOf e (parted bytes) → e ≢ read_error.OutOfMemory
    → IsRefusedBy why (line_of name (fault_of trades_kind e)) (Unit {0}) → StopsOn (parts_from name bytes) why
parts_refused name bytes e why fails known by =
    line_refused (fault_of trades_kind) name (parted bytes) e why (fails_so e (parted bytes) fails known) by

file_too_long : (bytes : List ℕ) → max_input_bytes < length bytes → file_of {F = Field} bytes ≡ Err (read_error.TooLong (length bytes))
unfolding file_of
file_too_long bytes long = let test : nat_lt max_input_bytes (length bytes) ≡ true = grind (arith, nat_tests) in rw test refl

parts_too_long : (bytes : List ℕ) → max_input_bytes < length bytes → parted bytes ≡ Err (read_error.TooLong (length bytes))
unfolding parted trade_faults
parts_too_long bytes long = rw (file_too_long bytes long) refl

pub long_parts : (name bytes : List ℕ) (seen : ℕ) (why : Stop) → max_input_bytes < length bytes
    → IsRefusedBy why (line_of name (fault_of trades_kind (read_error.TooLong seen))) (Unit {0}) → StopsOn (parts_from name bytes) why
long_parts name bytes seen why long by =
    line_refused (fault_of trades_kind) name (parted bytes) (read_error.TooLong (length bytes)) why (parts_too_long bytes long) by
