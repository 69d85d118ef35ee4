-- What a call that reads answers.
use Rattle.std.specs.Prelude.{◌≡◌, Ok, Err}
use Rattle.trade_text.specs.Results.{Read}
use Rattle.trade_text.specs.declared.error.ReadError.{ReadError}
use Rattle.trade_text.specs.declared.error.ReadError.TheVariants as error

-- The error of a call is the refusal of this reading. Want of memory is no refusal, and may come in place of any answer.
abbrev pub IsRefusalOf : {F A : Type 0} → ReadError F → Read F A → Type 0
IsRefusalOf error.Header read = read ≡ Err error.Header
IsRefusalOf (error.Row number) read = read ≡ Err (error.Row number)
IsRefusalOf (error.Field number what) read = read ≡ Err (error.Field number what)
IsRefusalOf (error.Range number what) read = read ≡ Err (error.Range number what)
IsRefusalOf error.TooMany read = read ≡ Err error.TooMany
IsRefusalOf (error.TooLong bytes) read = read ≡ Err (error.TooLong bytes)
IsRefusalOf error.OutOfMemory read = Unit {0}

-- What a call gave, with what is kept then from record to record, is what reading gives, unless memory ran out.
abbrev pub Reads : {F A K : Type 0} → Read F A → K → Read F (A × K) → Type 0
Reads (Ok x) kept read = read ≡ Ok (x, kept)
Reads (Err e) kept read = IsRefusalOf e read
