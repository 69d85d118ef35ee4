-- Why an event is no step of a core: want of memory is free, and each other reason is the machine's, with its numbers.
use Rattle.std.specs.Prelude.{◌≡◌, Err, Result}
use Rattle.pair_machine.specs.Messages.{NoMoreRows, NotHeld, NotRunning, NotSent, NothingDue, Refusal}
use Rattle.flux_core.specs.declared.error.ApplyError.{ApplyError}
use Rattle.flux_core.specs.declared.error.ApplyError.TheVariants as error

-- this error is the reason for which an event is refused, unless memory ran out
abbrev pub IsRefusal : {X : Type 0} → Result X Refusal → ApplyError → Type 0
IsRefusal r (error.NotSent link index sent) = r ≡ Err (NotSent link index sent)
IsRefusal r error.NothingDue = r ≡ Err NothingDue
IsRefusal r error.NotRunning = r ≡ Err NotRunning
IsRefusal r error.NoMoreRows = r ≡ Err NoMoreRows
IsRefusal r (error.NotHeld low mark produced) = r ≡ Err (NotHeld low mark produced)
IsRefusal r error.OutOfMemory = Unit {0}
