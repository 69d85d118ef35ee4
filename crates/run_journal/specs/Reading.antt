-- What a reader of events gave is what reading gives.
use Rattle.std.specs.Prelude.{◌≡◌, Result, Ok, Err}
use Rattle.run_journal.specs.declared.error.EventsError.{EventsError}
use Rattle.run_journal.specs.declared.error.EventsError.TheVariants as error

-- this fault is the first one, unless memory ran out
abbrev pub Fails : {A : Type 0} → EventsError → Result A EventsError → Type 0
Fails error.Header read = read ≡ Err error.Header
Fails (error.Grammar line) read = read ≡ Err (error.Grammar line)
Fails (error.NoSuchNode line) read = read ≡ Err (error.NoSuchNode line)
Fails (error.Range line) read = read ≡ Err (error.Range line)
Fails error.TooMany read = read ≡ Err error.TooMany
Fails (error.TooLong bytes) read = read ≡ Err (error.TooLong bytes)
Fails error.OutOfMemory read = Unit {0}

-- what a reader gave, seen by view, is what reading gives, unless memory ran out
abbrev pub Gives : {X A : Type 0} → (X → A) → Result X EventsError → Result A EventsError → Type 0
Gives view (Ok x) read = read ≡ Ok (view x)
Gives view (Err e) read = Fails e read
