-- What a reader of a plan gave is what reading gives.
use Rattle.std.specs.Prelude.{◌≡◌, Result, Ok, Err}
use Rattle.plan_reader.specs.declared.error.PlanError.{PlanError}
use Rattle.plan_reader.specs.declared.error.PlanError.TheVariants as error

-- this fault is the first one, unless memory ran out
abbrev pub Fails : {A : Type 0} → PlanError → Result A PlanError → Type 0
Fails (error.Grammar line) read = read ≡ Err (error.Grammar line)
Fails (error.UnknownWord line) read = read ≡ Err (error.UnknownWord line)
Fails (error.Number line) read = read ≡ Err (error.Number line)
Fails (error.Range line) read = read ≡ Err (error.Range line)
Fails error.NoStage read = read ≡ Err error.NoStage
Fails (error.TooMany line) read = read ≡ Err (error.TooMany line)
Fails (error.TooLong bytes) read = read ≡ Err (error.TooLong bytes)
Fails (error.Crowded edges mark) read = read ≡ Err (error.Crowded edges mark)
Fails error.OutOfMemory read = Unit {0}
Fails (error.JoinNotLast line) read = read ≡ Err (error.JoinNotLast line)

-- what a reader gave, seen by view, is what reading gives, unless memory ran out
abbrev pub Gives : {X A : Type 0} → (X → A) → Result X PlanError → Result A PlanError → Type 0
Gives view (Ok x) read = read ≡ Ok (view x)
Gives view (Err e) read = Fails e read
