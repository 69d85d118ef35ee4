-- Events of groups replayed: the state that they reach one after another, or the first of them that is no step.
use Rattle.std.specs.Prelude.{ℕ, List, [], ◌∷◌, ◌++◌, Result, Ok, Err, codes}
use Rattle.std.specs.Fmt.{decimal}
use Rattle.text_words.specs.Messages.{at_line}
use Rattle.pair_machine.specs.Flow.{Flow}
use Rattle.trio_machine.specs.Machine.{State, step}
use Rattle.trio_machine.specs.Messages.{NoMoreRows, NotHeld, NotRunning, NotSent, NothingDue, Refusal}
use Rattle.trio_text.specs.declared.lined.TrioLined.{TrioLined}
use Rattle.trio_core.specs.declared.error.TrioError.{TrioError}
use Rattle.trio_core.specs.declared.error.TrioError.TheVariants as error

-- an event that is no step: its line, and why
pub record RefusedAt : Type 0 where
  pub line : ℕ
  pub why : Refusal

-- the next state, or the event of this line is refused
abbrev pub stepped : ℕ → Result State Refusal → Result State RefusedAt
stepped line (Ok s) = Ok s
stepped line (Err why) = Err (record { line = line; why = why })

-- what comes after a state that was reached; a refusal stays
abbrev pub then_on : (State → Result State RefusedAt) → Result State RefusedAt → Result State RefusedAt
then_on next (Ok s) = next s
then_on next (Err refused) = Err refused

-- the state that events reach from another, one after another; or the first of them that is refused, and nothing after it happens
abbrev pub replayed : Flow → List TrioLined → State → Result State RefusedAt
replayed f [] s = Ok s
replayed f (e ∷ events) s = then_on (replayed f events) (stepped e.line (step f s e.event))

-- ---- what is said of an event that is refused

-- the text that says why an event is no step
abbrev pub refusal_text : Refusal → List ℕ
refusal_text (NotSent index sent) = codes "not sent, index " ++ decimal index ++ codes ", sent " ++ decimal sent
refusal_text NothingDue = codes "nothing due"
refusal_text NotRunning = codes "not running"
refusal_text NoMoreRows = codes "no more rows"
refusal_text (NotHeld low mark produced) = codes "not held, low " ++ decimal low ++ codes ", mark " ++ decimal mark ++ codes ", produced " ++ decimal produced

-- with its line
abbrev pub refused_text : RefusedAt → List ℕ
refused_text refused = at_line refused.line (refusal_text refused.why)

-- the same of the reason that code gives; of want of memory nothing is said here
abbrev pub error_text : TrioError → List ℕ
error_text (error.NotSent index sent) = refusal_text (NotSent index sent)
error_text error.NothingDue = refusal_text NothingDue
error_text error.NotRunning = refusal_text NotRunning
error_text error.NoMoreRows = refusal_text NoMoreRows
error_text (error.NotHeld low mark produced) = refusal_text (NotHeld low mark produced)
error_text error.OutOfMemory = []
