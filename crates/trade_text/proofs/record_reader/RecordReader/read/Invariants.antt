use Rattle.std.proofs.Common.{◌≡◌, ℕ, List, []}
use Rattle.csv.specs.Records.{fields_of, partial_of}
use Rattle.csv.specs.declared.parser.State.{State}
use Rattle.trade_text.specs.StreamRecords.{StandsAt}
use Rattle.trade_text.proofs.StreamFacts.{IsReading}
use Rattle.trade_text.proofs.record_reader.RecordReader.read.Given as goal

abbrev pub invariant-loop : goal.invariant-loop
invariant-loop g l = (partial_of l.fields ≡ [])
    × ((s : State) (text : List ℕ) → StandsAt g.R.Read.remaining l.fn.self s text → IsReading g.R.Read.remaining s text l.self.bytes l.self.parser (fields_of l.fields) l.counter)
