-- The text of each refusal.
use Rattle.std.specs.Prelude.{ℕ, List, ◌++◌, codes}
use Rattle.std.specs.Fmt.{decimal}
use Rattle.trade_text.specs.Kinds.{Kind, trades_kind}
use Rattle.trade_text.specs.declared.error.ReadError.{ReadError}
use Rattle.trade_text.specs.declared.error.ReadError.TheVariants as error
use Rattle.trade_text.specs.declared.error.StreamError.{StreamError}
use Rattle.trade_text.specs.declared.error.StreamError.TheVariants as stream

-- the text of a refusal of a file of this kind
abbrev pub fault_of : {F : Type 0} → Kind F → ReadError F → List ℕ
fault_of kind error.Header = codes "header"
fault_of kind (error.Row rec) = codes "record " ++ decimal rec ++ codes ": fields"
fault_of kind (error.Field rec what) = codes "record " ++ decimal rec ++ codes ": field " ++ kind.name what
fault_of kind (error.Range rec what) = codes "record " ++ decimal rec ++ codes ": range " ++ kind.name what
fault_of kind error.TooMany = codes "too many " ++ kind.rows
fault_of kind (error.TooLong bytes) = codes "too long"
fault_of kind error.OutOfMemory = codes "out of memory"

-- the same of trades that come over a reader
abbrev pub stream_fault_of : StreamError → List ℕ
stream_fault_of (stream.Refused fault) = fault_of trades_kind fault
stream_fault_of (stream.TooLong rec) = codes "record " ++ decimal rec ++ codes ": too long"
stream_fault_of stream.Failed = codes "cannot read"
stream_fault_of stream.OutOfMemory = codes "out of memory"
