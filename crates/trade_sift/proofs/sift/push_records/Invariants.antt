use Rattle.std.proofs.Common.{◌≡◌, ◌+◌, ◌++◌, ℕ, List, drop, false}
use Rattle.csv.specs.Machine.{ends_at_end}
use Rattle.csv.specs.declared.parser.State.{State}
use Rattle.record_faults.specs.EachRecord.{accepted}
use Rattle.record_faults.specs.Written.{rows_text}
use Rattle.trade_text.specs.Records.{HasLeft, records_left}
use Rattle.trade_sift.specs.Sifted.{reject_rows}
use Rattle.trade_sift.proofs.Parts.{GoesOn}
use Rattle.trade_sift.proofs.sift.push_records.Given as goal

abbrev pub invariant-loop-nth : goal.invariant-loop-nth
invariant-loop-nth l = record {
  goes : (state : State) (left : List ℕ) → HasLeft l.fn.reader state left → ends_at_end state ≡ false
      → GoesOn l.fn.lines l.names l.number l.texts.kept.items l.texts.rejects.items (l.fn.texts.kept.items ++ rows_text (accepted l.faults (records_left state left)))
      (l.fn.texts.rejects.items ++ rows_text (reject_rows l.fn.lines l.names 2 l.faults (records_left state left))) (drop l.nth l.faults) l.reader;
  few : l.number ≡ l.nth + 2;
  text : l.lines ≡ l.fn.lines;
}
