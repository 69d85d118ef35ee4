use Rattle.std.proofs.Common.{◌≡◌, ◌≤◌, ℕ, List, length, false}
use Rattle.csv.specs.Machine.{ends_at_end}
use Rattle.csv.specs.declared.parser.State.{State}
use Rattle.trade_text.specs.Files.{no_rows}
use Rattle.trade_text.specs.Records.{HasLeft, records_left}
use Rattle.record_faults.specs.EachRecord.{faults_from}
use Rattle.record_faults.proofs.OneMore.{GoesOn}
use Rattle.record_faults.proofs.each.faults_under.Given as goal

abbrev pub invariant-loop-turn : goal.invariant-loop-turn
invariant-loop-turn g l = record {
  goes : (state : State) (text : List ℕ) (kept : g.J.Judge.Kept) → HasLeft l.fn.reader state text → ends_at_end state ≡ false → length (records_left state text) ≤ l.most → g.J.Judge.stands l.fn.judge kept
      → GoesOn g.J.Judge.row_in l.room g.J.Judge.stands l.turn l.most l.count l.faults.items (faults_from g.J.Judge.row_in l.room 2 (no_rows kept) (records_left state text)) l.judge l.reader;
  few : l.count ≤ l.turn;
}
