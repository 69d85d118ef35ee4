-- What a file of trades gives with the trade of a line, and why it is refused.
use Rattle.std.proofs.Common.{ℕ, ◌≡◌, List, Result, Ok, Err, sym, ap, ◌∙◌, subst}
use Rattle.csv.specs.Reading.{strip_bom}
use Rattle.trade_text.specs.TradesView.{TradesView}
use Rattle.command_course.specs.Course.{Reading}
use Rattle.command_course.specs.Inputs.{trades_from}
use Rattle.command_course.specs.Lines.{line_of, or_line}
use Rattle.command_course.specs.Steps.{IsRefusedBy, StopsOn}
use Rattle.command_course.specs.declared.stop.Stop.{Stop}
use Rattle.command_course.specs.declared.stop.Stop.TheVariants as stop
use Rattle.command_course.proofs.Refusals.{line_refused}
use Rattle.trade_line.specs.Lines.{line_fault, trade_in}
use Rattle.trade_line.specs.declared.lines.LineFault.{LineFault}
use Rattle.trace_command.specs.Courses.{lined, lined_from, with_line, with_place}
use Rattle.trace_command.specs.declared.lined.LinedTrades.{LinedTrades}

-- ---- the trade of a line

pub place_is : (trades : TradesView) (name text : List ℕ) (line place : ℕ) → trade_in text line ≡ Ok place → with_place trades (or_line line_fault name (trade_in text line)) ≡ Ok (lined trades place)
place_is trades name text line place is = ap (λ (r : Result ℕ LineFault). with_place trades (or_line line_fault name r)) is

stops_there : (trades : TradesView) (r : Reading ℕ) (why : Stop) → StopsOn r why → StopsOn (with_place trades r) why
stops_there trades r stop.Usage h = h
stops_there trades r (stop.Refused line) h = ap (with_place trades) h
stops_there trades r (stop.CannotRead line) h = h
stops_there trades r stop.CannotWrite h = h
stops_there trades r (stop.PairLost stage part said) h = h
stops_there trades r stop.OutOfMemory h = h

pub place_refused : (trades : TradesView) (name text : List ℕ) (line : ℕ) (fault : LineFault) (why : Stop) → trade_in text line ≡ Err fault → IsRefusedBy why (line_of name (line_fault fault)) (Unit {0})
    → StopsOn (with_place trades (or_line line_fault name (trade_in text line))) why
place_refused trades name text line fault why is by =
    stops_there trades (or_line line_fault name (trade_in text line)) why (line_refused line_fault name (trade_in text line) fault why is by)

-- ---- the file

pub lined_is : (line : ℕ) (name bytes : List ℕ) (trades : TradesView) (it : LinedTrades) → trades_from name bytes ≡ Ok trades
    → with_place trades (or_line line_fault name (trade_in (strip_bom bytes) line)) ≡ Ok it → lined_from line name bytes ≡ Ok it
lined_is line name bytes trades it read is = ap (with_line line name bytes) read ∙ is

pub lined_stops : (line : ℕ) (name bytes : List ℕ) (trades : TradesView) (why : Stop) → trades_from name bytes ≡ Ok trades
    → StopsOn (with_place trades (or_line line_fault name (trade_in (strip_bom bytes) line))) why → StopsOn (lined_from line name bytes) why
lined_stops line name bytes trades why read h = subst (λ (r : Reading LinedTrades). StopsOn r why) (sym (ap (with_line line name bytes) read)) h

pub trades_stop : (line : ℕ) (name bytes : List ℕ) (why : Stop) → StopsOn (trades_from name bytes) why → StopsOn (lined_from line name bytes) why
trades_stop line name bytes stop.Usage h = h
trades_stop line name bytes (stop.Refused said) h = ap (with_line line name bytes) h
trades_stop line name bytes (stop.CannotRead said) h = h
trades_stop line name bytes stop.CannotWrite h = h
trades_stop line name bytes (stop.PairLost stage part said) h = h
trades_stop line name bytes stop.OutOfMemory h = h
