-- A course that comes to a run: its inputs are read, and then the plan is run.
use Rattle.std.proofs.Common.{ℕ, ◌≡◌, Bool, List, [], ap, sym, subst, Ok, Err}
use Rattle.std.specs.Prelude.{IfErr, IfOk, Result}
use Rattle.pair_machine.specs.declared.order.Order.{Order}
use Rattle.trade_text.specs.Kinds.{trades_kind}
use Rattle.trade_text.specs.Messages.{fault_of}
use Rattle.trade_text.specs.Trades.{trades_of}
use Rattle.trade_text.specs.TradesView.{TradesView}
use Rattle.trade_maker.specs.MadeText.{made_text}
use Rattle.command_line.specs.Forms.{Options}
use Rattle.command_course.specs.Course.{Between, Course, Runs, Way, ◌>>=◌}
use Rattle.command_course.specs.FeedView.{FeedView}
use Rattle.command_course.specs.Lines.{or_line}
use Rattle.command_course.specs.Steps.{GivesBy, StopsOf}
use Rattle.command_course.specs.declared.stop.Stop.{Stop}
use Rattle.command_course.specs.declared.stop.Stop.TheVariants as stop
use Rattle.command_course.proofs.Courses.{came_here, came_on, stops_on}
pub use Rattle.command_course.proofs.Courses.{reads_none, reads_on, reads_passed, reads_then}
use Rattle.flux_outside.specs.Told.{FilesTold}
use Rattle.run_command.specs.Courses.{run_of, runs, with_made}
use Rattle.run_command.specs.Endings.{CameToRun, HasEnded, ending_of}
use Rattle.run_command.specs.Scripts.{with_script}
use Rattle.run_command.specs.declared.outcome.Outcome.{Outcome}

-- no script
pub no_orders : (told : FilesTold) (orders : List Order) → orders ≡ [] → GivesBy told told (λ next. next []) orders
no_orders told orders none = λ next. came_here told (next []) (next orders) (ap next (sym none))

-- the run, once the script was read
pub ok_came_to_run : (old new : FilesTold) (options : Options) (is_summary : Bool) (feed : FeedView) (script : List Order) (result : Result Outcome Stop)
    → GivesBy old new (with_script options.script feed.plan) script → IfOk result (λ o. HasEnded (run_of options is_summary feed script) o.drained (ending_of o))
    → IfOk result (λ o. CameToRun old new (runs options is_summary feed) o)
ok_came_to_run old new options is_summary feed script (Ok o) gives ended =
    record { run = run_of options is_summary feed script; came = gives (λ orders. Runs (run_of options is_summary feed orders)); ended = ended }
ok_came_to_run old new options is_summary feed script (Err why) gives ended = tt

pub err_short_of_run : (old new : FilesTold) (options : Options) (is_summary : Bool) (feed : FeedView) (script : List Order) (result : Result Outcome Stop)
    → GivesBy old new (with_script options.script feed.plan) script → IfErr result (λ why. why ≡ stop.OutOfMemory)
    → IfErr result (λ why. StopsOf old new (runs options is_summary feed) why)
err_short_of_run old new options is_summary feed script (Ok o) gives want = tt
err_short_of_run old new options is_summary feed script (Err why) gives want =
    subst (StopsOf old new (runs options is_summary feed)) (sym want)
    (Between (Runs (run_of options is_summary feed script)) (gives (λ orders. Runs (run_of options is_summary feed orders))))

-- a run behind what was read before
pub ok_run_on : {A : Type 0} (old mid new : FilesTold) (way : Way A) (onward : A → Course) (value : A) (result : Result Outcome Stop) → mid.contents ≡ old.contents
    → GivesBy old mid way value → IfOk result (λ o. CameToRun mid new (onward value) o) → IfOk result (λ o. CameToRun old new (way onward) o)
ok_run_on old mid new way onward value (Ok o) same gives comes = record {
  run = comes.run;
  came = came_on old mid new (way onward) (onward value) (Runs comes.run) same (gives onward) comes.came;
  ended = comes.ended;
}
ok_run_on old mid new way onward value (Err why) same gives comes = tt

pub err_run_on : {A : Type 0} (old mid new : FilesTold) (way : Way A) (onward : A → Course) (value : A) (result : Result Outcome Stop) → mid.contents ≡ old.contents
    → GivesBy old mid way value → IfErr result (λ why. StopsOf mid new (onward value) why) → IfErr result (λ why. StopsOf old new (way onward) why)
err_run_on old mid new way onward value (Ok o) same gives stops = tt
err_run_on old mid new way onward value (Err why) same gives stops = stops_on old mid new (way onward) (onward value) why same (gives onward) stops

-- made trades are read on the spot
pub made_is : (start count : ℕ) (trades : TradesView) (next : TradesView → Course) → trades_of (made_text start count) ≡ Ok trades → with_made start count next ≡ next trades
made_is start count trades next is = ap (λ r. or_line (fault_of trades_kind) [] r >>= next) is

pub ok_made : (old new : FilesTold) (start count : ℕ) (trades : TradesView) (next : TradesView → Course) (result : Result Outcome Stop)
    → trades_of (made_text start count) ≡ Ok trades → IfOk result (λ o. CameToRun old new (next trades) o) → IfOk result (λ o. CameToRun old new (with_made start count next) o)
ok_made old new start count trades next result is comes = subst (λ course. IfOk result (λ o. CameToRun old new course o)) (sym (made_is start count trades next is)) comes

pub err_made : (old new : FilesTold) (start count : ℕ) (trades : TradesView) (next : TradesView → Course) (result : Result Outcome Stop)
    → trades_of (made_text start count) ≡ Ok trades → IfErr result (λ why. StopsOf old new (next trades) why) → IfErr result (λ why. StopsOf old new (with_made start count next) why)
err_made old new start count trades next result is stops = subst (λ course. IfErr result (λ why. StopsOf old new course why)) (sym (made_is start count trades next is)) stops
