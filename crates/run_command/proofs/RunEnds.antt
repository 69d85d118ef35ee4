-- From the end of a run, as a list of events and its rows, to what is written and saved.
use Rattle.std.proofs.Common.{ℕ, ◌≡◌, ◌∙◌, suc, Bool, true, List, [], ◌∷◌, length, refl, ap, sym, subst, Ok, Err}
use Rattle.std.specs.Prelude.{IfOk, Result, Vec, if◌then◌else◌}
use Rattle.std.specs.declared.alloc.Global.{Global}
use Rattle.tuple_edge.specs.declared.memory.OutOfMemory.{OutOfMemory}
use Rattle.tuple_edge.specs.declared.event.Drained.{Drained}
use Rattle.tuple_edge.specs.declared.event.Drained.TheVariants as drained
use Rattle.tuple_edge.specs.declared.event.Event.{Event}
use Rattle.tuple_edge.specs.declared.row.Row.{Row}
use Rattle.tuple_edge.specs.Input.{Input}
use Rattle.plan_reader.specs.PlanView.{PlanView}
use Rattle.pair_machine.specs.declared.order.Order.{Order}
use Rattle.trade_text.specs.Text.{text}
use Rattle.trade_text.specs.TradesView.{paired}
use Rattle.trade_maker.specs.Summary.{summary}
use Rattle.command_course.specs.Course.{Run}
use Rattle.command_course.specs.Feeds.{feed_of}
use Rattle.command_course.specs.declared.feed.Feed.{Feed}
use Rattle.drained_run.specs.Ended.{EndedView, EndsSo, IsEnded}
use Rattle.run_command.specs.Endings.{Ending, HasEnded, TextIs, journal_of}

pub run_ends : (run : Run) (how : Drained) (events : List Event) (rows : List Row) (ending : Ending) → EndsSo run.feed.plan run.feed.inputs run.script events rows how
    → TextIs run how rows ending.text → ending.saved ≡ journal_of run.journal events → HasEnded run how ending
run_ends run drained.Whole events rows ending ended text journal = record { events = events; rows = rows; whole = ended; text = text; journal = journal }
run_ends run (drained.Lost stage part) events rows ending ended text journal = record { events = events; rows = rows; lost = ended; text = text; journal = journal }

-- the end of a run, by the rows and the kind of end that were read of it
pub ended_so : (plan : PlanView) (inputs : List Input) (script : List Order) (ended : EndedView) (rows : List Row) (how : Drained) → rows ≡ ended.rows → how ≡ ended.drained → IsEnded plan inputs script ended
    → EndsSo plan inputs script ended.events rows how
ended_so plan inputs script ended rows how same so ends = subst (λ (x : List Row × Drained). EndsSo plan inputs script ended.events x.0 x.1) (λ i. (sym same i, sym so i)) ends

-- there are as many inputs as rows
count_of : (rows : List Row) (sources : List ℕ) → length (paired rows sources) ≡ length rows
count_of [] sources = refl
count_of (row ∷ rows) [] = ap suc (count_of rows [])
count_of (row ∷ rows) (source ∷ sources) = ap suc (count_of rows sources)

-- the summary of a whole run
pub summed_up : (feed : Feed) (is_summary : Bool) (how : Drained) (rows : List Row) (result : Result (Vec ℕ Global) OutOfMemory) → is_summary ≡ true → how ≡ drained.Whole
    → IfOk result (λ bytes. bytes.items ≡ summary (length feed.trades.rows) rows)
    → IfOk result (λ bytes. (run : Run) → run.feed ≡ feed_of feed → run.summary ≡ is_summary → TextIs run how rows bytes.items)
summed_up feed is_summary how rows (Err want) summed whole is = tt
summed_up feed is_summary how rows (Ok bytes) summed whole is = λ run fed so.
    let count : length run.feed.inputs ≡ length feed.trades.rows = ap (λ f. length f.inputs) fed ∙ count_of feed.trades.rows feed.trades.sources in
    let chosen = ap (λ b. if b then summary (length run.feed.inputs) rows else text run.feed.symbols rows) (so ∙ summed) in
    subst (λ d. TextIs run d rows bytes.items) (sym whole) (is ∙ (ap (λ n. summary n rows) (sym count) ∙ sym chosen))
