-- How a run ends that is written while it goes on: what was put onto the wire, and why it wasn't all. `LivesSo` says it, in the last lines.
use Rattle.std.specs.Prelude.{ℕ, ◌≤◌, List}
use Rattle.tuple_edge.specs.Input.{Input}
use Rattle.tuple_edge.specs.declared.event.Event.{Event}
use Rattle.tuple_edge.specs.declared.row.Row.{Row}
use Rattle.plan_reader.specs.PlanView.{PlanView}
use Rattle.pair_machine.specs.Drain.{partition}
use Rattle.pair_machine.specs.Numbers.{Partition}
use Rattle.pair_machine.specs.Output.{output}
use Rattle.pair_machine.specs.declared.order.Order.{Order}
use Rattle.trade_text.specs.Text.{part_text, text}
use Rattle.drained_run.specs.Ended.{IsLostAt}
use Rattle.flux_outside.specs.Outside.{Rose, Takes, TakesPart}
use Rattle.flux_outside.specs.Told.{SinkTold}
use Rattle.row_wire.specs.Written.{OffersFront, TakesFront}
use Rattle.live_feed.specs.declared.answer.Live.{Live}
use Rattle.live_feed.specs.declared.answer.Live.TheVariants as live

-- the text of a plan's output
abbrev pub output_text : PlanView → List Input → (symbols : List (List ℕ)) → List ℕ
output_text plan inputs symbols = text symbols (output plan inputs)

module _ (plan : PlanView) (inputs : List Input) (script : List Order) (symbols : List (List ℕ)) where
  -- A pair was lost: a list of events, legal and within the script, reaches a state in which egress isn't done and this is the first lost pair, which never
  -- happens under a safe script. Exactly the column names and the rows emitted there were put.
  pub record LosesSo (old new : SinkTold) (pair : Partition) : Type 0 where
    pub events : List Event
    pub rows : List Row
    pub lost : IsLostAt plan inputs script events rows pair
    pub put : Takes old.taken new.taken (part_text symbols rows)

  -- Done: the whole text was put. Lost: what was emitted before. WriteFault: a proper front of the text, as the wire's count of faults rose. Want of memory
  -- may come at any place.
  abbrev pub AnswersSo : SinkTold → SinkTold → Live → Type 0
  AnswersSo old new live.Done = Takes old.taken new.taken (output_text plan inputs symbols)
  AnswersSo old new (live.Lost stage part) = LosesSo old new (partition stage part)
  AnswersSo old new live.WriteFault = TakesPart old.taken new.taken (output_text plan inputs symbols) × Rose old.faults new.faults
  AnswersSo old new live.OutOfMemory = Unit {0}

  -- Whatever the answer, a front of the text was put; each put was given what the one before it left, or the next lines; and the count of faults didn't fall.
  pub record LivesSo (old new : SinkTold) (answer : Live) : Type 0 where
    pub answers : AnswersSo old new answer
    pub front : TakesFront old.taken new.taken (output_text plan inputs symbols)
    pub offers : OffersFront old.offered new.offered (output_text plan inputs symbols)
    pub later : old.faults ≤ new.faults
