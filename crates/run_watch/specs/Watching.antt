-- What is told along a list of events, by the states of the machine that it leads through.
use Rattle.std.specs.Prelude.{ℕ, List, [], ◌∷◌, ◌++◌, Result, Ok, Err, ◌+◌, if◌then◌else◌, length, map}
use Rattle.tuple_edge.specs.declared.event.Event.{Event}
use Rattle.tuple_edge.specs.declared.event.Event.TheVariants as event
use Rattle.tuple_edge.specs.declared.node.NodeId.{NodeId}
use Rattle.tuple_edge.specs.declared.node.NodeId.TheVariants as node
use Rattle.tuple_edge.specs.Input.{Input}
use Rattle.plan_reader.specs.PlanView.{PlanView}
use Rattle.pair_machine.specs.CountLaws.{output_first}
use Rattle.pair_machine.specs.Counts.{flow_of}
use Rattle.pair_machine.specs.Machine.{State, egress_in, ingress_in, step}
use Rattle.pair_machine.specs.Messages.{Refusal}
use Rattle.pair_machine.specs.Numbers.{is_node}
use Rattle.run_journal.specs.declared.lined.Lined.{Lined}
use Rattle.run_watch.specs.Happenings.{happenings, no_fall}
use Rattle.run_watch.specs.declared.happening.Fell.TheVariants as fell
use Rattle.run_watch.specs.declared.happening.Happening.{Happening}
use Rattle.run_watch.specs.declared.happening.Told.{Told}
use Rattle.run_watch.specs.declared.trace.Fall.{Fall}

-- ---- where replicas fell

-- a replica fell so
abbrev pub fell_at : Fall → NodeId → (NodeId → Fall) → NodeId → Fall
fell_at fall n falls m = if is_node n m then fall else falls m

-- where each replica fell last, and how, after the event of a place: one that fails or asks to be stopped falls there
abbrev pub fallen : ℕ → Event → (NodeId → Fall) → NodeId → Fall
fallen place (event.Kill n) falls = fell_at (record { place = place; how = fell.Failed }) n falls
fallen place (event.AskStop n) falls = fell_at (record { place = place; how = fell.AskedStop }) n falls
fallen place e falls = falls

-- the same after the events of a list, of which the first has the next place
abbrev pub fallen_along : ℕ → (NodeId → Fall) → List Lined → NodeId → Fall
fallen_along place falls [] = falls
fallen_along place falls (l ∷ ls) = fallen_along (place + 1) (fallen (place + 1) l.event falls) ls

-- where each replica fell last before a list's first event: nowhere
abbrev pub nowhere : NodeId → Fall
nowhere n = no_fall

-- ---- what is told

-- how many inputs, or the end, ingress has made
abbrev pub made_in : State → ℕ
made_in s = (ingress_in (s.nodes node.Ingress)).makes

module _ (plan : PlanView) (inputs : List Input) where
  -- how many rows egress has emitted
  abbrev pub emitted_in : State → ℕ
  emitted_in s = length (output_first plan inputs (egress_in (s.nodes node.Egress)).count)

  -- a happening at the event of a place and a line, after which the run is in this state
  abbrev pub told_at : (place line : ℕ) → State → Happening → Told
  told_at place line t h = record { place = place; line = line; made = made_in t; emitted = emitted_in t; happening = h }

  -- what is told at an event, where it is a step
  abbrev pub told_by : (place : ℕ) → (NodeId → Fall) → Lined → State → Result State Refusal → List Told
  told_by place falls l s (Ok t) = map (told_at place l.line t) (happenings (flow_of plan inputs) place falls l.event s t)
  told_by place falls l s (Err why) = []

  -- what is told along a list, event by event, of which the first has the next place; it ends at the first event that is no step
  abbrev pub told_along : (place : ℕ) → (NodeId → Fall) → List Lined → Result State Refusal → List Told
  told_along place falls [] r = []
  told_along place falls (l ∷ ls) (Ok s) =
      told_by (place + 1) falls l s (step (flow_of plan inputs) s l.event)
      ++ told_along (place + 1) (fallen (place + 1) l.event falls) ls (step (flow_of plan inputs) s l.event)
  told_along place falls (l ∷ ls) (Err why) = []

  -- what is told of a whole list, from a state
  abbrev pub told_from : State → List Lined → List Told
  told_from s lines = told_along 0 nowhere lines (Ok s)
